-- A word that names nothing, and a 33rd parenthesis, are answered where they are.
use Rattle.std.proofs.Common.{◌≡◌, inl, inr, ℕ, zero, suc, ◌<◌, ◌≤◌, nat_le, true, false, List, [], ◌∷◌, ◌++◌, length, None, Result, Err, refl, sym, subst, ◌∙◌, arith}
use Rattle.std.proofs.lemmas.Bool.Decides.{nat_tests}
use Rattle.filters.specs.declared.words.Vocabulary.{Vocabulary}
use Rattle.filters.specs.declared.state.Stop.TheVariants.{UnknownTag as UnknownStop, TooDeep as DeepStop}
use Rattle.filters.specs.declared.state.Purpose.{Purpose}
use Rattle.filters.specs.declared.state.Purpose.TheVariants.{Whole, Negated, First, Next}
use Rattle.filters.specs.declared.state.State.{State}
use Rattle.filters.specs.declared.state.State.TheVariants.{Start, Opened, Bang, Word, AfterAnd}
use Rattle.filters.specs.declared.reading.FilterFault.{FilterFault}
use Rattle.filters.specs.declared.reading.FilterFault.TheVariants.{UnknownTag, TooDeep}
use Rattle.filters.specs.Expressions.{Expression}
use Rattle.filters.specs.Words.{is_word_byte, is_base, field_named}
use Rattle.filters.specs.Machine.{run, parsed, step, opened, named_of}
use Rattle.filters.specs.Grammar.{Spaces, IsWord, EndsWord, MayOpen, AreOpen, NamesNothing, GoesTooDeep, meaning}
use Rattle.filters.proofs.Reaching.{Reaches, by_byte, goes, spaces_reach, word_reach}
use Rattle.filters.proofs.GrammarRead.{opens, bang, first_opens, next_opens, whole_opens, stays_opened, body_reach, at_joined, and_reach, allowed_from}

-- a 33rd parenthesis
full : (n : ℕ) → n ≡ 32 → nat_le 32 n ≡ true
full n is = grind (arith, nat_tests)

too_deep : (purpose : Purpose) (purposes : List Purpose) → length purposes ≡ 32 → opened true purpose purposes ≡ Err DeepStop
too_deep purpose purposes long = rw (full (length purposes) long) refl

-- with this vocabulary
module _ (vocabulary : Vocabulary) where
  -- from each state where a parenthesis may open
  abbrev OpensTo : List Purpose → List ℕ → Result Expression FilterFault → Type 0
  OpensTo purposes text r = (state : State) (purpose : Purpose) → step vocabulary true state purposes 40 ≡ opened true purpose purposes → Reaches vocabulary true state purposes text r

  may_open : (n : ℕ) (text rest : List ℕ) (purposes : List Purpose) (r : Result Expression FilterFault) → MayOpen vocabulary (suc n) text rest → length purposes ≡ suc n → OpensTo purposes rest r → Reaches vocabulary true Opened purposes text r
  may_open n text rest purposes r may long to = elim may [
    | inl same ↦ subst (λ (t : List ℕ). Reaches vocabulary true Opened purposes t r) (sym same) (to Opened First (first_opens vocabulary true purposes))
    | inr more ↦ elim more [
      | inl negated ↦ subst (λ (t : List ℕ). Reaches vocabulary true Opened purposes t r) (sym negated) (by_byte vocabulary true Opened purposes 33 rest Bang purposes r (bang vocabulary true purposes).0 (to Bang Negated (bang vocabulary true purposes).1))
      | inr a ↦ (let fits = a.7 in
          body_reach vocabulary a.0 true purposes r (allowed_from vocabulary a.0 (length purposes) a.6 (omega (arith, fits, long))) text a.1 a.4
          (at_joined vocabulary a.0 true purposes a.1 r a.5 (and_reach vocabulary true (meaning vocabulary a.0) purposes a.1 a.2 a.3 rest r a.8 a.9 a.10 (to (AfterAnd (meaning vocabulary a.0)) (Next (meaning vocabulary a.0)) (next_opens vocabulary true (meaning vocabulary a.0) purposes)))))
    ]
  ]

  one_more : (purposes : List Purpose) (outer inner rest : List ℕ) (r : Result Expression FilterFault) → outer ≡ 40 ∷ inner → Spaces inner rest → length purposes < 32 → ((purpose : Purpose) → Reaches vocabulary true Opened (purpose ∷ purposes) rest r) → OpensTo purposes outer r
  one_more purposes outer inner rest r is spaces low to = λ state purpose opening. subst (λ (t : List ℕ). Reaches vocabulary true state purposes t r) (sym is)
      (by_byte vocabulary true state purposes 40 inner Opened (purpose ∷ purposes) r (opening ∙ opens true purpose purposes (λ _. low)) (spaces_reach vocabulary true Opened (purpose ∷ purposes) inner rest r (stays_opened vocabulary true (purpose ∷ purposes)) spaces (to purpose)))

  are_open : (n : ℕ) (text rest : List ℕ) (r : Result Expression FilterFault) → AreOpen vocabulary (suc n) text rest → n < 32 → ((purposes : List Purpose) → length purposes ≡ suc n → Reaches vocabulary true Opened purposes rest r) → Reaches vocabulary true Start [] text r
  are_open zero text rest r s low to = subst (λ (t : List ℕ). Reaches vocabulary true Start [] t r) (sym (s.3 ∙ s.4)) (one_more [] s.1 s.2 rest r s.5 s.6 low (λ purpose. to (purpose ∷ []) refl) Start Whole (whole_opens vocabulary true []))
  are_open (suc n) text rest r s low to =
      are_open n text s.0 r s.3 (omega (arith, low)) (λ purposes long. may_open n s.0 s.1 purposes r s.4 long (one_more purposes s.1 s.2 rest r s.5 s.6 (omega (arith, long, low)) (λ purpose. to (purpose ∷ purposes) (omega (arith, long)))))

  -- a whole word that names nothing
  names_nothing : (word : List ℕ) → is_base word ≡ false → field_named vocabulary word ≡ None → named_of vocabulary word ≡ None
  unfolding named_of
  names_nothing word base named = rw (base, named) refl

  unknown_byte : (word : List ℕ) (purposes : List Purpose) (b : ℕ) → named_of vocabulary word ≡ None → is_word_byte vocabulary b ≡ false → step vocabulary true (Word word) purposes b ≡ Err (UnknownStop word)
  unfolding step
  unknown_byte word purposes b named other = rw (other, named) refl

  word_ends : (word rest : List ℕ) (purposes : List Purpose) → named_of vocabulary word ≡ None → EndsWord vocabulary rest → Reaches vocabulary true (Word word) purposes rest (Err (UnknownTag word))
  unfolding run
  word_ends word [] purposes named ends = λ n. rw named refl
  word_ends word (b ∷ bs) purposes named ends = λ n. goes vocabulary true n (Word word) purposes b bs (Err (UnknownStop word)) (unknown_byte word purposes b named ends)

  unknown_in : (count : ℕ) (text word outer rest : List ℕ) → 1 ≤ count → count ≤ 32 → AreOpen vocabulary count text outer → outer ≡ word ++ rest → IsWord vocabulary false word → EndsWord vocabulary rest → field_named vocabulary word ≡ None → Reaches vocabulary true Start [] text (Err (UnknownTag word))
  unknown_in zero text word outer rest some low open_at there is ends unknown = absurd (omega (arith, some))
  unknown_in (suc n) text word outer rest some low open_at there is ends unknown =
      are_open n text outer (Err (UnknownTag word)) open_at (omega (arith, low)) (λ purposes long. subst (λ (t : List ℕ). Reaches vocabulary true Opened purposes t (Err (UnknownTag word))) (sym there)
      (word_reach vocabulary true false word purposes rest (Err (UnknownTag word)) is (word_ends word rest purposes (names_nothing word is.2 unknown) ends)))

  pub unknown_first : (text word : List ℕ) → NamesNothing vocabulary text word → parsed vocabulary text ≡ Err (UnknownTag word)
  unknown_first text word h = unknown_in h.count text word h.outer h.rest h.some_open.0 h.some_open.1 h.open_there h.there h.is_word h.ends h.unknown 0

  pub deep_first : (text : List ℕ) → GoesTooDeep vocabulary text → parsed vocabulary text ≡ Err TooDeep
  deep_first text g =
      are_open 31 text g.0 (Err TooDeep) g.3 (omega arith) (λ purposes long. may_open 31 g.0 g.1 purposes (Err TooDeep) g.4 long
      (λ state purpose opening. subst (λ (t : List ℕ). Reaches vocabulary true state purposes t (Err TooDeep)) (sym g.5) (λ n. goes vocabulary true n state purposes 40 g.2 (Err DeepStop) (opening ∙ too_deep purpose purposes long)))) 0
