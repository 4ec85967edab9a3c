-- What is spelled by the grammar is read: leaves of the grammar.
use Rattle.std.proofs.Common.{◌≡◌, ◌≢◌, inl, inr, ℕ, ◌+◌, ◌==◌, Bool, true, false, List, [], ◌∷◌, ◌++◌, codes, Option, Some, None, is_some, Result, Ok, refl, ap, sym, subst, ◌∙◌, append_assoc, arith}
use Rattle.std.proofs.lemmas.List.{append-nil}
use Rattle.std.proofs.lemmas.Bool.Decides.{nat_tests}
use Rattle.filters.specs.declared.words.Vocabulary.{Vocabulary}
use Rattle.filters.specs.declared.state.Stop.{Stop}
use Rattle.filters.specs.declared.state.Purpose.{Purpose}
use Rattle.filters.specs.declared.state.Goal.{Goal}
use Rattle.filters.specs.declared.state.Goal.TheVariants.{Compared, Base as BaseGoal}
use Rattle.filters.specs.declared.state.Named.TheVariants.{Field as NamedField, Base as NamedBase}
use Rattle.filters.specs.declared.state.State.{State}
use Rattle.filters.specs.declared.state.State.TheVariants.{Opened, Word, AfterField, Sign, Contains, NeedsSpace, BeforeText, InText, Escaped, Done}
use Rattle.filters.specs.declared.expression.Field.{Field}
use Rattle.filters.specs.declared.expression.Test.{Test}
use Rattle.filters.specs.declared.expression.Test.TheVariants.{Equals, Differs, Contains as ContainsTest}
use Rattle.filters.specs.declared.reading.FilterFault.{FilterFault}
use Rattle.filters.specs.Expressions.{Expression}
use Rattle.filters.specs.Words.{is_word_byte, is_base, field_named}
use Rattle.filters.specs.Machine.{run, step, goes_on, named_of, names, filter_for}
use Rattle.filters.specs.Grammar.{AreSpaces, Spaces, Gap, AreWordBytes, IsWord, IsInside, IsQuote, IsString, IsOperator, field_of}

-- texts in quotes
is_quote : (quote : ℕ) → (quote == quote) ≡ true
is_quote quote = grind (arith, nat_tests)

other_byte : (b c : ℕ) → b ≢ c → (b == c) ≡ false
other_byte b c h = grind (arith, nat_tests)

quote_is_no_backslash : (quote : ℕ) → IsQuote quote → (92 == quote) ≡ false
quote_is_no_backslash quote is = grind (arith, nat_tests)

-- with this vocabulary
module _ (vocabulary : Vocabulary) where
  -- from this state the text is answered so, wherever it is
  abbrev pub Reaches : Bool → State → List Purpose → List ℕ → Result Expression FilterFault → Type 0
  Reaches strict state purposes text e = (n : ℕ) → run vocabulary strict n state purposes text ≡ e

  pub goes : (strict : Bool) (n : ℕ) (state : State) (purposes : List Purpose) (b : ℕ) (bs : List ℕ) (r : Result (State × List Purpose) Stop) → step vocabulary strict state purposes b ≡ r
      → run vocabulary strict n state purposes (b ∷ bs) ≡ goes_on n r (λ next more. run vocabulary strict (n + 1) next more bs)
  unfolding run
  goes strict n state purposes b bs r e = rw e refl

  -- by one byte
  pub by_byte : (strict : Bool) (state : State) (purposes : List Purpose) (b : ℕ) (rest : List ℕ) (next : State) (more : List Purpose) (e : Result Expression FilterFault) → step vocabulary strict state purposes b ≡ Ok (next, more)
      → Reaches strict next more rest e → Reaches strict state purposes (b ∷ rest) e
  by_byte strict state purposes b rest next more e h r = λ n. goes strict n state purposes b rest (Ok (next, more)) h ∙ r (n + 1)

  by_spaces : (strict : Bool) (state : State) (purposes : List Purpose) (spaces rest : List ℕ) (e : Result Expression FilterFault) → step vocabulary strict state purposes 32 ≡ Ok (state, purposes) → AreSpaces spaces
      → Reaches strict state purposes rest e → Reaches strict state purposes (spaces ++ rest) e
  by_spaces strict state purposes [] rest e stay are r = r
  by_spaces strict state purposes (b ∷ bs) rest e stay are r =
      rw are.0 (by_byte strict state purposes 32 (bs ++ rest) state purposes e stay (by_spaces strict state purposes bs rest e stay are.1 r))

  -- by spaces, where one more changes nothing
  pub spaces_reach : (strict : Bool) (state : State) (purposes : List Purpose) (text rest : List ℕ) (e : Result Expression FilterFault) → step vocabulary strict state purposes 32 ≡ Ok (state, purposes) → Spaces text rest
      → Reaches strict state purposes rest e → Reaches strict state purposes text e
  spaces_reach strict state purposes text rest e stay s r = subst (λ (t : List ℕ). Reaches strict state purposes t e) (sym s.1) (by_spaces strict state purposes s.0 rest e stay s.2 r)

  pub gap_reach : (strict : Bool) (state next : State) (purposes : List Purpose) (text rest : List ℕ) (e : Result Expression FilterFault) → step vocabulary strict state purposes 32 ≡ Ok (next, purposes) → step vocabulary strict next purposes 32 ≡ Ok (next, purposes)
      → Gap text rest → Reaches strict next purposes rest e → Reaches strict state purposes text e
  gap_reach strict state next purposes text rest e go stay gap r =
      subst (λ (t : List ℕ). Reaches strict state purposes t e) (sym gap.1) (by_byte strict state purposes 32 gap.0 next purposes e go (spaces_reach strict next purposes gap.0 rest e stay gap.2 r))

  quote_ends : (strict : Bool) (goal : Goal) (quote : ℕ) (text : List ℕ) (purposes : List Purpose) → step vocabulary strict (InText goal quote text) purposes quote ≡ Ok (Done (filter_for goal text), purposes)
  unfolding step
  quote_ends strict goal quote text purposes = rw (is_quote quote) refl

  goes_inside : (strict : Bool) (goal : Goal) (quote c : ℕ) (text : List ℕ) (purposes : List Purpose) → c ≢ quote → c ≢ 92 → step vocabulary strict (InText goal quote text) purposes c ≡ Ok (InText goal quote (text ++ c ∷ []), purposes)
  unfolding step
  goes_inside strict goal quote c text purposes h k = rw (other_byte c quote h, other_byte c 92 k) refl

  escapes : (strict : Bool) (goal : Goal) (quote : ℕ) (text : List ℕ) (purposes : List Purpose) → IsQuote quote → step vocabulary strict (InText goal quote text) purposes 92 ≡ Ok (Escaped goal quote text, purposes)
  unfolding step
  escapes strict goal quote text purposes is = rw (quote_is_no_backslash quote is) refl

  escaped : (strict : Bool) (goal : Goal) (quote c : ℕ) (text : List ℕ) (purposes : List Purpose) → step vocabulary strict (Escaped goal quote text) purposes c ≡ Ok (InText goal quote (text ++ c ∷ []), purposes)
  unfolding step
  escaped strict goal quote c text purposes = refl

  inside_reach : (string inside : List ℕ) (strict : Bool) (goal : Goal) (quote : ℕ) (text : List ℕ) (purposes : List Purpose) (rest : List ℕ) (e : Result Expression FilterFault) → IsQuote quote → IsInside quote inside string
      → Reaches strict (Done (filter_for goal (text ++ string))) purposes rest e → Reaches strict (InText goal quote text) purposes (inside ++ quote ∷ rest) e
  inside_reach [] inside strict goal quote text purposes rest e is in_quotes r =
      rw in_quotes (by_byte strict (InText goal quote text) purposes quote rest (Done (filter_for goal text)) purposes e (quote_ends strict goal quote text purposes) (subst (λ (t : List ℕ). Reaches strict (Done (filter_for goal t)) purposes rest e) (append-nil text) r))
  inside_reach (c ∷ string) inside strict goal quote text purposes rest e is in_quotes r =
      let after : Reaches strict (InText goal quote (text ++ c ∷ [])) purposes (in_quotes.0 ++ quote ∷ rest) e =
      inside_reach string in_quotes.0 strict goal quote (text ++ c ∷ []) purposes rest e is in_quotes.2 (subst (λ (t : List ℕ). Reaches strict (Done (filter_for goal t)) purposes rest e) (sym (append_assoc text (c ∷ []) string)) r) in
      elim in_quotes.1 [
        | inl h ↦ rw h.0 (by_byte strict (InText goal quote text) purposes c (in_quotes.0 ++ quote ∷ rest) (InText goal quote (text ++ c ∷ [])) purposes e (goes_inside strict goal quote c text purposes h.1 h.2) after)
        | inr h ↦ rw h (by_byte strict (InText goal quote text) purposes 92 (c ∷ (in_quotes.0 ++ quote ∷ rest)) (Escaped goal quote text) purposes e (escapes strict goal quote text purposes is)
            (by_byte strict (Escaped goal quote text) purposes c (in_quotes.0 ++ quote ∷ rest) (InText goal quote (text ++ c ∷ [])) purposes e (escaped strict goal quote c text purposes) after))
      ]

  quote_begins : (strict : Bool) (goal : Goal) (quote : ℕ) (purposes : List Purpose) → IsQuote quote → step vocabulary strict (BeforeText goal) purposes quote ≡ Ok (InText goal quote [], purposes)
  unfolding step
  quote_begins strict goal quote purposes is = elim is [ inl h ↦ rw h refl | inr h ↦ rw h refl ]

  pub string_reach : (strict : Bool) (goal : Goal) (string : List ℕ) (purposes : List Purpose) (text rest : List ℕ) (e : Result Expression FilterFault) → IsString string text rest
      → Reaches strict (Done (filter_for goal string)) purposes rest e → Reaches strict (BeforeText goal) purposes text e
  string_reach strict goal string purposes text rest e is r =
      subst (λ (t : List ℕ). Reaches strict (BeforeText goal) purposes t e) (sym is.3)
      (by_byte strict (BeforeText goal) purposes is.0 (is.1 ++ is.0 ∷ rest) (InText goal is.0 []) purposes e (quote_begins strict goal is.0 purposes is.2) (inside_reach string is.1 strict goal is.0 [] purposes rest e is.2 is.4 r))

  -- words
  goes_word : (strict : Bool) (word : List ℕ) (purposes : List Purpose) (b : ℕ) → is_word_byte vocabulary b ≡ true → step vocabulary strict (Word word) purposes b ≡ Ok (Word (word ++ b ∷ []), purposes)
  unfolding step
  goes_word strict word purposes b is = rw is refl

  letters_reach : (strict : Bool) (word more : List ℕ) (purposes : List Purpose) (rest : List ℕ) (e : Result Expression FilterFault) → AreWordBytes vocabulary more → Reaches strict (Word (word ++ more)) purposes rest e → Reaches strict (Word word) purposes (more ++ rest) e
  letters_reach strict word [] purposes rest e are r = subst (λ (w : List ℕ). Reaches strict (Word w) purposes rest e) (append-nil word) r
  letters_reach strict word (b ∷ bs) purposes rest e are r =
      by_byte strict (Word word) purposes b (bs ++ rest) (Word (word ++ b ∷ [])) purposes e (goes_word strict word purposes b are.0)
      (letters_reach strict (word ++ b ∷ []) bs purposes rest e are.1 (subst (λ (w : List ℕ). Reaches strict (Word w) purposes rest e) (sym (append_assoc word (b ∷ []) bs)) r))

  no_space : (b : ℕ) → is_word_byte vocabulary b ≡ true → ((b == 32) ≡ false) × ((b == 33) ≡ false)
  no_space b is = (grind (arith, nat_tests), grind (arith, nat_tests))

  begins_word : (strict : Bool) (purposes : List Purpose) (b : ℕ) → is_word_byte vocabulary b ≡ true → step vocabulary strict Opened purposes b ≡ Ok (Word (b ∷ []), purposes)
  unfolding step
  begins_word strict purposes b is = rw ((no_space b is).0, (no_space b is).1, is) refl

  pub word_reach : (strict base : Bool) (word : List ℕ) (purposes : List Purpose) (rest : List ℕ) (e : Result Expression FilterFault) → IsWord vocabulary base word → Reaches strict (Word word) purposes rest e → Reaches strict Opened purposes (word ++ rest) e
  word_reach strict base [] purposes rest e is r = absurd (omega (arith, is.0))
  word_reach strict base (b ∷ bs) purposes rest e is r =
      by_byte strict Opened purposes b (bs ++ rest) (Word (b ∷ [])) purposes e (begins_word strict purposes b is.1.0) (letters_reach strict (b ∷ []) bs purposes rest e is.1.1 r)

  -- what follows a tag's word
  field_names : (strict : Bool) (word : List ℕ) (field : Option Field) → is_base word ≡ false → field_named vocabulary word ≡ field → (strict ≡ true → is_some field ≡ true) → names vocabulary strict word ≡ Some (NamedField (field_of field))
  unfolding named_of
  field_names true word None base named known = let no_name = known refl in cc
  field_names true word (Some field) base named known = rw (base, named) refl
  field_names false word None base named known = rw (base, named) refl
  field_names false word (Some field) base named known = rw (base, named) refl

  pub tag_names : (strict : Bool) (word : List ℕ) → is_base word ≡ false → (strict ≡ true → is_some (field_named vocabulary word) ≡ true) → names vocabulary strict word ≡ Some (NamedField (field_of (field_named vocabulary word)))
  tag_names strict word base known = field_names strict word (field_named vocabulary word) base refl known

  pub base_names : (strict : Bool) (word : List ℕ) → is_base word ≡ true → names vocabulary strict word ≡ Some NamedBase
  unfolding named_of
  base_names true word base = rw base refl
  base_names false word base = rw base refl

  as_field : (strict : Bool) (word : List ℕ) (field : Field) (purposes : List Purpose) (b : ℕ) → names vocabulary strict word ≡ Some (NamedField field) → is_word_byte vocabulary b ≡ false → step vocabulary strict (Word word) purposes b ≡ step vocabulary strict (AfterField field) purposes b
  unfolding step
  as_field strict word field purposes b named no_letter = rw (named, no_letter) refl

  after_base : (strict : Bool) (word : List ℕ) (purposes : List Purpose) → names vocabulary strict word ≡ Some NamedBase → step vocabulary strict (Word word) purposes 32 ≡ Ok (BeforeText BaseGoal, purposes)
  unfolding step
  after_base strict word purposes named = rw named refl

  pub base_reach : (strict : Bool) (word : List ℕ) (purposes : List Purpose) (text rest : List ℕ) (e : Result Expression FilterFault) → is_base word ≡ true → Gap text rest → Reaches strict (BeforeText BaseGoal) purposes rest e → Reaches strict (Word word) purposes text e
  unfolding step
  base_reach strict word purposes text rest e base gap r = gap_reach strict (Word word) (BeforeText BaseGoal) purposes text rest e (after_base strict word purposes (base_names strict word base)) refl gap r

  -- operators
  equals_reach : (strict : Bool) (field : Field) (purposes : List Purpose) (sign more rest : List ℕ) (e : Result Expression FilterFault) → sign ≡ codes "==" ++ more → Spaces more rest
      → Reaches strict (BeforeText (Compared field Equals)) purposes rest e → Reaches strict (AfterField field) purposes sign e
  unfolding step
  equals_reach strict field purposes sign more rest e is spaces r =
      rw is (by_byte strict (AfterField field) purposes 61 (61 ∷ more) (Sign field Equals) purposes e refl (by_byte strict (Sign field Equals) purposes 61 more (BeforeText (Compared field Equals)) purposes e refl
      (spaces_reach strict (BeforeText (Compared field Equals)) purposes more rest e refl spaces r)))

  differs_reach : (strict : Bool) (field : Field) (purposes : List Purpose) (sign more rest : List ℕ) (e : Result Expression FilterFault) → sign ≡ codes "!=" ++ more → Spaces more rest
      → Reaches strict (BeforeText (Compared field Differs)) purposes rest e → Reaches strict (AfterField field) purposes sign e
  unfolding step
  differs_reach strict field purposes sign more rest e is spaces r =
      rw is (by_byte strict (AfterField field) purposes 33 (61 ∷ more) (Sign field Differs) purposes e refl (by_byte strict (Sign field Differs) purposes 61 more (BeforeText (Compared field Differs)) purposes e refl
      (spaces_reach strict (BeforeText (Compared field Differs)) purposes more rest e refl spaces r)))

  contains_reach : (strict : Bool) (field : Field) (purposes : List Purpose) (word more rest : List ℕ) (e : Result Expression FilterFault) → word ≡ codes "contains" ++ more → Gap more rest
      → Reaches strict (BeforeText (Compared field ContainsTest)) purposes rest e → Reaches strict (AfterField field) purposes word e
  unfolding step
  contains_reach strict field purposes word more rest e is gap r =
      let goal : Goal = Compared field ContainsTest in
      rw is (by_byte strict (AfterField field) purposes 99 _ (Contains field 1) purposes e refl (by_byte strict (Contains field 1) purposes 111 _ (Contains field 2) purposes e refl
      (by_byte strict (Contains field 2) purposes 110 _ (Contains field 3) purposes e refl (by_byte strict (Contains field 3) purposes 116 _ (Contains field 4) purposes e refl
      (by_byte strict (Contains field 4) purposes 97 _ (Contains field 5) purposes e refl (by_byte strict (Contains field 5) purposes 105 _ (Contains field 6) purposes e refl
      (by_byte strict (Contains field 6) purposes 110 _ (Contains field 7) purposes e refl (by_byte strict (Contains field 7) purposes 115 more (NeedsSpace goal) purposes e refl
      (gap_reach strict (NeedsSpace goal) (BeforeText goal) purposes more rest e refl refl gap r)))))))))

  field_reach : (strict : Bool) (field : Field) (test : Test) (purposes : List Purpose) (text rest : List ℕ) (e : Result Expression FilterFault) → IsOperator test text rest
      → Reaches strict (BeforeText (Compared field test)) purposes rest e → Reaches strict (AfterField field) purposes text e
  unfolding step
  field_reach strict field Equals purposes text rest e is r = spaces_reach strict (AfterField field) purposes text is.0 e refl is.2 (equals_reach strict field purposes is.0 is.1 rest e is.3 is.4 r)
  field_reach strict field Differs purposes text rest e is r = spaces_reach strict (AfterField field) purposes text is.0 e refl is.2 (differs_reach strict field purposes is.0 is.1 rest e is.3 is.4 r)
  field_reach strict field ContainsTest purposes text rest e is r = gap_reach strict (AfterField field) (AfterField field) purposes text is.0 e refl refl is.2 (contains_reach strict field purposes is.0 is.1 rest e is.3 is.4 r)

  -- an operator begins with a byte that is no letter
  spaced_first : (spaces rest : List ℕ) (c : ℕ) → AreSpaces spaces → is_word_byte vocabulary c ≡ false → (b : ℕ) × (more : List ℕ) × (spaces ++ c ∷ rest ≡ b ∷ more) × (is_word_byte vocabulary b ≡ false)
  spaced_first [] rest c are other = (c, rest, refl, other)
  spaced_first (b ∷ bs) rest c are other = (b, bs ++ c ∷ rest, refl, rw are.0 refl)

  operator_first : (test : Test) (text rest : List ℕ) → IsOperator test text rest → (b : ℕ) × (more : List ℕ) × (text ≡ b ∷ more) × (is_word_byte vocabulary b ≡ false)
  operator_first Equals text rest is =
      let first = spaced_first is.2.0 (61 ∷ is.1) 61 is.2.2 refl in (first.0, first.1, is.2.1 ∙ ap (λ (t : List ℕ). is.2.0 ++ t) is.3 ∙ first.2, first.3)
  operator_first Differs text rest is =
      let first = spaced_first is.2.0 (61 ∷ is.1) 33 is.2.2 refl in (first.0, first.1, is.2.1 ∙ ap (λ (t : List ℕ). is.2.0 ++ t) is.3 ∙ first.2, first.3)
  operator_first ContainsTest text rest is = (32, is.2.0, is.2.1, refl)

  same_from : (strict : Bool) (state next : State) (purposes : List Purpose) (b : ℕ) (rest : List ℕ) (e : Result Expression FilterFault) → step vocabulary strict state purposes b ≡ step vocabulary strict next purposes b → Reaches strict next purposes (b ∷ rest) e → Reaches strict state purposes (b ∷ rest) e
  same_from strict state next purposes b rest e same r = λ n. goes strict n state purposes b rest (step vocabulary strict next purposes b) same ∙ sym (goes strict n next purposes b rest (step vocabulary strict next purposes b) refl) ∙ r n

  pub operator_reach : (strict : Bool) (word : List ℕ) (field : Field) (test : Test) (purposes : List Purpose) (text rest : List ℕ) (e : Result Expression FilterFault) → names vocabulary strict word ≡ Some (NamedField field) → IsOperator test text rest
      → Reaches strict (BeforeText (Compared field test)) purposes rest e → Reaches strict (Word word) purposes text e
  operator_reach strict word field test purposes text rest e named is r =
      let first = operator_first test text rest is in
      let reached : Reaches strict (AfterField field) purposes (first.0 ∷ first.1) e = subst (λ (t : List ℕ). Reaches strict (AfterField field) purposes t e) first.2 (field_reach strict field test purposes text rest e is r) in
      subst (λ (t : List ℕ). Reaches strict (Word word) purposes t e) (sym first.2)
      (same_from strict (Word word) (AfterField field) purposes first.0 first.1 e (as_field strict word field purposes first.0 named first.3) reached)
