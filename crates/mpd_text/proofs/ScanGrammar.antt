-- What is scanned so is spelled so, or goes wrong so.
use Rattle.std.proofs.Common.{◌≡◌, ◌≢◌, ◌⊎◌, inl, inr, ℕ, ◌+◌, ◌<◌, ◌≤◌, Bool, true, false, eqb, List, [], ◌∷◌, ◌++◌, length, Result, Ok, Err, refl, sym, ap, subst, ◌∙◌, append_assoc, arith}
use Rattle.std.proofs.lemmas.List.{append-nil, length_push}
use Rattle.std.proofs.lemmas.Bool.Decides.{nat_tests}
use Rattle.mpd_text.specs.declared.lines.quoting.WordsFault.{WordsFault}
use Rattle.mpd_text.specs.declared.lines.quoting.WordsFault.TheVariants.{BadUnquoted, NoClosingQuote, NoSpaceAfterQuote, TooMany}
use Rattle.mpd_text.specs.declared.lines.quoting.QuotingState.{QuotingState}
use Rattle.mpd_text.specs.declared.lines.quoting.QuotingState.TheVariants.{Between, Bare, Quoted, Escaped, Closed}
use Rattle.std.specs.Result.{MatchResult}
use Rattle.mpd_text.specs.Lines.Scan.{is_blank, is_bare, after, scan, words_of}
use Rattle.mpd_text.specs.Lines.Grammar.{AreBlanks, AreBare, IsInside, IsBareWord, IsQuotedWord, EndsWord, Begins, Spells, GoesWrong, IsFaulty}

-- what is read of a line after so many words
Reads : ℕ → List ℕ → Result (List (List ℕ)) WordsFault → Type 0
Reads count line (Ok words) = Spells line words × (count + length words ≤ 65)
Reads count line (Err fault) = IsFaulty count line fault

-- the text of the present word, up to an offset in it
At : QuotingState → ℕ → List ℕ → List ℕ → Type 0
At Between count word front = AreBlanks front × (word ≡ []) × (count ≤ 65)
At Bare count word front = (front ≡ word) × (0 < length word) × AreBare word × (count < 65)
At Quoted count word front = (inside : List ℕ) × (front ≡ 34 ∷ inside) × IsInside inside word × (count < 65)
At Escaped count word front = (inside : List ℕ) × (front ≡ 34 ∷ (inside ++ 92 ∷ [])) × IsInside inside word × (count < 65)
At Closed count word front = IsQuotedWord front word × (count < 65)

either : (b : Bool) → (b ≡ true) ⊎ (b ≡ false)
either true = inl refl
either false = inr refl

pub is_equal : (a b : ℕ) → ((eqb a b ≡ true) × (a ≡ b)) ⊎ ((eqb a b ≡ false) × (a ≢ b))
is_equal a b = grind (arith, nat_tests)

blanks_join : (xs ys : List ℕ) → AreBlanks xs → AreBlanks ys → AreBlanks (xs ++ ys)
blanks_join [] ys p q = q
blanks_join (x ∷ xs) ys p q = (p.0, blanks_join xs ys p.1 q)

bare_push : (word : List ℕ) (b : ℕ) → AreBare word → is_bare b ≡ true → AreBare (word ++ b ∷ [])
bare_push [] b are is = (is, tt)
bare_push (c ∷ word) b are is = (are.0, bare_push word b are.1 is)

inside_push : (word inside more : List ℕ) (c : ℕ) → (((more ≡ c ∷ []) × (c ≢ 34) × (c ≢ 92)) ⊎ (more ≡ 92 ∷ c ∷ [])) → IsInside inside word → IsInside (inside ++ more) (word ++ c ∷ [])
inside_push [] inside more c one is = rw is ([], one, refl)
inside_push (d ∷ word) inside more c one is =
    (is.0 ++ more, (elim is.1 [ inl h ↦ inl (ap (λ (t : List ℕ). t ++ more) h.0, h.1, h.2) | inr h ↦ inr (ap (λ (t : List ℕ). t ++ more) h) ]), inside_push word is.0 more c one is.2)

pub blanks_begin : (blanks line : List ℕ) (words : List (List ℕ)) (rest : List ℕ) → AreBlanks blanks → Begins line words rest → Begins (blanks ++ line) words rest
blanks_begin blanks line [] rest are h = (blanks ++ h.0, ap (λ (t : List ℕ). blanks ++ t) h.1 ∙ sym (append_assoc blanks h.0 rest), blanks_join blanks h.0 are h.2)
blanks_begin blanks line (word ∷ words) rest are h =
    (blanks ++ h.0, h.1, h.2, ap (λ (t : List ℕ). blanks ++ t) h.3 ∙ sym (append_assoc blanks h.0 (h.1 ++ h.2)), blanks_join blanks h.0 are h.4, h.5, h.6, h.7)

blanks_read : (count : ℕ) (blanks line : List ℕ) (r : Result (List (List ℕ)) WordsFault) → AreBlanks blanks → Reads count line r → Reads count (blanks ++ line) r
unfolding Reads
blanks_read count blanks line (Ok words) are h = (blanks_begin blanks line words [] are h.0, h.1)
blanks_read count blanks line (Err fault) are h = (h.0, h.1, blanks_begin blanks line h.0 h.1 are h.2, h.3)

word_read : (count : ℕ) (text word more : List ℕ) (r : Result (List (List ℕ)) WordsFault) → (IsBareWord text word ⊎ IsQuotedWord text word) → EndsWord more → Reads (count + 1) more r → Reads count (text ++ more) (after (word ∷ []) r)
unfolding Reads
word_read count text word more (Ok words) is ends h = (([], text, more, refl, tt, is, ends, h.0), omega (arith, h.1))
word_read count text word more (Err fault) is ends h =
    (word ∷ h.0, h.1, ([], text, more, refl, tt, is, ends, h.2), subst (λ (n : ℕ). GoesWrong n h.1 fault) (omega arith) h.3)

-- the word ends with the line
last_read : (count : ℕ) (text word : List ℕ) → count < 65 → (IsBareWord text word ⊎ IsQuotedWord text word) → Reads count (text ++ []) (Ok (word ∷ []))
unfolding Reads
last_read count text word few is = (([], text, [], refl, tt, is, tt, ([], refl, tt)), omega arith)

wrong_read : (count : ℕ) (rest : List ℕ) (fault : WordsFault) → GoesWrong count rest fault → Reads count rest (Err fault)
unfolding Reads
wrong_read count rest fault h = ([], rest, ([], refl, tt), subst (λ (n : ℕ). GoesWrong n rest fault) (omega arith) h)

one_more : (front : List ℕ) (b : ℕ) (rest : List ℕ) (count : ℕ) (r : Result (List (List ℕ)) WordsFault) → Reads count ((front ++ b ∷ []) ++ rest) r → Reads count (front ++ b ∷ rest) r
one_more front b rest count r h = subst (λ (line : List ℕ). Reads count line r) (append_assoc front (b ∷ []) rest) h

blank_alone : (b : ℕ) → is_blank b ≡ true → AreBlanks (b ∷ [])
blank_alone b e = (e, tt)

few_from : (count : ℕ) → count ≤ 65 → count ≢ 65 → count < 65
few_from count few other = omega arith

some_front : (front word : List ℕ) → front ≡ word → 0 < length word → front ≡ [] → ⊥
some_front front word e some none = let h = ap length (sym e ∙ none) in omega (arith, h)

scan_reads : (rest : List ℕ) (state : QuotingState) (count : ℕ) (word front : List ℕ) → At state count word front → Reads count (front ++ rest) (scan state count word rest)
unfolding scan At Reads
scan_reads [] Between count word front at = blanks_read count front [] (Ok []) at.0 (([], refl, tt), omega (arith, at.2))
scan_reads (b ∷ rest) Between count word front at = elim (either (is_blank b)) [
  | inl e ↦ rw e (one_more front b rest count (scan Between count word rest) (scan_reads rest Between count word (front ++ b ∷ []) (blanks_join front (b ∷ []) at.0 (blank_alone b e), at.1, at.2)))
  | inr e ↦ elim (is_equal count 65) [
    | inl h ↦ rw (e, h.0) (blanks_read count front (b ∷ rest) (Err TooMany) at.0 (wrong_read count (b ∷ rest) TooMany (h.1, b, rest, refl, e)))
    | inr h ↦ let few = few_from count at.2 h.1 in elim (is_equal b 34) [
      | inl q ↦ rw (e, h.0, q.0) (rw (q.1, at.1) (blanks_read count front (34 ∷ rest) (scan Quoted count [] rest) at.0 (scan_reads rest Quoted count [] (34 ∷ []) ([], refl, refl, few))))
      | inr q ↦ elim (either (is_bare b)) [
        | inl f ↦ rw (e, h.0, f, q.0) (rw at.1 (blanks_read count front (b ∷ rest) (scan Bare count (b ∷ []) rest) at.0 (scan_reads rest Bare count (b ∷ []) (b ∷ []) (refl, omega arith, (f, tt), few))))
        | inr f ↦ rw (e, h.0, f, q.0) (blanks_read count front (b ∷ rest) (Err BadUnquoted) at.0 (wrong_read count (b ∷ rest) BadUnquoted (few, [], b, rest, refl, tt, f, e, λ _. q.1)))
      ]
    ]
  ]
]
scan_reads [] Bare count word front at = last_read count front word at.3 (inl (at.0, at.1, at.2))
scan_reads (b ∷ rest) Bare count word front at = elim (either (is_blank b)) [
  | inl e ↦ rw e (word_read count front word (b ∷ rest) (scan Between (count + 1) [] rest) (inl (at.0, at.1, at.2)) e (scan_reads rest Between (count + 1) [] (b ∷ []) (blank_alone b e, refl, omega (arith, at.3))))
  | inr e ↦ elim (either (is_bare b)) [
    | inl f ↦ rw (e, f) (one_more front b rest count (scan Bare count (word ++ b ∷ []) rest) (scan_reads rest Bare count (word ++ b ∷ []) (front ++ b ∷ [])
        (ap (λ (t : List ℕ). t ++ b ∷ []) at.0, omega (arith, length_push word b), bare_push word b at.2 f, at.3)))
    | inr f ↦ rw (e, f) (wrong_read count (front ++ b ∷ rest) BadUnquoted (at.3, front, b, rest, refl, subst AreBare (sym at.0) at.2, f, e, λ none. absurd (some_front front word at.0 at.1 none)))
  ]
]
scan_reads [] Quoted count word front at = wrong_read count (front ++ []) NoClosingQuote (at.3, at.0, word, [], ap (λ (t : List ℕ). t ++ []) at.1, at.2, inl refl)
scan_reads (b ∷ rest) Quoted count word front at = elim (is_equal b 34) [
  | inl q ↦ rw q.0 (one_more front b rest count (scan Closed count word rest) (scan_reads rest Closed count word (front ++ b ∷ []) ((at.0, (rw q.1 (ap (λ (t : List ℕ). t ++ 34 ∷ []) at.1)), at.2), at.3)))
  | inr q ↦ elim (is_equal b 92) [
    | inl s ↦ rw (q.0, s.0) (one_more front b rest count (scan Escaped count word rest) (scan_reads rest Escaped count word (front ++ b ∷ []) (at.0, (rw s.1 (ap (λ (t : List ℕ). t ++ 92 ∷ []) at.1)), at.2, at.3)))
    | inr s ↦ rw (q.0, s.0) (one_more front b rest count (scan Quoted count (word ++ b ∷ []) rest) (scan_reads rest Quoted count (word ++ b ∷ []) (front ++ b ∷ [])
        (at.0 ++ b ∷ [], ap (λ (t : List ℕ). t ++ b ∷ []) at.1, inside_push word at.0 (b ∷ []) b (inl (refl, q.1, s.1)) at.2, at.3)))
  ]
]
scan_reads [] Escaped count word front at = wrong_read count (front ++ []) NoClosingQuote (at.3, at.0, word, 92 ∷ [], append-nil front ∙ at.1, at.2, inr refl)
scan_reads (b ∷ rest) Escaped count word front at =
    one_more front b rest count (scan Quoted count (word ++ b ∷ []) rest) (scan_reads rest Quoted count (word ++ b ∷ []) (front ++ b ∷ [])
    (at.0 ++ 92 ∷ b ∷ [], ap (λ (t : List ℕ). t ++ b ∷ []) at.1 ∙ ap (λ (t : List ℕ). 34 ∷ t) (append_assoc at.0 (92 ∷ []) (b ∷ [])), inside_push word at.0 (92 ∷ b ∷ []) b (inr refl) at.2, at.3))
scan_reads [] Closed count word front at = last_read count front word at.1 (inr at.0)
scan_reads (b ∷ rest) Closed count word front at = elim (either (is_blank b)) [
  | inl e ↦ rw e (word_read count front word (b ∷ rest) (scan Between (count + 1) [] rest) (inr at.0) e (scan_reads rest Between (count + 1) [] (b ∷ []) (blank_alone b e, refl, omega (arith, at.1))))
  | inr e ↦ rw e (wrong_read count (front ++ b ∷ rest) NoSpaceAfterQuote (at.1, front, word, b, rest, refl, at.0, e))
]

from_reads : (line : List ℕ) (r : Result (List (List ℕ)) WordsFault) → Reads 0 line r → MatchResult r (λ words. Spells line words × (length words ≤ 65)) (λ fault. IsFaulty 0 line fault)
unfolding Reads
from_reads line (Ok words) h = (h.0, omega (arith, h.1))
from_reads line (Err fault) h = h

pub is_read : (line : List ℕ) → MatchResult (words_of line) (λ words. Spells line words × (length words ≤ 65)) (λ fault. IsFaulty 0 line fault)
unfolding At
is_read line = from_reads line (words_of line) (scan_reads line Between 0 [] [] (tt, refl, omega arith))
