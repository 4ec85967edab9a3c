-- The words of a text are texts.
use Rattle.std.proofs.Common.{◌≡◌, ◌≢◌, ◌⊎◌, inl, inr, ℕ, ◌+◌, ◌<◌, Bool, true, false, eqb, List, [], ◌∷◌, ◌++◌, map, Result, Ok, Err, refl, subst, arith}
use Rattle.std.specs.List.{AllByRecursion}
use Rattle.std.specs.Global.{Vec}
use Rattle.std.specs.Str.{IsUtf8}
use Rattle.std.proofs.lemmas.List.{append-nil}
use Rattle.std.proofs.lemmas.Bool.Decides.{nat_tests}
use Rattle.mpd_text.specs.declared.lines.quoting.WordsFault.{WordsFault}
use Rattle.mpd_text.specs.declared.lines.quoting.QuotingState.{QuotingState}
use Rattle.mpd_text.specs.declared.lines.quoting.QuotingState.TheVariants.{Between, Bare, Quoted, Escaped, Closed}
use Rattle.mpd_text.specs.Lines.Scan.{is_blank, is_bare, after, scan, words_of}
use Rattle.mpd_text.proofs.AsciiCuts.{cut_at, without, one_more}

pub AllUtf8 : Result (List (List ℕ)) WordsFault → Type 0
AllUtf8 (Ok words) = AllByRecursion IsUtf8 words
AllUtf8 (Err fault) = Unit {0}

word_first : (word : List ℕ) (r : Result (List (List ℕ)) WordsFault) → IsUtf8 word → AllUtf8 r → AllUtf8 (after (word ∷ []) r)
unfolding AllUtf8
word_first word (Ok words) utf8 all = (utf8, all)
word_first word (Err fault) utf8 all = tt

either : (b : Bool) → (b ≡ true) ⊎ (b ≡ false)
either true = inl refl
either false = inr refl

is_equal : (a b : ℕ) → ((eqb a b ≡ true) × (a ≡ b)) ⊎ ((eqb a b ≡ false) × (a ≢ b))
is_equal a b = grind (arith, nat_tests)

blank_small : (b : ℕ) → is_blank b ≡ true → b < 128
blank_small b e = grind (arith, nat_tests)

all_utf8 : (rest : List ℕ) (state : QuotingState) (count : ℕ) (word : List ℕ) → IsUtf8 (word ++ rest) → AllUtf8 (scan state count word rest)
unfolding scan AllUtf8
all_utf8 [] Between count word utf8 = tt
all_utf8 (b ∷ rest) Between count word utf8 = elim (either (is_blank b)) [
  | inl e ↦ rw e (all_utf8 rest Between count word (without word rest b utf8 (blank_small b e)))
  | inr e ↦ elim (is_equal count 65) [
    | inl h ↦ rw (e, h.0) tt
    | inr h ↦ elim (is_equal b 34) [
      | inl q ↦ rw (e, h.0, q.0) (all_utf8 rest Quoted count word (without word rest b utf8 (omega (arith, q.1))))
      | inr q ↦ elim (either (is_bare b)) [
        | inl f ↦ rw (e, h.0, f, q.0) (all_utf8 rest Bare count (word ++ b ∷ []) (one_more word b rest utf8))
        | inr f ↦ rw (e, h.0, f, q.0) tt
      ]
    ]
  ]
]
all_utf8 [] Bare count word utf8 = (subst IsUtf8 (append-nil word) utf8, tt)
all_utf8 (b ∷ rest) Bare count word utf8 = elim (either (is_blank b)) [
  | inl e ↦ rw e (let parts = cut_at word rest b utf8 (blank_small b e) in word_first word (scan Between (count + 1) [] rest) parts.0 (all_utf8 rest Between (count + 1) [] parts.1))
  | inr e ↦ elim (either (is_bare b)) [
    | inl f ↦ rw (e, f) (all_utf8 rest Bare count (word ++ b ∷ []) (one_more word b rest utf8))
    | inr f ↦ rw (e, f) tt
  ]
]
all_utf8 [] Quoted count word utf8 = tt
all_utf8 (b ∷ rest) Quoted count word utf8 = elim (is_equal b 34) [
  | inl q ↦ rw q.0 (all_utf8 rest Closed count word (without word rest b utf8 (omega (arith, q.1))))
  | inr q ↦ elim (is_equal b 92) [
    | inl s ↦ rw (q.0, s.0) (all_utf8 rest Escaped count word (without word rest b utf8 (omega (arith, s.1))))
    | inr s ↦ rw (q.0, s.0) (all_utf8 rest Quoted count (word ++ b ∷ []) (one_more word b rest utf8))
  ]
]
all_utf8 [] Escaped count word utf8 = tt
all_utf8 (b ∷ rest) Escaped count word utf8 = all_utf8 rest Quoted count (word ++ b ∷ []) (one_more word b rest utf8)
all_utf8 [] Closed count word utf8 = (subst IsUtf8 (append-nil word) utf8, tt)
all_utf8 (b ∷ rest) Closed count word utf8 = elim (either (is_blank b)) [
  | inl e ↦ rw e (let parts = cut_at word rest b utf8 (blank_small b e) in word_first word (scan Between (count + 1) [] rest) parts.0 (all_utf8 rest Between (count + 1) [] parts.1))
  | inr e ↦ rw e tt
]

pub words_utf8 : (line : List ℕ) (words : List (List ℕ)) → IsUtf8 line → words_of line ≡ Ok words → AllByRecursion IsUtf8 words
unfolding AllUtf8
words_utf8 line words utf8 e = subst AllUtf8 e (all_utf8 line Between 0 [] utf8)

each_utf8 : (words : List (Vec ℕ)) → AllByRecursion IsUtf8 (map (λ (word : Vec ℕ). word.items) words) → AllByRecursion (λ (word : Vec ℕ). IsUtf8 word.items) words
each_utf8 [] all = tt
each_utf8 (word ∷ words) all = (all.0, each_utf8 words all.1)

pub vecs_utf8 : (line : List ℕ) (words : List (Vec ℕ)) → IsUtf8 line → words_of line ≡ Ok (map (λ (word : Vec ℕ). word.items) words) → AllByRecursion (λ (word : Vec ℕ). IsUtf8 word.items) words
vecs_utf8 line words utf8 e = each_utf8 words (words_utf8 line (map (λ (word : Vec ℕ). word.items) words) utf8 e)
