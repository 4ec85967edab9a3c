-- What is told of a text in one line.
use Rattle.std.proofs.Common.{◌≡◌, ℕ, Bool, true, false, not, List, [], ◌∷◌, ◌++◌, flat_map, chars, encode_utf8_all, refl, sym, ap, subst, ◌∙◌, inl, inr, arith}
use Rattle.std.proofs.lemmas.Bool.{agree_below_at, and_from, and_right, cases_lt, cond-false, lt-leb, not-true, not_from_false, or_from}
use Rattle.std.proofs.lemmas.List.{flat_map_more}
use Rattle.std.proofs.lemmas.List.Elements.{All-head, All-tail}
use Rattle.std.proofs.lemmas.List.Folds.{list_all-append}
use Rattle.std.proofs.lemmas.List.Sums.{AllPass-from_list_all}
use Rattle.std.proofs.lemmas.Str.{encodes-append, encodes-chars}
use Rattle.std.specs.Char.{is_control}
use Rattle.std.specs.Char.Escape.{escape_default}
use Rattle.std.specs.List.{list_all}
use Rattle.settings.specs.OneLines.{HasNoControls, OneLines, shown}

-- what is told of a text and one more character
pub escaped-more : (text : List ℕ) (c : ℕ) → encode_utf8_all (flat_map shown text) ++ encode_utf8_all (shown c) ≡ encode_utf8_all (flat_map shown (text ++ c ∷ []))
escaped-more text c = sym (encodes-append (flat_map shown text) (shown c)) ∙ ap encode_utf8_all (flat_map_more shown [] text c)

abbrev is_plain : ℕ → Bool
is_plain c = not (is_control c)

-- a character that is no control character is told as it is
kept : (c : ℕ) → is_control c ≡ false → shown c ≡ c ∷ []
kept c plain = cond-false (is_control c) (escape_default c) (c ∷ []) plain

-- of the first 160 each is looked at; those above are no control characters
clean : (c : ℕ) → list_all is_plain (shown c) ≡ true
clean c = elim (cases_lt c 160) [
  | inl below ↦ agree_below_at (λ n. list_all is_plain (shown n)) (λ _. true) 160 c refl below
  | inr above ↦
      let plain : is_control c ≡ false = or_from _ _ (and_right _ _ (lt-leb c 31 (omega arith))) (and_right _ _ (lt-leb c 159 (omega arith))) in
      subst (λ cs. list_all is_plain cs ≡ true) (sym (kept c plain)) (and_from _ _ (not_from_false _ plain) refl)
]

escaped-clean : (cs : List ℕ) → list_all is_plain (flat_map shown cs) ≡ true
escaped-clean [] = refl
escaped-clean (c ∷ cs) = list_all-append is_plain (shown c) (flat_map shown cs) ∙ and_from _ _ (clean c) (escaped-clean cs)

escaped-same : (cs : List ℕ) → HasNoControls cs → flat_map shown cs ≡ cs
escaped-same [] plain = refl
escaped-same (c ∷ cs) plain = ap (λ t. t ++ flat_map shown cs) (kept c (All-head (λ d. is_control d ≡ false) c cs plain))
    ∙ ap (λ t. c ∷ t) (escaped-same cs (All-tail (λ d. is_control d ≡ false) c cs plain))

pub all : OneLines
all = record {
  none = λ text k d less. not-true _ (AllPass-from_list_all is_plain _ (escaped-clean (chars text)) k d less);
  same = λ text utf8 plain. ap encode_utf8_all (escaped-same (chars text) plain) ∙ encodes-chars text utf8;
}
