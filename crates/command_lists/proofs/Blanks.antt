-- Texts with blanks at their ends.
use Rattle.std.proofs.Common.{◌≡◌, ℕ, ◌+◌, ◌-◌, ◌≤◌, Bool, true, false, ◌&&◌, List, [], ◌∷◌, ◌++◌, length, get_or, take, take_all, refl, sym, ap, ◌∙◌, arith}
use Rattle.std.specs.Prelude.{if◌then◌else◌}
use Rattle.std.specs.List.{list_all}
use Rattle.std.proofs.lemmas.Bool.{cond-true, cond-false, and_left, and_right}
use Rattle.std.proofs.lemmas.List.{take_more}
use Rattle.std.proofs.lemmas.List.Folds.{list_all-append}
use Rattle.mpd_text.specs.Lines.Scan.{is_blank}
use Rattle.command_lists.specs.Words.{before_blanks}

and_right_true : (x y : Bool) → y ≡ true → (x && y) ≡ x
and_right_true true y e = e
and_right_true false y e = refl

before_blanks_none : (back : List ℕ) → list_all is_blank back ≡ true → before_blanks back ≡ []
before_blanks_none [] all = refl
before_blanks_none (b ∷ bs) all = cond-true _ _ _ all

-- blanks at the end do not count
pub before_blanks-append : (xs back : List ℕ) → list_all is_blank back ≡ true → before_blanks (xs ++ back) ≡ before_blanks xs
before_blanks-append [] back all = before_blanks_none back all
before_blanks-append (x ∷ xs) back all =
    let same : list_all is_blank (xs ++ back) ≡ list_all is_blank xs = list_all-append is_blank xs back ∙ and_right_true (list_all is_blank xs) (list_all is_blank back) all in
    ap (λ (b : Bool). if is_blank x && b then [] else x ∷ before_blanks (xs ++ back)) same
    ∙ ap (λ (bs : List ℕ). if list_all is_blank (x ∷ xs) then [] else x ∷ bs) (before_blanks-append xs back all)

-- what ends with no blank stays
pub before_blanks_kept : (xs : List ℕ) (b : ℕ) → is_blank b ≡ false → before_blanks (xs ++ b ∷ []) ≡ xs ++ b ∷ []
before_blanks_kept [] b other = cond-false _ _ _ (and_left (is_blank b) true other)
before_blanks_kept (x ∷ xs) b other =
    cond-false _ _ _ (and_right (is_blank x) (list_all is_blank (xs ++ b ∷ [])) (list_all-append is_blank xs (b ∷ []) ∙ and_right (list_all is_blank xs) (is_blank b && true) (and_left (is_blank b) true other)))
    ∙ ap (λ (bs : List ℕ). x ∷ bs) (before_blanks_kept xs b other)

-- a text and its last byte
last_byte : (xs : List ℕ) → 1 ≤ length xs → xs ≡ take (length xs - 1) xs ++ get_or xs (length xs - 1) 0 ∷ []
last_byte xs some =
    let n : length xs - 1 + 1 ≡ length xs = omega arith in
    sym (take_all (length xs) xs (omega arith)) ∙ ap (λ (k : ℕ). take k xs) (sym n) ∙ take_more xs (length xs - 1) 0 (omega arith)

pub before_blanks_less : (xs : List ℕ) → 1 ≤ length xs → is_blank (get_or xs (length xs - 1) 0) ≡ true → before_blanks (take (length xs - 1) xs) ≡ before_blanks xs
before_blanks_less xs some blank =
    sym (ap before_blanks (last_byte xs some) ∙ before_blanks-append (take (length xs - 1) xs) (get_or xs (length xs - 1) 0 ∷ []) (ap (λ (b : Bool). b && true) blank))

pub before_blanks_whole : (xs : List ℕ) → 1 ≤ length xs → is_blank (get_or xs (length xs - 1) 0) ≡ false → before_blanks xs ≡ xs
before_blanks_whole xs some other =
    ap before_blanks (last_byte xs some) ∙ before_blanks_kept (take (length xs - 1) xs) (get_or xs (length xs - 1) 0) other ∙ sym (last_byte xs some)
