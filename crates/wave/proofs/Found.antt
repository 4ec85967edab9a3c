-- Texts that count, and those that do not.
use Rattle.std.proofs.Common.{ℕ, zero, suc, ◌+◌, ◌<◌, ◌≤◌, ◌≡◌, ◌==◌, ◌&&◌, List, [], ◌∷◌, length, take, min, Bool, true, false, not, cond, refl, sym, ap, ◌∙◌, arith, length-take, Some, None, nat_le}
use Rattle.std.proofs.lemmas.Bool.Decides.{nat_tests}
use Rattle.std.proofs.lemmas.List.{take-take}
use Rattle.std.proofs.lemmas.List.Folds.{length-prefix_len}
use Rattle.std.proofs.lemmas.List.Sums.{prefix_len-le-length}
use Rattle.std.proofs.lemmas.Str.{is_utf8-from_IsUtf8, IsUtf8-from_is_utf8}
use Rattle.std.specs.List.{prefix_len, position_or_len, list_all}
use Rattle.std.specs.Str.{is_utf8, IsUtf8}
use Rattle.wave.specs.Texts.{text_of, counts}
use Rattle.wave.specs.Found.{base_text}
use Rattle.wave.proofs.Filling.{by_lt}

pub and_false : (a : Bool) → (a && false) ≡ false
and_false true = refl
and_false false = refl

-- texts that count
pub counts_if : (text : List ℕ) → 1 ≤ length text → length text ≤ 1024 → list_all (λ byte. nat_le 32 byte) text ≡ true → IsUtf8 text → counts text ≡ true
counts_if text least most plain utf8 =
    let a : nat_le 1 (length text) ≡ true = grind (arith, nat_tests) in
    let b : nat_le (length text) 1024 ≡ true = grind (arith, nat_tests) in
    let d : is_utf8 text ≡ true = is_utf8-from_IsUtf8 text utf8 in
    rw (a, b, plain, d) refl

not_utf8 : (text : List ℕ) (b : Bool) → is_utf8 text ≡ b → (IsUtf8 text → ⊥) → b ≡ false
not_utf8 text true e f = absurd (f (IsUtf8-from_is_utf8 text e))
not_utf8 text false e f = refl

pub not_text : (text : List ℕ) → (IsUtf8 text → ⊥) → counts text ≡ false
not_text text f =
    let e : is_utf8 text ≡ false = not_utf8 text (is_utf8 text) refl f in
    ap (λ b. nat_le 1 (length text) && nat_le (length text) 1024 && list_all (λ byte. nat_le 32 byte) text && b) e ∙ and_false _

-- no more than the first 1,025 bytes of a content count
prefix_step : (b : Bool) (k short long : ℕ) → short ≡ min k long → cond b (1 + short) 0 ≡ min (suc k) (cond b (1 + long) 0)
prefix_step true k short long h = omega arith
prefix_step false k short long h = omega arith

prefix_of_start : (p : ℕ → Bool) (k : ℕ) (xs : List ℕ) → prefix_len p (take k xs) ≡ min k (prefix_len p xs)
prefix_of_start p zero xs = omega arith
prefix_of_start p (suc k) [] = omega arith
prefix_of_start p (suc k) (x ∷ xs) = prefix_step (p x) k _ _ (prefix_of_start p k xs)

pub too_long : (text : List ℕ) → 1024 < length text → counts text ≡ false
too_long text h =
    let e : nat_le (length text) 1024 ≡ false = grind (arith, nat_tests) in
    ap (λ b. nat_le 1 (length text) && b && list_all (λ byte. nat_le 32 byte) text && is_utf8 text) e ∙ ap (λ b. b && list_all (λ byte. nat_le 32 byte) text && is_utf8 text) (and_false (nat_le 1 (length text)))

pub text_is : (content text : List ℕ) → counts text ≡ true → text ≡ text_of content → base_text content ≡ Some text
text_is content text e f =
    let b : counts (text_of content) ≡ true = ap counts (sym f) ∙ e in
    ap (λ t. cond t (Some (text_of content)) None) b ∙ ap (λ t. Some t) (sym f)

pub no_text_is : (content text : List ℕ) → counts text ≡ false → text ≡ text_of content → base_text content ≡ None
no_text_is content text e f =
    let b : counts (text_of content) ≡ false = ap counts (sym f) ∙ e in
    ap (λ t. cond t (Some (text_of content)) None) b

pub length_of_text : (content : List ℕ) → length (text_of content) ≡ position_or_len (λ byte. byte == 0) content
length_of_text content = length-prefix_len (λ byte. not (byte == 0)) content

pub start_of_text : (content : List ℕ) (k : ℕ) → text_of (take k content) ≡ take (min k (position_or_len (λ byte. byte == 0) content)) content
start_of_text content k =
    let n = position_or_len (λ byte. byte == 0) content in
    ap (λ m. take m (take k content)) (prefix_of_start (λ byte. not (byte == 0)) k content) ∙ take-take (min k n) k content (omega arith)

pub short_start : (k n : ℕ) (content : List ℕ) → n < k → take (min k n) content ≡ take n content
short_start k n content h = ap (λ m. take m content) (omega arith)

pub long_start : (k n : ℕ) (content : List ℕ) → k ≤ n → n ≤ length content → 1024 < k → 1024 < length (take (min k n) content)
long_start k n content h l g = simp length-take (omega arith)

pub base_of_start : (content : List ℕ) → base_text (take 1025 content) ≡ base_text content
base_of_start content =
    let n = position_or_len (λ byte. byte == 0) content in
    by_lt n 1025
    (λ short. ap (λ text. cond (counts text) (Some text) None) (start_of_text content 1025 ∙ short_start 1025 n content short))
    (λ long.
    let within : n ≤ length content = prefix_len-le-length (λ byte. not (byte == 0)) content in
    let first : 1024 < length (text_of content) = rw (length_of_text content) (omega arith) in
    no_text_is (take 1025 content) _ (too_long _ (long_start 1025 n content long within (omega arith))) (sym (start_of_text content 1025))
    ∙ sym (no_text_is content (text_of content) (too_long (text_of content) first) refl))
