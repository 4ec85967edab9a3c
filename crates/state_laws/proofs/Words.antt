-- The bytes of a line of a state are read as the command that the line asks for.
use Rattle.std.proofs.Common.{◌≡◌, inl, inr, ℕ, ◌+◌, ◌<◌, ◌≤◌, ◌^◌, ◌==◌, Bool, true, false, ◌&&◌, nat_lt, nat_le, List, [], ◌∷◌, ◌++◌, length, take, drop, get_or, Option, Some, None, codes, decimal, Ok, refl, ap, sym, ◌∙◌, subst, arith, if◌then◌else◌}
use Rattle.std.specs.Char.{is_ascii_digit}
use Rattle.std.specs.Cmp.{first_so, second_so}
use Rattle.std.specs.List.{list_all, position_or_len}
use Rattle.std.specs.Str.{bytes_eq}
use Rattle.std.specs.Str.Parse.{digits_value}
use Rattle.std.proofs.lemmas.Bool.{eqb-true, le-leb, ltb-true}
use Rattle.std.proofs.lemmas.Bool.Decides.{nat_tests}
use Rattle.std.proofs.lemmas.Fmt.{decimal_nonempty, digits_decimal, digits_value-decimal}
use Rattle.std.proofs.lemmas.List.{append-nil, drop_more, length-append, take-append-drop}
use Rattle.std.proofs.lemmas.List.Sums.{passes_at_first}
use Rattle.std.proofs.lemmas.Slice.Eq.{bytes_eq-Decides}
use Rattle.command_arguments.specs.Forms.{byte_of, song_mode_of, switch_of, up_to}
use Rattle.command_arguments.specs.declared.forms.SongMode.{SongMode}
use Rattle.command_arguments.specs.declared.forms.SongMode.TheVariants as mode
use Rattle.mpd_text.specs.Answers.Millis.{fraction_of, millis, millis_of, seconds_of, thousandths, whole, with_fraction}
use Rattle.mpd_text.specs.Answers.Number.{is_digits, number_of}
use Rattle.mpd_text.specs.Answers.Range.{after, before, has_byte}
use Rattle.mpd_text.specs.Lines.Grammar.{AreBare, Begins}
use Rattle.mpd_text.specs.Lines.Quoted.{quoted_text}
use Rattle.mpd_text.specs.Lines.Scan.{is_bare, words_of}
use Rattle.mpd_text.specs.declared.answers.times.Millis.{Millis}
use Rattle.mpd_text.proofs.Digits.{own}
use Rattle.mpd_text.proofs.GrammarScan.{spelled_is_read}
use Rattle.mpd_text.proofs.QuotedWords.{is_quoted}

-- a word that needs no quotes
abbrev pub IsWord : List ℕ → Type 0
IsWord text = (0 < length text) × AreBare text

bare_all : (text : List ℕ) → list_all is_bare text ≡ true → AreBare text
bare_all [] e = tt
bare_all (b ∷ bs) e = (first_so _ _ e, bare_all bs (second_so _ _ e))

pub word_is : (text : List ℕ) → (nat_lt 0 (length text) && list_all is_bare text) ≡ true → IsWord text
word_is text e = (ltb-true 0 (length text) (first_so _ _ e), bare_all text (second_so _ _ e))

digit_bare : (b : ℕ) → is_ascii_digit b ≡ true → is_bare b ≡ true
digit_bare b e = grind (arith, nat_tests)

bare_digits : (text : List ℕ) → list_all is_ascii_digit text ≡ true → AreBare text
bare_digits [] e = tt
bare_digits (b ∷ bs) e = (digit_bare b (first_so _ _ e), bare_digits bs (second_so _ _ e))

digits_word : (text : List ℕ) → is_digits text ≡ true → IsWord text
digits_word text e = (ltb-true 0 (length text) (first_so _ _ e), bare_digits text (second_so _ _ e))

bare_append : (xs ys : List ℕ) → AreBare xs → AreBare ys → AreBare (xs ++ ys)
bare_append [] ys f g = g
bare_append (x ∷ xs) ys f g = (f.0, bare_append xs ys f.1 g)

number_digits : (text : List ℕ) (n : ℕ) → number_of text ≡ Some n → is_digits text ≡ true
unfolding number_of
number_digits text n is =
    let fits : Bool = nat_le (digits_value 10 text) 4294967295 in
    let cases : (b : Bool) → is_digits text ≡ b → (if b && fits then Some (digits_value 10 text) else None) ≡ Some n → is_digits text ≡ true =
    λ b. elim b as (λ b. is_digits text ≡ b → (if b && fits then Some (digits_value 10 text) else None) ≡ Some n → is_digits text ≡ true)
    [ true ↦ λ e h. e | false ↦ λ e h. cc ] in
    cases (is_digits text) refl is

pub number_word : (text : List ℕ) (n : ℕ) → number_of text ≡ Some n → IsWord text
number_word text n is = digits_word text (number_digits text n is)

pub number_up_to : (most : ℕ) (text : List ℕ) (n : ℕ) → up_to most (number_of text) ≡ Some n → IsWord text
number_up_to most text n is =
    let cases : (o : Option ℕ) → number_of text ≡ o → up_to most o ≡ Some n → IsWord text =
    λ o. elim o as (λ o. number_of text ≡ o → up_to most o ≡ Some n → IsWord text) [ None ↦ λ e h. cc | Some m ↦ λ e h. number_word text m e ] in
    cases (number_of text) refl is

-- a word that is one of these
same_text : (text other : List ℕ) → bytes_eq text other ≡ true → text ≡ other
same_text text other = (bytes_eq-Decides text other).0

module _ {A : Type 0} where
  told_by : (text other : List ℕ) (rest : Option A) (a b : A) → IsWord other → ((rest ≡ Some b) → IsWord text) → (if bytes_eq text other then Some a else rest) ≡ Some b → IsWord text
  told_by text other rest a b word more is =
      let cases : (c : Bool) → bytes_eq text other ≡ c → (if c then Some a else rest) ≡ Some b → IsWord text =
      λ c. elim c as (λ c. bytes_eq text other ≡ c → (if c then Some a else rest) ≡ Some b → IsWord text)
      [ true ↦ λ e h. subst IsWord (sym (same_text text other e)) word | false ↦ λ e h. more h ] in
      cases (bytes_eq text other) refl is

pub switch_word : (text : List ℕ) (on : Bool) → switch_of text ≡ Some on → IsWord text
switch_word text on is =
    let last : Option Bool = if bytes_eq text (codes "0") then Some false else None in
    told_by text (codes "1") last true on (word_is (codes "1") refl) (λ e. told_by text (codes "0") None false on (word_is (codes "0") refl) (λ h. cc) e) is

pub mode_word : (text : List ℕ) (m : SongMode) → song_mode_of text ≡ Some m → IsWord text
mode_word text m is =
    let last : Option SongMode = if bytes_eq text (codes "oneshot") then Some mode.Oneshot else None in
    let second : Option SongMode = if bytes_eq text (codes "1") then Some mode.On else last in
    told_by text (codes "0") second mode.Off m (word_is (codes "0") refl)
    (λ e. told_by text (codes "1") last mode.On m (word_is (codes "1") refl)
    (λ f. told_by text (codes "oneshot") None mode.Oneshot m (word_is (codes "oneshot") refl) (λ h. cc) f) e) is

seconds_number : (text : List ℕ) (n : ℕ) → seconds_of text ≡ Some n → number_of text ≡ Some n
unfolding seconds_of
seconds_number text n is =
    let cases : (b : Bool) → (if b then number_of text else None) ≡ Some n → number_of text ≡ Some n =
    λ b. elim b as (λ b. (if b then number_of text else None) ≡ Some n → number_of text ≡ Some n) [ true ↦ λ h. h | false ↦ λ h. cc ] in
    cases (nat_le (length text) 9) is

fraction_digits : (text : List ℕ) (n : ℕ) → fraction_of text ≡ Some n → is_digits text ≡ true
unfolding fraction_of
fraction_digits text n is =
    let cases : (b : Bool) → is_digits text ≡ b → (if b then Some (thousandths text) else None) ≡ Some n → is_digits text ≡ true =
    λ b. elim b as (λ b. is_digits text ≡ b → (if b then Some (thousandths text) else None) ≡ Some n → is_digits text ≡ true) [ true ↦ λ e h. e | false ↦ λ e h. cc ] in
    cases (is_digits text) refl is

-- a text with a point is what stands before the first and after it
cut_at : (text : List ℕ) → has_byte 46 text ≡ true → text ≡ before 46 text ++ (46 ∷ after 46 text)
cut_at text has =
    let at : ℕ = position_or_len (λ (c : ℕ). c == 46) text in
    let less : at < length text = ltb-true at (length text) has in
    let point : get_or text at 0 ≡ 46 = eqb-true (get_or text at 0) 46 (passes_at_first (λ (c : ℕ). c == 46) text 0 less) in
    sym (take-append-drop at text) ∙ ap (λ (rest : List ℕ). take at text ++ rest) (drop_more text at 0 less) ∙ ap (λ (b : ℕ). take at text ++ (b ∷ drop (at + 1) text)) point

whole_word : (text : List ℕ) (o : Option ℕ) (m : Millis) → seconds_of text ≡ o → whole o ≡ Some m → IsWord text
whole_word text None m e h = cc
whole_word text (Some n) m e h = number_word text n (seconds_number text n e)

fraction_word : (front back : List ℕ) (a b : Option ℕ) (m : Millis) → seconds_of front ≡ a → fraction_of back ≡ b → with_fraction a b ≡ Some m → IsWord (front ++ (46 ∷ back))
fraction_word front back None b m e f h = cc
fraction_word front back (Some s) None m e f h = cc
fraction_word front back (Some s) (Some t) m e f h =
    let first : IsWord front = number_word front s (seconds_number front s e) in
    let second : IsWord back = digits_word back (fraction_digits back t f) in
    (omega (arith, length-append front (46 ∷ back), first.0), bare_append front (46 ∷ back) first.1 (refl, second.1))

pub millis_word : (text : List ℕ) (time : ℕ) → millis_of text ≡ millis time → IsWord text
unfolding millis_of
millis_word text time is =
    let cases : (b : Bool) → has_byte 46 text ≡ b → (if b then with_fraction (seconds_of (before 46 text)) (fraction_of (after 46 text)) else whole (seconds_of text)) ≡ millis time → IsWord text =
    λ b. elim b as (λ b. has_byte 46 text ≡ b → (if b then with_fraction (seconds_of (before 46 text)) (fraction_of (after 46 text)) else whole (seconds_of text)) ≡ millis time → IsWord text) [
      | true ↦ λ e h. subst IsWord (sym (cut_at text e)) (fraction_word (before 46 text) (after 46 text) (seconds_of (before 46 text)) (fraction_of (after 46 text)) (record { 0 = time }) refl refl h)
      | false ↦ λ e h. whole_word text (seconds_of text) (record { 0 = time }) refl h
    ] in
    cases (has_byte 46 text) refl is

-- a number in decimal digits
decimal_digits : (n : ℕ) → n ≤ 4294967295 → is_digits (decimal n) ≡ true
decimal_digits n low =
    let small : n < 2 ^ 64 = omega arith in
    let some : 0 < length (decimal n) = decimal_nonempty n small in
    let digits : list_all is_ascii_digit (decimal n) ≡ true = digits_decimal own n small in
    grind (arith, nat_tests)

pub number_decimal : (n : ℕ) → n ≤ 4294967295 → number_of (decimal n) ≡ Some n
unfolding number_of
number_decimal n low =
    let small : n < 2 ^ 64 = omega arith in
    let value : digits_value 10 (decimal n) ≡ n = digits_value-decimal own n small in
    let fits : nat_le (digits_value 10 (decimal n)) 4294967295 ≡ true = ap (λ (m : ℕ). nat_le m 4294967295) value ∙ le-leb n 4294967295 low in
    ap (λ (b : Bool). if b && nat_le (digits_value 10 (decimal n)) 4294967295 then Some (digits_value 10 (decimal n)) else None) (decimal_digits n low)
    ∙ ap (λ (b : Bool). if b then Some (digits_value 10 (decimal n)) else None) fits ∙ ap (λ (m : ℕ). Some m) value

pub byte_decimal : (n : ℕ) → n ≤ 255 → byte_of (decimal n) ≡ Some n
byte_decimal n low =
    ap (up_to 255) (number_decimal n (omega arith)) ∙ ap (λ (b : Bool). if b then Some n else None) (le-leb n 255 low)

pub decimal_word : (n : ℕ) → n ≤ 4294967295 → IsWord (decimal n)
decimal_word n low = digits_word (decimal n) (decimal_digits n low)

-- words with a space between each two
last_begins : (b : List ℕ) → IsWord b → Begins (32 ∷ b) (b ∷ []) []
last_begins b w = (32 ∷ [], b, [], ap (λ (t : List ℕ). 32 ∷ t) (sym (append-nil b)), (refl, tt), inl (refl, w.0, w.1), tt, ([], refl, tt))

pub two_words : (a b : List ℕ) → IsWord a → IsWord b → words_of (a ++ (codes " " ++ b)) ≡ Ok (a ∷ b ∷ [])
two_words a b v w = spelled_is_read (a ++ (codes " " ++ b)) (a ∷ b ∷ []) (omega arith) ([], a, 32 ∷ b, refl, tt, inl (refl, v.0, v.1), refl, last_begins b w)

pub three_words : (a b c : List ℕ) → IsWord a → IsWord b → IsWord c → words_of (a ++ (codes " " ++ (b ++ (codes " " ++ c)))) ≡ Ok (a ∷ b ∷ c ∷ [])
three_words a b c v w x =
    spelled_is_read (a ++ (codes " " ++ (b ++ (codes " " ++ c)))) (a ∷ b ∷ c ∷ []) (omega arith)
    ([], a, 32 ∷ (b ++ (32 ∷ c)), refl, tt, inl (refl, v.0, v.1), refl, (32 ∷ [], b, 32 ∷ c, refl, (refl, tt), inl (refl, w.0, w.1), refl, last_begins c x))

pub quoted_words : (a b c : List ℕ) → IsWord a → IsWord c → words_of (a ++ (codes " " ++ (quoted_text b ++ (codes " " ++ c)))) ≡ Ok (a ∷ b ∷ c ∷ [])
quoted_words a b c v x =
    spelled_is_read (a ++ (codes " " ++ (quoted_text b ++ (codes " " ++ c)))) (a ∷ b ∷ c ∷ []) (omega arith)
    ([], a, 32 ∷ (quoted_text b ++ (32 ∷ c)), refl, tt, inl (refl, v.0, v.1), refl, (32 ∷ [], quoted_text b, 32 ∷ c, refl, (refl, tt), inr (is_quoted b), refl, last_begins c x))

-- the last word is in quotes
pub quoted_last : (a b : List ℕ) → IsWord a → words_of (a ++ (codes " " ++ quoted_text b)) ≡ Ok (a ∷ b ∷ [])
quoted_last a b v = spelled_is_read (a ++ (codes " " ++ quoted_text b)) (a ∷ b ∷ []) (omega arith)
    ([], a, 32 ∷ quoted_text b, refl, tt, inl (refl, v.0, v.1), refl, (32 ∷ [], quoted_text b, [], ap (λ (t : List ℕ). 32 ∷ t) (sym (append-nil (quoted_text b))), (refl, tt), inr (is_quoted b), tt, ([], refl, tt)))
