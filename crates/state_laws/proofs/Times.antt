-- Times in a song, told and read.
use Rattle.std.proofs.Common.{◌≡◌, ℕ, suc, ◌+◌, ◌-◌, ◌*◌, ◌/◌, ◌%◌, ◌<◌, ◌≤◌, ◌==◌, Bool, true, false, not, cond, min, List, [], ◌∷◌, ◌++◌, length, drop, Option, Some, None, decimal, refl, ap, sym, ◌∙◌, subst, arith, inl, inr, if◌then◌else◌}
use Rattle.std.specs.Char.{is_ascii_digit}
use Rattle.std.specs.Cmp.{first_so, second_so}
use Rattle.std.specs.List.{list_all, position_or_len}
use Rattle.std.proofs.lemmas.Bool.{cases_lt, le-leb, lt-ltb}
use Rattle.std.proofs.lemmas.Bool.Decides.{nat_tests}
use Rattle.std.proofs.lemmas.Fmt.{decimal_digit, digits_decimal, length-decimal-le}
use Rattle.std.proofs.lemmas.List.{append_assoc, drop_at, length-append, take_at}
use Rattle.std.proofs.lemmas.Nat.{div-add-mod', mod_below, mul-le}
use Rattle.mpd_text.specs.Answers.Millis.{fraction_of, millis_of, seconds_of, whole, with_fraction}
use Rattle.mpd_text.specs.Answers.Millis.{millis as told_as}
use Rattle.mpd_text.specs.Answers.Number.{is_digits}
use Rattle.mpd_text.specs.Answers.Number.{number_of}
use Rattle.mpd_text.specs.Answers.Range.{after, before, has_byte}
use Rattle.mpd_text.proofs.Digits.{own}
use Rattle.queue_commands.specs.Playback.{frame_at}
use Rattle.song_db.specs.Lines.{duration_text, millis}
use Rattle.state_laws.specs.Own.{IsJustBefore, OffsetsComeBack}
use Rattle.state_laws.proofs.Words.{number_decimal}

-- a time is told of an offset, the frame of that time is an offset again, and a time is told of that
rounds : (rate time offset frame back : ℕ) → 1000 ≤ rate → time * rate ≤ offset * 1000 → frame * 1000 ≤ time * rate → time * rate < frame * 1000 + 1000
    → back * rate ≤ frame * 1000 → frame * 1000 < back * rate + rate → (frame ≤ offset) × (back ≤ time) × (time ≤ back + 1)
rounds rate time offset frame back fast a b c d e =
    let low : back ≤ time = elim (cases_lt time back) [
      | inl less ↦
          let more : suc time * rate ≤ back * rate = mul-le (suc time) rate back rate (omega arith) (omega arith) in
          let spread : suc time * rate ≡ time * rate + rate = omega arith in
          omega arith
      | inr fine ↦ fine
    ] in
    let high : time ≤ back + 1 = elim (cases_lt (back + 1) time) [
      | inl less ↦
          let more : (back + 2) * rate ≤ time * rate = mul-le (back + 2) rate time rate (omega arith) (omega arith) in
          let spread : (back + 2) * rate ≡ back * rate + 2 * rate = omega arith in
          omega arith
      | inr fine ↦ fine
    ] in
    (omega arith, low, high)

pub offsets_come_back : OffsetsComeBack
offsets_come_back rate offset frames fast small inside =
    let time : ℕ = millis rate offset in
    let frame : ℕ = time * rate / 1000 in
    let back : ℕ = millis rate frame in
    let t = div-add-mod' (offset * 1000) rate in
    let tm = mod_below (offset * 1000) rate (omega arith) in
    let f = div-add-mod' (time * rate) 1000 in
    let fm = mod_below (time * rate) 1000 (omega arith) in
    let b = div-add-mod' (frame * 1000) rate in
    let bm = mod_below (frame * 1000) rate (omega arith) in
    let all : (frame ≤ offset) × (back ≤ time) × (time ≤ back + 1) = rounds rate time offset frame back fast (omega arith) (omega arith) (omega arith) (omega arith) (omega arith) in
    let same : min (frame_at rate time) frames ≡ frame = omega (arith, all.0) in
    subst (IsJustBefore rate offset) (sym same) (record { earlier = all.0; no_later = all.1; told = all.2 })

-- a text of a time is read as this time
no_point : (front back : List ℕ) → list_all is_ascii_digit front ≡ true → position_or_len (λ (c : ℕ). c == 46) (front ++ (46 ∷ back)) ≡ length front
no_point [] back digits = refl
no_point (b ∷ front) back digits =
    let digit : is_ascii_digit b ≡ true = first_so (is_ascii_digit b) (list_all is_ascii_digit front) digits in
    let other : (b == 46) ≡ false = grind (arith, nat_tests) in
    let more : position_or_len (λ (c : ℕ). c == 46) (front ++ (46 ∷ back)) ≡ length front = no_point front back (second_so (is_ascii_digit b) (list_all is_ascii_digit front) digits) in
    let step : 1 + position_or_len (λ (c : ℕ). c == 46) (front ++ (46 ∷ back)) ≡ suc (length front) = omega (arith, more) in
    ap (λ (c : Bool). cond (not c) (1 + position_or_len (λ (c : ℕ). c == 46) (front ++ (46 ∷ back))) 0) other ∙ step

module _ (front back : List ℕ) (digits : list_all is_ascii_digit front ≡ true) where
  point_at : position_or_len (λ (c : ℕ). c == 46) (front ++ (46 ∷ back)) ≡ length front
  point_at = no_point front back digits

  has_point : has_byte 46 (front ++ (46 ∷ back)) ≡ true
  has_point = lt-ltb (position_or_len (λ (c : ℕ). c == 46) (front ++ (46 ∷ back))) (length (front ++ (46 ∷ back))) (omega (arith, point_at, length-append front (46 ∷ back)))

  before_point : before 46 (front ++ (46 ∷ back)) ≡ front
  before_point = take_at front (46 ∷ back) (position_or_len (λ (c : ℕ). c == 46) (front ++ (46 ∷ back))) (sym point_at)

  after_point : after 46 (front ++ (46 ∷ back)) ≡ back
  after_point =
      ap (λ (n : ℕ). drop (n + 1) (front ++ (46 ∷ back))) point_at
      ∙ ap (drop (length front + 1)) (sym (append_assoc front (46 ∷ []) back))
      ∙ drop_at (front ++ (46 ∷ [])) back (length front + 1) (omega (arith, length-append front (46 ∷ [])))

  reads_point : (seconds fraction : ℕ) → seconds_of front ≡ Some seconds → fraction_of back ≡ Some fraction
      → millis_of (front ++ (46 ∷ back)) ≡ told_as (seconds * 1000 + fraction)
  unfolding millis_of
  reads_point seconds fraction first rest =
      let text : List ℕ = front ++ (46 ∷ back) in
      ap (λ (b : Bool). if b then with_fraction (seconds_of (before 46 text)) (fraction_of (after 46 text)) else whole (seconds_of text)) has_point
      ∙ ap (λ (t : List ℕ). with_fraction (seconds_of t) (fraction_of (after 46 text))) before_point
      ∙ ap (λ (t : List ℕ). with_fraction (seconds_of front) (fraction_of t)) after_point
      ∙ ap (λ (o : Option ℕ). with_fraction o (fraction_of back)) first
      ∙ ap (λ (o : Option ℕ). with_fraction (Some seconds) o) rest

three_digits : (a b c : ℕ) → a < 10 → b < 10 → c < 10 → fraction_of ((48 + a) ∷ (48 + b) ∷ (48 + c) ∷ []) ≡ Some (a * 100 + b * 10 + c)
unfolding fraction_of
three_digits a b c x y z =
    let digits : is_digits ((48 + a) ∷ (48 + b) ∷ (48 + c) ∷ []) ≡ true = grind (arith, nat_tests) in
    let value : (48 + a - 48) * 100 + (48 + b - 48) * 10 + (48 + c - 48) ≡ a * 100 + b * 10 + c = omega arith in
    ap (λ (t : Bool). if t then Some ((48 + a - 48) * 100 + (48 + b - 48) * 10 + (48 + c - 48)) else None) digits ∙ ap (λ (n : ℕ). Some n) value

seconds_decimal : (n : ℕ) → n < 1000000000 → seconds_of (decimal n) ≡ Some n
unfolding seconds_of
seconds_decimal n low =
    let size : length (decimal n) ≤ 9 = length-decimal-le 9 n (omega arith) (omega arith) (omega arith) in
    ap (λ (b : Bool). if b then number_of (decimal n) else None) (le-leb (length (decimal n)) 9 size) ∙ number_decimal n (omega arith)

pub duration_told : (time : ℕ) → time < 1000000000000 → millis_of (duration_text time) ≡ told_as time
duration_told time low =
    let a : ℕ = time / 100 % 10 in
    let b : ℕ = time / 10 % 10 in
    let c : ℕ = time % 10 in
    let digits : decimal a ++ (decimal b ++ decimal c) ≡ (48 + a) ∷ (48 + b) ∷ (48 + c) ∷ [] =
    ap (λ (x : List ℕ). x ++ (decimal b ++ decimal c)) (decimal_digit a (omega arith))
    ∙ ap (λ (x : List ℕ). (48 + a) ∷ (x ++ decimal c)) (decimal_digit b (omega arith))
    ∙ ap (λ (x : List ℕ). (48 + a) ∷ (48 + b) ∷ x) (decimal_digit c (omega arith)) in
    let seconds : ℕ = time / 1000 in
    let few : seconds < 1000000000 = omega arith in
    let front : list_all is_ascii_digit (decimal seconds) ≡ true = digits_decimal own seconds (omega arith) in
    let sum : seconds * 1000 + (a * 100 + b * 10 + c) ≡ time = omega arith in
    ap (λ (x : List ℕ). millis_of (decimal seconds ++ (46 ∷ x))) digits
    ∙ reads_point (decimal seconds) ((48 + a) ∷ (48 + b) ∷ (48 + c) ∷ []) front seconds (a * 100 + b * 10 + c) (seconds_decimal seconds few) (three_digits a b c (omega arith) (omega arith) (omega arith))
    ∙ ap told_as sum
