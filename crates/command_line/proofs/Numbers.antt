-- What is read of arguments that were taken.
use Rattle.std.proofs.Common.{◌≡◌, ◌∙◌, ◌≤◌, ℕ, List, arith, refl, sym, ap, Option, Some, None, Result, Ok, le-leb}
use Rattle.std.specs.Prelude.{pos, option_map}
use Rattle.std.specs.Borrow.{Bor}
use Rattle.std.specs.Str.Parse.{ParsesUnsigned}
use Rattle.clap.specs.Values.{IsSignedIn}
use Rattle.clap.specs.Matches.{ReadsOne}
use Rattle.clap.specs.Lexer.{without_minus}
use Rattle.clap.specs.Walk.{Text}
use Rattle.clap.proofs.CallerReads.{signed_reads}
use Rattle.song_db.specs.Lines.{rate_of}
use Rattle.command_line.specs.Programs.{number_of}

pub some≢none : {X : Type 0} (r : Option X) (x : X) → r ≡ Some x → r ≡ None → ⊥
some≢none r x a b = let e : Some x ≡ None = sym a ∙ b in cc

some_same : {X : Type 0} (r : Option X) (x y : X) → r ≡ Some x → r ≡ Some y → x ≡ y
some_same r x y a b = let e : Some x ≡ Some y = sym a ∙ b in cc

-- the number that a getter gave
pub record IsRead (text : Text) (r : Option ℕ) : Type 0 where
  pub number : ℕ
  pub is : r ≡ Some number
  pub least : 8000 ≤ number
  pub most : number ≤ 192000
  pub says : number_of (without_minus text) ≡ number

module _ (E : Type 0) (G : List ℕ → Result ℕ E → Type 0) (only : (u : List ℕ) (x : Result ℕ E) → G u x → ParsesUnsigned 32 10 u x) where
  says_number : (t : Text) (r : Option ℕ) (n : ℕ) → ReadsOne G t r → r ≡ Some n → number_of t ≡ n
  says_number t (Some m) n read is =
      let parsed = only t (Ok m) read in
      sym parsed.1 ∙ some_same (Some m) m n refl is
  says_number t None n read is = absurd (some≢none None n is refl)

  pub is_read : (text : Text) (r : Option ℕ) → ReadsOne G (without_minus text) r → IsSignedIn (pos 8000) (pos 192000) text → IsRead text r
  is_read text r read range =
      let got = signed_reads E G 32 8000 192000 text r read only (omega arith) range in
      record { number = got.0; is = got.1; least = got.2; most = got.3; says = says_number (without_minus text) r got.0 read got.1 }

pub rate_made : (frames : ℕ) → 8000 ≤ frames → frames ≤ 192000 → rate_of frames ≡ Some frames
rate_made frames least most = rw (le-leb _ _ least, le-leb _ _ most) refl

-- the rate of a number that was read
pub rate_in : (text : Text) (r made : Option ℕ) (frames : ℕ) → IsRead text r → r ≡ Some frames → made ≡ rate_of frames → made ≡ Some frames
rate_in text r made frames read is of =
    let same : read.number ≡ frames = some_same r read.number frames read.is is in
    let least : 8000 ≤ frames = omega (arith, same, read.least) in
    let most : frames ≤ 192000 = omega (arith, same, read.most) in
    of ∙ rate_made frames least most

-- a rate that was made is the number that the text says
pub rate_said : (text : Text) (r made : Option ℕ) (frames rate : ℕ) (one : Option Text) → IsRead text r → r ≡ Some frames → made ≡ rate_of frames → made ≡ Some rate
    → one ≡ Some (without_minus text) → option_map number_of one ≡ Some rate
rate_said text r made frames rate one read is of gave text_is =
    let same : read.number ≡ frames = some_same r read.number frames read.is is in
    let rated : frames ≡ rate = some_same made frames rate (rate_in text r made frames read is of) gave in
    ap (option_map number_of) text_is ∙ ap Some (read.says ∙ same ∙ rated)

-- a text that is there is given
pub text_given : (s : Option (Bor Text)) (text : Text) → option_map (λ b. b.now) s ≡ Some text → s ≡ None → ⊥
text_given s text is none = some≢none (option_map (λ b. b.now) s) text is (ap (option_map (λ b. b.now)) none)
