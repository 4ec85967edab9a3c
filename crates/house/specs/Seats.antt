-- What a contract sees of a seat.
use Rattle.std.specs.Prelude.{ℕ, ◌≡◌, ◌+◌, ◌<◌, List, [], ◌∷◌, ◌++◌, nat_lt, if◌then◌else◌}
use Rattle.house.specs.declared.token.Token.{Token}
use Rattle.house.specs.declared.token.Token.TheVariants.{First, Second, Third, Fourth, Crew}

-- a seat's number, and how many events its caller made with it
pub record SeatCount : Type 0 where
  pub number : ℕ
  pub made : ℕ

abbrev pub seat_count : ℕ → ℕ → SeatCount
seat_count number made = record { number = number; made = made }

-- a seat of a caller, with which no event was made yet
abbrev pub IsUnused : SeatCount → Type 0
IsUnused p = (p.number < 4) × (p.made ≡ 0)

-- behind these seats those of the four callers, of which none made an event yet
abbrev pub with_four_seats : List SeatCount → List SeatCount
with_four_seats seats = (((seats ++ seat_count 0 0 ∷ []) ++ seat_count 1 0 ∷ []) ++ seat_count 2 0 ∷ []) ++ seat_count 3 0 ∷ []

-- a seat after so many events more; those of the house's own threads are not counted in their seats
abbrev pub after_events : SeatCount → ℕ → SeatCount
after_events p events = if nat_lt p.number 4 then seat_count p.number (p.made + events) else p

module _ {L : Type 0} where
  abbrev pub number_of : Token L → ℕ
  number_of (First s) = 0
  number_of (Second s) = 1
  number_of (Third s) = 2
  number_of (Fourth s) = 3
  number_of (Crew n) = 4 + n

  -- the seat's share has the one part of its ledger, and this amount
  abbrev pub IsWhole : ℕ → Token L → Type 0
  IsWhole made (First s) = (s.parts ≡ 1) × (s.amount ≡ made)
  IsWhole made (Second s) = (s.parts ≡ 1) × (s.amount ≡ made)
  IsWhole made (Third s) = (s.parts ≡ 1) × (s.amount ≡ made)
  IsWhole made (Fourth s) = (s.parts ≡ 1) × (s.amount ≡ made)
  IsWhole made (Crew n) = n < 12
