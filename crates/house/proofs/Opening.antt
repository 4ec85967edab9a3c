-- The free seats and the books of a new house.
use Rattle.std.proofs.Common.{◌≡◌, ℕ, zero, suc, ◌<◌, List, [], ◌∷◌, refl, ap, sym, subst, ◌∙◌, arith}
use Rattle.std.specs.Prelude.{All, slice_index_or}
use Rattle.house.specs.Seats.{IsUnused, SeatCount, seat_count, with_four_seats}

abbrev four : List SeatCount
four = seat_count 0 0 ∷ seat_count 1 0 ∷ seat_count 2 0 ∷ seat_count 3 0 ∷ []

free_at : (k : ℕ) (d : SeatCount) → k < 4 → IsUnused (slice_index_or four k d)
free_at zero d low = (omega arith, refl)
free_at (suc zero) d low = (omega arith, refl)
free_at (suc (suc zero)) d low = (omega arith, refl)
free_at (suc (suc (suc zero))) d low = (omega arith, refl)
free_at (suc (suc (suc (suc k)))) d low = absurd (omega (arith, low))

pub free_seats : (items before : List SeatCount) → before ≡ [] → items ≡ with_four_seats before → All IsUnused items
free_seats items before none are =
    let is : items ≡ four = are ∙ ap with_four_seats none in
    subst (All IsUnused) (sym is) free_at
