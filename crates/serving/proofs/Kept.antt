-- What is read of the player, and kept.
use Rattle.std.proofs.Common.{◌≡◌, ℕ, Bool, true, List, Result, Ok, Err, IfOk, sym, subst}
use Rattle.std.specs.Global.{Vec}
use Rattle.house.specs.Seats.{SeatCount}
use Rattle.kept_state.specs.Partitions.{IsTurnedOn, Pairwise}
use Rattle.kept_state.specs.Players.{player_text}
use Rattle.kept_state.specs.declared.partitions.KeptPartition.{KeptPartition}
use Rattle.serving.specs.Keeping.{IsKeptThen, IsStateThen, IsTextOf}
use Rattle.shelf.specs.Calls.{Call}
use Rattle.shelf.specs.Maps.{Standing}

-- outputs are switched on twice
pub text_is_of : {A E : Type 0} (bytes : A → List ℕ) (before after : List Bool) (kept between shown seen : List KeptPartition) (result : Result A E)
    → Pairwise (IsTurnedOn before) kept between → Pairwise (IsTurnedOn after) between shown → seen ≡ shown
    → IfOk result (λ text. bytes text ≡ player_text seen) → IfOk result (λ text. IsTextOf before after kept (bytes text))
text_is_of bytes before after kept between shown seen (Ok text) once twice same told =
    (between, shown, once, twice, subst (λ (ps : List KeptPartition). bytes text ≡ player_text ps) same told)
text_is_of bytes before after kept between shown seen (Err e) once twice same told = told

module _ {S : Type 0} (standing : S → Standing) (failed : S → S → Call → Type 0) (names : List (List ℕ)) where
  pub state_is_then : {A E : Type 0} (bytes : A → List ℕ) (old new : S) (seat seat_then : SeatCount) (before after : List Bool) (kept : Vec KeptPartition) (result : Result A E)
      → IsKeptThen standing failed old new seat seat_then names kept → IfOk result (λ text. IsTextOf before after kept.items (bytes text))
      → IfOk result (λ text. IsStateThen standing failed old new seat seat_then names (bytes text))
  state_is_then bytes old new seat seat_then before after kept (Ok text) answered told = (kept, answered, (before, after, told))
  state_is_then bytes old new seat seat_then before after kept (Err e) answered told = told

  -- a write leaves the client as it is
  pub look_is_then : (old between new : S) (seat seat_between seat_then : SeatCount) (text written : List ℕ) (is_written : Bool)
      → IsStateThen standing failed old between seat seat_between names text → (is_written ≡ true → written ≡ text)
      → (seat_then ≡ seat_between) × (new ≡ between) → is_written ≡ true → IsStateThen standing failed old new seat seat_then names written
  look_is_then old between new seat seat_between seat_then text written is_written told wrote same is =
      subst (λ (bytes : List ℕ). IsStateThen standing failed old new seat seat_then names bytes) (sym (wrote is))
      (subst (λ (shelf : S). IsStateThen standing failed old shelf seat seat_then names text) (sym same.1)
      (subst (λ (after : SeatCount). IsStateThen standing failed old between seat after names text) (sym same.0) told))
