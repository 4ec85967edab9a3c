-- The limit of a seat's events comes before all others.
use Rattle.std.proofs.Common.{◌≡◌, inl, ℕ, true, nat_le, refl}
use Rattle.std.specs.Prelude.{slice_index_or}
use Rattle.player_events.specs.declared.event.Event.{Event}
use Rattle.partition.specs.declared.partition.PartitionFault.TheVariants.{AtLimit}
use Rattle.partition.specs.Image.{Image}
use Rattle.partition.specs.Refusals.{MayRefuse}
use Rattle.partition.specs.Step.{limit_of}

pub own_limit : (seat : ℕ) (i : Image) (event : Event) → nat_le 9223372036854775807 (slice_index_or i.shared.made seat 0) ≡ true → MayRefuse (limit_of seat i event) AtLimit
unfolding limit_of
own_limit seat i event full = rw full (inl refl)
