use Rattle.std.proofs.Common.{◌≡◌, ℕ, filter, not, take}
use Rattle.play_order.specs.Draws.{is_among}
use Rattle.play_order.proofs.played.Played.remove.Given as goal

abbrev pub invariant-loop-id : goal.invariant-loop-id
invariant-loop-id l = l.self ≡ filter (λ (id : ℕ). not (is_among id (take l.id-index l.ids))) l.initial.self
