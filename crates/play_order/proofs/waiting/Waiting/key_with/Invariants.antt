use Rattle.std.proofs.Common.{take}
use Rattle.play_order.specs.Waits.{LacksId}
use Rattle.play_order.proofs.waiting.Waiting.key_with.Given as goal

abbrev pub invariant-loop-key : goal.invariant-loop-key
invariant-loop-key l = LacksId l.id (take l.key-index l.self.known)
