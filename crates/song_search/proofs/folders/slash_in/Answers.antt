use Rattle.std.proofs.Common.{arith}
use Rattle.song_search.proofs.Walk.{slash_at, no_slash}
use Rattle.song_search.proofs.folders.slash_in.Goals as goal

pub returns-then-b-eq47 : goal.returns-then-b-eq47
returns-then-b-eq47 c = slash_at _ _ (omega arith) (omega arith) c.loop-offset.invariant

pub returns : goal.returns
returns c = no_slash _ (λ k l. c.loop-offset.invariant k (omega arith))
