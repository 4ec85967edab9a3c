use Rattle.std.proofs.Common.{arith}
use Rattle.wave.proofs.Known.{known_map}
use Rattle.wave.proofs.Starts.{nothing_within}
use Rattle.wave.proofs.found_chunk.chunk_at.Goals as goal

pub returns-then-saturating_sub-lt8-clause-value : goal.returns-then-saturating_sub-lt8-clause-value
returns-then-saturating_sub-lt8-clause-value g c =
    known_map (g.M.Media.all_bytes c.args.media.now) (λ bytes inside. nothing_within bytes c.args.at c.args.end inside (omega arith)) c.requires
