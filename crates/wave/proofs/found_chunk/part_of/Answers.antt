use Rattle.std.proofs.Common.{arith}
use Rattle.wave.proofs.Starts.{starts}
use Rattle.wave.proofs.found_chunk.part_of.Goals as goal

pub returns-clause-starts : goal.returns-clause-starts
returns-clause-starts c = λ bytes inside header.
    starts bytes c.args.header.name c.args.header.size c.args.at c.args.end c.min.result c.saturating_add.result inside (omega arith) (omega arith) header.1 header.2 (omega arith) (omega arith)
