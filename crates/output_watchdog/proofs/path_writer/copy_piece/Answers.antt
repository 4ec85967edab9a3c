use Rattle.std.proofs.Common.{take, rules}
use Rattle.output_watchdog.proofs.PathWrites.{first_of_piece}
use Rattle.output_watchdog.proofs.path_writer.copy_piece.Goals as goal

pub returns-else-written-count-clause-first : goal.returns-else-written-count-clause-first
returns-else-written-count-clause-first g c =
    first_of_piece _ _ (take c.pop_partial_slice-count.result c.pop_partial_slice-count.new.slice) _ _ c.write_piece-written.result c.pop_partial_slice-count.ensures.received.1 (search rules) c.write_piece-written.ensures.bytes
