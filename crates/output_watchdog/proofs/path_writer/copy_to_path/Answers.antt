use Rattle.output_watchdog.proofs.PathWrites.{first_after_all}
use Rattle.output_watchdog.proofs.path_writer.copy_to_path.Goals as goal

pub returns-then-not-copy_piece : goal.returns-then-not-copy_piece
returns-then-not-copy_piece g c = first_after_all _ _ _ _ _ _ c.loop.invariant c.copy_piece.ensures.first
