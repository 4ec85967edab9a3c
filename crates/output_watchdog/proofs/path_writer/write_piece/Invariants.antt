use Rattle.std.proofs.Common.{◌≤◌, length, take}
use Rattle.std.specs.Io.KnownBytes.{Appends}
use Rattle.output_watchdog.proofs.path_writer.write_piece.Given as goal

abbrev pub invariant-loop : goal.invariant-loop
invariant-loop g l = record {
  most : l.done ≤ length l.piece;
  bytes : Appends (g.W.Write.contents l.initial.path) (g.W.Write.contents l.path) (take l.done l.piece);
}
