use Rattle.std.proofs.Common.{◌≡◌, ◌*◌, ◌≤◌, length, take}
use Rattle.output_ring.specs.Frames.{bytes_of, heard}
use Rattle.output_ring.specs.Runs.{cuts_of, paired}
use Rattle.output_ring.proofs.outgoing.lay_out.Given as goal

abbrev pub invariant-loop-run : goal.invariant-loop-run
invariant-loop-run l = record {
  passed : l.passed ≡ length (cuts_of (take l.run-index l.runs));
  few : l.count ≤ l.passed;
  count : l.count ≡ length (heard l.live (paired (cuts_of (take l.run-index l.runs)) (take l.passed l.frames)));
  bytes : take (4 * l.count) l.bytes ≡ bytes_of (heard l.live (paired (cuts_of (take l.run-index l.runs)) (take l.passed l.frames)));
  length : length l.bytes ≡ length l.initial.bytes;
}
