-- What was read so far is at the start of the buffer.
use Rattle.std.proofs.Common.{◌≡◌, ◌≤◌, ◌-◌, length, take}
use Rattle.std.specs.Io.KnownBytes.{Consumes}
use Rattle.counted_devices.specs.CallCounts.{NoFewer}
use Rattle.wave.specs.Devices.{KeepsTo}
use Rattle.wave.proofs.device.fill.Given as goal

abbrev pub invariant-loop-got : goal.invariant-loop-got
invariant-loop-got g l = record {
  within : l.got ≤ length l.buf;
  bytes : Consumes (g.M.Read.remaining l.initial.media) (g.M.Read.remaining l.media) (take l.got l.buf);
  stays : g.M.Media.all_bytes l.media ≡ g.M.Media.all_bytes l.initial.media;
  keeps : KeepsTo l.limit (g.M.Failing.call_counts l.initial.media) (g.M.Failing.call_counts l.media);
  calm : NoFewer (g.M.Failing.call_counts l.initial.media) (g.M.Failing.call_counts l.media);
}

abbrev pub decreases-loop-got : goal.decreases-loop-got
decreases-loop-got g l = length l.buf - l.got
