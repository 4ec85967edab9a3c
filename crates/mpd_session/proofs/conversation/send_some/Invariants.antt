use Rattle.std.proofs.Common.{◌≡◌, ◌≤◌, ◌-◌, length, take}
use Rattle.std.specs.Io.KnownBytes.{Appends}
use Rattle.mpd_session.proofs.conversation.send_some.Given as goal

abbrev pub invariant-loop-count : goal.invariant-loop-count
invariant-loop-count g l = (l.count ≤ length l.bytes) × Appends (g.O.Write.contents l.initial.writer) (g.O.Write.contents l.writer) (take l.count l.bytes) × ((g.O.Failing.call_counts l.initial.writer).failures ≤ (g.O.Failing.call_counts l.writer).failures)
    × ((g.O.Failing.call_counts l.writer).failures ≡ (g.O.Failing.call_counts l.initial.writer).failures)
    × ((g.O.Failing.call_counts l.writer).blocked ≡ (g.O.Failing.call_counts l.initial.writer).blocked)

abbrev pub decreases-loop-count : goal.decreases-loop-count
decreases-loop-count g l = length l.bytes - l.count
