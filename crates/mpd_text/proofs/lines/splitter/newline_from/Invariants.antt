use Rattle.std.proofs.Common.{◌≤◌, ◌-◌, take, drop, length}
use Rattle.mpd_text.specs.Lines.Cut.{HasNoNewline}
use Rattle.mpd_text.proofs.lines.splitter.newline_from.Given as goal

abbrev pub invariant-loop-i : goal.invariant-loop-i
invariant-loop-i l = record { after_start : l.start ≤ l.i; within : l.i ≤ length l.bytes; none : HasNoNewline (take (l.i - l.start) (drop l.start l.bytes)) }

abbrev pub decreases-loop-i : goal.decreases-loop-i
decreases-loop-i l = length l.bytes - l.i
