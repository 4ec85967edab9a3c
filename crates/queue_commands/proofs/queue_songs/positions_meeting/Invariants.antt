use Rattle.std.proofs.Common.{◌≡◌}
use Rattle.queue_commands.specs.Queue.{rows_in}
use Rattle.queue_commands.proofs.Meetings.{meeting_before}
use Rattle.queue_commands.proofs.queue_songs.positions_meeting.Given as goal

abbrev pub invariant-loop-position : goal.invariant-loop-position
invariant-loop-position l = rows_in l.queue l.positions.items ≡ meeting_before l.queue l.case l.filter l.position
