use Rattle.std.proofs.Common.{◌≡◌, ◌≤◌, length, None, false, true}
use Rattle.mpd_session.specs.Answers.{Answers, caller}
use Rattle.mpd_session.specs.Owing.{is_nothing}
use Rattle.mpd_session.specs.Requests.{is_over}
use Rattle.mpd_session.specs.Devices.{NeverFails}
use Rattle.mpd_session.specs.Sessions.{BlamesWriter, held_of, Runs}
use Rattle.mpd_session.proofs.conversation.Conversation.run.Given as goal

abbrev pub invariant-loop-self : goal.invariant-loop-self
invariant-loop-self g l =
    Runs (Answers g.S.Shelf.standing g.S.Shelf.failed l.initial.self.asker) (held_of l.initial.self) (caller l.initial.seat l.initial.shelf) (g.O.Write.contents l.initial.writer) (held_of l.self) (caller l.seat l.shelf) (g.O.Write.contents l.writer)
    × (is_nothing l.self.owed ≡ true)
    × (l.self.asker ≡ l.initial.self.asker)
    × ((g.O.Failing.call_counts l.initial.writer).failures ≤ (g.O.Failing.call_counts l.writer).failures)
    × BlamesWriter l.self.ended (g.O.Failing.call_counts l.initial.writer) (g.O.Failing.call_counts l.writer)
    × (l.self.ended ≡ None → is_over l.self.gatherer ≡ false)
    × (l.self.ended ≡ None → NeverFails (g.O.Failing.call_counts l.initial.writer) (g.O.Failing.call_counts l.writer))

abbrev pub decreases-loop-self : goal.decreases-loop-self
decreases-loop-self g l = length l.self.lines.items
