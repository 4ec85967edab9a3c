use Rattle.std.proofs.Common.{ap, subst, sym}
use Rattle.mpd_session.specs.Answers.{caller}
use Rattle.mpd_session.specs.Owing.{IsOwedFor}
use Rattle.mpd_session.specs.Requests.{Asking, asking_of}
use Rattle.mpd_session.proofs.asking.ask.Goals as goal

pub returns-in-Whole : goal.returns-in-Whole
returns-in-Whole g c =
    subst
    (λ (one : Asking). IsOwedFor g.S.Shelf.standing g.S.Shelf.failed c.args.asker (caller c.args.seat.now c.args.shelf.now) one c.ask_list.result (caller c.ask_list.new.seat c.ask_list.new.shelf))
    (sym (ap asking_of c.in-Whole.is)) c.ask_list.ensures
