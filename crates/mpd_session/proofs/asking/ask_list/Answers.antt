use Rattle.std.proofs.Common.{refl, rules}
use Rattle.mpd_session.specs.Answers.{caller}
use Rattle.mpd_session.proofs.Asks.{empty_list, no_lines, list_ran, list_stopped}
use Rattle.mpd_session.proofs.asking.ask_list.Goals as goal

pub returns-then-is_empty : goal.returns-then-is_empty
returns-then-is_empty g c =
    empty_list g.S.Shelf.standing g.S.Shelf.failed c.args.asker (caller c.args.seat.now c.args.shelf.now) c.args.list.now _ (no_lines _ _ _ c.if-is_empty.true c.is_empty.ensures c.items-lines.ensures) refl

pub returns-in-Ok : goal.returns-in-Ok
returns-in-Ok g c =
    list_ran g.S.Shelf.standing g.S.Shelf.failed c.args.asker (caller c.args.seat.now c.args.shelf.now) (caller c.list.new.seat c.list.new.shelf) c.args.list.now c.read_all-requests.result.0.items c.read_all-requests.result.1 c.in-Ok.answered
    _ _ (search rules) refl refl c.in-Ok.ensures.made c.in-Ok.ensures.somewhere

pub returns-in-Err : goal.returns-in-Err
returns-in-Err g c =
    list_stopped g.S.Shelf.standing g.S.Shelf.failed c.args.asker (caller c.args.seat.now c.args.shelf.now) (caller c.list.new.seat c.list.new.shelf) c.args.list.now c.read_all-requests.result.0.items c.read_all-requests.result.1 c.in-Err.fault
    _ (search rules) (search rules) c.in-Err.ensures.done c.in-Err.ensures.stopped
