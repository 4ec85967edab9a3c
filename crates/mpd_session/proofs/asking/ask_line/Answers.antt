use Rattle.std.proofs.Common.{refl, rules}
use Rattle.std.specs.Option.{option_copied}
use Rattle.mpd_session.specs.Answers.{caller}
use Rattle.mpd_session.proofs.Asks.{line_ran, line_refused, line_unread}
use Rattle.mpd_session.proofs.asking.ask_line.Goals as goal

pub returns-in_default : goal.returns-in_default
returns-in_default g c =
    line_unread g.S.Shelf.standing g.S.Shelf.failed c.args.asker (caller c.args.seat.now c.args.shelf.now) (option_copied c.args.line) _ (search rules)

pub returns-in-Ok-command : goal.returns-in-Ok-command
returns-in-Ok-command g c =
    line_ran g.S.Shelf.standing g.S.Shelf.failed c.args.asker (caller c.args.seat.now c.args.shelf.now) (caller c.command.new.seat c.command.new.shelf) (option_copied c.args.line) c.in-Ok.request c.in-Ok-command.answered
    _ _ c.in-Ok.ensures refl refl c.in-Ok-command.ensures.made c.in-Ok-command.ensures.somewhere

pub returns-in-Err : goal.returns-in-Err
returns-in-Err g c =
    line_refused g.S.Shelf.standing g.S.Shelf.failed c.args.asker (caller c.args.seat.now c.args.shelf.now) (caller c.command.new.seat c.command.new.shelf) (option_copied c.args.line) c.in-Ok.request c.name-name.result.now _ c.in-Err.fault
    c.in-Ok.ensures c.name-name.ensures refl c.in-Err.ensures.fault.0 c.in-Err.ensures.fault.1 c.in-Err.ensures.refused
