use Rattle.std.proofs.Common.{List, ap, rules}
use Rattle.player_state.specs.declared.state.Client.{Client}
use Rattle.partition.specs.Image.{Image, image_of_state}
use Rattle.partition.proofs.Lending.{wanting}
use Rattle.partition.proofs.Recorded.{records_before, refuses_before}
use Rattle.partition.proofs.happen.record_event.Goals as goal

pub returns-then-is_err-clause-refused : goal.returns-then-is_err-clause-refused
returns-then-is_err-clause-refused g c =
    wanting g.S.Shelf.standing g.S.Shelf.failed c.args.seat (image_of_state c.args.state.now) c.args.shelf.now c.args.event

pub returns-in-Ok-clause-ok : goal.returns-in-Ok-clause-ok
returns-in-Ok-clause-ok g c =
    let i : Image = image_of_state c.args.state.now in
    records_before g.S.Shelf.standing g.S.Shelf.failed (record i { clients = c.reserve.new.clients.items }) i _ c.args.log.now.items _ c.args.shelf.now c.apply_event.new.shelf c.args.seat c.args.event c.apply_event.new.event _
    (ap (λ (ks : List Client). record i { clients = ks }) c.reserve.ensures.clients) c.apply_event.ensures.event (search rules) (search rules) (search rules) (search rules) (search rules) (search rules) (search rules)

pub returns-in-Err-clause-refused : goal.returns-in-Err-clause-refused
returns-in-Err-clause-refused g c =
    let i : Image = image_of_state c.args.state.now in
    refuses_before g.S.Shelf.standing g.S.Shelf.failed (record i { clients = c.reserve.new.clients.items }) i c.args.shelf.now c.apply_event.new.shelf c.args.seat c.args.event c.apply_event.new.event c.in-Err.fault
    (ap (λ (ks : List Client). record i { clients = ks }) c.reserve.ensures.clients) c.apply_event.ensures.event (search rules) (search rules) (search rules) (search rules)
