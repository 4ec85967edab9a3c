use Rattle.std.proofs.Common.{inl, ◌+◌, ◌≤◌, ◌∙◌, ap, length, refl, rules, vec_capacity, vec_len}
use Rattle.partition.specs.History.{Chronicle}
use Rattle.house.proofs.ListRooms.{room_run, room_stop}
use Rattle.house.specs.Lists.{unbegun}
use Rattle.house.proofs.player.Core.run_list.Goals as goal

pub returns-clause-room : goal.returns-clause-room
returns-clause-room g c =
    let p : Chronicle = c.begin.new.self.counted in
    let room : vec_len c.begin.new.self.waiting + length p.present.clients ≤ vec_capacity c.begin.new.self.waiting = search rules in
    room_run g.S.Shelf.standing g.S.Shelf.failed p c.run_list.new.self c.args.shelf.now c.run_list.new.shelf c.begin.new.seat.number c.args.client c.args.form c.args.list.items
    c.run_list.result (vec_len c.begin.new.self.waiting) (vec_capacity c.begin.new.self.waiting) room c.run_list.ensures.ok

pub returns-clause-room_then : goal.returns-clause-room_then
returns-clause-room_then g c =
    let p : Chronicle = c.begin.new.self.counted in
    let room : vec_len c.begin.new.self.waiting + length p.present.clients ≤ vec_capacity c.begin.new.self.waiting = search rules in
    room_stop g.S.Shelf.standing g.S.Shelf.failed p c.run_list.new.self c.args.shelf.now c.run_list.new.shelf c.begin.new.seat.number c.args.client c.args.form c.args.list.items
    c.run_list.result (vec_len c.begin.new.self.waiting) (vec_capacity c.begin.new.self.waiting) room c.run_list.ensures.err

pub returns-then-is_err-clause-stopped : goal.returns-then-is_err-clause-stopped
returns-then-is_err-clause-stopped g c =
    (c.args.self.now.counted, c.begin.ensures.found, (c.args.self.now.counted, inl (c.unbegun.ensures ∙ ap unbegun c.deref.ensures.value, (refl, refl))))
