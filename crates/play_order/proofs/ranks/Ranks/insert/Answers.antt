use Rattle.std.proofs.Common.{◌≡◌, ◌∙◌, ap, length, arith}
use Rattle.play_order.proofs.Inserting.{length-new_ids}
use Rattle.play_order.proofs.ranks.Ranks.insert.Goals as goal

pub invariant_of-self : goal.invariant_of-self
invariant_of-self c = c.make_room.ensures.kept c.self.inside.greatest c.self.invariant

pub invariant_of-self-in_err-ids : goal.invariant_of-self-in_err-ids
invariant_of-self-in_err-ids c = c.make_room.ensures.kept c.self.inside.greatest c.self.invariant

pub draw_all-requires-clause-kept : goal.draw_all-requires-clause-kept
draw_all-requires-clause-kept c = c.make_room.ensures.kept c.self.inside.greatest c.self.invariant

pub draw_all-requires-clause-room : goal.draw_all-requires-clause-room
draw_all-requires-clause-room c =
    let size : length c.items-count.result.now ≡ length c.args.songs = ap length c.items-count.ensures in
    let ids : length c.deref.result.now ≡ length c.args.songs = ap length c.deref.ensures.value ∙ ap length c.in_ok-ids.ensures.ids ∙ length-new_ids c.args.queue.now c.args.songs in
    omega (arith, size, ids, c.in_ok-make_room.ensures.room)

pub draw_all-requires-clause-spare : goal.draw_all-requires-clause-spare
draw_all-requires-clause-spare c =
    let size : length c.items-count.result.now ≡ length c.args.songs = ap length c.items-count.ensures in
    let ids : length c.deref.result.now ≡ length c.args.songs = ap length c.deref.ensures.value ∙ ap length c.in_ok-ids.ensures.ids ∙ length-new_ids c.args.queue.now c.args.songs in
    omega (arith, size, ids, c.in_ok-make_room.ensures.spare)
