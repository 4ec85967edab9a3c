use Rattle.play_order.proofs.ranks.Ranks.draw.Goals as goal

pub invariant_of-self : goal.invariant_of-self
invariant_of-self c = c.make_room.ensures.kept c.self.inside.greatest c.self.invariant

pub draw_all-requires-clause-kept : goal.draw_all-requires-clause-kept
draw_all-requires-clause-kept c = c.make_room.ensures.kept c.self.inside.greatest c.self.invariant
