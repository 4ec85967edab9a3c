use Rattle.std.proofs.Common.{string_bytes}
use Rattle.serving.proofs.Kept.{state_is_then}
use Rattle.serving.proofs.keeper.Keeper.state.Goals as goal

pub returns-clause-state : goal.returns-clause-state
returns-clause-state g c =
    state_is_then g.S.Shelf.standing g.S.Shelf.failed c.args.self.now.names.items string_bytes c.args.self.now.shelf c.kept.new.self.shelf c.args.self.now.seat c.kept.new.self.seat
    c.off_for_paths-before.result c.off_for_paths-after.result c.in_ok-kept.kept c.text_of.result c.in_ok-kept.ensures.kept c.text_of.ensures
