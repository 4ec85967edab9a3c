use Rattle.std.proofs.Common.{string_bytes}
use Rattle.serving.proofs.Kept.{look_is_then}
use Rattle.serving.proofs.keeper.Keeper.look.Goals as goal

pub returns-in-Ok-clause-state : goal.returns-in-Ok-clause-state
returns-in-Ok-clause-state g c =
    look_is_then g.S.Shelf.standing g.S.Shelf.failed c.args.self.now.names.items c.args.self.now.shelf c.state.new.self.shelf c.write.new.self.shelf c.args.self.now.seat c.state.new.self.seat c.write.new.self.seat
    (string_bytes c.in-Ok.text) (string_bytes c.write.new.self.file.written) c.write.result c.in-Ok.ensures.state c.write.ensures.written c.write.ensures.others
