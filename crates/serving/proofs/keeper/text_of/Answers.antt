use Rattle.std.proofs.Common.{string_bytes}
use Rattle.serving.proofs.Kept.{text_is_of}
use Rattle.serving.proofs.keeper.text_of.Goals as goal

pub returns : goal.returns
returns c =
    text_is_of string_bytes c.args.before c.args.after c.args.kept.items c.in_ok-between.between.items c.in_ok-shown.shown.items c.deref.result.now
    c.player_text.result c.in_ok-between.ensures c.in_ok-shown.ensures c.deref.ensures.value c.player_text.ensures
