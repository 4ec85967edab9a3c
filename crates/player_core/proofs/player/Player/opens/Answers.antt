use Rattle.std.proofs.Common.{◌∙◌, ap, is_some, List}
use Rattle.song_queue.specs.declared.entry.Entry.{Entry}
use Rattle.song_queue.specs.State.{queue_of}
use Rattle.play_order.specs.Order.{opening_of}
use Rattle.player_core.specs.Player.{PlayerState}
use Rattle.player_core.proofs.Openings.{opening-some}
use Rattle.player_core.proofs.player.Player.opens.Goals as goal

pub returns : goal.returns
returns c =
    let queue : List Entry = queue_of c.args.queue.now in
    c.starts_after_removal.ensures ∙ opening-some c.self.inside.modes c.self.inside.round queue ∙ ap (λ (p : PlayerState). is_some (opening_of p.modes p.round queue)) c.self.view_is
