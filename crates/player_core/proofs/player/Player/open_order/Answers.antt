use Rattle.std.proofs.Common.{◌≡◌, ◌∙◌, ap, sym, is_some, ℕ, List, Option, Bool}
use Rattle.song_queue.specs.declared.entry.Entry.{Entry}
use Rattle.song_queue.specs.State.{queue_of}
use Rattle.play_order.specs.Draws.{RoundState}
use Rattle.play_order.specs.Order.{opening_of}
use Rattle.play_order.specs.Ends.{id_of}
use Rattle.player_core.specs.declared.state.Playback.TheVariants.{Play}
use Rattle.player_core.specs.Fields.{state_in}
use Rattle.player_core.specs.Limits.{ends_by_hand}
use Rattle.player_core.specs.Player.{PlayerState, starts_by_hand}
use Rattle.player_core.specs.Steps.{open_order}
use Rattle.player_core.proofs.Openings.{id-some}
use Rattle.player_core.proofs.player.Player.open_order.Goals as goal

pub start_by_hand-requires : goal.start_by_hand-requires
start_by_hand-requires c =
    let queue : List Entry = queue_of c.args.queue.now in
    let opens : is_some c.in_ok-starts.starts ≡ c.opens.result =
    ap (λ (o : Option ℕ). is_some o) c.in_ok-starts.ensures.starts ∙ id-some (opening_of c.self.inside.modes c.self.inside.round queue)
    ∙ ap (λ (p : PlayerState). is_some (opening_of p.modes p.round queue)) c.self.view_is
    ∙ sym c.opens.ensures in
    ap (λ (b : Bool). ends_by_hand (state_in c.self.inside) b) opens ∙ ap (λ (p : PlayerState). ends_by_hand p c.opens.result) c.self.view_is ∙ sym c.ends_by_hand.ensures ∙ c.if-ends_by_hand.false

pub returns-clause-ok : goal.returns-clause-ok
returns-clause-ok c =
    let queue : List Entry = queue_of c.args.queue.now in
    let entry : Option Entry = opening_of c.self.inside.modes c.self.inside.round queue in
    c.start_by_hand.ensures
    ∙ ap (λ (o : Option ℕ). starts_by_hand (record (state_in c.self.inside) { round = c.opening.new.self }) Play o 0) c.in_ok-starts.ensures.starts
    ∙ ap (λ (r : RoundState). starts_by_hand (record (state_in c.self.inside) { round = r }) Play (id_of entry) 0) c.in_ok-starts.ensures.round
    ∙ ap (λ (p : PlayerState). open_order p queue) c.self.view_is
