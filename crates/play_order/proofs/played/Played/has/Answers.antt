use Rattle.std.proofs.Common.{◌∙◌, ap, ℕ, List, nat_eq}
use Rattle.std.specs.HashMap.{get}
use Rattle.play_order.specs.Draws.{is_among}
use Rattle.play_order.proofs.Plays.{found-among}
use Rattle.play_order.proofs.played.Played.has.Goals as goal

pub returns : goal.returns
returns c =
    c.contains_key.ensures ∙ found-among (get nat_eq c.self.inside.found c.args.id) c.args.id c.self.inside.order.entries (c.self.invariant.1 c.args.id)
    ∙ ap (λ (ids : List ℕ). is_among c.args.id ids) c.self.view_is
