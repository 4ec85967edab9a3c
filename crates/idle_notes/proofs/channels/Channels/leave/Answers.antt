use Rattle.std.proofs.Common.{◌∙◌, ◌==◌, not, map, ap, rules}
use Rattle.std.proofs.lemmas.Fn.{filter_same}
use Rattle.idle_notes.specs.declared.channels.Member.{Member}
use Rattle.idle_notes.specs.Channels.{data_of, left}
use Rattle.idle_notes.proofs.Members.{left-data}
use Rattle.idle_notes.proofs.channels.Channels.leave.Goals as goal

pub returns : goal.returns
returns c =
    ap (map data_of) (filter_same _ (λ (m : Member). not (m.client == c.args.client)) _ (λ x b f h. search rules) _ _ c.retain.ensures.filtered)
    ∙ left-data c.args.client c.self.inside.members.items ∙ ap (left c.args.client) c.self.view_is
