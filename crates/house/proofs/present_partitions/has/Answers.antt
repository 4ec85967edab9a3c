use Rattle.std.proofs.Common.{ap, ◌∙◌}
use Rattle.std.specs.Prelude.{is_some, Option}
use Rattle.player_state.specs.declared.state.Part.{Part}
use Rattle.house.proofs.Sixteen.{copied_there}
use Rattle.house.proofs.present_partitions.has.Goals as goal

pub returns : goal.returns
returns c = c.is_some.ensures ∙ copied_there c.part.result ∙ ap (λ (o : Option Part). is_some o) c.part.ensures
