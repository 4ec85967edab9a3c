use Rattle.std.proofs.Common.{rules}
use Rattle.std.proofs.lemmas.Fn.{filter_same}
use Rattle.connected_clients.specs.Clients.{is_other}
use Rattle.connected_clients.proofs.clients.leave.Goals as goal

pub returns : goal.returns
returns c = filter_same _ (is_other c.args.number) _ (λ x b f h. search rules) _ _ c.retain.ensures.filtered
