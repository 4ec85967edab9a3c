use Rattle.std.proofs.Common.{◌≡◌, true, sym, subst}
use Rattle.kept_state.specs.HeardPartitions.{BeginsIf}
use Rattle.kept_state.specs.Partitions.{begins_partition}
use Rattle.kept_state.proofs.partitions.begin.Goals as goal

pub returns-in_ok-push : goal.returns-in_ok-push
returns-in_ok-push c =
    let is : begins_partition c.args.line.now ≡ true = cc in
    subst (λ b. BeginsIf b c.args.partitions.now.items c.push.new.self.items) (sym is)
    (c.in_ok-nothing_heard_of.field-0, c.in_ok-nothing_heard_of.ensures, c.in_ok-push.ensures.items)
