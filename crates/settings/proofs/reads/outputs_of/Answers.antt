use Rattle.std.proofs.Common.{◌≡◌, arith, length, length-append, ap, subst, sym, true}
use Rattle.toml.specs.View.{view}
use Rattle.settings.specs.Keys.{is_output}
use Rattle.settings.specs.declared.values.OutputSettings.{OutputSettings}
use Rattle.settings.proofs.Taken.{outputs_left, outputs_so_far}
use Rattle.settings.proofs.reads.outputs_of.Goals as goal

pub output_of-requires : goal.output_of-requires
output_of-requires c =
    let left = outputs_left c.deref-item-items.result.now c.items.item-index c.item-item.result c.items-test.true c.items.invariant.0 in
    subst (λ v. is_output (view v) ≡ true) (sym c.item-item.is) left.0

pub items-preserved : goal.items-preserved
items-preserved c =
    let items = c.deref-item-items.result.now in
    let left = outputs_left items c.items.item-index c.item-item.result c.items-test.true c.items.invariant.0 in
    let pushed = c.in_ok-push.ensures.items in
    let are = outputs_so_far items c.items.item-index c.item-item.result _ _ c.in_ok-output_of.field-0 c.items-test.true c.item-item.is pushed c.items.invariant.1 c.in_ok-output_of.ensures in
    (left.1, are, omega (arith, ap length pushed, length-append {A = OutputSettings}))
