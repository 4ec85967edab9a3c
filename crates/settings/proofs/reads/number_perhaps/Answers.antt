use Rattle.std.proofs.Common.{◌≡◌, ◌∙◌, Some, sym, arith}
use Rattle.toml.specs.Data.{get_member}
use Rattle.toml.specs.View.{table_view, view}
use Rattle.settings.proofs.Taken.{number_in_range, number_is_there}
use Rattle.settings.proofs.reads.number_perhaps.Goals as goal

pub unreachable-requires : goal.unreachable-requires
unreachable-requires c =
    let is : Some (view c.in-Some.value.now) ≡ get_member c.args.name.now (table_view c.args.table.now) = c.in-Some.ensures in
    number_is_there c.args.least c.args.most _ (c.requires _ (sym is)) (sym c.natural.ensures ∙ c.in_default-natural.is)

pub overflow_cast-result : goal.overflow_cast-result
overflow_cast-result c =
    let is : Some (view c.in-Some.value.now) ≡ get_member c.args.name.now (table_view c.args.table.now) = c.in-Some.ensures in
    let range = number_in_range c.args.least c.args.most c.in-Some-natural.number _ (c.requires _ (sym is)) (sym c.natural.ensures ∙ c.in-Some-natural.is) in
    omega arith

pub returns-clause-range : goal.returns-clause-range
returns-clause-range c =
    let is : Some (view c.in-Some.value.now) ≡ get_member c.args.name.now (table_view c.args.table.now) = c.in-Some.ensures in
    number_in_range c.args.least c.args.most c.in-Some-natural.number _ (c.requires _ (sym is)) (sym c.natural.ensures ∙ c.in-Some-natural.is)
