use Rattle.std.proofs.Common.{◌≡◌, ◌≤◌, Some, None, sym, arith, refl, vec_len}
use Rattle.toml.specs.Data.{as_array, get_member, no_items}
use Rattle.toml.specs.View.{array_view, table_view, view}
use Rattle.settings.proofs.Names.{own_names_if_ok}
use Rattle.settings.proofs.Taken.{array_is_there, few_if_ok, outputs_are_good}
use Rattle.settings.proofs.reads.outputs_at.Goals as goal

pub returns-in_default-clause-says : goal.returns-in_default-clause-says
returns-in_default-clause-says c =
    let is : None ≡ get_member c.args.name.now (table_view c.args.table.now) = c.in_default.ensures in
    (no_items, rw (← is) refl, rw c.new.ensures.items tt)

pub unreachable-requires : goal.unreachable-requires
unreachable-requires c =
    let is : Some (view c.in-Some.value.now) ≡ get_member c.args.name.now (table_view c.args.table.now) = c.in-Some.ensures in
    let none : None ≡ as_array (view c.in-Some.value.now) = c.in_default-as_array.ensures in
    array_is_there (view c.in-Some.value.now) (c.requires _ (sym is)) (sym none)

pub outputs_of-requires : goal.outputs_of-requires
outputs_of-requires c =
    let is : Some (view c.in-Some.value.now) ≡ get_member c.args.name.now (table_view c.args.table.now) = c.in-Some.ensures in
    let items : Some (array_view c.in-Some-as_array.items.now) ≡ as_array (view c.in-Some.value.now) = c.in-Some-as_array.ensures in
    (outputs_are_good (view c.in-Some.value.now) c.in-Some-as_array.items.now.items (c.requires _ (sym is)) (sym items)).1

pub returns-clause-most : goal.returns-clause-most
returns-clause-most c =
    let is : Some (view c.in-Some.value.now) ≡ get_member c.args.name.now (table_view c.args.table.now) = c.in-Some.ensures in
    let items : Some (array_view c.in-Some-as_array.items.now) ≡ as_array (view c.in-Some.value.now) = c.in-Some-as_array.ensures in
    let few = (outputs_are_good (view c.in-Some.value.now) c.in-Some-as_array.items.now.items (c.requires _ (sym is)) (sym items)).0 in
    let at_most : vec_len c.in-Some-as_array.items.now ≤ 8 = omega (arith, c.in-Some-as_array.items.now.ok.0) in
    few_if_ok c.outputs_of.result _ 8 c.outputs_of.ensures.as_many at_most

pub returns-clause-own_names : goal.returns-clause-own_names
returns-clause-own_names c =
    let is : Some (view c.in-Some.value.now) ≡ get_member c.args.name.now (table_view c.args.table.now) = c.in-Some.ensures in
    let items : Some (array_view c.in-Some-as_array.items.now) ≡ as_array (view c.in-Some.value.now) = c.in-Some-as_array.ensures in
    let differ = (outputs_are_good (view c.in-Some.value.now) c.in-Some-as_array.items.now.items (c.requires _ (sym is)) (sym items)).2 in
    own_names_if_ok c.outputs_of.result (array_view c.in-Some-as_array.items.now) c.outputs_of.ensures.says differ
