use Rattle.std.proofs.Common.{◌≡◌, Some, sym, codes}
use Rattle.toml.specs.Data.{as_table}
use Rattle.toml.specs.View.{table_view, view}
use Rattle.settings.specs.Keys.{output_keys}
use Rattle.settings.proofs.Taken.{good_at, line_is_text, output_is, output_keys_are_good}
use Rattle.settings.proofs.reads.output_of.Goals as goal

pub text_at-requires-clause-good : goal.text_at-requires-clause-good
text_at-requires-clause-good c =
    let is : Some (table_view c.in-Some.table.now) ≡ as_table (view c.args.value.now) = c.in-Some.ensures in
    let line = good_at output_keys (codes "name") (table_view c.in-Some.table.now) (output_keys_are_good _ _ c.requires (sym is)).good in
    λ d there. line_is_text d (line d there)

pub text_at-requires-2-clause-good : goal.text_at-requires-2-clause-good
text_at-requires-2-clause-good c =
    let is : Some (table_view c.in-Some.table.now) ≡ as_table (view c.args.value.now) = c.in-Some.ensures in
    good_at output_keys (codes "path") (table_view c.in-Some.table.now) (output_keys_are_good _ _ c.requires (sym is)).good

pub flag_at-requires : goal.flag_at-requires
flag_at-requires c =
    let is : Some (table_view c.in-Some.table.now) ≡ as_table (view c.args.value.now) = c.in-Some.ensures in
    good_at output_keys (codes "enabled") (table_view c.in-Some.table.now) (output_keys_are_good _ _ c.requires (sym is)).good

pub number_perhaps-requires : goal.number_perhaps-requires
number_perhaps-requires c =
    let is : Some (table_view c.in-Some.table.now) ≡ as_table (view c.args.value.now) = c.in-Some.ensures in
    good_at output_keys (codes "patience") (table_view c.in-Some.table.now) (output_keys_are_good _ _ c.requires (sym is)).good

pub returns : goal.returns
returns c =
    let is : Some (table_view c.in-Some.table.now) ≡ as_table (view c.args.value.now) = c.in-Some.ensures in
    output_is (view c.args.value.now) (table_view c.in-Some.table.now) _ (sym is) (record { name = c.in_ok-text_at.ensures; path = c.in_ok-text_at-2.ensures; enabled = c.flag_at.ensures; patience = c.number_perhaps.ensures.value })
