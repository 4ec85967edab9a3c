use Rattle.std.proofs.Common.{◌≡◌, ◌∙◌, Some, ap, sym}
use Rattle.std.specs.Option.{option_copied}
use Rattle.toml.specs.Data.{get_member}
use Rattle.toml.specs.View.{table_view, view}
use Rattle.settings.proofs.Taken.{text_is_there}
use Rattle.settings.proofs.reads.text_perhaps.Goals as goal

pub unreachable-requires : goal.unreachable-requires
unreachable-requires c =
    let is : Some (view c.in-Some.value.now) ≡ get_member c.args.name.now (table_view c.args.table.now) = c.in-Some.ensures in
    text_is_there _ (c.requires _ (sym is)) (sym c.as_str.ensures ∙ ap option_copied c.in_default-as_str.is)
