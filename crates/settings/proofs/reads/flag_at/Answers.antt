use Rattle.std.proofs.Common.{◌≡◌, Some, ap, sym}
use Rattle.toml.specs.Data.{get_member}
use Rattle.toml.specs.View.{table_view, view}
use Rattle.settings.proofs.Taken.{flag_is_there}
use Rattle.settings.proofs.reads.flag_at.Goals as goal

pub returns-in-Some : goal.returns-in-Some
returns-in-Some c =
    let is : Some (view c.in-Some.value.now) ≡ get_member c.args.name.now (table_view c.args.table.now) = c.in-Some.ensures in
    let flag = flag_is_there _ c.as_bool.result c.args.default (c.requires _ (sym is)) c.as_bool.ensures in
    rw (← is, c.unwrap_or.ensures) (ap Some flag)
