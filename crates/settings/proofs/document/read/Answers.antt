use Rattle.std.proofs.Common.{codes}
use Rattle.toml.specs.View.{table_view}
use Rattle.settings.specs.Keys.{settings_keys}
use Rattle.settings.proofs.Taken.{good_at}
use Rattle.settings.proofs.document.read.Goals as goal

pub text_at-requires-clause-good : goal.text_at-requires-clause-good
text_at-requires-clause-good c = good_at settings_keys (codes "music") (table_view c.args.table.now) c.requires.good

pub text_at-requires-2-clause-good : goal.text_at-requires-2-clause-good
text_at-requires-2-clause-good c = good_at settings_keys (codes "listen") (table_view c.args.table.now) c.requires.good

pub text_perhaps-requires : goal.text_perhaps-requires
text_perhaps-requires c = good_at settings_keys (codes "shelf") (table_view c.args.table.now) c.requires.good

pub text_perhaps-requires-2 : goal.text_perhaps-requires-2
text_perhaps-requires-2 c = good_at settings_keys (codes "state") (table_view c.args.table.now) c.requires.good

pub rate_of-requires : goal.rate_of-requires
rate_of-requires c = good_at settings_keys (codes "rate") (table_view c.args.table.now) c.requires.good

pub natural_at-requires : goal.natural_at-requires
natural_at-requires c = good_at settings_keys (codes "random_start") (table_view c.args.table.now) c.requires.good

pub number_at-requires : goal.number_at-requires
number_at-requires c = good_at settings_keys (codes "history") (table_view c.args.table.now) c.requires.good

pub number_at-requires-2 : goal.number_at-requires-2
number_at-requires-2 c = good_at settings_keys (codes "ring") (table_view c.args.table.now) c.requires.good

pub flag_at-requires : goal.flag_at-requires
flag_at-requires c = good_at settings_keys (codes "kill") (table_view c.args.table.now) c.requires.good

pub flag_at-requires-2 : goal.flag_at-requires-2
flag_at-requires-2 c = good_at settings_keys (codes "everyday") (table_view c.args.table.now) c.requires.good

pub outputs_at-requires : goal.outputs_at-requires
outputs_at-requires c = good_at settings_keys (codes "output") (table_view c.args.table.now) c.requires.good
