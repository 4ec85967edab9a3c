use Rattle.std.proofs.Common.{arith}
use Rattle.std.proofs.lemmas.Bool.Decides.{nat_tests}
use Rattle.song_search.proofs.Between.{none_before}
use Rattle.song_search.proofs.folders.is_before.Goals as goal

pub returns-then-is_empty : goal.returns-then-is_empty
returns-then-is_empty c = none_before c.args.folder.now c.args.uri.now (grind (arith, nat_tests, c.if-is_empty.true, c.is_empty.ensures))
