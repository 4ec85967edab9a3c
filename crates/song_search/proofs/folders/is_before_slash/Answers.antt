use Rattle.std.proofs.Common.{arith}
use Rattle.song_search.proofs.Between.{before_slash}
use Rattle.song_search.proofs.folders.is_before_slash.Goals as goal

pub returns-in-len1-up : goal.returns-in-len1-up
returns-in-len1-up c = before_slash c.args.rest.now (omega arith)
