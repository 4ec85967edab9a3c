use Rattle.std.proofs.Common.{◌≡◌, drop, fold}
use Rattle.mpd_command.specs.Status.{changing, with_watched}
use Rattle.mpd_command.proofs.status.changing.Given as goal

abbrev pub invariant-loop-each : goal.invariant-loop-each
invariant-loop-each l = fold with_watched l.set (drop l.each-index l.watched) ≡ changing l.watched
