use Rattle.crew_steps.specs.OpenSongs.{StayMeant}
use Rattle.crew_steps.proofs.part_songs.close_gone.Given as goal

abbrev pub invariant-loop-i : goal.invariant-loop-i
invariant-loop-i g l = StayMeant l.initial.others.items l.others.items
