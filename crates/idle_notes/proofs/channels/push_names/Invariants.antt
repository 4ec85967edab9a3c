use Rattle.std.proofs.Common.{◌≡◌, ◌++◌, map, take}
use Rattle.idle_notes.proofs.channels.push_names.Given as goal

abbrev pub invariant-loop-name : goal.invariant-loop-name
invariant-loop-name l = map (λ name. name.now) l.all.items ≡ map (λ name. name.now) l.initial.all.items ++ take l.name-index l.names
