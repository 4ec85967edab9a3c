use Rattle.std.proofs.Common.{◌≡◌, map, string_bytes}
use Rattle.shelf.proofs.memory.MemShelfShelf.lists.Given as goal

abbrev pub invariant-loop-name : goal.invariant-loop-name
invariant-loop-name l = map string_bytes l.names.items ≡ map (λ name. string_bytes name.now) l.yielded
