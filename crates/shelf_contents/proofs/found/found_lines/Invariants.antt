use Rattle.std.proofs.Common.{◌≡◌, take, map}
use Rattle.std.specs.Option.{option_copied}
use Rattle.shelf.specs.Entries.{entry_texts}
use Rattle.shelf_contents.specs.Found.{found_lines}
use Rattle.shelf_contents.proofs.found.found_lines.Given as goal

abbrev pub invariant-loop-entry : goal.invariant-loop-entry
invariant-loop-entry l = l.answer ≡ found_lines l.db l.uri l.name (option_copied l.test) (map entry_texts (take l.entry-index l.entries))
