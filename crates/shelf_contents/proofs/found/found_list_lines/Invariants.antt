use Rattle.std.proofs.Common.{◌≡◌, map, take}
use Rattle.std.specs.Option.{option_copied}
use Rattle.shelf.specs.Entries.{entry_texts}
use Rattle.shelf_contents.specs.Found.{found_list_lines}
use Rattle.shelf_contents.proofs.found.found_list_lines.Given as goal

abbrev pub invariant-loop-entry : goal.invariant-loop-entry
invariant-loop-entry l = l.answer ≡ found_list_lines l.name (option_copied l.test) (map entry_texts (take l.entry-index l.entries))
