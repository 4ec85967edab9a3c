use Rattle.std.proofs.Common.{◌≡◌, take, map}
use Rattle.shelf.specs.Entries.{entry_texts}
use Rattle.shelf_contents.specs.Shown.{stickers_of}
use Rattle.shelf_contents.proofs.shown.sticker_lines.Given as goal

abbrev pub invariant-loop-entry : goal.invariant-loop-entry
invariant-loop-entry l = l.answer ≡ stickers_of (map entry_texts (take l.entry-index l.entries))
