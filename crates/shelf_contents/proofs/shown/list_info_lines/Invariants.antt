use Rattle.std.proofs.Common.{◌≡◌, ◌++◌, length}
use denote.Text.{Utf8}
use denote.Shadow.{shadow}
use Rattle.shelf.specs.Lines.{lines_of}
use Rattle.shelf_contents.specs.Shown.{info_lines}
use Rattle.shelf_contents.proofs.shown.list_info_lines.Given as goal

abbrev pub invariant-loop-uri : goal.invariant-loop-uri
invariant-loop-uri l = shadow (Utf8 l.rest) × (l.answer ++ info_lines l.tags l.rate l.db (lines_of l.rest) ≡ info_lines l.tags l.rate l.db l.fn.list)

abbrev pub decreases-loop-uri : goal.decreases-loop-uri
decreases-loop-uri l = length l.rest
