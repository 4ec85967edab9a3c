use Rattle.std.proofs.Common.{◌≡◌, ◌++◌, length}
use denote.Text.{Utf8}
use denote.Shadow.{shadow}
use Rattle.shelf.specs.Lines.{lines_of}
use Rattle.shelf_contents.specs.Shown.{uri_lines}
use Rattle.shelf_contents.proofs.shown.list_lines.Given as goal

abbrev pub invariant-loop-uri : goal.invariant-loop-uri
invariant-loop-uri l = shadow (Utf8 l.rest) × (l.answer ++ uri_lines (lines_of l.rest) ≡ uri_lines l.fn.list)

abbrev pub decreases-loop-uri : goal.decreases-loop-uri
decreases-loop-uri l = length l.rest
