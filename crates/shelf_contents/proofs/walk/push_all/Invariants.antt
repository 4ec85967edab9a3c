use Rattle.std.proofs.Common.{◌≡◌, ◌++◌, length}
use denote.Text.{Utf8}
use denote.Shadow.{shadow}
use Rattle.shelf.specs.Lines.{lines_of}
use Rattle.shelf_contents.proofs.walk.push_all.Given as goal

abbrev pub invariant-loop-uri : goal.invariant-loop-uri
invariant-loop-uri l = shadow (Utf8 l.rest) × (l.list ++ lines_of l.rest ≡ l.initial.list ++ lines_of l.fn.text)

abbrev pub decreases-loop-uri : goal.decreases-loop-uri
decreases-loop-uri l = length l.rest
