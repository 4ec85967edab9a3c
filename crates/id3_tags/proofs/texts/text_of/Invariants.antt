-- The first text of the frames that are left is that of all frames.
use Rattle.std.proofs.Common.{◌≡◌, length}
use Rattle.id3_tags.specs.Frames.{frames}
use Rattle.id3_tags.specs.Texts.{first_text, text_of}
use Rattle.id3_tags.specs.Views.{tag_data}
use Rattle.id3_tags.proofs.texts.text_of.Given as goal

abbrev pub invariant-loop-frame : goal.invariant-loop-frame
invariant-loop-frame l = first_text (tag_data l.tag) l.kind l.identifier (frames l.tag.version l.rest) ≡ text_of (tag_data l.tag) l.kind l.identifier

abbrev pub decreases-loop-frame : goal.decreases-loop-frame
decreases-loop-frame l = length l.rest
