use Rattle.std.proofs.Common.{◌≡◌, take}
use Rattle.daemon_script.proofs.script.copies_of_tags.Given as goal

abbrev pub invariant-loop-tag : goal.invariant-loop-tag
invariant-loop-tag l = l.copies.items ≡ take l.tag-index l.tags
