use Rattle.std.proofs.Common.{◌≡◌, take}
use Rattle.std.specs.Prelude.{map}
use Rattle.known_tags.specs.KnownTags.{text_of}
use Rattle.library_commands.proofs.database.names.Given as goal

abbrev pub invariant-loop-tag : goal.invariant-loop-tag
invariant-loop-tag l = map (λ name. name.now) l.names.items ≡ map text_of (take l.tag-index l.tags)
