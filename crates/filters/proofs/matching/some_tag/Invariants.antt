use Rattle.std.proofs.Common.{drop}
use Rattle.std.specs.Prelude.{◌↔◌}
use Rattle.filters.specs.Truth.{SomeTagRelates}
use Rattle.filters.proofs.matching.some_tag.Given as goal

-- no tag of the names so far has such a text
abbrev pub invariant-loop-name : goal.invariant-loop-name
invariant-loop-name l =
    SomeTagRelates l.case l.relation l.value l.names l.tags
    ↔ SomeTagRelates l.case l.relation l.value (drop l.name-index l.names) l.tags
