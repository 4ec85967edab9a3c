use Rattle.std.proofs.Common.{◌≡◌, length, map, string_bytes}
use Rattle.selections.specs.Groupings.{tags_of, with_groups}
use Rattle.selections.proofs.groupings.tags.Given as goal

-- what the groups that are left make of the tags so far is what all groups make of the first tag
abbrev pub invariant-loop-rest : goal.invariant-loop-rest
invariant-loop-rest l = with_groups (map string_bytes l.rest) l.tags ≡ tags_of l.first (map string_bytes l.groups)

abbrev pub decreases-loop-rest : goal.decreases-loop-rest
decreases-loop-rest l = length l.rest
