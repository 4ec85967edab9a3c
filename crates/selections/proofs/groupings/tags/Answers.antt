use Rattle.std.proofs.Common.{◌≡◌, ◌-◌, List, length, map, take, drop, Ok, string_bytes, ap, ◌∙◌}
use Rattle.known_tags.specs.declared.known_tag.KnownTag.{KnownTag}
use Rattle.selections.specs.Groupings.{other_tag_of, with_groups}
use Rattle.selections.proofs.LastGroups.{next_group}
use Rattle.selections.proofs.groupings.tags.Goals as goal

pub loop-rest-preserved : goal.loop-rest-preserved
loop-rest-preserved c =
    let rest = c.loop-rest.rest.now in
    let read : other_tag_of c.loop-rest.tags (string_bytes c.word-item.result) ≡ Ok c.in_ok-other_tag.field-0 = cc (c.in_ok-other_tag.ensures, c.items.ensures, c.as_str.ensures.value) in
    ap (λ (tags : List KnownTag). with_groups (map (λ s. string_bytes s) (take (length rest - 2) (drop 2 rest))) tags) c.in_ok-push-2.ensures.items
    ∙ next_group (λ s. string_bytes s) rest c.word-item.result c.in-len2-up.len_at_least c.word-item.is c.loop-rest.tags c.in_ok-other_tag.field-0 read
    ∙ c.loop-rest.invariant
