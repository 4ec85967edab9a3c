-- What is chosen of a set of tags is one.
use Rattle.std.proofs.Common.{◌∙◌, Bool, not, ◌&&◌, ◌||◌, List, sym, ap, subst}
use Rattle.std.specs.List.{filter}
use Rattle.mpd_text.specs.Songs.Tags.{tag_names}
use Rattle.mpd_text.specs.declared.songs.song.TagName.{TagName}
use Rattle.known_tags.specs.Sets.{disabled, enabled, has, is_named}
use Rattle.known_tags.specs.declared.known_tag.KnownTag.{KnownTag}
use Rattle.known_tags.proofs.TenTags.{filter-alike, filter-filter, has-filter}
use Rattle.command_laws.specs.HiddenTags.{IsTagSet}

-- those of all tags that pass a test are a set
filtered : (p : TagName → Bool) → IsTagSet (filter p tag_names)
filtered p = filter-alike p (λ name. has name (filter p tag_names)) (λ name. sym (has-filter p name)) tag_names

pub enabled-set : (named : List KnownTag) (set : List TagName) → IsTagSet (enabled named set)
unfolding enabled
enabled-set named set = filtered (λ name. has name set || is_named name named)

pub disabled-set : (named : List KnownTag) (set : List TagName) → IsTagSet set → IsTagSet (disabled named set)
disabled-set named set is =
    subst IsTagSet
    (sym (ap (disabled named) is ∙ filter-filter (λ name. has name set) (λ name. not (is_named name named)) tag_names))
    (filtered (λ name. has name set && not (is_named name named)))
