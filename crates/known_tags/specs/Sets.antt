-- Sets of the ten tags, each in the order in which answers show them (MPD protocol reference, Connection
-- settings: `tagtypes`; that a known tag that songs have not does nothing is this profile's).
use Rattle.std.specs.Prelude.{◌==◌, Bool, true, false, not, ◌&&◌, ◌||◌, List, [], ◌∷◌, Option, Some, None, filter}
use Rattle.std.specs.List.{list_any}
use Rattle.mpd_text.specs.Songs.Tags.{tag_names, tag_number}
use Rattle.mpd_text.specs.declared.songs.song.TagName.{TagName}
use Rattle.known_tags.specs.declared.known_tag.KnownTag.{KnownTag}
use Rattle.known_tags.specs.KnownTags.{base_of}

abbrev pub same_tag : TagName → TagName → Bool
same_tag name other = tag_number name == tag_number other

-- whether two sets are one
abbrev pub same_tags : List TagName → List TagName → Bool
same_tags [] [] = true
same_tags [] (other ∷ others) = false
same_tags (name ∷ names) [] = false
same_tags (name ∷ names) (other ∷ others) = same_tag name other && same_tags names others

-- whether a set has all tags
abbrev pub is_all : List TagName → Bool
is_all set = same_tags set tag_names

-- whether a tag is in a set
abbrev pub has : TagName → List TagName → Bool
has name set = list_any (same_tag name) set

-- the tags that are in a set or are this one
unfoldable pub joined : TagName → List TagName → List TagName
joined name set = filter (λ other. has other set || same_tag other name) tag_names

-- the tags of a set that are not this one
abbrev pub left : TagName → List TagName → List TagName
left name set = filter (λ other. not (same_tag other name)) set

-- whether a known tag is this one of the ten
abbrev pub is_base : TagName → Option TagName → Bool
is_base name None = false
is_base name (Some base) = same_tag name base

-- whether one of the ten is among known tags
abbrev pub is_named : TagName → List KnownTag → Bool
is_named name named = list_any (λ tag. is_base name (base_of tag)) named

-- the tags that are in a set or that a known tag is
unfoldable pub joined_by : KnownTag → List TagName → List TagName
joined_by tag set = filter (λ name. has name set || is_base name (base_of tag)) tag_names

-- the tags of a set that a known tag is not
abbrev pub left_by : KnownTag → List TagName → List TagName
left_by tag set = filter (λ name. not (is_base name (base_of tag))) set

-- the tags that are in a set or are named
unfoldable pub enabled : List KnownTag → List TagName → List TagName
enabled named set = filter (λ name. has name set || is_named name named) tag_names

-- the tags of a set that are not named
abbrev pub disabled : List KnownTag → List TagName → List TagName
disabled named set = filter (λ name. not (is_named name named)) set
