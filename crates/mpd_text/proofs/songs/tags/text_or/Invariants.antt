use Rattle.std.proofs.Common.{◌≡◌, drop}
use Rattle.mpd_text.specs.Songs.Tags.{text_or}
use Rattle.mpd_text.proofs.songs.tags.text_or.Given as goal

-- no tag so far has the name
abbrev pub invariant-loop-tag : goal.invariant-loop-tag
invariant-loop-tag l = text_or l.other l.name (drop l.tag-index l.tags) ≡ text_or l.other l.name l.tags
