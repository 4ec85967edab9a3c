-- What is asked of a library (MPD protocol reference, The music database).
use Rattle.std.specs.Prelude.{ℕ, ◌/◌, nat_lt, List, length, map}
use Rattle.std.specs.List.{filter, sum_by}
use Rattle.mpd_text.specs.Songs.Song.{SongData}
use Rattle.mpd_text.specs.Songs.Tags.{text_of_tag}
use Rattle.mpd_text.specs.declared.songs.song.TagName.{TagName}
use Rattle.filters.specs.declared.matching.Case.{Case}
use Rattle.filters.specs.declared.matching.Case.TheVariants.{Heeded}
use Rattle.filters.specs.Expressions.{Expression}
use Rattle.song_db.specs.Lines.{millis}
use Rattle.song_search.specs.Truth.{meets}
use Rattle.mpd_text.specs.Texts.{ascending}

-- the songs that meet an expression, in the order that they have
abbrev pub found : Case → Expression → List SongData → List SongData
found case e songs = filter (meets case e) songs

-- the texts that are not empty of a tag of some songs, song by song
abbrev pub tag_texts : TagName → List SongData → List (List ℕ)
tag_texts name songs = filter (λ text. nat_lt 0 (length text)) (map (λ (song : SongData). text_of_tag name song.tags) songs)

-- the texts that a tag has among the songs that meet an expression, in byte order and each once
abbrev pub listed : TagName → Expression → List SongData → List (List ℕ)
listed name e songs = ascending (tag_texts name (found Heeded e songs))

-- how many thousandths of a second some songs take together, each of them cut
abbrev pub millis_of_all : ℕ → List SongData → ℕ
millis_of_all rate songs = sum_by (λ (song : SongData). millis rate song.frames) songs

-- how many whole seconds they take
abbrev pub playtime : ℕ → List SongData → ℕ
playtime rate songs = millis_of_all rate songs / 1000
