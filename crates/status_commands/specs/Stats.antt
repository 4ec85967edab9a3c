-- The command that asks how long the daemon has been running, how long was played, and how much there is to play
-- (MPD protocol reference, Querying MPD's status: `stats`; how seconds are cut is this profile's).
use Rattle.std.specs.Prelude.{ℕ, ◌/◌, List, [], ◌++◌, length, Option, Some, None, codes, decimal}
use Rattle.mpd_text.specs.Answers.Answer.{pair_line}
use Rattle.mpd_text.specs.Songs.Song.{SongData}
use Rattle.mpd_text.specs.declared.songs.song.TagName.{TagName}
use Rattle.mpd_text.specs.declared.songs.song.TagName.TheVariants.{Artist, Album}
use Rattle.song_search.specs.Answers.{playtime, tag_texts}
use Rattle.mpd_text.specs.Texts.{ascending}
use Rattle.player_state.specs.declared.state.Library.{Library}
use Rattle.player_state.specs.declared.state.Part.{Part}
use Rattle.transitions.specs.CommandResults.{shows}
use Rattle.transitions.specs.Transitions.{CommandResult}
use Rattle.transitions.specs.declared.asked.Asked.{Asked}

-- how many texts that are not empty a tag has among some songs
abbrev pub distinct : TagName → List SongData → ℕ
distinct tag songs = length (ascending (tag_texts tag songs))

-- how many artists and albums there are
unfoldable pub tag_lines : List SongData → List ℕ
tag_lines songs = pair_line (codes "artists") (decimal (distinct Artist songs)) ++ pair_line (codes "albums") (decimal (distinct Album songs))

-- how many songs there are, and how long they play
unfoldable pub song_lines : ℕ → ℕ → List ℕ
song_lines songs seconds = pair_line (codes "songs") (decimal songs) ++ pair_line (codes "db_playtime") (decimal seconds)

-- what there is to play, and when that changed
abbrev pub library_lines : Library → List ℕ
library_lines library =
    tag_lines library.songs
    ++ (song_lines (length library.songs) (playtime library.rate library.songs) ++ pair_line (codes "db_update") (decimal library.updated))

-- for how many seconds the daemon has been running, where that is known
abbrev pub uptime_line : Option ℕ → List ℕ
uptime_line None = []
uptime_line (Some seconds) = pair_line (codes "uptime") (decimal seconds)

-- how long was played
abbrev pub playtime_line : Part → Library → List ℕ
playtime_line part library = pair_line (codes "playtime") (decimal (part.played / library.rate))

-- how long the daemon has been running, how long was played, and what there is to play
abbrev pub stats : Asked → Part → Library → Option ℕ → CommandResult
stats asked part library uptime = shows asked (uptime_line uptime ++ (playtime_line part library ++ library_lines library))
