-- The table of commands of stored playlists (MPD protocol reference, Stored playlists).
use Rattle.std.specs.Prelude.{ℕ, Bool, ◌&&◌, ◌==◌, List, [], ◌∷◌, length, Option, Some, None, Result, codes, if◌then◌else◌}
use Rattle.mpd_text.specs.Answers.Number.{number_of}
use Rattle.mpd_text.specs.Answers.Range.{range_of}
use Rattle.mpd_text.specs.declared.answers.ranges.Range.{Range}
use Rattle.command_arguments.specs.Forms.{any_text, position_of, uri_of}
use Rattle.command_arguments.specs.Readers.{map_ok, one_perhaps_of, three_of}
use Rattle.command_arguments.specs.declared.forms.Position.{Position}
use Rattle.command_arguments.specs.declared.readers.Misread.{Misread}
use Rattle.mpd_command.specs.Tables.{Arguments, Row, none, one, two, three}
use Rattle.mpd_command.specs.declared.command_set.CommandSet.{CommandSet}
use Rattle.mpd_command.specs.declared.playlists.PlaylistCommand.{PlaylistCommand}
use Rattle.mpd_command.specs.declared.playlists.PlaylistCommand.TheVariants as playlists

-- the name of a list, perhaps a range, and in the everyday profile perhaps a position after that
abbrev pub list_range_position_of : Bool → List (List ℕ) → Result (List ℕ × Option Range × Option Position) Misread
list_range_position_of everyday words =
    if everyday && length words == 3 then map_ok (λ p. (p.0, Some p.1, Some p.2)) (three_of any_text range_of position_of words)
    else map_ok (λ p. (p.0, p.1, None)) (one_perhaps_of any_text range_of words)

abbrev pub list_range_position : {A : Type 0} → Bool → (List ℕ → Option Range → Option Position → A) → Arguments A
list_range_position everyday f words = map_ok (λ p. f p.0 p.1 p.2) (list_range_position_of everyday words)

-- the rows from `playlistadd` on
unfoldable pub rows_from_playlistadd : List (Row PlaylistCommand)
rows_from_playlistadd =
    (codes "playlistadd", two any_text uri_of playlists.PlaylistAdd)
    ∷ (codes "playlistclear", one any_text playlists.PlaylistClear)
    ∷ (codes "playlistdelete", two any_text number_of playlists.PlaylistDelete)
    ∷ (codes "playlistmove", three any_text number_of number_of playlists.PlaylistMove)
    ∷ (codes "rename", two any_text any_text playlists.Rename)
    ∷ (codes "rm", one any_text playlists.Rm)
    ∷ (codes "save", one any_text playlists.Save)
    ∷ []

unfoldable pub rows : CommandSet → List (Row PlaylistCommand)
rows set =
    (codes "listplaylist", one any_text playlists.ListPlaylist)
    ∷ (codes "listplaylistinfo", one any_text playlists.ListPlaylistInfo)
    ∷ (codes "listplaylists", none playlists.ListPlaylists)
    ∷ (codes "load", list_range_position set.everyday playlists.Load)
    ∷ rows_from_playlistadd
