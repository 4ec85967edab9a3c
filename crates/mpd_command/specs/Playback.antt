-- The table of commands that play, stop and seek (MPD protocol reference, Controlling playback).
use Rattle.std.specs.Prelude.{ℕ, Bool, List, [], ◌∷◌, Option, Result, codes, if◌then◌else◌}
use Rattle.mpd_text.specs.Answers.Millis.{millis_of}
use Rattle.mpd_text.specs.Answers.Number.{number_of}
use Rattle.command_arguments.specs.Forms.{switch_of, seeking_of}
use Rattle.command_arguments.specs.Readers.{map_ok, number_or_none_of, perhaps_of}
use Rattle.command_arguments.specs.declared.readers.Misread.{Misread}
use Rattle.mpd_command.specs.Tables.{Row, none, one, perhaps, two}
use Rattle.mpd_command.specs.declared.command_set.CommandSet.{CommandSet}
use Rattle.mpd_command.specs.declared.playback.PlaybackCommand.{PlaybackCommand}
use Rattle.mpd_command.specs.declared.playback.PlaybackCommand.TheVariants as playback

-- a number or none; in the everyday profile -1 is none
abbrev pub number : Bool → List (List ℕ) → Result (Option ℕ) Misread
number everyday words = if everyday then number_or_none_of words else perhaps_of number_of words

-- the rows from `seek` on
unfoldable pub rows_from_seek : List (Row PlaybackCommand)
rows_from_seek =
    (codes "seek", two number_of millis_of playback.Seek)
    ∷ (codes "seekcur", one seeking_of playback.SeekCur)
    ∷ (codes "seekid", two number_of millis_of playback.SeekId)
    ∷ (codes "stop", none playback.Stop)
    ∷ []

unfoldable pub rows : CommandSet → List (Row PlaybackCommand)
rows set =
    (codes "next", none playback.Next)
    ∷ (codes "pause", perhaps switch_of playback.Pause)
    ∷ (codes "play", λ words. map_ok playback.Play (number set.everyday words))
    ∷ (codes "playid", λ words. map_ok playback.PlayId (number set.everyday words))
    ∷ (codes "previous", none playback.Previous)
    ∷ rows_from_seek
