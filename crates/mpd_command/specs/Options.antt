-- The table of commands that set how songs are played, and the volume (MPD protocol reference, Playback
-- options).
use Rattle.std.specs.Prelude.{List, [], ◌∷◌, codes}
use Rattle.command_arguments.specs.Forms.{switch_of, song_mode_of, volume_of, volume_change_of, fade_of, off_of}
use Rattle.mpd_command.specs.Tables.{Row, none, one}
use Rattle.mpd_command.specs.declared.options.OptionCommand.{OptionCommand}
use Rattle.mpd_command.specs.declared.options.OptionCommand.TheVariants as options

-- the rows from `replay_gain_mode` on
unfoldable pub rows_from_replay_gain_mode : List (Row OptionCommand)
rows_from_replay_gain_mode =
    (codes "replay_gain_mode", one off_of options.SetReplayGain)
    ∷ (codes "replay_gain_status", none options.ReplayGainStatus)
    ∷ (codes "setvol", one volume_of options.SetVol)
    ∷ (codes "single", one song_mode_of options.Single)
    ∷ (codes "volume", one volume_change_of options.ChangeVolume)
    ∷ []

unfoldable pub rows : List (Row OptionCommand)
rows =
    (codes "consume", one song_mode_of options.Consume)
    ∷ (codes "crossfade", one fade_of options.Crossfade)
    ∷ (codes "getvol", none options.GetVol)
    ∷ (codes "random", one switch_of options.Random)
    ∷ (codes "repeat", one switch_of options.Repeat)
    ∷ rows_from_replay_gain_mode
