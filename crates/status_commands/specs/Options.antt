-- The commands that set the player (MPD protocol reference, Playback options; that loudness is not made alike
-- is this profile's).
use Rattle.std.specs.Prelude.{ℕ, ◌+◌, ◌-◌, min, Bool, true, false, codes, decimal}
use Rattle.command_arguments.specs.declared.forms.SongMode.{SongMode}
use Rattle.command_arguments.specs.declared.forms.SongMode.TheVariants as asked_mode
use Rattle.command_arguments.specs.declared.forms.VolumeChange.{VolumeChange}
use Rattle.command_arguments.specs.declared.forms.VolumeChange.TheVariants.{Up, Down}
use Rattle.command_arguments.specs.declared.forms.ReplayGain.{ReplayGain}
use Rattle.command_arguments.specs.declared.forms.ReplayGain.TheVariants as replay_gain_mode
use Rattle.mpd_text.specs.Answers.Answer.{pair_line}
use Rattle.play_order.specs.declared.modes.Single.{Single}
use Rattle.play_order.specs.declared.modes.Single.TheVariants as single_mode
use Rattle.play_order.specs.declared.modes.Consume.{Consume}
use Rattle.play_order.specs.declared.modes.Consume.TheVariants as consume_mode
use Rattle.transitions.specs.CommandResults.{does, shows}
use Rattle.player_state.specs.declared.effect.CommandEffect.TheVariants.{Rests, SetsVolume, SetsRepeat, SetsRandom, SetsSingle, SetsConsume, SetsCrossfade}
use Rattle.transitions.specs.declared.asked.Asked.{Asked}
use Rattle.player_state.specs.declared.state.Part.{Part}
use Rattle.transitions.specs.Transitions.{CommandResult}
use Rattle.mpd_command.specs.declared.options.OptionCommand.{OptionCommand}
use Rattle.mpd_command.specs.declared.options.OptionCommand.TheVariants as options

abbrev pub repeat : Asked → Bool → CommandResult
repeat asked on = does asked (SetsRepeat on)

abbrev pub random : Asked → Bool → CommandResult
random asked on = does asked (SetsRandom on)

abbrev pub single_of : SongMode → Single
single_of asked_mode.Off = single_mode.Off
single_of asked_mode.On = single_mode.On
single_of asked_mode.Oneshot = single_mode.Oneshot

abbrev pub single : Asked → SongMode → CommandResult
single asked mode = does asked (SetsSingle (single_of mode))

abbrev pub consume_of : SongMode → Consume
consume_of asked_mode.Off = consume_mode.Off
consume_of asked_mode.On = consume_mode.On
consume_of asked_mode.Oneshot = consume_mode.Oneshot

abbrev pub consume : Asked → SongMode → CommandResult
consume asked mode = does asked (SetsConsume (consume_of mode))

abbrev pub crossfade : Asked → ℕ → CommandResult
crossfade asked seconds = does asked (SetsCrossfade seconds)

abbrev pub set_volume : Asked → ℕ → CommandResult
set_volume asked volume = does asked (SetsVolume volume)

abbrev pub get_volume : Asked → Part → CommandResult
get_volume asked part = shows asked (pair_line (codes "volume") (decimal part.volume))

-- a volume that is so much more or less, from 0 to 100
abbrev pub changed : ℕ → VolumeChange → ℕ
changed volume (Up amount) = min 100 (volume + amount)
changed volume (Down amount) = volume - amount

abbrev pub change_volume : Asked → Part → VolumeChange → CommandResult
change_volume asked part change = does asked (SetsVolume (changed part.volume change))

-- songs are played as loud as they are, before and after
abbrev pub set_replay_gain : Asked → ReplayGain → CommandResult
set_replay_gain asked replay_gain_mode.Off = does asked Rests

abbrev pub replay_gain : Asked → CommandResult
replay_gain asked = shows asked (pair_line (codes "replay_gain_mode") (codes "off"))

-- what each command makes of the player
unfoldable pub result_of : Asked → Part → OptionCommand → CommandResult
result_of asked part (options.ChangeVolume change) = change_volume asked part change
result_of asked part (options.Consume mode) = consume asked mode
result_of asked part (options.Crossfade seconds) = crossfade asked seconds
result_of asked part options.GetVol = get_volume asked part
result_of asked part (options.Random on) = random asked on
result_of asked part (options.Repeat on) = repeat asked on
result_of asked part options.ReplayGainStatus = replay_gain asked
result_of asked part (options.SetReplayGain gain) = set_replay_gain asked gain
result_of asked part (options.SetVol volume) = set_volume asked volume
result_of asked part (options.Single mode) = single asked mode
