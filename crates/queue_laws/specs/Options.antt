-- What `status` and `getvol` show after a command that sets something (MPD protocol reference, Playback options;
-- Querying MPD's status).
use Rattle.std.specs.Prelude.{◌≡◌, ℕ, zero, suc, ◌+◌, ◌-◌, min, Bool, true, false, List, [], ◌++◌, Option, Some, None, codes, decimal}
use Rattle.command_arguments.specs.declared.forms.SongMode.{SongMode}
use Rattle.command_arguments.specs.declared.forms.SongMode.TheVariants as mode
use Rattle.command_arguments.specs.declared.forms.VolumeChange.TheVariants.{Up, Down}
use Rattle.mpd_command.specs.declared.options.OptionCommand.{OptionCommand}
use Rattle.mpd_command.specs.declared.options.OptionCommand.TheVariants as options
use Rattle.mpd_command.specs.declared.status.StatusCommand.TheVariants.{Status}
use Rattle.mpd_text.specs.Answers.Answer.{pair_line}
use Rattle.player_state.specs.Effects.{part_after}
use Rattle.player_state.specs.declared.effect.Effect.TheVariants.{ByCommand}
use Rattle.player_state.specs.declared.state.Library.{Library}
use Rattle.player_state.specs.declared.state.Part.{Part}
use Rattle.status_commands.specs.Options.{result_of}
use Rattle.status_commands.specs.Status.{result_of as status_result}
use Rattle.transitions.specs.CommandResults.{shows}
use Rattle.transitions.specs.declared.asked.Asked.{Asked}

-- what can be set, as `status` shows it: the text behind each name; `xfade` may be left out
pub record Settings : Type 0 where
  pub volume : List ℕ
  pub repeat : List ℕ
  pub random : List ℕ
  pub single : List ℕ
  pub consume : List ℕ
  pub xfade : Option (List ℕ)

abbrev pub xfade_line : Option (List ℕ) → List ℕ
xfade_line None = []
xfade_line (Some text) = pair_line (codes "xfade") text

-- the lines of `status`: first those of settings; behind them others, among them those of the next song; then the
-- one of `xfade`, and others
abbrev pub lines_of : Settings → List ℕ → List ℕ → List ℕ → List ℕ → List ℕ
lines_of settings front next back behind =
    pair_line (codes "volume") settings.volume
    ++ (pair_line (codes "repeat") settings.repeat
    ++ (pair_line (codes "random") settings.random
    ++ (pair_line (codes "single") settings.single
    ++ (pair_line (codes "consume") settings.consume
    ++ (front ++ (next ++ (back ++ (xfade_line settings.xfade ++ behind))))))))

abbrev pub switch_text : Bool → List ℕ
switch_text true = decimal 1
switch_text false = decimal 0

abbrev pub mode_text : SongMode → List ℕ
mode_text mode.Off = codes "0"
mode_text mode.On = codes "1"
mode_text mode.Oneshot = codes "oneshot"

-- a fade of no seconds is not shown
abbrev pub fade_text : ℕ → Option (List ℕ)
fade_text zero = None
fade_text (suc seconds) = Some (decimal (suc seconds))

-- a command sets just this: the settings before it, and after it
abbrev pub IsSet : OptionCommand → Settings → Settings → Type 0
IsSet (options.Consume it) old new = new ≡ record old { consume = mode_text it }
IsSet (options.Crossfade seconds) old new = new ≡ record old { xfade = fade_text seconds }
IsSet (options.Random on) old new = new ≡ record old { random = switch_text on }
IsSet (options.Repeat on) old new = new ≡ record old { repeat = switch_text on }
IsSet (options.SetVol volume) old new = new ≡ record old { volume = decimal volume }
IsSet (options.ChangeVolume (Up more)) old new =
    (volume : ℕ) × (old.volume ≡ decimal volume) × (new ≡ record old { volume = decimal (min 100 (volume + more)) })
IsSet (options.ChangeVolume (Down less)) old new =
    (volume : ℕ) × (old.volume ≡ decimal volume) × (new ≡ record old { volume = decimal (volume - less) })
IsSet (options.Single it) old new = new ≡ record old { single = mode_text it }
IsSet _ old new = new ≡ old

-- whether another song may be the next one after a command
abbrev pub may_reorder : OptionCommand → Bool
may_reorder (options.Consume it) = true
may_reorder (options.Random on) = true
may_reorder (options.Repeat on) = true
may_reorder (options.Single it) = true
may_reorder _ = false

-- `status` shows these lines, and `getvol` the same volume
pub record ShowsLines (asked : Asked) (part : Part) (library : Library) (everyday : Bool) (settings : Settings) (lines : List ℕ) : Type 0 where
  pub status : status_result asked part library (Status everyday) ≡ shows asked lines
  pub volume : result_of asked part options.GetVol ≡ shows asked (pair_line (codes "volume") settings.volume)

-- What is set is shown, and all else that was shown is shown still, except for the next song where it may be another.
pub record ShowsWhatIsSet (asked : Asked) (library : Library) (everyday : Bool) (it : OptionCommand) (before after : Part) : Type 0 where
  pub old : Settings
  pub new : Settings
  pub set : IsSet it old new
  pub front : List ℕ
  pub next : List ℕ
  pub next_then : List ℕ
  pub same_next : may_reorder it ≡ false → next_then ≡ next
  pub back : List ℕ
  pub behind : List ℕ
  pub shown : ShowsLines asked before library everyday old (lines_of old front next back behind)
  pub shown_then : ShowsLines asked after library everyday new (lines_of new front next_then back behind)

abbrev pub WhatIsSetIsShown : Type 0
WhatIsSetIsShown =
    (asking asked : Asked) (part : Part) (library : Library) (everyday : Bool) (it : OptionCommand)
    → ShowsWhatIsSet asked library everyday it part
    (part_after library.rate part (ByCommand (result_of asking part it).effect))
