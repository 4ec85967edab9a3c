-- What a daemon's player is opened with, by its settings (this profile's).
use Rattle.std.specs.Prelude.{◌≡◌, ℕ, zero, suc, Bool, true, false, List, [], ◌∷◌, map, None, string_bytes}
use Rattle.mpd_command.specs.declared.command_set.CommandSet.{CommandSet}
use Rattle.mpd_text.specs.Songs.Song.{SongData}
use Rattle.partition.specs.History.{Chronicle, begun}
use Rattle.partition.specs.Image.{Image, no_events, opening}
use Rattle.partition.specs.declared.state.Limits.{Limits}
use Rattle.partition.specs.declared.state.Setup.{Setup}
use Rattle.player_state.specs.Outputs.{OutputsData, all_off, empty_books, no_moves}
use Rattle.player_state.specs.Scans.{never_scanned}
use Rattle.player_state.specs.declared.state.Library.{Library}
use Rattle.settings.specs.declared.values.OutputSettings.{OutputSettings}
use Rattle.settings.specs.declared.values.Settings.{Settings}

-- flags of so many, false behind those that are given
abbrev pub flags : ℕ → List Bool → List Bool
flags zero given = []
flags (suc n) [] = false ∷ flags n []
flags (suc n) (flag ∷ given) = flag ∷ flags n given

-- all outputs are in the first partition, each under its name and enabled where the settings say so
abbrev pub outputs_for : List OutputSettings → OutputsData
outputs_for outputs = record {
  names = map (λ output. string_bytes output.name) outputs;
  here = flags 8 (map (λ output. true) outputs);
  enabled = flags 8 (map (λ output. output.enabled) outputs);
  failed = all_off;
  moves = no_moves;
  asked = all_off;
}

-- the history keeps as many events as the settings say; the other limits are the same for all
abbrev pub limits_for : ℕ → Limits
limits_for history = record {
  max_queue = 16384;
  max_version = 2147483647;
  max_id = 2147483647;
  max_cut = 9223372036854775807;
  history = history;
}

abbrev pub setup_for : Settings → Setup
setup_for settings = record {
  limits = limits_for settings.history;
  random_start = settings.random_start;
  outputs = outputs_for settings.outputs.items;
}

-- these songs, of the rate of the settings, none of which was scanned for since that second
abbrev pub library_for : Settings → List SongData → ℕ → Library
library_for settings songs second = record { songs = songs; rate = settings.rate; scan = never_scanned; updated = second }

-- a player to which nothing happened
abbrev pub opened_by : Settings → List SongData → ℕ → Chronicle
opened_by settings songs second = begun settings.history (opening (setup_for settings) (library_for settings songs second))

-- no seat made an event, and no output has frames
abbrev pub IsUnused : Image → Type 0
IsUnused i = (i.shared.made ≡ no_events) × (i.shared.books ≡ empty_books)

-- what clients may say
abbrev pub commands_for : Settings → CommandSet
commands_for settings = record { kill = settings.kill; everyday = settings.everyday; uptime = None }
