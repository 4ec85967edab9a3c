-- What is read off the settings at the start (this profile's).
use Rattle.std.specs.Prelude.{ℕ, Bool, false, List, ◌++◌, Option, Some, None, String, codes, nat_lt, option_map, string_bytes, if◌then◌else◌}
use Rattle.std.specs.Global.{Global}
use Rattle.std.specs.Str.{bytes_eq}
use Rattle.settings.specs.declared.values.Settings.{Settings}
use Rattle.opened_player.specs.Opened.{commands_for}
use Rattle.serving.specs.declared.run.ServingOptions.{ServingOptions}

abbrev pub texts_of : Option (String Global) → Option (List ℕ)
texts_of text = option_map string_bytes text

abbrev pub are_one : Option (List ℕ) → Option (List ℕ) → Bool
are_one (Some one) (Some other) = bytes_eq one other
are_one one other = false

-- the state and the shelf are to be kept in one file
abbrev pub is_state_shelf : Settings → Bool
is_state_shelf settings = are_one (texts_of settings.state) (texts_of settings.shelf)

-- where a state's file is kept, of which so many lines were refused
abbrev pub aside_for : List ℕ → ℕ → Option (List ℕ)
aside_for path refused = if nat_lt 0 refused then Some (path ++ codes ".refused") else None

-- how a daemon plays and serves by the settings
abbrev pub serving_options : Settings → ServingOptions
serving_options settings = record { rate = settings.rate; ring = settings.ring; commands = commands_for settings }
