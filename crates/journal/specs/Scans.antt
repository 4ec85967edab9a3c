-- What the daemon tells of its start and of each later scan (this profile's).
use Rattle.std.specs.Prelude.{ℕ, List, ◌++◌, Option, Some, None, codes, decimal, string_bytes}
use Rattle.std.specs.List.{flat_map}
use Rattle.settings.specs.declared.values.OutputSettings.{OutputSettings}
use Rattle.settings.specs.declared.values.Settings.{Settings}

-- an output with its path
abbrev pub output_text : OutputSettings → List ℕ
output_text output =
    codes ", output " ++ (string_bytes output.name ++ (codes " at " ++ string_bytes output.path))

-- the version, where clients connect, the outputs, and what was found in the folder of the music
abbrev pub start_text : List ℕ → Settings → List ℕ → List ℕ
start_text version settings found =
    codes "version "
    ++ (version
    ++ (codes " listens at "
    ++ (string_bytes settings.listen
    ++ (flat_map output_text settings.outputs.items ++ (codes "; " ++ found)))))

-- how many milliseconds a scan took, where that is known, and what was found
abbrev pub rescan_text : List ℕ → Option ℕ → List ℕ
rescan_text found None = codes "scan: " ++ found
rescan_text found (Some time) = codes "scan in " ++ (decimal time ++ (codes " ms: " ++ found))
