-- Which settings a table is (this profile's).
use Rattle.std.specs.Prelude.{◌≡◌, ◌≢◌, ◌≤◌, ⊤, ℕ, List, [], ◌∷◌, AllPairs, codes, pos, Option, Some, None, option_map, String, string_bytes, true, vec_len, Bool, if◌then◌else◌}
use Rattle.std.specs.Global.{Global}
use Rattle.std.specs.Option.{ForSome}
use Rattle.std.specs.Str.{bytes_eq}
use Rattle.toml.specs.Data.{Data, string, integer, boolean, array, table, Items, no_items, item, Members, get_member}
use Rattle.settings.specs.Keys.{Key, LeftOut, nothing, refused, stands_for, output_keys, settings_keys}
use Rattle.settings.specs.declared.values.OutputSettings.{OutputSettings}
use Rattle.settings.specs.declared.values.Settings.{Settings}

-- what is found at a key, or else what stands for it
abbrev pub found_or : Option Data → LeftOut → Option Data
found_or (Some d) left_out = Some d
found_or None (stands_for d) = Some d
found_or None left_out = None

-- the same at a key of a table
abbrev pub found_at : List ℕ → Members → LeftOut → Option Data
found_at name entries left_out = found_or (get_member name entries) left_out

-- the text at a key of a table, which must be there
abbrev pub IsTextAt : List ℕ → Members → List ℕ → Type 0
IsTextAt name entries text = found_at name entries refused ≡ Some (string text)

-- the text at a key of a table, or none where it is left out
abbrev pub IsTextOrNoneAt : List ℕ → Members → Option (String Global) → Type 0
IsTextOrNoneAt name entries text =
    found_at name entries nothing ≡ option_map (λ found. string (string_bytes found)) text

-- the whole number at a key of a table, or this default where it is left out
abbrev pub IsNumberAt : List ℕ → Members → ℕ → ℕ → Type 0
IsNumberAt name entries default n = found_at name entries (stands_for (integer (pos default))) ≡ Some (integer (pos n))

-- the whole number at a key of a table, or none where it is left out
abbrev pub IsNumberOrNoneAt : List ℕ → Members → Option ℕ → Type 0
IsNumberOrNoneAt name entries number = found_at name entries nothing ≡ option_map (λ n. integer (pos n)) number

-- what is at a key of a table, where there is something, passes the test
abbrev pub PassesAt : (Data → Bool) → List ℕ → Members → Type 0
PassesAt test name entries = ForSome (get_member name entries) (λ d. test d ≡ true)

-- the value of one of the keys in a table
abbrev pub value : List Key → List ℕ → Members → Option Data
value [] name entries = None
value (k ∷ keys) name entries = if bytes_eq name k.name then found_at name entries k.left_out else value keys name entries

-- the table says this output
pub record SaysOutput (entries : Members) (output : OutputSettings) : Type 0 where
  pub name : value output_keys (codes "name") entries ≡ Some (string (string_bytes output.name))
  pub path : value output_keys (codes "path") entries ≡ Some (string (string_bytes output.path))
  pub enabled : value output_keys (codes "enabled") entries ≡ Some (boolean output.enabled)
  pub patience : value output_keys (codes "patience") entries ≡ option_map (λ n. integer (pos n)) output.patience

-- the value is a table that says this output
abbrev pub IsOutput : Data → OutputSettings → Type 0
IsOutput (table entries) output = SaysOutput entries output
IsOutput _ output = ⊥

-- the items are these outputs, in their order
abbrev pub AreOutputs : Items → List OutputSettings → Type 0
AreOutputs no_items [] = ⊤
AreOutputs (item d rest) (output ∷ outputs) = IsOutput d output × AreOutputs rest outputs
AreOutputs _ _ = ⊥

-- the outputs at a key of a table, or none where it is left out
abbrev pub AreOutputsAt : List ℕ → Members → List OutputSettings → Type 0
AreOutputsAt name entries outputs = (ds : Items)
    × (found_at name entries (stands_for (array no_items)) ≡ Some (array ds)) × AreOutputs ds outputs

-- the table says these settings: each is the value of its key
pub record Says (entries : Members) (settings : Settings) : Type 0 where
  pub music : value settings_keys (codes "music") entries ≡ Some (string (string_bytes settings.music))
  pub listen : value settings_keys (codes "listen") entries ≡ Some (string (string_bytes settings.listen))
  pub shelf : value settings_keys (codes "shelf") entries ≡ option_map (λ path. string (string_bytes path)) settings.shelf
  pub state : value settings_keys (codes "state") entries ≡ option_map (λ path. string (string_bytes path)) settings.state
  pub rate : value settings_keys (codes "rate") entries ≡ Some (integer (pos settings.rate))
  pub random_start : value settings_keys (codes "random_start") entries ≡ Some (integer (pos settings.random_start))
  pub history : value settings_keys (codes "history") entries ≡ Some (integer (pos settings.history))
  pub ring : value settings_keys (codes "ring") entries ≡ Some (integer (pos settings.ring))
  pub kill : value settings_keys (codes "kill") entries ≡ Some (boolean settings.kill)
  pub everyday : value settings_keys (codes "everyday") entries ≡ Some (boolean settings.everyday)
  pub outputs : (ds : Items) × (value settings_keys (codes "output") entries ≡ Some (array ds)) × AreOutputs ds settings.outputs.items

-- the settings are in their ranges
pub record AreWithin (settings : Settings) : Type 0 where
  pub history : (1 ≤ settings.history) × (settings.history ≤ 65536)
  pub ring : (1024 ≤ settings.ring) × (settings.ring ≤ 65536)
  pub outputs : vec_len settings.outputs ≤ 8

-- no two outputs have the same name
abbrev pub HaveOwnNames : List OutputSettings → Type 0
HaveOwnNames outputs = AllPairs (λ one other. string_bytes one.name ≢ string_bytes other.name) outputs
