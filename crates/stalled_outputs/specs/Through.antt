-- What outputs with patience write through (this profile's).
use Rattle.std.specs.Prelude.{◌≡◌, ℕ, Bool, false, List, Option, Some, None, is_some, map, slice_get, slice_index_or}
use Rattle.settings.specs.declared.values.OutputSettings.{OutputSettings}

-- each output that has patience, and no other one, has something that it writes through
abbrev pub AreForPatience : {X : Type 0} → List (Option X) → List OutputSettings → Type 0
AreForPatience through outputs = map is_some through ≡ map (λ (o : OutputSettings). is_some o.patience) outputs

-- an output without patience is not off for its path
abbrev pub IsOffOnlyWithPatience : {X : Type 0} → List (Option X) → List Bool → Type 0
IsOffOnlyWithPatience outputs off = (output : ℕ) → slice_get outputs output ≡ Some None → slice_index_or off output false ≡ false
