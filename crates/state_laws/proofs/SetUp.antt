-- What the settings open is set up as the laws assume.
use Rattle.std.proofs.Common.{◌≡◌, ◌≢◌, ℕ, zero, suc, ◌<◌, ◌≤◌, Bool, true, false, cond, nat_lt, List, [], ◌∷◌, length, map, Some, None, refl, ap, sym, ◌∙◌, arith, inl, inr, string_bytes}
use Rattle.std.specs.Prelude.{AllPairs, slice_index_or}
use Rattle.std.specs.List.{position, position_or_len}
use Rattle.std.specs.Str.{bytes_eq}
use Rattle.std.proofs.lemmas.Bool.{cases_lt, false_from_ne_true, le-ltb, lt-ltb}
use Rattle.std.proofs.lemmas.List.{get_or-map, get_or-replicate, get_or_past, length-map}
use Rattle.std.proofs.lemmas.List.Sums.{position_or_len_is}
use Rattle.opened_player.specs.Opened.{flags, outputs_for}
use Rattle.player_state.specs.Outputs.{all_off, is_output}
use Rattle.settings.specs.Values.{HaveOwnNames}
use Rattle.settings.specs.declared.values.OutputSettings.{OutputSettings}
use Rattle.state_laws.specs.Assumed.{SettingsAreSetUp, SettingsLeaveRoom}
use Rattle.state_laws.specs.Partitions.{AreSetUp}
use Rattle.state_laws.proofs.Farness.{never_moved}
use Rattle.state_laws.proofs.Numbers.{same_text, text_same}

-- ---- names

texts_differ : (one other : List ℕ) → one ≢ other → bytes_eq one other ≡ false
texts_differ one other apart = false_from_ne_true (bytes_eq one other) (λ e. apart (same_text one other e))

-- a name that is another one than each before it is found at its own index
found_by_name : (names : List (List ℕ)) (number : ℕ) → AllPairs (λ one other. one ≢ other) names → number < length names
    → position (λ name. bytes_eq name (slice_index_or names number [])) names ≡ Some number
found_by_name names number apart within =
    let own : List ℕ = slice_index_or names number [] in
    let is : position_or_len (λ name. bytes_eq name own) names ≡ number =
    position_or_len_is (λ name. bytes_eq name own) names number [] (omega (arith, within))
    (λ k before. texts_differ (slice_index_or names k []) own (apart k number [] before within)) (λ inside. text_same own own refl) in
    ap (λ (n : ℕ). cond (nat_lt n (length names)) (Some n) None) is
    ∙ ap (λ (b : Bool). cond b (Some number) None) (lt-ltb number (length names) within)

abbrev name_in : OutputSettings → List ℕ
name_in output = string_bytes output.name

names_apart : (outputs : List OutputSettings) → HaveOwnNames outputs → AllPairs (λ one other. one ≢ other) (map name_in outputs)
names_apart [] own i j d before within = absurd (omega (arith, within))
names_apart (output ∷ outputs) own i j d before within =
    let inside : j < length (output ∷ outputs) = omega (arith, within, length-map (output ∷ outputs) name_in) in
    let one : slice_index_or (map name_in (output ∷ outputs)) i d ≡ name_in (slice_index_or (output ∷ outputs) i output) =
    get_or-map name_in (output ∷ outputs) i output d (omega (arith, before, inside)) in
    let other : slice_index_or (map name_in (output ∷ outputs)) j d ≡ name_in (slice_index_or (output ∷ outputs) j output) =
    get_or-map name_in (output ∷ outputs) j output d inside in
    λ same. own i j output before inside (sym one ∙ same ∙ other)

-- ---- flags

length_flags : (n : ℕ) (given : List Bool) → length (flags n given) ≡ n
length_flags zero given = refl
length_flags (suc n) [] = ap suc (length_flags n [])
length_flags (suc n) (flag ∷ given) = ap suc (length_flags n given)

-- each flag is the one that is given, and off behind those
flag_at : (n : ℕ) (given : List Bool) (number : ℕ) → length given ≤ n
    → slice_index_or (flags n given) number false ≡ slice_index_or given number false
flag_at zero [] number few = refl
flag_at zero (flag ∷ given) number few = absurd (omega (arith, few))
flag_at (suc n) [] zero few = refl
flag_at (suc n) [] (suc number) few = flag_at n [] number (omega arith)
flag_at (suc n) (flag ∷ given) zero few = refl
flag_at (suc n) (flag ∷ given) (suc number) few = flag_at n given number (omega (arith, few))

abbrev always : OutputSettings → Bool
always output = true

is_given : (outputs : List OutputSettings) (number : ℕ) → number < length outputs → slice_index_or (map always outputs) number false ≡ true
is_given [] number within = absurd (omega (arith, within))
is_given (output ∷ outputs) zero within = refl
is_given (output ∷ outputs) (suc number) within = is_given outputs number (omega (arith, within))

are_given : (outputs : List OutputSettings) (number : ℕ) → slice_index_or (map always outputs) number false ≡ nat_lt number (length outputs)
are_given outputs number = elim (cases_lt number (length outputs)) [
  | inl less ↦ is_given outputs number less ∙ sym (lt-ltb number (length outputs) less)
  | inr past ↦
      get_or_past (map always outputs) number false (omega (arith, past, length-map outputs always))
      ∙ sym (le-ltb number (length outputs) past)
]

none_is_on : (number : ℕ) → slice_index_or all_off number false ≡ false
none_is_on number = elim (cases_lt number 8) [
  | inl less ↦ get_or-replicate 8 number false false less
  | inr past ↦ get_or_past all_off number false past
]

-- ---- the outputs

are_set_up : (outputs : List OutputSettings) → length outputs ≤ 8 → HaveOwnNames outputs → AreSetUp (outputs_for outputs)
are_set_up outputs few own =
    let as_many : length (map name_in outputs) ≡ length outputs = length-map outputs name_in in
    let flagged : (number : ℕ) → is_output (outputs_for outputs) number ≡ slice_index_or (map always outputs) number false =
    λ number. flag_at 8 (map always outputs) number (omega (arith, few, length-map outputs always)) in
    record {
      few = omega (arith, few, as_many);
      found = λ number within. found_by_name (map name_in outputs) number (names_apart outputs own) within;
      first = λ number. flagged number ∙ are_given outputs number ∙ ap (nat_lt number) (sym as_many);
      sound = none_is_on;
      here = length_flags 8 (map always outputs);
      enabled = length_flags 8 (map (λ (o : OutputSettings). o.enabled) outputs);
    }

pub settings_are_set_up : SettingsAreSetUp
settings_are_set_up settings within own =
    let few : length settings.outputs.items ≤ 8 = omega (arith, within.outputs, settings.outputs.ok.0) in
    (are_set_up settings.outputs.items few own, never_moved)

pub settings_leave_room : SettingsLeaveRoom
settings_leave_room settings songs lines few within =
    let outputs : List OutputSettings = settings.outputs.items in
    let known : length (flags 8 (map (λ (o : OutputSettings). o.enabled) outputs)) ≡ length (flags 8 (map always outputs)) =
    length_flags 8 (map (λ (o : OutputSettings). o.enabled) outputs) ∙ sym (length_flags 8 (map always outputs)) in
    (record { known = known; queue = few; ids = omega (arith, few) }, omega (arith, within))
