-- The keys of the settings, which are a text of TOML (TOML 1.1, Table and Array of Tables; the keys are this
-- profile's).
use Rattle.std.specs.Prelude.{ℕ, List, [], ◌∷◌, codes, pos, Bool, true, false, not, ◌&&◌, ◌+◌, ◌==◌, nat_le, Option, Some, None, option_and_then, unwrap_or, if◌then◌else◌}
use Rattle.std.specs.List.{list_any}
use Rattle.std.specs.Str.{bytes_eq}
use Rattle.toml.specs.Data.{Data, string, integer, boolean, array, table, Items, no_items, item, Members, no_members, member, as_str, get, get_member}

-- ---- what a value may be

abbrev pub is_text : Data → Bool
is_text (string s) = true
is_text _ = false

-- a text without a line feed
abbrev pub is_line : Data → Bool
is_line (string s) = not (list_any (λ byte. byte == 10) s)
is_line _ = false

abbrev pub is_flag : Data → Bool
is_flag (boolean b) = true
is_flag _ = false

-- a whole number, 0 or above
abbrev pub natural : Data → Option ℕ
natural (integer (pos n)) = Some n
natural _ = None

abbrev pub is_natural : Data → Bool
is_natural (integer (pos n)) = true
is_natural _ = false

-- a whole number in a range
abbrev pub is_number : ℕ → ℕ → Data → Bool
is_number least most (integer (pos n)) = nat_le least n && nat_le n most
is_number least most _ = false

-- ---- a key

-- what stands for a key that is left out
pub data LeftOut : Type 0 where
  -- nothing: it must be there
  refused : LeftOut
  -- nothing: the setting has no value
  nothing : LeftOut
  -- this value
  stands_for : Data → LeftOut

pub record Key : Type 0 where
  pub name : List ℕ
  pub takes : Data → Bool
  pub left_out : LeftOut

abbrev pub key : List ℕ → (Data → Bool) → LeftOut → Key
key name takes left_out = record { name = name; takes = takes; left_out = left_out }

-- one of the keys has this name, and takes the value
abbrev pub is_good : List Key → List ℕ → Data → Bool
is_good [] name d = false
is_good (k ∷ keys) name d = if bytes_eq name k.name then k.takes d else is_good keys name d

-- the names in a table that none of the keys has, or whose value is not taken
abbrev pub bad : List Key → Members → List (List ℕ)
bad keys no_members = []
bad keys (member name d rest) = if is_good keys name d then bad keys rest else name ∷ bad keys rest

abbrev pub is_absent : LeftOut → Option Data → Bool
is_absent refused None = true
is_absent left_out found = false

-- the keys that must be in a table and are not
abbrev pub absent : List Key → Members → List (List ℕ)
absent [] entries = []
absent (k ∷ keys) entries = if is_absent k.left_out (get_member k.name entries) then k.name ∷ absent keys entries else absent keys entries

abbrev pub are_none : List (List ℕ) → Bool
are_none [] = true
are_none (name ∷ names) = false

-- ---- the keys

abbrev pub output_keys : List Key
output_keys =
    key (codes "name") is_line refused
    ∷ key (codes "path") is_text refused
    ∷ key (codes "enabled") is_flag (stands_for (boolean true))
    ∷ key (codes "patience") (is_number 1 86400) nothing
    ∷ []

abbrev pub is_output : Data → Bool
is_output (table entries) = are_none (bad output_keys entries) && are_none (absent output_keys entries)
is_output _ = false

abbrev pub item_count : Items → ℕ
item_count no_items = 0
item_count (item d rest) = 1 + item_count rest

abbrev pub each_output : Items → Bool
each_output no_items = true
each_output (item d rest) = is_output d && each_output rest

-- the name of an output, empty where it has none
abbrev pub name_of : Data → List ℕ
name_of d = unwrap_or (option_and_then as_str (get (codes "name") d)) []

abbrev pub names_of : Items → List (List ℕ)
names_of no_items = []
names_of (item d rest) = name_of d ∷ names_of rest

-- no two of the names are the same, byte by byte
abbrev pub all_differ : List (List ℕ) → Bool
all_differ [] = true
all_differ (name ∷ names) = not (list_any (bytes_eq name) names) && all_differ names

-- an array of at most 8 tables, each an output, and each of another name
abbrev pub are_outputs : Data → Bool
are_outputs (array ds) = nat_le (item_count ds) 8 && each_output ds && all_differ (names_of ds)
are_outputs _ = false

abbrev pub settings_keys : List Key
settings_keys =
    key (codes "everyday") is_flag (stands_for (boolean false))
    ∷ key (codes "history") (is_number 1 65536) (stands_for (integer (pos 4096)))
    ∷ key (codes "kill") is_flag (stands_for (boolean false))
    ∷ key (codes "listen") is_text refused
    ∷ key (codes "music") is_text refused
    ∷ key (codes "output") are_outputs (stands_for (array no_items))
    ∷ key (codes "random_start") is_natural (stands_for (integer (pos 0)))
    ∷ key (codes "rate") (is_number 8000 192000) (stands_for (integer (pos 44100)))
    ∷ key (codes "ring") (is_number 1024 65536) (stands_for (integer (pos 8192)))
    ∷ key (codes "shelf") is_text nothing
    ∷ key (codes "state") is_text nothing
    ∷ []
