-- Which texts are settings, and for which key another is refused (this profile's).
use Rattle.std.specs.Prelude.{◌≡◌, ◌⊎◌, ⊤, ℕ, List, [], Option, Some, None, Contains, string_bytes}
use Rattle.std.specs.Cmp.Lexicographic.{slice_cmp}
use Rattle.std.specs.Ordering.{nat_cmp}
use Rattle.std.specs.declared.cmp.Ordering.TheVariants.{Less}
use Rattle.toml.specs.Data.{Members}
use Rattle.settings.specs.Keys.{absent, bad, settings_keys}
use Rattle.settings.specs.declared.values.SettingsFault.{SettingsFault}
use Rattle.settings.specs.declared.values.SettingsFault.TheVariants.{BadSetting, NoMemory}

-- the name is one of the names, and none of them is below it in byte order
pub record IsFirst (names : List (List ℕ)) (name : List ℕ) : Type 0 where
  pub one : Contains names name
  pub least : (other : List ℕ) → Contains names other → ¬ (slice_cmp nat_cmp other name ≡ Less)

-- a table is taken: no key in it is bad, and none that must be there is absent
pub record IsTaken (entries : Members) : Type 0 where
  pub good : bad settings_keys entries ≡ []
  pub whole : absent settings_keys entries ≡ []

-- a text is refused for a key: the empty one where it is not TOML, else the first bad one, and where none is
-- bad the first absent one
abbrev pub IsRefusedFor : Option Members → List ℕ → Type 0
IsRefusedFor None name = name ≡ []
IsRefusedFor (Some entries) name =
    IsFirst (bad settings_keys entries) name
    ⊎ ((bad settings_keys entries ≡ []) × IsFirst (absent settings_keys entries) name)

-- why there are no settings; memory may run out at any text
abbrev pub IsRefusedBy : Option Members → SettingsFault → Type 0
IsRefusedBy document (BadSetting name) = IsRefusedFor document (string_bytes name)
IsRefusedBy document NoMemory = ⊤

-- a text is settings
abbrev pub IsTakenDocument : Option Members → Type 0
IsTakenDocument None = ⊥
IsTakenDocument (Some entries) = IsTaken entries

-- each text is settings or is refused, and never both, and it is refused for one key alone
pub record OneCause : Type 0 where
  pub either : (document : Option Members) → IsTakenDocument document ⊎ ((name : List ℕ) × IsRefusedFor document name)
  pub not_both : (document : Option Members) (name : List ℕ) → IsTakenDocument document → ¬ IsRefusedFor document name
  pub alone : (document : Option Members) (one other : List ℕ) → IsRefusedFor document one → IsRefusedFor document other → one ≡ other
