-- The limits that a script may lower (this profile's script and limits).
use Rattle.std.specs.Prelude.{ℕ, List, [], ◌∷◌, codes, Option, Some, None, find, ◌&&◌, nat_le, if◌then◌else◌}
use Rattle.std.specs.Str.{bytes_eq}
use Rattle.mpd_text.specs.Answers.Number.{number_of}
use Rattle.script_lines.specs.declared.limit.LimitName.{LimitName}
use Rattle.script_lines.specs.declared.limit.LimitName.TheVariants.{MaxQueue, MaxVersion, MaxId, MaxCut, History, Everyday}

abbrev pub limit_text : LimitName → List ℕ
limit_text MaxQueue = codes "max_queue"
limit_text MaxVersion = codes "max_version"
limit_text MaxId = codes "max_id"
limit_text MaxCut = codes "max_cut"
limit_text History = codes "history"
limit_text Everyday = codes "everyday"

abbrev pub greatest_of : LimitName → ℕ
greatest_of MaxQueue = 16384
greatest_of MaxVersion = 2147483647
greatest_of MaxId = 2147483647
greatest_of MaxCut = 4294967295
greatest_of History = 4096
greatest_of Everyday = 1

-- the limit of a name
unfoldable pub limit_named : List ℕ → Option LimitName
limit_named word = find (λ name. bytes_eq (limit_text name) word) (MaxQueue ∷ MaxVersion ∷ MaxId ∷ MaxCut ∷ History ∷ Everyday ∷ [])

abbrev pub within : ℕ → Option ℕ → Option ℕ
within greatest None = None
within greatest (Some n) = if nat_le 1 n && nat_le n greatest then Some n else None

-- a number from 1 up to the greatest
unfoldable pub number_within : ℕ → List ℕ → Option ℕ
number_within greatest word = within greatest (number_of word)
