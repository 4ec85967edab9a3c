-- What a scan does with a path (this profile's). A URI is the path from the scanned folder on.
use Rattle.std.specs.Prelude.{ℕ, Bool, not, ◌&&◌, ◌==◌, nat_le, nat_lt, List, ◌∷◌, ◌++◌, length, drop, codes, if◌then◌else◌, ◌-◌}
use Rattle.std.specs.List.{list_any, count_by}
use Rattle.std.specs.Str.{str_eq_ignore_ascii_case}
use Rattle.library_scan.specs.declared.step.Kind.{Kind}
use Rattle.library_scan.specs.declared.step.Kind.TheVariants.{Folder, File, Other, Unseen}
use Rattle.library_scan.specs.declared.step.Step.{Step}
use Rattle.library_scan.specs.declared.step.Step.TheVariants.{Skip, Descend, Read, Refuse}

-- a path and a name or a path after it, with a slash between them; where one is empty, the other alone
abbrev pub path_of : List ℕ → List ℕ → List ℕ
path_of front name = if length front == 0 then name else (if length name == 0 then front else front ++ 47 ∷ name)

-- at most 1,024 bytes, and none below 0x20
abbrev pub is_plain : List ℕ → Bool
is_plain uri = nat_le (length uri) 1024 && not (list_any (λ b. nat_lt b 32) uri)

-- how many folders stand before the last name
abbrev pub depth : List ℕ → ℕ
depth uri = count_by (λ b. b == 47) uri

-- whether the last name ends in `.wav`, whatever the case of these letters
abbrev pub ends_as_wave : List ℕ → Bool
ends_as_wave uri = nat_le 4 (length uri) && str_eq_ignore_ascii_case (drop (length uri - 4) uri) (codes ".wav")

-- whether a regular file of this URI is read: at most 16 folders down
abbrev pub is_song_uri : List ℕ → Bool
is_song_uri uri = is_plain uri && nat_le (depth uri) 16 && ends_as_wave uri

-- whether a folder of this URI is listed: the sixteenth down is the last
abbrev pub is_folder_uri : List ℕ → Bool
is_folder_uri uri = is_plain uri && nat_lt (depth uri) 16

abbrev pub step_of : List ℕ → Kind → Step
step_of uri Folder = if is_folder_uri uri then Descend else Skip
step_of uri File = if is_song_uri uri then Read else Skip
step_of uri Other = Skip
step_of uri Unseen = if is_song_uri uri then Refuse else Skip
