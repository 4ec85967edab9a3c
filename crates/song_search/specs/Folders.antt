-- Folders of a library: what lies in them (MPD protocol reference, The music database; that a folder is what
-- stands before a slash of a URI, and that the empty one is the whole library, is this profile's).
use Rattle.std.specs.Prelude.{ℕ, ◌≡◌, ◌+◌, ◌<◌, ◌≤◌, Bool, true, not, ◌&&◌, ◌||◌, ◌==◌, nat_eq, List, [], ◌∷◌, ◌++◌, length, drop, Option, Some, None, if◌then◌else◌}
use Rattle.std.specs.List.{filter, filter_map, list_any, position_or_len, starts_with, before_first}
use Rattle.mpd_text.specs.Songs.Song.{SongData}
use Rattle.song_search.specs.Truth.{front_of, is_under}
use Rattle.mpd_text.specs.Texts.{ascending}

-- the songs under a folder
abbrev pub under : List ℕ → List SongData → List SongData
under folder songs = filter (λ (song : SongData). is_under folder song.uri) songs

-- whether a URI is a folder's: the empty one is, and each under which a song lies
abbrev pub is_folder : List ℕ → List SongData → Bool
is_folder folder songs = length folder == 0 || list_any (λ (song : SongData). is_under folder song.uri) songs

-- the path of a URI from a folder on that it lies under
abbrev pub path_in : List ℕ → List ℕ → List ℕ
path_in folder uri = drop (length (front_of folder)) uri

abbrev pub has_slash : List ℕ → Bool
has_slash text = list_any (λ b. b == 47) text

-- an offset is where the path of a URI from a folder on begins that it lies under
abbrev pub IsPathStart : List ℕ → List ℕ → ℕ → Type 0
IsPathStart folder uri start = (is_under folder uri ≡ true) × (start ≡ length (front_of folder)) × (start ≤ length uri)

-- an offset is that of the first slash of a text
abbrev pub IsFirstSlash : List ℕ → ℕ → Type 0
IsFirstSlash text offset =
    (has_slash text ≡ true) × (offset ≡ position_or_len (λ b. b == 47) text) × (offset < length text)

-- an offset of a text is that of its first slash from another one on
abbrev pub IsFirstSlashFrom : ℕ → List ℕ → ℕ → Type 0
IsFirstSlashFrom start text offset =
    (has_slash (drop start text) ≡ true)
    × (offset ≡ start + position_or_len (λ b. b == 47) (drop start text))
    × (offset < length text)

-- whether a URI lies right in a folder, in none of the folders below
abbrev pub is_direct : List ℕ → List ℕ → Bool
is_direct folder uri = is_under folder uri && not (has_slash (path_in folder uri))

-- the songs right in a folder
abbrev pub direct_songs : List ℕ → List SongData → List SongData
direct_songs folder songs = filter (λ (song : SongData). is_direct folder song.uri) songs

-- whether a URI goes on with a slash after a folder
abbrev pub lies_in : List ℕ → List ℕ → Bool
lies_in folder uri = starts_with nat_eq uri (folder ++ 47 ∷ [])

-- the folder right below a folder in which a URI lies, if it lies in one: what stands before the next slash
abbrev pub folder_below : List ℕ → List ℕ → Option (List ℕ)
folder_below folder uri =
    if is_under folder uri && has_slash (path_in folder uri) then Some (front_of folder ++ before_first (λ b. b == 47) (path_in folder uri)) else None

-- the folders right below a folder, in byte order and each once
abbrev pub direct_folders : List ℕ → List SongData → List (List ℕ)
direct_folders folder songs = ascending (filter_map (λ (song : SongData). folder_below folder song.uri) songs)
