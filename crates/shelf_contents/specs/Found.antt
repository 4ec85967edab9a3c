-- The songs and the stored playlists that have a sticker (MPD protocol reference, Stickers: `sticker find`;
-- that values are compared by their bytes, and that playlists have stickers, is this profile's).
use Rattle.std.specs.Prelude.{◌≡◌, ℕ, Bool, true, ◌&&◌, List, [], ◌∷◌, ◌++◌, flat_map, filter, map, Option, Some, None, is_some, bytes_eq, if◌then◌else◌}
use Rattle.std.specs.Cmp.Lexicographic.{slice_cmp}
use Rattle.std.specs.Ordering.{nat_cmp, is_eq, is_lt, is_gt}
use Rattle.shelf.specs.declared.faults.Entry.{Entry}
use Rattle.shelf.specs.Entries.{entry_texts}
use Rattle.mpd_text.specs.Songs.Song.{SongData}
use Rattle.mpd_command.specs.declared.sticker.Comparison.{Comparison}
use Rattle.mpd_command.specs.declared.sticker.Operator.{Operator}
use Rattle.mpd_command.specs.declared.sticker.Operator.TheVariants.{Equals, Less, Greater}
use Rattle.song_db.specs.Library.{song_of}
use Rattle.song_search.specs.Truth.{is_under}
use Rattle.shelf_contents.specs.Shown.{uri_line, playlist_line, sticker_of}

-- whether a value is equal to another, less or greater
abbrev pub compares : Operator → List ℕ → List ℕ → Bool
compares Equals value other = is_eq (slice_cmp nat_cmp value other)
compares Less value other = is_lt (slice_cmp nat_cmp value other)
compares Greater value other = is_gt (slice_cmp nat_cmp value other)

-- whether a value meets a test; without one each does
abbrev pub meets : Option Comparison → List ℕ → Bool
meets None value = true
meets (Some test) value = compares test.operator value test.value

-- whether a URI is asked for: a song by its own, and a folder by those of the songs under it. A name that is
-- a song's is taken as the song. Each lies under the empty one
abbrev pub is_asked : Bool → List ℕ → List ℕ → Bool
is_asked is_song asked uri = if is_song then bytes_eq uri asked else is_under asked uri

-- whether a sticker is asked for, has a value that meets the test, and is that of a song of the library
abbrev pub is_found : List SongData → List ℕ → Option Comparison → List ℕ × List ℕ → Bool
is_found songs asked test e = is_asked (is_some (song_of songs asked)) asked e.0 && meets test e.1 && is_some (song_of songs e.0)

-- a URI and its sticker
abbrev pub found_line : List ℕ → List ℕ × List ℕ → List ℕ
found_line name e = uri_line e.0 ++ sticker_of name e.1

abbrev pub found_lines : List SongData → List ℕ → List ℕ → Option Comparison → List (List ℕ × List ℕ) → List ℕ
found_lines songs asked name test entries = flat_map (found_line name) (filter (is_found songs asked test) entries)

-- the answer shows those of these entries that are found
abbrev pub ShowsFound : List SongData → List ℕ → List ℕ → Option Comparison → List Entry → List ℕ → Type 0
ShowsFound songs asked name test entries answer = answer ≡ found_lines songs asked name test (map entry_texts entries)

-- a stored playlist and its sticker
abbrev pub found_list_line : List ℕ → List ℕ × List ℕ → List ℕ
found_list_line name e = playlist_line e.0 ++ sticker_of name e.1

-- the stored playlists whose stickers have values that meet a test
abbrev pub found_list_lines : List ℕ → Option Comparison → List (List ℕ × List ℕ) → List ℕ
found_list_lines name test entries = flat_map (found_list_line name) (filter (λ e. meets test e.1) entries)

-- the same of the sticker of one stored playlist
abbrev pub found_in_list : List ℕ → List ℕ → Option Comparison → List ℕ → List ℕ
found_in_list list name test value = found_list_lines name test ((list, value) ∷ [])

-- the answer shows those of these entries whose values meet the test
abbrev pub ShowsFoundLists : List ℕ → Option Comparison → List Entry → List ℕ → Type 0
ShowsFoundLists name test entries answer = answer ≡ found_list_lines name test (map entry_texts entries)
