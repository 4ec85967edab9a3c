-- The names of commands, in their byte order.
use Rattle.std.specs.Prelude.{ℕ, Bool, false, not, ◌&&◌, ◌||◌, List, [], ◌∷◌, ◌++◌, Option, None, codes, if◌then◌else◌, ◌-◌, map, position, slice_index, slice_index_or}
use Rattle.std.specs.Cmp.Lexicographic.{slice_cmp}
use Rattle.std.specs.List.{list_any, prefix_len}
use Rattle.std.specs.Option.{option_map}
use Rattle.std.specs.Ordering.{is_lt, nat_cmp}
use Rattle.std.specs.Str.{bytes_eq}
use Rattle.mpd_command.specs.Tables.{names_of}
use Rattle.mpd_command.specs.Connection.{rows as connection_rows}
use Rattle.mpd_command.specs.Database.{rows as database_rows}
use Rattle.mpd_command.specs.Messages.{rows as messages_rows}
use Rattle.mpd_command.specs.Options.{rows as options_rows}
use Rattle.mpd_command.specs.Outputs.{rows as outputs_rows}
use Rattle.mpd_command.specs.Partitions.{rows as partitions_rows}
use Rattle.mpd_command.specs.Playback.{rows as playback_rows}
use Rattle.mpd_command.specs.Playlists.{rows as playlists_rows}
use Rattle.mpd_command.specs.Queue.{rows as queue_rows}
use Rattle.mpd_command.specs.Status.{rows as status_rows}
use Rattle.mpd_command.specs.Stickers.{rows as stickers_rows}
use Rattle.mpd_command.specs.declared.command_set.CommandSet.{CommandSet}
use Rattle.mpd_command.specs.declared.name.Name.{Name}

abbrev pub comes_before : List ℕ → List ℕ → Bool
comes_before name other = is_lt (slice_cmp nat_cmp name other)

-- a name put before the first that comes after it
abbrev pub inserted : List ℕ → List (List ℕ) → List (List ℕ)
inserted name [] = name ∷ []
inserted name (other ∷ others) = if comes_before name other then name ∷ other ∷ others else other ∷ inserted name others

abbrev pub sorted : List (List ℕ) → List (List ℕ)
sorted [] = []
sorted (name ∷ names) = inserted name (sorted names)

-- the commands without `kill` and the everyday profile, where no time is measured
abbrev pub fewest : CommandSet
fewest = record { kill = false; everyday = false; uptime = None }

-- the names of all tables, in their byte order
unfoldable pub all_names : List (List ℕ)
all_names =
    sorted (names_of (status_rows fewest) ++ names_of options_rows ++ names_of (playback_rows fewest) ++ names_of (queue_rows fewest) ++ names_of (playlists_rows fewest)
    ++ names_of (database_rows fewest) ++ names_of stickers_rows ++ names_of (connection_rows fewest) ++ names_of outputs_rows ++ names_of messages_rows
    ++ names_of partitions_rows)

-- the names of the commands that the everyday profile adds, in their byte order
abbrev pub everyday_names : List (List ℕ)
everyday_names =
    codes "albumart" ∷ codes "decoders" ∷ codes "listallinfo" ∷ codes "listmounts" ∷ codes "playlist" ∷ codes "playlistfind"
    ∷ codes "playlistsearch" ∷ codes "readcomments" ∷ codes "readpicture" ∷ codes "replay_gain_mode" ∷ codes "replay_gain_status"
    ∷ codes "searchaddpl" ∷ codes "stats" ∷ codes "urlhandlers" ∷ codes "volume" ∷ []

-- whether the everyday profile adds the command of this name
abbrev pub is_added_name : List ℕ → Bool
is_added_name name = list_any (λ other. bytes_eq other name) everyday_names

-- how many names come before each letter, from `a` on, and before the character after `z`
unfoldable pub starts : List ℕ
starts = map (λ letter. prefix_len (λ name. comes_before name (letter ∷ [])) all_names) (codes "abcdefghijklmnopqrstuvwxyz{")

-- the letter that a word begins with, by its index from `a` on
abbrev pub letter_of : List ℕ → ℕ
letter_of word = slice_index word 0 - 97

-- whether there is a command of this name: one that the everyday profile adds has to be asked for
abbrev pub is_there : List ℕ → CommandSet → Bool
is_there name set = set.everyday || not (is_added_name name)

-- the text of a name
abbrev pub text_of : Name → List ℕ
text_of name = slice_index_or all_names name.index (codes "")

-- the name that a word is, whether there is such a command or not
unfoldable pub name_of : List ℕ → Option Name
name_of word = option_map (λ index. record { index = index }) (position (λ name. bytes_eq name word) all_names)

-- whether the command of this name may not be run: the settings have to allow `kill` (this profile's)
abbrev pub is_forbidden : List ℕ → CommandSet → Bool
is_forbidden name set = bytes_eq name (codes "kill") && not set.kill
