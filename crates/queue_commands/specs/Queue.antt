-- The commands that edit and show the queue (MPD protocol reference, The queue).
use Rattle.std.specs.Prelude.{ℕ, ◌≤◌, ◌+◌, ◌-◌, ◌==◌, nat_lt, nat_le, Bool, false, ◌&&◌, ◌||◌, List, [], ◌∷◌, ◌++◌, Option, Some, None, Result, Ok, Err, length, filter, slice_get, All, if◌then◌else◌, codes, decimal}
use Rattle.std.specs.List.{flat_map, range_with_len}
use Rattle.std.specs.declared.ops.Range.{Range as Positions}
use Rattle.command_arguments.specs.declared.forms.Position.{Position}
use Rattle.command_arguments.specs.declared.forms.Position.TheVariants.{At, After, Before}
use Rattle.command_arguments.specs.declared.criteria.Criteria.{Criteria}
use Rattle.command_arguments.specs.declared.criteria.Criteria.TheVariants.{Meeting, Refused}
use Rattle.filters.specs.Expressions.{Expression}
use Rattle.filters.specs.declared.matching.Case.{Case}
use Rattle.filters.specs.declared.matching.Case.TheVariants.{Heeded, Ignored}
use Rattle.mpd_text.specs.Answers.Answer.{pair_line}
use Rattle.mpd_text.specs.Answers.Range.{positions, within}
use Rattle.mpd_text.specs.Songs.Song.{SongData}
use Rattle.mpd_text.specs.declared.answers.answer.ErrorNumber.TheVariants.{Argument, PlaylistMax, PlayerSync}
use Rattle.mpd_text.specs.declared.answers.ranges.Range.{Range}
use Rattle.mpd_text.specs.declared.songs.song.TagName.{TagName}
use Rattle.known_tags.specs.Lines.{song_lines_with}
use Rattle.song_db.specs.Library.{song_of}
use Rattle.song_queue.specs.declared.edit.Edit.TheVariants.{Insert, Remove, Move, Prioritize, Swap}
use Rattle.song_queue.specs.declared.entry.Entry.{Entry}
use Rattle.song_queue.specs.Entries.{rows_at}
use Rattle.song_queue.specs.State.{QueueState, queue_of, changed, position_of}
use Rattle.song_search.specs.Folders.{is_folder, under}
use Rattle.song_search.specs.Truth.{meets}
use Rattle.queue_commands.specs.declared.queue_edits.PositionFault.{PositionFault}
use Rattle.queue_commands.specs.declared.queue_edits.PositionFault.TheVariants.{NoCurrentSong, OutOfRange}
use Rattle.transitions.specs.CommandResults.{bad_index, does, edits, no_such_song, refusal, shows}
use Rattle.player_state.specs.declared.effect.CommandEffect.TheVariants.{Shuffles}
use Rattle.transitions.specs.declared.asked.Asked.{Asked}
use Rattle.player_state.specs.declared.state.Library.{Library}
use Rattle.player_state.specs.declared.state.Part.{Part}
use Rattle.transitions.specs.Transitions.{CommandResult}
use Rattle.mpd_command.specs.declared.queue.QueueCommand.{QueueCommand}
use Rattle.mpd_command.specs.declared.queue.QueueCommand.TheVariants as queue

abbrev pub count : Part → ℕ
count part = length (queue_of part.queue)

-- so many songs find room in the queue, and each an id
abbrev pub CanAdd : Part → ℕ → Type 0
CanAdd part songs = (count part + songs ≤ part.queue.max_len) × (part.queue.greatest_id + songs ≤ part.queue.max_id)

-- why so many songs cannot be added, if they cannot: there is no room for all of them, or no id for each
abbrev pub lack : Part → ℕ → Option (List ℕ)
lack part songs =
    if nat_lt part.queue.max_len (count part + songs) then Some (codes "playlist is full")
    else (if nat_lt part.queue.max_id (part.queue.greatest_id + songs) then Some (codes "no more song ids") else None)

abbrev pub unless_lacking : Asked → Part → Option (List ℕ) → CommandResult → CommandResult
unless_lacking asked part None added = added
unless_lacking asked part (Some text) added = refusal asked PlaylistMax text

-- so many songs are added, where nothing lacks
abbrev pub with_room : Asked → Part → ℕ → CommandResult → CommandResult
with_room asked part songs added = unless_lacking asked part (lack part songs) added

abbrev pub no_current_song : Asked → CommandResult
no_current_song asked = refusal asked PlayerSync (codes "no current song")

-- the position of the song with an id, if there is one
abbrev pub position_of_id : QueueState → Option ℕ → Option ℕ
position_of_id queue None = None
position_of_id queue (Some id) = position_of queue id

-- the position of the current song, if there is one
abbrev pub current_position : Part → Option ℕ
current_position part = position_of_id part.queue part.player.current

-- a position of the queue, or the one after its last
abbrev pub within_queue : Part → ℕ → Result ℕ PositionFault
within_queue part position = if nat_lt (count part) position then Err OutOfRange else Ok position

-- so many steps after the one that follows the current song
abbrev pub position_after : Part → Option ℕ → ℕ → Result ℕ PositionFault
position_after part None steps = Err NoCurrentSong
position_after part (Some position) steps = within_queue part (position + 1 + steps)

-- so many steps before the current song
abbrev pub position_before : Option ℕ → ℕ → Result ℕ PositionFault
position_before None steps = Err NoCurrentSong
position_before (Some position) steps = if nat_lt position steps then Err OutOfRange else Ok (position - steps)

-- the position that is meant: without one the end; it may count from the current song
abbrev pub position_in : Part → Option Position → Result ℕ PositionFault
position_in part None = Ok (count part)
position_in part (Some (At position)) = within_queue part position
position_in part (Some (After steps)) = position_after part (current_position part) steps
position_in part (Some (Before steps)) = position_before (current_position part) steps

abbrev pub refused_position : Asked → PositionFault → CommandResult
refused_position asked NoCurrentSong = no_current_song asked
refused_position asked OutOfRange = bad_index asked

-- songs go to a position, where nothing lacks, and these lines are shown
abbrev pub insert : Asked → Part → List SongData → ℕ → List ℕ → CommandResult
insert asked part songs position lines = with_room asked part (length songs) (edits asked (Insert position songs) lines)

abbrev pub insert_where : Asked → Part → List SongData → List ℕ → Result ℕ PositionFault → CommandResult
insert_where asked part songs lines (Ok position) = insert asked part songs position lines
insert_where asked part songs lines (Err fault) = refused_position asked fault

-- songs go to a position or to the end of the queue: all of them, or none. The first of them stands there
abbrev pub add_songs : Asked → Part → List SongData → Option Position → CommandResult
add_songs asked part songs position = insert_where asked part songs (codes "") (position_in part position)

abbrev pub add_folder : Asked → Part → Library → List ℕ → Option Position → CommandResult
add_folder asked part library folder position =
    if is_folder folder library.songs then add_songs asked part (under folder library.songs) position else no_such_song asked

abbrev pub add_song_or_folder : Asked → Part → Library → Option SongData → List ℕ → Option Position → CommandResult
add_song_or_folder asked part library (Some song) uri position = add_songs asked part (song ∷ []) position
add_song_or_folder asked part library None uri position = add_folder asked part library uri position

-- a song is added, or all songs under a folder; a name that is a song's is taken as the song
abbrev pub add : Asked → Part → Library → List ℕ → Option Position → CommandResult
add asked part library uri position = add_song_or_folder asked part library (song_of library.songs uri) uri position

-- a song goes to a position, and its id is told
abbrev pub insert_song : Asked → Part → SongData → Option Position → CommandResult
insert_song asked part song position =
    insert_where asked part (song ∷ []) (pair_line (codes "Id") (decimal (part.queue.greatest_id + 1))) (position_in part position)

abbrev pub add_one : Asked → Part → Option SongData → Option Position → CommandResult
add_one asked part None position = no_such_song asked
add_one asked part (Some song) position = insert_song asked part song position

abbrev pub add_id : Asked → Part → Library → List ℕ → Option Position → CommandResult
add_id asked part library uri position = add_one asked part (song_of library.songs uri) position

-- all songs leave the queue
abbrev pub clear : Asked → Part → CommandResult
clear asked part = edits asked (Remove 0 (count part)) (codes "")

abbrev pub remove : Asked → Part → Option (Positions ℕ) → CommandResult
remove asked part None = bad_index asked
remove asked part (Some r) = edits asked (Remove r.start r.end) (codes "")

-- the songs of a range leave the queue
abbrev pub delete : Asked → Part → Range → CommandResult
delete asked part range = remove asked part (within range (count part))

abbrev pub remove_one : Asked → Part → Option ℕ → CommandResult
remove_one asked part None = no_such_song asked
remove_one asked part (Some position) = edits asked (Remove position (position + 1)) (codes "")

-- the song with an id leaves it
abbrev pub delete_id : Asked → Part → ℕ → CommandResult
delete_id asked part id = remove_one asked part (position_of part.queue id)

-- no songs may be moved to any position, others where all of them find room
abbrev pub move_positions : Asked → Part → Option (Positions ℕ) → ℕ → CommandResult
move_positions asked part None to = bad_index asked
move_positions asked part (Some r) to =
    if nat_lt r.start r.end && nat_lt (count part) (to + (r.end - r.start)) then bad_index asked
    else edits asked (Move r.start r.end to) (codes "")

-- the songs of a range move, so that the first of them is at a position of the queue that they leave
abbrev pub move : Asked → Part → Range → ℕ → CommandResult
move asked part range to = move_positions asked part (within range (count part)) to

abbrev pub move_one : Asked → Part → Option ℕ → ℕ → CommandResult
move_one asked part None to = no_such_song asked
move_one asked part (Some position) to = edits asked (Move position (position + 1) to) (codes "")

-- the song with an id moves; its new position is looked at before the id
abbrev pub move_id : Asked → Part → ℕ → ℕ → CommandResult
move_id asked part id to = if nat_le (count part) to then bad_index asked else move_one asked part (position_of part.queue id) to

-- the songs at two positions are swapped
abbrev pub swap : Asked → Part → ℕ → ℕ → CommandResult
swap asked part first second =
    if nat_le (count part) first || nat_le (count part) second then bad_index asked else edits asked (Swap first second) (codes "")

abbrev pub range_or_all : Option Range → ℕ → Option (Positions ℕ)
range_or_all None len = Some (positions 0 len)
range_or_all (Some range) len = within range len

abbrev pub shuffle_positions : Asked → Option (Positions ℕ) → CommandResult
shuffle_positions asked None = bad_index asked
shuffle_positions asked (Some r) = does asked (Shuffles r.start r.end)

-- the songs of a range are shuffled, or all
abbrev pub shuffle : Asked → Part → Option Range → CommandResult
shuffle asked part range = shuffle_positions asked (range_or_all range (count part))

abbrev pub swap_both : Asked → Part → Option ℕ → Option ℕ → CommandResult
swap_both asked part None second = no_such_song asked
swap_both asked part (Some first) None = no_such_song asked
swap_both asked part (Some first) (Some second) = edits asked (Swap first second) (codes "")

abbrev pub swap_id : Asked → Part → ℕ → ℕ → CommandResult
swap_id asked part first second = swap_both asked part (position_of part.queue first) (position_of part.queue second)

-- a list with one more in front, where both are there
abbrev pub consed : {A : Type 0} → Option A → Option (List A) → Option (List A)
consed None rest = None
consed (Some a) None = None
consed (Some a) (Some rest) = Some (a ∷ rest)

-- what is found for each of a list, if something is found for all
abbrev pub all_of : {A B : Type 0} → (A → Option B) → List A → Option (List B)
all_of f [] = Some []
all_of f (x ∷ xs) = consed (f x) (all_of f xs)

-- positions lie in a list of so many items
abbrev pub LieIn : ℕ → Positions ℕ → Type 0
LieIn len r = (r.start ≤ r.end) × (r.end ≤ len)

-- all of these do
abbrev pub AllLieIn : ℕ → List (Positions ℕ) → Type 0
AllLieIn len ranges = All (LieIn len) ranges

-- the positions of ranges, if all of them are in the queue
abbrev pub all_within : ℕ → List Range → Option (List (Positions ℕ))
all_within len ranges = all_of (λ range. within range len) ranges

abbrev pub prioritize : Asked → Part → CommandResult → ℕ → Option (List (Positions ℕ)) → CommandResult
prioritize asked part refused priority None = refused
prioritize asked part refused priority (Some ranges) = edits asked (Prioritize ranges priority) (codes "")

-- the songs of some ranges get a priority: all of them, or none where a range is not in the queue
abbrev pub prio : Asked → Part → ℕ → List Range → CommandResult
prio asked part priority ranges = prioritize asked part (bad_index asked) priority (all_within (count part) ranges)

abbrev pub alone_at : Option ℕ → Option (Positions ℕ)
alone_at None = None
alone_at (Some position) = Some (positions position (position + 1))

-- the position of the song with an id, as a range
unfoldable pub position_with : QueueState → ℕ → Option (Positions ℕ)
position_with queue id = alone_at (position_of queue id)

-- the positions of the songs with these ids, if all of them are in the queue
abbrev pub all_with_ids : QueueState → List ℕ → Option (List (Positions ℕ))
all_with_ids queue ids = all_of (λ id. position_with queue id) ids

abbrev pub prio_id : Asked → Part → ℕ → List ℕ → CommandResult
prio_id asked part priority ids = prioritize asked part (no_such_song asked) priority (all_with_ids part.queue ids)

-- a priority is shown where there is one
abbrev pub priority_line : ℕ → List ℕ
priority_line priority = if priority == 0 then [] else pair_line (codes "Prio") (decimal priority)

-- the lines of an entry at a position, with the tags of a set
abbrev pub entry_lines : List TagName → ℕ → ℕ × Entry → List ℕ
entry_lines tags rate row =
    song_lines_with tags rate row.1.song ++ (pair_line (codes "Pos") (decimal row.0) ++ (pair_line (codes "Id") (decimal row.1.id) ++ priority_line row.1.priority))

-- a position and the id of the entry there
abbrev pub position_lines : ℕ × Entry → List ℕ
position_lines row = pair_line (codes "cpos") (decimal row.0) ++ pair_line (codes "Id") (decimal row.1.id)

-- the position and the URI of the entry there
abbrev pub uri_line : ℕ × Entry → List ℕ
uri_line row = pair_line (decimal row.0 ++ codes ":file") row.1.song.uri

-- the entries at these positions, each with its position
abbrev pub rows_in : QueueState → List ℕ → List (ℕ × Entry)
rows_in queue positions = rows_at (queue_of queue) positions

-- the entries from one position up to another, each with its position
abbrev pub rows_from : QueueState → ℕ → ℕ → List (ℕ × Entry)
rows_from queue from to = rows_in queue (range_with_len from (to - from))

abbrev pub show_positions : Asked → Part → (ℕ × Entry → List ℕ) → Option (Positions ℕ) → CommandResult
show_positions asked part lines None = bad_index asked
show_positions asked part lines (Some r) =
    shows asked (flat_map lines (rows_from part.queue r.start r.end))

-- the positions and URIs of all songs
abbrev pub playlist : Asked → Part → CommandResult
playlist asked part = show_positions asked part uri_line (Some (positions 0 (count part)))

-- whether there is an entry whose song meets a filter
abbrev pub met_by : Case → Expression → Option Entry → Bool
met_by case e None = false
met_by case e (Some entry) = meets case e entry.song

abbrev pub meets_at : QueueState → Case → Expression → ℕ → Bool
meets_at queue case e position = met_by case e (slice_get (queue_of queue) position)

-- the entries whose songs meet a filter, each with its position
abbrev pub meeting : QueueState → Case → Expression → List (ℕ × Entry)
meeting queue case e =
    filter (λ (row : ℕ × Entry). meets case e row.1.song) (rows_at (queue_of queue) (range_with_len 0 (length (queue_of queue))))

-- the songs of the queue that meet a filter, by their positions
abbrev pub playlist_find : Asked → Part → Library → Case → Criteria → CommandResult
playlist_find asked part library case (Meeting e) =
    shows asked (flat_map (entry_lines asked.tags library.rate) (meeting part.queue case e))
playlist_find asked part library case (Refused text) = refusal asked Argument text

-- the songs at some positions
abbrev pub show_songs : Asked → Part → Library → Option (Positions ℕ) → CommandResult
show_songs asked part library positions = show_positions asked part (entry_lines asked.tags library.rate) positions

-- the songs of a range, or all of them
abbrev pub playlist_info : Asked → Part → Library → Option Range → CommandResult
playlist_info asked part library range = show_songs asked part library (range_or_all range (count part))

abbrev pub show_one : Asked → Part → Library → Option ℕ → CommandResult
show_one asked part library None = no_such_song asked
show_one asked part library (Some position) = show_songs asked part library (Some (positions position (position + 1)))

-- the song with an id, or all songs
abbrev pub playlist_id : Asked → Part → Library → Option ℕ → CommandResult
playlist_id asked part library None = playlist_info asked part library None
playlist_id asked part library (Some id) = show_one asked part library (position_of part.queue id)

abbrev pub is_in : Positions ℕ → ℕ → Bool
is_in r position = nat_le r.start position && nat_lt position r.end

abbrev pub is_between : Positions ℕ → ℕ × Entry → Bool
is_between r row = is_in r row.0

-- the entries whose positions changed since a version, as far as these lie in a range
abbrev pub changed_between : QueueState → ℕ → Positions ℕ → List (ℕ × Entry)
changed_between queue version r = filter (is_between r) (changed queue version)

abbrev pub show_changed : Asked → Part → (ℕ × Entry → List ℕ) → ℕ → Option (Positions ℕ) → CommandResult
show_changed asked part lines version None = bad_index asked
show_changed asked part lines version (Some r) = shows asked (flat_map lines (changed_between part.queue version r))

-- the songs at the positions that changed since a version, of a range or all
abbrev pub changes : Asked → Part → Library → ℕ → Option Range → CommandResult
changes asked part library version range =
    show_changed asked part (entry_lines asked.tags library.rate) version (range_or_all range (count part))

-- these positions, with the ids of their songs
abbrev pub changed_positions : Asked → Part → ℕ → Option Range → CommandResult
changed_positions asked part version range = show_changed asked part position_lines version (range_or_all range (count part))

-- what each command makes of the player
unfoldable pub result_of : Asked → Part → Library → QueueCommand → CommandResult
result_of asked part library (queue.Add uri position) = add asked part library uri.0 position
result_of asked part library (queue.AddId uri position) = add_id asked part library uri.0 position
result_of asked part library queue.Clear = clear asked part
result_of asked part library (queue.Delete range) = delete asked part range
result_of asked part library (queue.DeleteId id) = delete_id asked part id
result_of asked part library (queue.Move range to) = move asked part range to
result_of asked part library (queue.MoveId id to) = move_id asked part id to
result_of asked part library queue.Playlist = playlist asked part
result_of asked part library (queue.PlaylistFind criteria) = playlist_find asked part library Heeded criteria
result_of asked part library (queue.PlaylistId id) = playlist_id asked part library id
result_of asked part library (queue.PlaylistInfo range) = playlist_info asked part library range
result_of asked part library (queue.PlaylistSearch criteria) = playlist_find asked part library Ignored criteria
result_of asked part library (queue.PlChanges version range) = changes asked part library version range
result_of asked part library (queue.PlChangesPosId version range) = changed_positions asked part version range
result_of asked part library (queue.Prio priority ranges) = prio asked part priority ranges
result_of asked part library (queue.PrioId priority ids) = prio_id asked part priority ids
result_of asked part library (queue.Shuffle range) = shuffle asked part range
result_of asked part library (queue.Swap first second) = swap asked part first second
result_of asked part library (queue.SwapId first second) = swap_id asked part first second
