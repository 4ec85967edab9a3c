-- Which entry comes next (MPD protocol reference, Playback options, `random` and `repeat`; The queue, `prio`;
-- rounds and ranks are this profile's).
use Rattle.std.specs.Prelude.{ℕ, ◌+◌, Bool, ◌==◌, ◌&&◌, ◌||◌, not, nat_lt, if◌then◌else◌, List, [], ◌∷◌, ◌++◌, filter, find, slice_get, take, drop, Option, Some, None, is_none}
use Rattle.std.specs.List.{list_all, position_or_len, slice_range}
use Rattle.mpd_text.specs.Songs.Song.{SongData}
use Rattle.song_queue.specs.declared.entry.Entry.{Entry}
use Rattle.song_queue.specs.Entries.{entries_for}
use Rattle.song_queue.specs.State.{QueueState}
use Rattle.play_order.specs.declared.modes.Rank.{Rank}
use Rattle.play_order.specs.declared.modes.Modes.{Modes}
use Rattle.play_order.specs.Draws.{RoundState, rank_of, is_among, has_id, ids_of, renewed, moved_last}

-- the position of the entry with an id; after the last one, if there is none
abbrev pub entry_position : List Entry → ℕ → ℕ
entry_position entries id = position_or_len (has_id id) entries

abbrev pub entry_of : List Entry → ℕ → Option Entry
entry_of entries id = find (has_id id) entries

-- of two entries with their ranks the one with the greater priority comes first, then with the smaller rank, then with the smaller id
abbrev pub ranked_before : Entry → ℕ → Entry → ℕ → Bool
ranked_before a rank_a b rank_b =
    nat_lt b.priority a.priority || ((a.priority == b.priority) && (nat_lt rank_a rank_b || ((rank_a == rank_b) && nat_lt a.id b.id)))

abbrev pub comes_before : List Rank → Entry → Entry → Bool
comes_before ranks a b = ranked_before a (rank_of ranks a.id) b (rank_of ranks b.id)

-- whether a candidate comes before each other one
abbrev pub is_first : List Rank → List Entry → Entry → Bool
is_first ranks candidates c = list_all (λ d. has_id c.id d || comes_before ranks c d) candidates

-- the candidate that comes before each other one
abbrev pub first_of : List Rank → List Entry → Option Entry
first_of ranks candidates = find (is_first ranks candidates) candidates

-- the entries whose songs were not played
abbrev pub unplayed : List ℕ → List Entry → List Entry
unplayed played entries = filter (λ e. not (is_among e.id played)) entries

abbrev pub or_else : Option Entry → Option Entry → Option Entry
or_else None other = other
or_else (Some e) other = Some e

-- the entry at a position; with repeat the first one, if there is none
abbrev pub at_or_first : Bool → List Entry → ℕ → Option Entry
at_or_first repeat entries position = or_else (slice_get entries position) (if repeat then slice_get entries 0 else None)

-- what comes next without a new round: in random order the first unplayed entry, else the one at the position
abbrev pub ahead : Modes → RoundState → List Entry → ℕ → Option Entry
ahead modes round entries position =
    if modes.random then first_of round.ranks (unplayed round.played entries) else at_or_first modes.repeat entries position

-- a round is over where in random order no candidate is left
abbrev pub is_over : Modes → RoundState → List Entry → Bool
is_over modes round entries = modes.random && is_none (first_of round.ranks (unplayed round.played entries))

-- a round that is over is renewed
abbrev pub round_for : Modes → RoundState → List Entry → RoundState
round_for modes round entries = if is_over modes round entries then renewed round (ids_of entries) else round

-- what comes next: after a round that is over there is a next song only with repeat
abbrev pub next_of : Modes → RoundState → List Entry → ℕ → Option Entry
next_of modes round entries position =
    if is_over modes round entries && not modes.repeat then None else ahead modes (round_for modes round entries) entries position

-- what comes first in a new round, with repeat
abbrev pub first_anew : Bool → RoundState → List Entry → Option Entry
first_anew repeat round entries = if repeat then first_of (renewed round (ids_of entries)).ranks (unplayed [] entries) else None

-- where the player begins with no current song
abbrev pub opening_of : Modes → RoundState → List Entry → Option Entry
opening_of modes round entries = ahead modes (round_for modes round entries) entries 0

-- a song starts: in random order its id becomes the last that was played
abbrev pub started : Modes → RoundState → ℕ → RoundState
started modes round id = if modes.random then record round { played = moved_last round.played id } else round

-- the round when an entry has started in it, if there is one
abbrev pub begun : Modes → RoundState → Option Entry → RoundState
begun modes round None = round
begun modes round (Some entry) = started modes round entry.id

-- the round when the player has begun with no current song: renewed where it was over
abbrev pub round_after_opening : Modes → RoundState → List Entry → RoundState
round_after_opening modes round entries = begun modes (round_for modes round entries) (opening_of modes round entries)

-- a new round of these entries, when what comes first in it has started
abbrev pub begun_anew : Modes → RoundState → List Entry → RoundState
begun_anew modes round entries = begun modes (renewed round (ids_of entries)) (first_anew modes.repeat round entries)

-- random order is turned on: each entry draws a rank, and only the current song was played
abbrev pub randomized : RoundState → List Entry → Option ℕ → RoundState
randomized round entries None = renewed round (ids_of entries)
randomized round entries (Some id) = record (renewed round (ids_of entries)) { played = id ∷ [] }

-- what is left of the queue when the entries from one position up to another are taken out
abbrev pub left_by : List Entry → ℕ → ℕ → List Entry
left_by entries from end = take from entries ++ drop end entries

-- the ids of the entries that are taken out
abbrev pub ids_taken : List Entry → ℕ → ℕ → List ℕ
ids_taken entries from end = ids_of (slice_range entries from end)

-- the ids of songs that are put into a queue
abbrev pub new_ids : QueueState → List SongData → List ℕ
new_ids q songs = ids_of (entries_for (q.greatest_id + 1) songs)
