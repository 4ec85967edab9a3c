-- Queues as lists of entries (MPD protocol reference, The queue).
use Rattle.std.specs.Prelude.{ℕ, Bool, true, false, ◌==◌, ◌&&◌, nat_lt, nat_le, if◌then◌else◌, List, [], ◌∷◌, ◌++◌, length, take, drop, map, Option, Some, None, slice_get, slice_set, fold}
use Rattle.std.specs.List.{enumerate_from, list_any, slice_range}
use Rattle.std.specs.declared.ops.Range.{Range}
use lib.Pointwise.{pointwise}
use Rattle.mpd_text.specs.Songs.Song.{SongData, TagData}
use Rattle.mpd_text.specs.Songs.Tags.{tag_number}
use Rattle.queue_slots.specs.declared.entry.Entry.{Entry}

-- whether two tags are one: the name and the text
abbrev pub same_tag : TagData → TagData → Bool
same_tag a b = (tag_number a.name == tag_number b.name) && pointwise ◌==◌ a.text b.text

-- whether two songs are one: the URI, the tags and the length
abbrev pub same_song : SongData → SongData → Bool
same_song a b = pointwise ◌==◌ a.uri b.uri && pointwise same_tag a.tags b.tags && (a.frames == b.frames)

-- whether two entries are one: the id, the song and the priority
abbrev pub same_entry : Entry → Entry → Bool
same_entry a b = (a.id == b.id) && (a.priority == b.priority) && same_song a.song b.song

-- whether two queues are one
abbrev pub same_queue : List Entry → List Entry → Bool
same_queue = pointwise same_entry

-- whether a slot holds the same in both, where absence counts as a value
abbrev pub same_slot : Option Entry → Option Entry → Bool
same_slot None None = true
same_slot (Some a) (Some b) = same_entry a b
same_slot None (Some b) = false
same_slot (Some a) None = false

-- entries for added songs, with ids from `first` on
abbrev pub entries_for : ℕ → List SongData → List Entry
entries_for first songs = map (λ p. record { id = p.0; song = p.1; priority = 0 }) (enumerate_from first songs)

-- the entries from start up to end taken out, and put back so that the first of them is at a position of what is
-- left
abbrev pub moved_to : List Entry → ℕ → ℕ → ℕ → List Entry
moved_to queue start end to = let rest = take start queue ++ drop end queue in take to rest ++ slice_range queue start end ++ drop to rest

-- whether a position is in one of the ranges
abbrev pub is_named : List (Range ℕ) → ℕ → Bool
is_named ranges position = list_any (λ r. nat_le r.start position && nat_lt position r.end) ranges

-- the queue with a priority for each entry whose position is in one of the ranges
abbrev pub with_priority : List Entry → List (Range ℕ) → ℕ → List Entry
with_priority queue ranges priority = map (λ p. if is_named ranges p.0 then record p.1 { priority = priority } else p.1) (enumerate_from 0 queue)

-- a row overwrites its slot, or is appended where its slot is the end
abbrev pub patch_row : List Entry → ℕ × Entry → List Entry
patch_row queue row = if row.0 == length queue then queue ++ row.1 ∷ [] else slice_set queue row.0 row.1

-- a client's queue after the rows, cut to a length (MPD protocol reference, `plchanges`)
abbrev pub patch : List Entry → List (ℕ × Entry) → ℕ → List Entry
patch queue rows len = take len (fold patch_row queue rows)

-- the row of an entry, if there is one
abbrev pub row_of : ℕ → Option Entry → List (ℕ × Entry)
row_of position None = []
row_of position (Some entry) = (position, entry) ∷ []

-- the rows of positions in a queue
abbrev pub rows_at : List Entry → List ℕ → List (ℕ × Entry)
rows_at queue [] = []
rows_at queue (position ∷ positions) = row_of position (slice_get queue position) ++ rows_at queue positions
