-- What is kept beside the lists of a round, so that an id is found in them at once, and how a queue is gone
-- through.
use Rattle.std.specs.Prelude.{ℕ, ◌≡◌, ◌≤◌, ◌+◌, ◌*◌, ◌⊎◌, Bool, true, false, ◌==◌, not, nat_eq, if◌then◌else◌, All, List, [], ◌∷◌, ◌++◌, filter, find, fold, length, is_some, Option, Some, None}
use Rattle.std.specs.List.{list_any, slice_range}
use Rattle.std.specs.Option.{option_map, option_or}
use Rattle.std.specs.HashMap.{HashMap, get, hash_map_len}
use Rattle.std.specs.BTreeMap.{BTreeMap, IsOrdered}
use Rattle.std.specs.Ordering.{nat_cmp}
use Rattle.song_queue.specs.declared.entry.Entry.{Entry}
use Rattle.song_queue.specs.State.{QueueState, queue_of}
use Rattle.play_order.specs.declared.modes.Rank.{Rank}
use Rattle.play_order.specs.Draws.{is_among, rank_of}
use Rattle.play_order.specs.Order.{comes_before, first_of, left_by, ranked_before, unplayed}

-- the map has the rank of each id that drew one
abbrev pub FindsRanks : {S : Type 0} → HashMap ℕ ℕ S → List Rank → Type 0
FindsRanks by_id ranks = (id : ℕ) → get nat_eq by_id id ≡ option_map (λ r. r.rank) (find (λ r. r.id == id) ranks)

-- the ranks of the ids that the map has; those of others are gone
abbrev pub ranks_left : {S : Type 0} → HashMap ℕ ℕ S → List Rank → List Rank
ranks_left by_id drawn = filter (λ r. is_some (get nat_eq by_id r.id)) drawn

-- the map has the rank of each id that drew one of those that are left, and no id that drew is above another
abbrev pub KeepsRanks : {S : Type 0} → HashMap ℕ ℕ S → List Rank → ℕ → Type 0
KeepsRanks by_id drawn greatest = FindsRanks by_id (ranks_left by_id drawn) × All (λ r. r.id ≤ greatest) drawn

-- a list of ranks was shortened: the same are left of it, and no id is above one that none was above
abbrev pub KeepsLeft : {S : Type 0} → HashMap ℕ ℕ S → List Rank → List Rank → Type 0
KeepsLeft by_id old new =
    (ranks_left by_id new ≡ ranks_left by_id old)
    × ((greatest : ℕ) → All (λ r. r.id ≤ greatest) old → All (λ r. r.id ≤ greatest) new)

-- a list of ranks has none of an id that the map lacks, or at most two for each id that the map has, and one
abbrev pub IsTidy : {S : Type 0} → HashMap ℕ ℕ S → List Rank → Type 0
IsTidy by_id drawn = (ranks_left by_id drawn ≡ drawn) ⊎ (length drawn ≤ 2 * hash_map_len by_id + 1)

-- beside the ranks that were left, more are
abbrev pub LeavesMore : {S : Type 0} → HashMap ℕ ℕ S → List Rank → HashMap ℕ ℕ S → List Rank → List Rank → Type 0
LeavesMore by_id old new_by_id new more = ranks_left new_by_id new ≡ ranks_left by_id old ++ more

-- where the map does not have one of these ids, it drew none of the ranks
abbrev pub KeepsNoGone : {S : Type 0} → HashMap ℕ ℕ S → List Rank → List ℕ → Type 0
KeepsNoGone by_id drawn ids = All (λ id. get nat_eq by_id id ≡ None → list_any (λ r. r.id == id) drawn ≡ false) ids

-- the play of an id, by its number, if it has one
abbrev pub play_with : Option ℕ → ℕ → List (ℕ × ℕ)
play_with None id = []
play_with (Some number) id = (number, id) ∷ []

-- the plays of an id are the one whose number the map has
abbrev pub FindsPlays : {S : Type 0} → HashMap ℕ ℕ S → List (ℕ × ℕ) → Type 0
FindsPlays found plays = (id : ℕ) → filter (λ p. p.1 == id) plays ≡ play_with (get nat_eq found id) id

-- plays in the order of their numbers, of which a map has that of each id
abbrev pub KeepsPlays : {S : Type 0} → HashMap ℕ ℕ S → BTreeMap ℕ ℕ → Type 0
KeepsPlays found order = IsOrdered nat_cmp order × FindsPlays found order.entries

-- an id has this rank, if it had none, and each other one is as before
abbrev pub GivesRank : {S : Type 0} → HashMap ℕ ℕ S → HashMap ℕ ℕ S → ℕ → ℕ → Type 0
GivesRank old new id rank =
    (other : ℕ) → get nat_eq new other ≡ option_or (get nat_eq old other) (if id == other then Some rank else None)

-- some ids have no rank any more, and each other one is as before
abbrev pub LosesRanks : {S : Type 0} → HashMap ℕ ℕ S → HashMap ℕ ℕ S → List ℕ → Type 0
LosesRanks old new ids = (id : ℕ) → get nat_eq new id ≡ (if is_among id ids then None else get nat_eq old id)

-- the one of two entries that comes first
abbrev pub better : List Rank → Option Entry → Entry → Option Entry
better ranks None entry = Some entry
better ranks (Some best) entry = if comes_before ranks entry best then Some entry else Some best

-- the rank of the best so far; 0, if there is none
abbrev pub rank_of_best : List Rank → Option Entry → ℕ
rank_of_best ranks None = 0
rank_of_best ranks (Some best) = rank_of ranks best.id

-- whether an entry with a rank comes before the best so far, which has another
abbrev pub precedes : Entry → ℕ → Option Entry → ℕ → Bool
precedes entry rank None least = true
precedes entry rank (Some best) least = ranked_before entry rank best least

-- the one that comes first of the best so far and the unplayed ones of some entries
abbrev pub best_among : List Rank → List ℕ → List Entry → Option Entry → Option Entry
best_among ranks played entries best = fold (better ranks) best (unplayed played entries)

-- the same of the entries from one position up to another
abbrev pub best_within : List Rank → List ℕ → QueueState → ℕ → ℕ → Option Entry → Option Entry
best_within ranks played queue from end best = best_among ranks played (slice_range (queue_of queue) from end) best

-- the entry that comes first of the unplayed ones of what is left of a queue
abbrev pub first_in : List Rank → List ℕ → QueueState → ℕ → ℕ → Option Entry
first_in ranks played queue from end = first_of ranks (unplayed played (left_by (queue_of queue) from end))

-- whether an entry was not played
abbrev pub has_unplayed : List ℕ → List Entry → Bool
has_unplayed played entries = list_any (λ e. not (is_among e.id played)) entries
