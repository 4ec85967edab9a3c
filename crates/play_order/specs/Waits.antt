-- The unplayed entries of a queue, kept in the order in which a random round takes them.
use Rattle.std.specs.Prelude.{ℕ, ◌≡◌, ◌≢◌, ◌-◌, ◌==◌, ◌||◌, Bool, true, false, not, All, List, map, filter, Option, None, Some, IfSome}
use Rattle.std.specs.List.{list_any}
use Rattle.std.specs.Ordering.{nat_cmp, ordering_then}
use Rattle.std.specs.declared.cmp.Ordering.{Ordering}
use Rattle.std.specs.BTreeMap.{is_at}
use Rattle.song_queue.specs.declared.entry.Entry.{Entry}
use Rattle.song_queue.specs.State.{QueueState, queue_of}
use Rattle.play_order.specs.declared.modes.Rank.{Rank}
use Rattle.play_order.specs.Draws.{moved_last, rank_of, is_among}

-- where an entry comes in a round: how far its priority is below the greatest, its rank and its id
abbrev pub Key : Type 0
Key = ℕ × ℕ × ℕ

-- of two keys the one with the smaller first number comes first, then the second counts, then the third
abbrev pub key_cmp : Key → Key → Ordering
key_cmp a b = ordering_then (ordering_then (nat_cmp a.0 b.0) (nat_cmp a.1 b.1)) (nat_cmp a.2 b.2)

abbrev pub key_of : List Rank → Entry → Key
key_of ranks e = (255 - e.priority, rank_of ranks e.id, e.id)

-- a key of an entry that has its id and its priority
abbrev pub ranked_key : List Rank → Key → Key
ranked_key ranks k = (255 - (255 - k.0), rank_of ranks k.2, k.2)

-- priority and id, of an entry and by a key
abbrev pub priority_and_id : Entry → ℕ × ℕ
priority_and_id e = (e.priority, e.id)

abbrev pub priority_and_id_by_key : Key → ℕ × ℕ
priority_and_id_by_key k = (255 - k.0, k.2)

-- whether a key is one of some
abbrev pub has_key : List Key → Key → Bool
has_key keys k = list_any (is_at (key_cmp k)) keys

abbrev pub is_unplayed : List ℕ → Key → Bool
is_unplayed played k = not (is_among k.2 played)

abbrev pub unplayed_keys : List ℕ → List Key → List Key
unplayed_keys played known = filter (is_unplayed played) known

-- the keys of the entries of a queue, in the order of their positions; those that wait, rising; and the version
-- of the queue
pub record WaitingState : Type 0 where
  pub known : List Key
  pub keys : List Key
  pub version : ℕ

-- some keys are those of a list
abbrev pub HasKeysOf : List Key → List Key → Type 0
HasKeysOf keys list = (k : Key) → has_key keys k ≡ has_key list k

-- no two keys have one id
abbrev pub HaveOwnIds : List Key → Type 0
HaveOwnIds known = (a : Key) (b : Key) → has_key known a ≡ true → has_key known b ≡ true → a.2 ≡ b.2 → a ≡ b

-- the keys of a round: each has the rank of its id, no two have one id, and those wait that were not played
pub record IsOrderOf (ranks : List Rank) (played : List ℕ) (waiting : WaitingState) : Type 0 where
  pub ranked : map (ranked_key ranks) waiting.known ≡ waiting.known
  pub own : HaveOwnIds waiting.known
  pub waits : HasKeysOf waiting.keys (unplayed_keys played waiting.known)

-- what is the order of a round is one of the same round when the song of an id was played
abbrev pub LeavesOrder : ℕ → Option WaitingState → Option WaitingState → Type 0
LeavesOrder id before after =
    (ranks : List Rank) (played : List ℕ)
    → IfSome before (IsOrderOf ranks played)
    → IfSome after (IsOrderOf ranks (moved_last played id))

-- some entries have the ids and priorities that are known
abbrev pub AreOf : List Entry → List Key → Type 0
AreOf entries known = map priority_and_id entries ≡ map priority_and_id_by_key known

-- a queue has the version, ids and priorities of the one that an order was made of
abbrev pub IsMadeOf : WaitingState → QueueState → Type 0
IsMadeOf waiting queue = (waiting.version ≡ queue.version) × AreOf (queue_of queue) waiting.known

-- whether there is an order of a version
abbrev pub has_order : Option WaitingState → ℕ → Bool
has_order None version = false
has_order (Some waiting) version = waiting.version == version

-- a key has an id, and is one of those that wait or one that is known
abbrev pub HasKeyWith : ℕ → WaitingState → Key → Type 0
HasKeyWith id waiting k = (k.2 ≡ id) × ((has_key waiting.keys k || has_key waiting.known k) ≡ true)

-- no key has an id
abbrev pub LacksId : ℕ → List Key → Type 0
LacksId id known = All (λ k. k.2 ≢ id) known
