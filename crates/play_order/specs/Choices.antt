-- What is played next, said once more: in the words of the rules, and not by the steps that look for it (MPD
-- protocol reference, Playback options, `random`, `repeat` and `consume`; The queue, `prio`; rounds and ranks
-- are this profile's).
use Rattle.std.specs.Prelude.{ℕ, ◌≡◌, ◌≢◌, ◌+◌, ◌<◌, ◌≤◌, ◌⊎◌, Bool, true, false, List, [], ◌∷◌, ◌++◌, length, take, drop, slice_get, Contains, AllPairs, option_to_list, Option, Some, None}
use Rattle.song_queue.specs.declared.entry.Entry.{Entry}
use Rattle.play_order.specs.declared.modes.Rank.{Rank}
use Rattle.play_order.specs.declared.modes.Modes.{Modes}
use Rattle.play_order.specs.declared.modes.Consume.{Consume}
use Rattle.play_order.specs.declared.modes.Consume.TheVariants as consume
use Rattle.play_order.specs.Draws.{RoundState, rank_of, ids_of, ranks_drawn, generator_after, without}
use Rattle.play_order.specs.Order.{ids_taken, left_by}
use Rattle.play_order.specs.Ends.{after_next, id_of, next_after_removal, round_after, round_after_removal, round_left}

-- no two entries of a queue have the same id
abbrev pub HaveOwnIds : List Entry → Type 0
HaveOwnIds entries = AllPairs (λ a b. a.id ≢ b.id) entries

-- one entry comes before another: by a higher priority; where the priorities are equal, by a lower rank;
-- where the ranks are equal too, by a lower id
pub data Precedes (ranks : List Rank) (a b : Entry) : Type 0 where
  ByPriority : b.priority < a.priority → Precedes ranks a b
  ByRank : a.priority ≡ b.priority → rank_of ranks a.id < rank_of ranks b.id → Precedes ranks a b
  ById : a.priority ≡ b.priority → rank_of ranks a.id ≡ rank_of ranks b.id → a.id < b.id → Precedes ranks a b

-- a strict order: no entry comes before itself, one that comes before another comes before those after it,
-- and of two entries with different ids one comes before the other
pub record PrecedesIsOrder : Type 0 where
  pub apart : (ranks : List Rank) (a : Entry) → ¬ Precedes ranks a a
  pub through : (ranks : List Rank) (a b c : Entry) → Precedes ranks a b → Precedes ranks b c → Precedes ranks a c
  pub total : (ranks : List Rank) (a b : Entry) → a.id ≢ b.id → Precedes ranks a b ⊎ Precedes ranks b a

-- the least entry of those whose ids were not played: it stands in the queue, was not played, and comes
-- before each other entry that was not played
pub record IsLeastUnplayed (ranks : List Rank) (played : List ℕ) (entries : List Entry) (chosen : Entry) : Type 0 where
  pub in_queue : Contains entries chosen
  pub unplayed : ¬ Contains played chosen.id
  pub least :
      (other : Entry)
      → Contains entries other
      → ¬ Contains played other.id
      → (other ≡ chosen) ⊎ Precedes ranks chosen other

-- a round is over: there is no entry that was not played
abbrev pub AllWerePlayed : List ℕ → List Entry → Type 0
AllWerePlayed played entries = (entry : Entry) → Contains entries entry → Contains played entry.id

-- the ranks of a new round: each entry of the queue draws one, in the order of their positions
abbrev pub new_ranks : RoundState → List Entry → List Rank
new_ranks round entries = ranks_drawn round.generator (ids_of entries)

-- what follows in random order, among the entries that are left of the queue
pub data FollowsInRound (repeat : Bool) (round : RoundState) (left : List Entry) : Option Entry → Type 0 where
  -- the round goes on with the least of those that were not played in it
  InRound :
      (entry : Entry)
      → IsLeastUnplayed round.ranks round.played left entry
      → FollowsInRound repeat round left (Some entry)
  -- the round is over; with repeat a new one begins, in which nothing was played
  InNewRound :
      (entry : Entry)
      → AllWerePlayed round.played left
      → repeat ≡ true
      → IsLeastUnplayed (new_ranks round left) [] left entry
      → FollowsInRound repeat round left (Some entry)
  -- the round is over, and there is no repeat, or nothing left to be played
  RoundIsOver : AllWerePlayed round.played left → (repeat ≡ false) ⊎ (left ≡ []) → FollowsInRound repeat round left None

-- what follows in the order of the queue, where the entries before a position were played or are gone; some
-- entries are left of the queue
pub data FollowsInQueue (repeat : Bool) (entries left : List Entry) (position : ℕ) : Option Entry → Type 0 where
  -- the entry at the position
  AtPosition :
      (entry : Entry)
      → slice_get entries position ≡ Some entry
      → FollowsInQueue repeat entries left position (Some entry)
  -- there is none; with repeat the first that is left
  AtFront :
      (entry : Entry)
      → length entries ≡ position
      → repeat ≡ true
      → slice_get left 0 ≡ Some entry
      → FollowsInQueue repeat entries left position (Some entry)
  -- there is none, and there is no repeat, or nothing left to be played
  QueueIsOver : length entries ≡ position → (repeat ≡ false) ⊎ (left ≡ []) → FollowsInQueue repeat entries left position None

-- what follows, in random order and else
abbrev pub FollowsBy : Bool → Modes → RoundState → List Entry → List Entry → ℕ → Option Entry → Type 0
FollowsBy true modes round entries left position entry = FollowsInRound modes.repeat round left entry
FollowsBy false modes round entries left position entry = FollowsInQueue modes.repeat entries left position entry

-- what the order gives after a position of a queue of which some entries are left
abbrev pub Follows : Modes → RoundState → List Entry → List Entry → ℕ → Option Entry → Type 0
Follows modes = FollowsBy modes.random modes

-- a round forgets the entries that are gone from a queue, and stays as it was for those that are left
pub record ForgetsGone (before after : RoundState) (entries left : List Entry) : Type 0 where
  -- each entry that is left has the rank that it had, and no word is drawn
  pub ranks : (other : Entry) → Contains left other → rank_of after.ranks other.id ≡ rank_of before.ranks other.id
  pub generator : after.generator ≡ before.generator
  -- what was played still was, if it is left, and nothing else was
  pub kept : (other : Entry) → Contains left other → Contains before.played other.id → Contains after.played other.id
  pub no_more : (id : ℕ) → Contains after.played id → Contains before.played id
  pub only_left : (other : Entry) → Contains entries other → Contains after.played other.id → Contains left other

-- an id is the last of some
abbrev pub EndsIn : List ℕ → ℕ → Type 0
EndsIn ids id = (earlier : List ℕ) × (ids ≡ earlier ++ id ∷ [])

-- a round goes on with an entry, which is then the last that was played
pub record KeepsRound (before after : RoundState) (entries left : List Entry) (entry : Entry) : Type 0 where
  -- each entry that is left has the rank that it had, and no word is drawn
  pub ranks : (other : Entry) → Contains left other → rank_of after.ranks other.id ≡ rank_of before.ranks other.id
  pub generator : after.generator ≡ before.generator
  -- what was played still was, if it is left, and beside it the entry alone
  pub kept : (other : Entry) → Contains left other → Contains before.played other.id → Contains after.played other.id
  pub last : EndsIn after.played entry.id
  pub no_more : (id : ℕ) → Contains after.played id → Contains before.played id ⊎ (id ≡ entry.id)
  pub only_left : (other : Entry) → Contains entries other → Contains after.played other.id → Contains left other

-- a new round has new ranks, and nothing was played in it but what follows
pub record RenewsRound (before after : RoundState) (left : List Entry) (entry : Option Entry) : Type 0 where
  pub ranks : after.ranks ≡ new_ranks before left
  pub generator : after.generator ≡ generator_after before.generator (ids_of left)
  pub played : after.played ≡ option_to_list (id_of entry)

-- what becomes of a round where an entry of those that are left follows, or none: it goes on until all were
-- played
pub data BecomesRound (before after : RoundState) (entries left : List Entry) : Option Entry → Type 0 where
  GoesOn :
      (entry : Entry)
      → ¬ AllWerePlayed before.played left
      → KeepsRound before after entries left entry
      → BecomesRound before after entries left (Some entry)
  BeginsAnew :
      (entry : Option Entry)
      → AllWerePlayed before.played left
      → RenewsRound before after left entry
      → BecomesRound before after entries left entry

-- the rules name one answer: an entry that follows, or none
abbrev pub OneFollows : Type 0
OneFollows =
    (modes : Modes) (round : RoundState) (entries left : List Entry) (position : ℕ) (one other : Option Entry)
    → Follows modes round entries left position one
    → Follows modes round entries left position other
    → one ≡ other

-- what is left of a queue when the song at a position has ended: with consume each other entry, else all
abbrev pub left_after : Consume → List Entry → ℕ → List Entry
left_after consume.Off entries position = entries
left_after consume.On entries position = take position entries ++ drop (position + 1) entries
left_after consume.Oneshot entries position = take position entries ++ drop (position + 1) entries

-- consume takes out just the song that has ended
abbrev pub ConsumesOne : Type 0
ConsumesOne =
    (modes : Modes) (round : RoundState) (entries : List Entry) (position : ℕ) (song : Entry)
    → HaveOwnIds entries
    → slice_get entries position ≡ Some song
    → (after_next modes round entries song.id).left ≡ left_after modes.consume entries position

-- the entry that follows where a song ends and the order goes on
abbrev pub next_entry : Modes → RoundState → List Entry → Entry → Option Entry
next_entry modes round entries song = (after_next modes round entries song.id).entry

-- in random order the least unplayed entry follows, at the end of a song and where entries are taken out
pub record ChoosesUnplayed : Type 0 where
  pub at_end :
      (modes : Modes) (round : RoundState) (entries : List Entry) (position : ℕ) (song : Entry)
      → modes.random ≡ true
      → HaveOwnIds entries
      → slice_get entries position ≡ Some song
      → FollowsInRound modes.repeat round (left_after modes.consume entries position) (next_entry modes round entries song)
  pub at_removal :
      (modes : Modes) (round : RoundState) (entries : List Entry) (from end : ℕ)
      → modes.random ≡ true
      → HaveOwnIds entries
      → from ≤ end
      → FollowsInRound modes.repeat round (left_by entries from end) (next_after_removal modes round entries from end)

-- what follows after the position of a song that has ended
abbrev EndFollowsPosition : Modes → List Entry → ℕ → Option Entry → Type 0
EndFollowsPosition modes entries position entry =
    FollowsInQueue modes.repeat entries (left_after modes.consume entries position) (position + 1) entry

-- what follows after entries that are taken out
abbrev RemovalFollowsPosition : Bool → List Entry → ℕ → ℕ → Option Entry → Type 0
RemovalFollowsPosition repeat entries from end entry = FollowsInQueue repeat entries (left_by entries from end) end entry

-- where the order is not random the entry at the next position follows, at the end of a song (also of one that
-- is consumed) and where entries are taken out
pub record FollowsPositions : Type 0 where
  pub at_end :
      (modes : Modes) (round : RoundState) (entries : List Entry) (position : ℕ) (song : Entry)
      → modes.random ≡ false
      → HaveOwnIds entries
      → slice_get entries position ≡ Some song
      → EndFollowsPosition modes entries position (next_entry modes round entries song)
  pub at_removal :
      (modes : Modes) (round : RoundState) (entries : List Entry) (from end : ℕ)
      → modes.random ≡ false
      → from ≤ end
      → end ≤ length entries
      → RemovalFollowsPosition modes.repeat entries from end (next_after_removal modes round entries from end)

-- what becomes of a round at the end of the song at a position
abbrev EndBecomesRound : Modes → RoundState → List Entry → ℕ → Entry → Type 0
EndBecomesRound modes round entries position song =
    let after = round_after (after_next modes round entries song.id) in
    BecomesRound round after entries (left_after modes.consume entries position) (next_entry modes round entries song)

-- what becomes of a round where entries are taken out
abbrev RemovalBecomesRound : Modes → RoundState → List Entry → ℕ → ℕ → Type 0
RemovalBecomesRound modes round entries from end =
    let after = round_after_removal modes round entries from end in
    BecomesRound round after entries (left_by entries from end) (next_after_removal modes round entries from end)

-- in random order a round goes on until all were played, at the end of a song and where entries are taken out
pub record RoundsGoOn : Type 0 where
  pub at_end :
      (modes : Modes) (round : RoundState) (entries : List Entry) (position : ℕ) (song : Entry)
      → modes.random ≡ true
      → HaveOwnIds entries
      → slice_get entries position ≡ Some song
      → EndBecomesRound modes round entries position song
  pub at_removal :
      (modes : Modes) (round : RoundState) (entries : List Entry) (from end : ℕ)
      → modes.random ≡ true
      → HaveOwnIds entries
      → from ≤ end
      → RemovalBecomesRound modes round entries from end

-- a round forgets the song that consume takes out, and the entries that are deleted, and no others
pub record RoundsForgetGone : Type 0 where
  pub consumed :
      (modes : Modes) (round : RoundState) (entries : List Entry) (position : ℕ) (song : Entry)
      → HaveOwnIds entries
      → slice_get entries position ≡ Some song
      → ForgetsGone round (round_left modes round song.id) entries (left_after modes.consume entries position)
  pub deleted :
      (round : RoundState) (entries : List Entry) (from end : ℕ)
      → HaveOwnIds entries
      → from ≤ end
      → ForgetsGone round (without round (ids_taken entries from end)) entries (left_by entries from end)
