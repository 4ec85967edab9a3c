-- What a round of a random order comes to, `next` by `next` (MPD protocol reference, Playback options,
-- `random`; rounds are this profile's).
use Rattle.std.specs.Prelude.{ℕ, ◌≡◌, ◌≢◌, ◌<◌, ◌≤◌, zero, suc, true, List, length, slice_get, Contains, Some}
use Rattle.song_queue.specs.declared.entry.Entry.{Entry}
use Rattle.play_order.specs.declared.modes.Consume.TheVariants as consume
use Rattle.play_order.specs.Order.{left_by, unplayed}
use Rattle.play_order.specs.Choices.{HaveOwnIds, left_after}
use Rattle.player_core.specs.Player.{PlayerState, Stepped}
use Rattle.player_core.specs.Steps as steps
use Rattle.player_core.specs.Choices.{PlayedAreQueued}

-- the player after so many `next`s, in a queue that stays as it is
abbrev pub after_nexts : PlayerState → List Entry → ℕ → PlayerState
after_nexts p entries zero = p
after_nexts p entries (suc count) = after_nexts (steps.next p entries).player entries count

-- a player that goes through a queue in random order, and takes nothing out of it
pub record GoesAtRandom (p : PlayerState) (entries : List Entry) : Type 0 where
  pub ids : HaveOwnIds entries
  pub random : p.modes.random ≡ true
  pub consume : p.modes.consume ≡ consume.Off
  pub song : Entry
  pub queued : Contains entries song
  pub current : p.current ≡ Some song.id

-- how many entries were not played in the round
abbrev pub left_to_play : PlayerState → List Entry → ℕ
left_to_play p entries = length (unplayed p.round.played entries)

-- the `next` after so many others starts an entry that was not played in the round, and that none of them
-- started
pub record StartsAnother (p : PlayerState) (entries : List Entry) (earlier : ℕ) : Type 0 where
  pub entry : Entry
  pub queued : Contains entries entry
  pub unplayed : ¬ Contains p.round.played entry.id
  pub starts : (after_nexts p entries (suc earlier)).current ≡ Some entry.id
  pub first_time : (count : ℕ) → count < earlier → (after_nexts p entries (suc count)).current ≢ Some entry.id

-- one of so many `next`s starts an entry
abbrev pub IsStartedWithin : PlayerState → List Entry → ℕ → Entry → Type 0
IsStartedWithin p entries count entry =
    (earlier : ℕ) × (earlier < count) × ((after_nexts p entries (suc earlier)).current ≡ Some entry.id)

-- as many `next`s as there are entries that were not played in the round start each of these, and none twice,
-- whatever repeat and single are
pub record RoundsPlayEachOnce : Type 0 where
  pub each :
      (p : PlayerState) (entries : List Entry) (entry : Entry)
      → GoesAtRandom p entries
      → Contains entries entry
      → ¬ Contains p.round.played entry.id
      → IsStartedWithin p entries (left_to_play p entries) entry
  pub none_twice :
      (p : PlayerState) (entries : List Entry) (earlier : ℕ)
      → GoesAtRandom p entries
      → earlier < left_to_play p entries
      → StartsAnother p entries earlier

-- what was played in the round after a step
abbrev pub played_after : Stepped → List ℕ
played_after end = end.player.round.played

-- each song that was played in a round stays one of the queue: where a song ends by itself or by `next`,
-- where `previous` goes back, where an entry starts, and where entries are deleted
pub record PlayedStayQueued : Type 0 where
  pub ended :
      (p : PlayerState) (entries : List Entry) (song : Entry) (position frame : ℕ)
      → HaveOwnIds entries
      → slice_get entries position ≡ Some song
      → PlayedAreQueued p.round.played entries
      → PlayedAreQueued (played_after (steps.ended p entries song.id frame)) (left_after p.modes.consume entries position)
  pub next :
      (p : PlayerState) (entries : List Entry) (song : Entry) (position : ℕ)
      → HaveOwnIds entries
      → slice_get entries position ≡ Some song
      → p.current ≡ Some song.id
      → PlayedAreQueued p.round.played entries
      → PlayedAreQueued (played_after (steps.next p entries)) (left_after p.modes.consume entries position)
  pub previous :
      (p : PlayerState) (entries : List Entry) (song : Entry) (position : ℕ)
      → HaveOwnIds entries
      → slice_get entries position ≡ Some song
      → p.current ≡ Some song.id
      → PlayedAreQueued p.round.played entries
      → PlayedAreQueued (steps.previous p entries).round.played entries
  pub started :
      (p : PlayerState) (entries : List Entry) (entry : Entry)
      → Contains entries entry
      → PlayedAreQueued p.round.played entries
      → PlayedAreQueued (steps.play_entry p entry).round.played entries
  pub removed :
      (p : PlayerState) (entries : List Entry) (from end : ℕ)
      → HaveOwnIds entries
      → from ≤ end
      → end ≤ length entries
      → PlayedAreQueued p.round.played entries
      → PlayedAreQueued (steps.removed p entries from end).round.played (left_by entries from end)
