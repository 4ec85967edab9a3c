-- What the steps of a player start, and what they leave, said once more: in the words of the rules (MPD
-- protocol reference, Playback options; Controlling playback; which steps cut and start, and what a deletion
-- leads to, are this profile's). `Follows` says what the order gives, in random order and in that of the
-- queue.
use Rattle.std.specs.Prelude.{ℕ, ◌≡◌, ◌≢◌, ◌+◌, ◌<◌, ◌≤◌, ◌⊎◌, ◌↔◌, Bool, true, false, not, ◌==◌, List, [], length, filter, slice_get, Contains, Option, Some, None}
use Rattle.song_queue.specs.declared.entry.Entry.{Entry}
use Rattle.play_order.specs.declared.modes.Modes.{Modes}
use Rattle.play_order.specs.declared.modes.Single.TheVariants as single
use Rattle.play_order.specs.declared.modes.Consume.TheVariants as consume
use Rattle.play_order.specs.Order.{left_by}
use Rattle.play_order.specs.Choices.{AllWerePlayed, BecomesRound, EndsIn, Follows, FollowsInRound, ForgetsGone, HaveOwnIds, KeepsRound, left_after}
use Rattle.player_core.specs.declared.state.Playback.{Playback}
use Rattle.player_core.specs.declared.state.Playback.TheVariants.{Stop, Play, Pause}
use Rattle.player_core.specs.Player.{PlayerState, Stepped, stays}
use Rattle.player_core.specs.Steps as steps

-- a step starts an entry at a frame: it is current, in random order the last that was played, and no job is
-- left
pub record Starts (before after : PlayerState) (state : Playback) (entry : Entry) (frame : ℕ) : Type 0 where
  pub current : after.current ≡ Some entry.id
  pub playback : after.playback ≡ state
  pub offset : after.offset ≡ frame
  pub starts : after.starts ≡ before.starts + 1
  pub error : after.error ≡ None
  pub job : after.job ≡ None
  pub fade : after.fade ≡ None
  pub played : before.modes.random ≡ true → EndsIn after.round.played entry.id

-- a step starts nothing, and the player stops with this current song
pub record Stops (before after : PlayerState) (song : Option ℕ) : Type 0 where
  pub current : after.current ≡ song
  pub playback : after.playback ≡ Stop
  pub starts : after.starts ≡ before.starts
  pub job : after.job ≡ None
  pub fade : after.fade ≡ None

-- what follows starts at a frame; where nothing does, the player stops with no current song
pub data StartsOrStops (before after : PlayerState) (playback : Playback) (frame : ℕ) : Option Entry → Type 0 where
  OneStarts :
      (entry : Entry)
      → Starts before after playback entry frame
      → StartsOrStops before after playback frame (Some entry)
  NoneStarts : Stops before after None → StartsOrStops before after playback frame None

-- a step goes on with what follows after a position of the queue of which some entries are left
pub record GoesOn
    (before after : PlayerState) (playback : Playback) (entries left : List Entry) (position frame : ℕ) : Type 0 where
  pub entry : Option Entry
  pub follows : Follows before.modes before.round entries left position entry
  pub starts : StartsOrStops before after playback frame entry
  pub at_random : before.modes.random ≡ true → BecomesRound before.round after.round entries left entry
  pub in_order : before.modes.random ≡ false → ForgetsGone before.round after.round entries left

-- single stops the player at the end of a song: once, or without repeat, or since the song is consumed
pub data SingleStops (modes : Modes) : Type 0 where
  Once : modes.single ≡ single.Oneshot → SingleStops modes
  WithoutRepeat : modes.single ≡ single.On → modes.repeat ≡ false → SingleStops modes
  SongIsGone : modes.single ≡ single.On → modes.consume ≢ consume.Off → SingleStops modes

-- single plays the song again
pub record SingleRepeats (modes : Modes) : Type 0 where
  pub single : modes.single ≡ single.On
  pub repeat : modes.repeat ≡ true
  pub consume : modes.consume ≡ consume.Off

-- a song stays current exactly if it is still in the queue
pub record StaysIfQueued (left : List Entry) (song : Entry) (current : Option ℕ) : Type 0 where
  pub queued : Contains left song → current ≡ Some song.id
  pub gone : ¬ Contains left song → current ≡ None

-- why the player goes on, starts again or stops at the end of a song
pub data EndHasCause
    (before after : PlayerState) (entries left : List Entry) (song : Entry) (position frame : ℕ) : Type 0 where
  OrderGoesOn :
      before.modes.single ≡ single.Off
      → GoesOn before after before.playback entries left (position + 1) frame
      → EndHasCause before after entries left song position frame
  PlaysAgain :
      SingleRepeats before.modes
      → Starts before after before.playback song frame
      → (before.modes.random ≡ true → KeepsRound before.round after.round entries left song)
      → (before.modes.random ≡ false → after.round ≡ before.round)
      → EndHasCause before after entries left song position frame
  StopsBySingle :
      (current : Option ℕ)
      → SingleStops before.modes
      → StaysIfQueued left song current
      → Stops before after current
      → ForgetsGone before.round after.round entries left
      → EndHasCause before after entries left song position frame

-- consume is off after one song where it was to act once; repeat and random stay
pub record ConsumesOnce (before after : Modes) : Type 0 where
  pub once : before.consume ≡ consume.Oneshot → after.consume ≡ consume.Off
  pub consume : before.consume ≢ consume.Oneshot → after.consume ≡ before.consume
  pub repeat : after.repeat ≡ before.repeat
  pub random : after.random ≡ before.random

-- single is off after one song where it was to act once
pub record StopsOnce (before after : Modes) : Type 0 where
  pub once : before.single ≡ single.Oneshot → after.single ≡ single.Off
  pub single : before.single ≢ single.Oneshot → after.single ≡ before.single

-- the natural end of the song at a position: consume alone takes it out of the queue, no cut is raised, and what
-- becomes of the player has its cause
pub record EndsByRule
    (before : PlayerState) (entries : List Entry) (song : Entry) (position frame : ℕ) (end : Stepped) : Type 0 where
  pub queue : end.edit ≡ Some (left_after before.modes.consume entries position)
  pub consume : ConsumesOnce before.modes end.player.modes
  pub single : StopsOnce before.modes end.player.modes
  pub cuts : end.player.cuts ≡ before.cuts
  pub cause : EndHasCause before end.player entries (left_after before.modes.consume entries position) song position frame

-- each natural end of a song of the queue is so
abbrev pub EndsStopForACause : Type 0
EndsStopForACause =
    (p : PlayerState) (entries : List Entry) (song : Entry) (position frame : ℕ)
    → HaveOwnIds entries
    → slice_get entries position ≡ Some song
    → EndsByRule p entries song position frame (steps.ended p entries song.id frame)

-- the end of the song at a position by `next`: what follows plays from its first frame, whatever single is, and
-- there is a cut
pub record NextByRule (before : PlayerState) (entries : List Entry) (position : ℕ) (end : Stepped) : Type 0 where
  pub queue : end.edit ≡ Some (left_after before.modes.consume entries position)
  pub consume : ConsumesOnce before.modes end.player.modes
  pub single : end.player.modes.single ≡ before.modes.single
  pub cuts : end.player.cuts ≡ before.cuts + 1
  pub goes_on : GoesOn before end.player Play entries (left_after before.modes.consume entries position) (position + 1) 0

-- `next` goes on with what follows; with no current song it does nothing
pub record NextGoesOn : Type 0 where
  pub song :
      (p : PlayerState) (entries : List Entry) (song : Entry) (position : ℕ)
      → HaveOwnIds entries
      → slice_get entries position ≡ Some song
      → p.current ≡ Some song.id
      → NextByRule p entries position (steps.next p entries)
  pub no_song : (p : PlayerState) (entries : List Entry) → p.current ≡ None → steps.next p entries ≡ stays p

-- the entry that `previous` goes back to in the order of the queue
pub data IsPositionBefore (repeat : Bool) (entries : List Entry) (position : ℕ) (entry : Entry) : Type 0 where
  PositionBefore :
      (before : ℕ)
      → before + 1 ≡ position
      → slice_get entries before ≡ Some entry
      → IsPositionBefore repeat entries position entry
  LastPosition :
      (last : ℕ)
      → position ≡ 0
      → repeat ≡ true
      → last + 1 ≡ length entries
      → slice_get entries last ≡ Some entry
      → IsPositionBefore repeat entries position entry
  SamePosition :
      position ≡ 0
      → repeat ≡ false
      → slice_get entries position ≡ Some entry
      → IsPositionBefore repeat entries position entry

-- the songs that were played in this round beside one
abbrev pub played_beside : List ℕ → ℕ → List ℕ
played_beside played id = filter (λ other. not (other == id)) played

-- the entry that `previous` goes back to in random order: the last of those played beside the song, else the
-- song
pub data IsPlayedBefore (played : List ℕ) (entries : List Entry) (song entry : Entry) : Type 0 where
  PlayedBefore :
      Contains entries entry
      → EndsIn (played_beside played song.id) entry.id
      → IsPlayedBefore played entries song entry
  NoneBefore : played_beside played song.id ≡ [] → song ≡ entry → IsPlayedBefore played entries song entry

-- what `previous` goes back to, in random order and else
abbrev pub IsBeforeBy : Bool → PlayerState → List Entry → Entry → ℕ → Entry → Type 0
IsBeforeBy true p entries song position entry = IsPlayedBefore p.round.played entries song entry
IsBeforeBy false p entries song position entry = IsPositionBefore p.modes.repeat entries position entry

-- what `previous` goes back to from the song at a position
abbrev pub IsBefore : PlayerState → List Entry → Entry → ℕ → Entry → Type 0
IsBefore p = IsBeforeBy p.modes.random p

-- in random order the song that was current is no longer played, but where it starts again; of each other
-- song it stays as it was, and so do the ranks
pub record LeavesPlayed (before after : PlayerState) (song entry : Entry) : Type 0 where
  pub leaves : entry.id ≢ song.id → ¬ Contains after.round.played song.id
  pub others : (id : ℕ) → id ≢ song.id → Contains after.round.played id ↔ Contains before.round.played id
  pub ranks : after.round.ranks ≡ before.round.ranks
  pub generator : after.round.generator ≡ before.round.generator

-- `previous` plays what was before the song at a position from its first frame, with a cut; no mode changes
pub record PreviousByRule
    (before : PlayerState) (entries : List Entry) (song : Entry) (position : ℕ) (after : PlayerState) : Type 0 where
  pub entry : Entry
  pub is_before : IsBefore before entries song position entry
  pub starts : Starts before after Play entry 0
  pub played : before.modes.random ≡ true → LeavesPlayed before after song entry
  pub round : before.modes.random ≡ false → after.round ≡ before.round
  pub cuts : after.cuts ≡ before.cuts + 1
  pub modes : after.modes ≡ before.modes

-- each song that was played in this round is in the queue
abbrev pub PlayedAreQueued : List ℕ → List Entry → Type 0
PlayedAreQueued played entries =
    (id : ℕ) → Contains played id → (entry : Entry) × Contains entries entry × (entry.id ≡ id)

-- `previous` consumes nothing: it has a player as its result, and no queue; with no current song it does
-- nothing
pub record PreviousConsumesNothing : Type 0 where
  pub song :
      (p : PlayerState) (entries : List Entry) (song : Entry) (position : ℕ)
      → HaveOwnIds entries
      → PlayedAreQueued p.round.played entries
      → slice_get entries position ≡ Some song
      → p.current ≡ Some song.id
      → PreviousByRule p entries song position (steps.previous p entries)
  pub no_song : (p : PlayerState) (entries : List Entry) → p.current ≡ None → steps.previous p entries ≡ p

-- a deletion goes past a player: the round forgets the entries that are gone, and nothing else changes
pub record GoesPast (before after : PlayerState) (entries left : List Entry) : Type 0 where
  pub round : ForgetsGone before.round after.round entries left
  pub rest : after ≡ record before { round = after.round }

-- the song is deleted while it plays or pauses: what follows starts in the same state, with a cut
pub record GoesOnWithout (before after : PlayerState) (entries : List Entry) (from end : ℕ) : Type 0 where
  pub goes_on : GoesOn before after before.playback entries (left_by entries from end) end 0
  pub cuts : after.cuts ≡ before.cuts + 1
  pub modes : after.modes ≡ before.modes

-- the song is deleted while the player is stopped: there is then no current song, the round forgets the
-- entries that are gone, and nothing else changes
pub record StaysStopped (before after : PlayerState) (entries left : List Entry) : Type 0 where
  pub round : ForgetsGone before.round after.round entries left
  pub rest : after ≡ record before { current = None; round = after.round }

-- what a deletion of the entries from a position up to another leads to, by where the current song stands
pub record DeletionsGoOn : Type 0 where
  pub outside :
      (p : PlayerState) (entries : List Entry) (song : Entry) (position from end : ℕ)
      → HaveOwnIds entries
      → slice_get entries position ≡ Some song
      → p.current ≡ Some song.id
      → from ≤ end
      → (position < from) ⊎ (end ≤ position)
      → GoesPast p (steps.removed p entries from end) entries (left_by entries from end)
  pub no_song :
      (p : PlayerState) (entries : List Entry) (from end : ℕ)
      → HaveOwnIds entries
      → from ≤ end
      → p.current ≡ None
      → GoesPast p (steps.removed p entries from end) entries (left_by entries from end)
  pub played :
      (p : PlayerState) (entries : List Entry) (song : Entry) (position from end : ℕ)
      → HaveOwnIds entries
      → slice_get entries position ≡ Some song
      → p.current ≡ Some song.id
      → from ≤ position
      → position < end
      → end ≤ length entries
      → p.playback ≢ Stop
      → GoesOnWithout p (steps.removed p entries from end) entries from end
  pub stopped :
      (p : PlayerState) (entries : List Entry) (song : Entry) (position from end : ℕ)
      → HaveOwnIds entries
      → slice_get entries position ≡ Some song
      → p.current ≡ Some song.id
      → from ≤ position
      → position < end
      → p.playback ≡ Stop
      → StaysStopped p (steps.removed p entries from end) entries (left_by entries from end)

-- nothing is ahead in the order: the player stops, or the round is over
pub data NothingAhead (before after : PlayerState) (left : List Entry) : Type 0 where
  PlayerStops : (song : Option ℕ) → Stops before after song → NothingAhead before after left
  NeedsNewRound :
      before.modes.single ≡ single.Off
      → before.modes.random ≡ true
      → AllWerePlayed before.round.played left
      → NothingAhead before after left

-- what `peek` gives while a song plays is what its natural end starts; where it gives none, the end stops
-- the player or needs a new round
pub record PeekForetells : Type 0 where
  pub some :
      (p : PlayerState) (entries : List Entry) (song entry : Entry) (frame : ℕ)
      → p.current ≡ Some song.id
      → steps.peek p entries ≡ Some entry
      → Starts p (steps.ended p entries song.id frame).player p.playback entry frame
  pub none :
      (p : PlayerState) (entries : List Entry) (song : Entry) (position frame : ℕ)
      → HaveOwnIds entries
      → slice_get entries position ≡ Some song
      → p.current ≡ Some song.id
      → steps.peek p entries ≡ None
      → NothingAhead p (steps.ended p entries song.id frame).player (left_after p.modes.consume entries position)

-- an opening starts an entry, with a cut; where the queue is empty nothing starts, and nothing but the round
-- changes
pub data OpensWith (before after : PlayerState) (entries : List Entry) : Option Entry → Type 0 where
  FirstStarts :
      (entry : Entry)
      → Starts before after Play entry 0
      → after.cuts ≡ before.cuts + 1
      → OpensWith before after entries (Some entry)
  NothingStarts : entries ≡ [] → after ≡ record before { round = after.round } → OpensWith before after entries None

-- the player begins with no current song: in random order with what follows as if repeat were on, else with
-- the first entry of the queue
pub record Opens (before after : PlayerState) (entries : List Entry) : Type 0 where
  pub entry : Option Entry
  pub at_random : before.modes.random ≡ true → FollowsInRound true before.round entries entry
  pub round : before.modes.random ≡ true → BecomesRound before.round after.round entries entries entry
  pub in_order : before.modes.random ≡ false → entry ≡ slice_get entries 0
  pub starts : OpensWith before after entries entry

-- an entry starts from its first frame, with a cut; in random order it is the last that was played, and the
-- round goes on
pub record StartsAnew (before after : PlayerState) (entries : List Entry) (entry : Entry) : Type 0 where
  pub starts : Starts before after Play entry 0
  pub cuts : after.cuts ≡ before.cuts + 1
  pub at_random : before.modes.random ≡ true → KeepsRound before.round after.round entries entries entry
  pub in_order : before.modes.random ≡ false → after.round ≡ before.round

-- `play` changes nothing while a song plays, and plays on after a pause; stopped, it starts the current
-- song, or where there is none, what the order begins with; of an entry it starts that one
pub record PlayBegins : Type 0 where
  pub playing : (p : PlayerState) (entries : List Entry) → p.playback ≡ Play → steps.play p entries ≡ p
  pub paused :
      (p : PlayerState) (entries : List Entry)
      → p.playback ≡ Pause
      → steps.play p entries ≡ record p { playback = Play }
  pub song :
      (p : PlayerState) (entries : List Entry) (song : Entry)
      → HaveOwnIds entries
      → Contains entries song
      → p.playback ≡ Stop
      → p.current ≡ Some song.id
      → StartsAnew p (steps.play p entries) entries song
  pub no_song :
      (p : PlayerState) (entries : List Entry)
      → HaveOwnIds entries
      → p.playback ≡ Stop
      → p.current ≡ None
      → Opens p (steps.play p entries) entries
  pub entry :
      (p : PlayerState) (entries : List Entry) (entry : Entry)
      → Contains entries entry
      → StartsAnew p (steps.play_entry p entry) entries entry
