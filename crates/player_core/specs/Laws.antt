-- Laws of the definitions, over everything that can happen to a player (this profile's).
use Rattle.std.specs.Prelude.{ℕ, ◌≡◌, ◌+◌, ◌≤◌, Bool, List, [], ◌∷◌, Some, None}
use Rattle.rand_pcg.specs.Lcg.{Lcg}
use Rattle.mpd_text.specs.Songs.Song.{SongData}
use Rattle.song_queue.specs.declared.entry.Entry.{Entry}
use Rattle.song_queue.specs.State.{QueueState}
use Rattle.play_order.specs.declared.modes.Single.{Single}
use Rattle.play_order.specs.declared.modes.Consume.{Consume}
use Rattle.player_core.specs.declared.state.Job.{Job}
use Rattle.player_core.specs.Player.{PlayerState, opened}
use Rattle.player_core.specs.Steps as steps
use Rattle.player_core.specs.Decoding as decoding

-- what can happen to a player, each with the queue that it finds
pub data Event : Type 0 where
  Next : List Entry → Event
  Previous : List Entry → Event
  Play : List Entry → Event
  PlayEntry : Entry → Event
  Seek : Entry → ℕ → Event
  Stop : Event
  Pause : Bool → Event
  TogglePause : Event
  SetRandom : List Entry → Bool → Event
  SetRepeat : Bool → Event
  SetSingle : Single → Event
  SetConsume : Consume → Event
  SetCrossfade : ℕ → Event
  ClearError : Event
  Insert : QueueState → List SongData → Event
  Remove : List Entry → ℕ → ℕ → Event
  Want : ℕ → List Entry → Bool → Bool → Event
  Have : List Entry → ℕ → ℕ → Event
  Failed : List Entry → ℕ → Bool → Event

abbrev pub after : PlayerState → Event → PlayerState
after p (Next entries) = (steps.next p entries).player
after p (Previous entries) = steps.previous p entries
after p (Play entries) = steps.play p entries
after p (PlayEntry entry) = steps.play_entry p entry
after p (Seek entry frame) = steps.seek p entry frame
after p Stop = steps.stop p
after p (Pause on) = steps.pause p on
after p TogglePause = steps.toggle_pause p
after p (SetRandom entries on) = steps.random p entries on
after p (SetRepeat on) = steps.set_repeat p on
after p (SetSingle single) = steps.set_single p single
after p (SetConsume consume) = steps.set_consume p consume
after p (SetCrossfade seconds) = steps.set_crossfade p seconds
after p ClearError = steps.clear_error p
after p (Insert q songs) = steps.inserted p q songs
after p (Remove entries from end) = steps.removed p entries from end
after p (Want rate entries enabled owes) = (decoding.want rate p entries enabled owes).stepped.player
after p (Have entries number count) = (decoding.have p entries number count).stepped.player
after p (Failed entries number of_partner) = decoding.failed p entries number of_partner

-- one after the other
abbrev pub run : PlayerState → List Event → PlayerState
run p [] = p
run p (event ∷ events) = run (after p event) events

-- a number stays, or is one more
abbrev pub RisesByOne : ℕ → ℕ → Type 0
RisesByOne n m = (n ≤ m) × (m ≤ n + 1)

-- an event raises each number by one at most, and lowers none; the limit stays
abbrev pub NumbersRise : Type 0
NumbersRise =
    (p : PlayerState) (event : Event)
    → RisesByOne p.cuts (after p event).cuts × RisesByOne p.starts (after p event).starts × RisesByOne p.jobs (after p event).jobs × ((after p event).max_cut ≡ p.max_cut)

-- frames of a job are fed once: whatever happens after they were, no more are fed for the number of that job
abbrev pub FeedsOnce : Type 0
FeedsOnce =
    (max_cut : ℕ) (g : Lcg) (before : List Event) (entries : List Entry) (number count cut : ℕ)
    → (decoding.have (run (opened max_cut g) before) entries number count).feed ≡ Some cut
    → (between : List Event) (later : List Entry) (more : ℕ)
    → (decoding.have (run (run (opened max_cut g) before) (Have entries number count ∷ between)) later number more).feed ≡ None

-- frames are fed with the cut that was when they were asked for: what raises the cut makes each earlier job
-- stale
abbrev pub FeedsAsAsked : Type 0
FeedsAsAsked =
    (max_cut : ℕ) (g : Lcg) (before : List Event) (rate : ℕ) (entries : List Entry) (enabled owes : Bool) (job : Job)
    → (decoding.want rate (run (opened max_cut g) before) entries enabled owes).job ≡ Some job
    → (between : List Event) (later : List Entry) (count cut : ℕ)
    → (decoding.have (run (run (opened max_cut g) before) (Want rate entries enabled owes ∷ between)) later job.number count).feed ≡ Some cut
    → cut ≡ (run (opened max_cut g) before).cuts
