-- What is asked of the queue is the same where its slots and its version are.
use Rattle.std.proofs.Common.{◌≡◌, ℕ, List, [], ◌∷◌, Option, Some, None, refl, ap, ◌∙◌}
use Rattle.std.specs.declared.ops.Range.{Range as Positions}
use Rattle.filters.specs.declared.matching.Case.{Case}
use Rattle.filters.specs.declared.matching.Case.TheVariants.{Heeded, Ignored}
use Rattle.command_arguments.specs.declared.criteria.Criteria.{Criteria}
use Rattle.command_arguments.specs.declared.criteria.Criteria.TheVariants.{Meeting, Refused}
use Rattle.idle_notes.specs.declared.subsystem.Subsystem.TheVariants.{Playlist}
use Rattle.mpd_text.specs.declared.songs.song.TagName.{TagName}
use Rattle.song_queue.specs.declared.entry.Entry.{Entry}
use Rattle.song_queue.specs.declared.entry.Slot.{Slot}
use Rattle.song_queue.specs.State.{QueueState, position_of}
use Rattle.player_state.specs.Libraries.{library_after}
use Rattle.player_state.specs.declared.scan.ScanMove.{ScanMove}
use Rattle.player_state.specs.declared.state.Library.{Library}
use Rattle.player_state.specs.declared.state.Part.{Part}
use Rattle.transitions.specs.CommandResults.{shows}
use Rattle.transitions.specs.declared.asked.Asked.{Asked}
use Rattle.mpd_command.specs.declared.queue.QueueCommand.{QueueCommand}
use Rattle.mpd_command.specs.declared.queue.QueueCommand.TheVariants as queue
use Rattle.mpd_command.specs.declared.status.StatusCommand.TheVariants as status
use Rattle.queue_commands.specs.Playback.{lines_at}
use Rattle.queue_commands.specs.Queue.{count, entry_lines, position_lines, position_of_id, playlist_find, range_or_all, show_changed, show_one, show_positions, result_of as queue_result}
use Rattle.status_commands.specs.Status.{current_lines, result_of as status_result}
use Rattle.connected_clients.specs.Clients.{playing}
use Rattle.notice_laws.specs.ClientSteps.{HearsOfNone, IsUntold, ClientStep}
use Rattle.notice_laws.specs.Tellers.{queue_tellers}
use Rattle.notice_laws.specs.Told.{QueueIsTold, StatusIsTold}
use Rattle.notice_laws.proofs.Unheard.{playing_kept, queue_kept}

-- a queue with other slots and another version
abbrev pub with_slots : QueueState → List Slot → ℕ → QueueState
with_slots q slots version = record q { slots = slots; version = version }

abbrev with_queue : Part → List Slot → ℕ → Part
with_queue part slots version = record part { queue = with_slots part.queue slots version }

-- two parts, of which one has the slots, the version and the current song of the other
module _ (asked : Asked) (a b : Part) (l : Library) (scan : ScanMove) where
  abbrev c : Part
  c = with_queue a b.queue.slots b.queue.version

  abbrev m : Library
  m = library_after l scan

  same_positions : (lines : ℕ × Entry → List ℕ) (o : Option (Positions ℕ)) → show_positions asked c lines o ≡ show_positions asked b lines o
  same_positions lines None = refl
  same_positions lines (Some r) = refl

  same_found : (case : Case) (w : Criteria) → playlist_find asked c l case w ≡ playlist_find asked b m case w
  same_found case (Meeting e) = refl
  same_found case (Refused text) = refl

  same_one : (o : Option ℕ) → show_one asked c l o ≡ show_one asked b m o
  same_one None = refl
  same_one (Some position) = refl

  same_changed : (lines : ℕ × Entry → List ℕ) (version : ℕ) (o : Option (Positions ℕ)) → show_changed asked c lines version o ≡ show_changed asked b lines version o
  same_changed lines version None = refl
  same_changed lines version (Some r) = refl

  same_queue_answer : (p : ClientStep) (it : QueueCommand) → IsUntold p (queue_tellers it) → queue_result asked c l it ≡ queue_result asked b m it
  unfolding queue_result
  same_queue_answer p queue.Playlist h = refl
  same_queue_answer p (queue.PlaylistFind criteria) h = same_found Heeded criteria
  same_queue_answer p (queue.PlaylistId None) h = refl
  same_queue_answer p (queue.PlaylistId (Some id)) h = same_one (position_of b.queue id)
  same_queue_answer p (queue.PlaylistInfo range) h = same_positions (entry_lines asked.tags l.rate) (range_or_all range (count b))
  same_queue_answer p (queue.PlaylistSearch criteria) h = same_found Ignored criteria
  same_queue_answer p (queue.PlChanges version range) h = same_changed (entry_lines asked.tags l.rate) version (range_or_all range (count b))
  same_queue_answer p (queue.PlChangesPosId version range) h = same_changed position_lines version (range_or_all range (count b))
  same_queue_answer p _ h = absurd h

-- a subsystem of the queue is heard of by each of its commands
tells_playlist : (p : ClientStep) (it : QueueCommand) → IsUntold p (queue_tellers it) → HearsOfNone p (Playlist ∷ [])
tells_playlist p queue.Playlist h = h
tells_playlist p (queue.PlaylistFind criteria) h = h
tells_playlist p (queue.PlaylistId id) h = h
tells_playlist p (queue.PlaylistInfo range) h = h
tells_playlist p (queue.PlaylistSearch criteria) h = h
tells_playlist p (queue.PlChanges version range) h = h
tells_playlist p (queue.PlChangesPosId version range) h = h
tells_playlist p _ h = absurd h

pub queue_is_told : QueueIsTold
queue_is_told p asked it stays h =
    let same = queue_kept p stays (tells_playlist p it h).0 in
    (λ i. queue_result asked (with_queue p.own (same.slots i) (same.version i)) p.library it)
    ∙ same_queue_answer asked p.own p.later p.library p.scan p it h

-- the current song
same_lines_at : (tags : List TagName) (rate : ℕ) (q r : QueueState) (version : ℕ) (o : Option ℕ) → lines_at tags rate (with_slots q r.slots version) o ≡ lines_at tags rate r o
same_lines_at tags rate q r version None = refl
same_lines_at tags rate q r version (Some position) = refl

same_position : (q r : QueueState) (version : ℕ) (current : Option ℕ) → position_of_id (with_slots q r.slots version) current ≡ position_of_id r current
same_position q r version None = refl
same_position q r version (Some id) = refl

pub same_current_lines : (q r : QueueState) (version : ℕ) (current : Option ℕ) → current_lines (with_slots q r.slots version) current ≡ current_lines r current
same_current_lines q r version None = refl
same_current_lines q r version (Some id) = refl

pub status_is_told : StatusIsTold
unfolding status_result
status_is_told p asked status.CurrentSong stays h =
    let plays : playing p.own.player ≡ playing p.later.player = playing_kept p stays h.0 in
    let same = queue_kept p stays h.1.0 in
    let tags : List TagName = asked.tags in
    let rate : ℕ = p.library.rate in
    let current : Option ℕ = p.later.player.current in
    let q : QueueState = with_slots p.own.queue p.later.queue.slots p.later.queue.version in
    let Shown : QueueState → Option ℕ → List ℕ = λ x current. lines_at tags rate x (position_of_id x current) in
    let first : Shown p.own.queue p.own.player.current ≡ Shown q current =
    λ i. Shown (with_slots p.own.queue (same.slots i) (same.version i)) (plays i).current in
    let second : Shown q current ≡ Shown p.later.queue current =
    ap (lines_at tags rate q) (same_position p.own.queue p.later.queue p.later.queue.version current)
    ∙ same_lines_at tags rate p.own.queue p.later.queue p.later.queue.version (position_of_id p.later.queue current) in
    ap (λ lines. shows asked lines) (first ∙ second)
status_is_told p asked _ stays h = absurd h
