-- What a client hears nothing of is the same at both moments.
use Rattle.std.proofs.Common.{◌≡◌, ℕ, ◌+◌, ◌==◌, Bool, true, false, not, ◌&&◌, List, [], ◌∷◌, ◌++◌, map, take, drop, Some, None, option_map, refl, ap, sym, ◌∙◌, inl, inr, if◌then◌else◌}
use Rattle.std.specs.Prelude.{swap}
use Rattle.std.proofs.lemmas.Bool.{cases_Bool, cond-true, cond-false, eqb-true}
use Rattle.idle_notes.specs.Channels.{pairs}
use Rattle.idle_notes.specs.Sets.{has}
use Rattle.idle_notes.specs.declared.sets.Subsystems.{Subsystems}
use Rattle.idle_notes.specs.declared.subsystem.Subsystem.{Subsystem}
use Rattle.idle_notes.specs.declared.subsystem.Subsystem.TheVariants as subsystem
use Rattle.song_queue.specs.Entries.{entries_for, moved_to, same_queue, with_priority}
use Rattle.song_queue.specs.Shuffles.{shuffled}
use Rattle.song_queue.specs.State.{QueueState, differ, edited, next_version, queue_of, wraps}
use Rattle.song_queue.specs.declared.edit.Edit.{Edit}
use Rattle.song_queue.specs.declared.edit.Edit.TheVariants.{Insert, Remove, Move, Prioritize, Swap, Shuffle}
use Rattle.song_queue.specs.declared.entry.Entry.{Entry}
use Rattle.song_queue.proofs.Edits.{stepped, entries_of-restamped}
use Rattle.player_state.specs.Effects.{Change, ByEdit, ByStep, queue_after}
use Rattle.player_state.specs.Libraries.{same_songs, songs_after, updated_after}
use Rattle.player_state.specs.Scans.{ScanData, is_last, running, scan_after}
use Rattle.player_state.specs.declared.scan.ScanMove.{ScanMove}
use Rattle.player_state.specs.declared.scan.ScanMove.TheVariants.{Stay, Begin, End}
use Rattle.player_state.specs.declared.state.Part.{Part}
use Rattle.player_state.proofs.Songs.{same_songs-true}
use Rattle.partition_table.specs.Parts.{part_at}
use Rattle.connected_clients.specs.Clients.{has_messages, names_of, options, output_flags, playing, raised_between, raised_for_all, raised_within, watched_all, watched_at, watched_of}
use Rattle.connected_clients.proofs.Alike.{same_names-true, same_options-true, same_outputs-true, same_pairs-true, same_playing-true}
use Rattle.notice_laws.specs.ClientSteps.{ClientStep, Stays, heard, library_of}

is : (b : Bool) → not b ≡ false → b ≡ true
is true e = refl
is false e = sym e

not_begun : (a b : Bool) → (not a && b) ≡ false → a ≡ false → b ≡ false
not_begun true b e f = cc
not_begun false b e f = e

watched_part : (index : ℕ) (ps : List Part) → watched_at index (map watched_of ps) ≡ option_map watched_of (part_at index ps)
watched_part index [] = refl
watched_part index (p ∷ ps) =
    elim (p.index == index) as (λ b. (if b then Some (watched_of p) else watched_at index (map watched_of ps)) ≡ option_map watched_of (if b then Some p else part_at index ps))
    [ true ↦ refl | false ↦ watched_part index ps ]

-- an edit that leaves the same entries leaves the slots, and the version
pub record IsKept (q r : QueueState) : Type 0 where
  pub slots : q.slots ≡ r.slots
  pub version : q.version ≡ r.version

kept_edit : (q : QueueState) (es : List Entry) → same_queue (queue_of q) (queue_of (edited q es)) ≡ true → q ≡ edited q es
kept_edit q es e =
    elim (cases_Bool (same_queue (queue_of q) es)) [
      | inl t ↦ sym (cond-true _ _ _ t)
      | inr t ↦
          let steps : edited q es ≡ stepped q es = cond-false _ _ _ t in
          let entries : queue_of (edited q es) ≡ es = ap queue_of steps ∙ entries_of-restamped (next_version q) (wraps q) q.slots es in
          let clash : true ≡ false = sym e ∙ ap (same_queue (queue_of q)) entries ∙ t in cc
    ]

kept_by : (q r : QueueState) → q ≡ r → IsKept q r
kept_by q r e = record { slots = ap (λ (x : QueueState). x.slots) e; version = ap (λ (x : QueueState). x.version) e }

left_by_edit : (q : QueueState) (es : List Entry) → same_queue (queue_of q) (queue_of (edited q es)) ≡ true → IsKept q (edited q es)
left_by_edit q es e = kept_by q (edited q es) (kept_edit q es e)

kept_by_edit : (q : QueueState) (edit : Edit) → same_queue (queue_of q) (queue_of (queue_after q (ByEdit edit))) ≡ true → IsKept q (queue_after q (ByEdit edit))
kept_by_edit q (Insert at songs) e =
    let es : List Entry = take at (queue_of q) ++ entries_for (q.greatest_id + 1) songs ++ drop at (queue_of q) in
    let k : IsKept q (edited q es) = kept_by q (edited q es) (kept_edit q es e) in
    record { slots = k.slots; version = k.version }
kept_by_edit q (Remove start end) e = left_by_edit q (take start (queue_of q) ++ drop end (queue_of q)) e
kept_by_edit q (Move start end to) e = left_by_edit q (moved_to (queue_of q) start end to) e
kept_by_edit q (Prioritize ranges priority) e = left_by_edit q (with_priority (queue_of q) ranges priority) e
kept_by_edit q (Swap a b) e = left_by_edit q (swap (queue_of q) a b) e
kept_by_edit q (Shuffle start end words) e = left_by_edit q (shuffled (queue_of q) start end words) e

kept : (q : QueueState) (change : Change) → same_queue (queue_of q) (queue_of (queue_after q change)) ≡ true → IsKept q (queue_after q change)
kept q (ByEdit edit) e = kept_by_edit q edit e
kept q (ByStep None) e = record { slots = refl; version = refl }
kept q (ByStep (Some left)) e = left_by_edit q left e

-- no scan begins or ends
runs_on : (last : ℕ) (runs : Bool) (m : ScanMove) → differ runs (scan_after (record { last = last; runs = runs }) m).runs ≡ false
    → running (record { last = last; runs = runs }) ≡ running (scan_after (record { last = last; runs = runs }) m)
runs_on last runs Stay e = refl
runs_on last true Begin e = refl
runs_on last false Begin e =
    let rests : ScanData = record { last = last; runs = false } in
    let begins : ScanData = record { last = last + 1; runs = true } in
    let next : Bool → ScanData = λ b. if b then rests else begins in
    elim (is_last rests) as (λ b. differ false (next b).runs ≡ false → running rests ≡ running (next b)) [ true ↦ λ f. refl | false ↦ λ f. cc ] e
runs_on last true (End songs second) e = cc
runs_on last false (End songs second) e = refl

module _ (p : ClientStep) (stays : Stays p) where
  abbrev common : Subsystems
  common = raised_for_all p.written (watched_all p.library p.before) (watched_all (library_of p) p.after)

  abbrev within : Subsystems
  within = raised_within p.client.number (watched_of p.own) (watched_of p.later) common

  heard_is : heard p ≡ within
  heard_is =
      let index : ℕ = p.client.index in
      let first : watched_at index (map watched_of p.before) ≡ Some (watched_of p.own) = watched_part index p.before ∙ ap (option_map watched_of) stays.own in
      let second : watched_at index (map watched_of p.after) ≡ Some (watched_of p.later) = watched_part index p.after ∙ ap (option_map watched_of) stays.later in
      λ i. raised_between p.client.number (first i) (second i) common

  quiet : (one : Subsystem) → has (heard p) one ≡ false → has within one ≡ false
  quiet one e = ap (λ (s : Subsystems). has s one) (sym heard_is) ∙ e

  pub queue_kept : has (heard p) subsystem.Playlist ≡ false → IsKept p.own.queue p.later.queue
  queue_kept e =
      let same : same_queue (queue_of p.own.queue) (queue_of p.later.queue) ≡ true = is _ (quiet subsystem.Playlist e) in
      let by : IsKept p.own.queue (queue_after p.own.queue p.change) =
      kept p.own.queue p.change (ap (λ (q : QueueState). same_queue (queue_of p.own.queue) (queue_of q)) (sym stays.queue) ∙ same) in
      record {
        slots = by.slots ∙ ap (λ (q : QueueState). q.slots) (sym stays.queue);
        version = by.version ∙ ap (λ (q : QueueState). q.version) (sym stays.queue);
      }

  pub playing_kept : has (heard p) subsystem.Player ≡ false → playing p.own.player ≡ playing p.later.player
  playing_kept e = same_playing-true (playing p.own.player) (playing p.later.player) (is _ (quiet subsystem.Player e))

  pub volume_kept : has (heard p) subsystem.Mixer ≡ false → p.own.volume ≡ p.later.volume
  volume_kept e = eqb-true p.own.volume p.later.volume (is _ (quiet subsystem.Mixer e))

  pub outputs_kept : has (heard p) subsystem.Output ≡ false → output_flags p.own.outputs ≡ output_flags p.later.outputs
  outputs_kept e = same_outputs-true (output_flags p.own.outputs) (output_flags p.later.outputs) (is _ (quiet subsystem.Output e))

  pub options_kept : has (heard p) subsystem.Options ≡ false → options p.own.player ≡ options p.later.player
  options_kept e = same_options-true (options p.own.player) (options p.later.player) (is _ (quiet subsystem.Options e))

  pub pairs_kept : has (heard p) subsystem.Subscription ≡ false → pairs p.own.channels ≡ pairs p.later.channels
  pairs_kept e = same_pairs-true (pairs p.own.channels) (pairs p.later.channels) (is _ (quiet subsystem.Subscription e))

  pub none_begins : has (heard p) subsystem.Message ≡ false → has_messages p.client.number p.own.channels ≡ false → has_messages p.client.number p.later.channels ≡ false
  none_begins e f = not_begun _ _ (quiet subsystem.Message e) f

  pub names_kept : has (heard p) subsystem.Partition ≡ false → names_of (map watched_of p.before) ≡ names_of (map watched_of p.after)
  names_kept e = same_names-true (names_of (map watched_of p.before)) (names_of (map watched_of p.after)) (is _ (quiet subsystem.Partition e))

  songs_same : has (heard p) subsystem.Database ≡ false → same_songs p.library.songs (library_of p).songs ≡ true
  songs_same e = is _ (quiet subsystem.Database e)

  pub songs_kept : has (heard p) subsystem.Database ≡ false → p.library.songs ≡ (library_of p).songs
  songs_kept e = same_songs-true p.library.songs (library_of p).songs (songs_same e)

  pub updated_kept : has (heard p) subsystem.Database ≡ false → p.library.updated ≡ (library_of p).updated
  updated_kept e =
      let by : (m : ScanMove) → same_songs p.library.songs (songs_after p.library m) ≡ true → p.library.updated ≡ updated_after p.library m =
      λ m. elim m as (λ m. same_songs p.library.songs (songs_after p.library m) ≡ true → p.library.updated ≡ updated_after p.library m) [
        | Stay ↦ λ f. refl
        | Begin ↦ λ f. refl
        | End songs second ↦ λ f. sym (cond-true _ _ _ f)
      ] in
      by p.scan (songs_same e)

  pub scan_kept : has (heard p) subsystem.Update ≡ false → running p.library.scan ≡ running (library_of p).scan
  scan_kept e = runs_on p.library.scan.last p.library.scan.runs p.scan (quiet subsystem.Update e)
