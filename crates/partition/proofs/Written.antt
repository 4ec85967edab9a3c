-- Transitions that write to the shelf, or are refused by it, and do nothing else.
use Rattle.std.proofs.Common.{◌≡◌, ◌∙◌, ℕ, ◌==◌, Bool, true, false, not, ◌&&◌, List, [], ◌∷◌, Option, Some, None, refl, ap, sym, if◌then◌else◌}
use Rattle.idle_notes.specs.declared.sets.Subsystems.{Subsystems}
use Rattle.partition_table.specs.Parts.{changed, is_within_in, part_at, report_in}
use Rattle.partition_table.specs.declared.crossing.Crossing.TheVariants.{Stays}
use Rattle.player_state.specs.declared.effect.Effect.TheVariants.{ByCommand}
use Rattle.player_state.specs.declared.effect.CommandEffect.TheVariants.{Rests}
use Rattle.player_events.specs.declared.event.Event.{Event}
use Rattle.connected_clients.specs.declared.notices.Notice.{Notice}
use Rattle.player_state.specs.declared.report.Report.{Report}
use Rattle.player_state.specs.declared.report.Report.TheVariants.{Nothing}
use Rattle.player_state.specs.declared.scan.ScanMove.{ScanMove}
use Rattle.player_state.specs.declared.scan.ScanMove.TheVariants.{Stay}
use Rattle.player_state.specs.declared.state.Client.{Client}
use Rattle.player_state.specs.declared.state.Part.{Part}
use Rattle.connected_clients.specs.Clients.{clients_after, notices_after}
use Rattle.player_state.specs.Libraries.{same_songs}
use Rattle.partition.specs.Image.{Image}
use Rattle.transitions.specs.Transitions.{TransitionData, parts_after, quiet}
use Rattle.player_state.specs.Libraries.{library_after, songs_after}
use Rattle.player_state.specs.Outputs.{books_after, can_count_all}
use Rattle.connected_clients.specs.Fingerprint.{changes_listeners_in, fingerprint, raised_by_fingerprint, raised_in}
use Rattle.partition.specs.Step.{after_transition, counts_frames, ended_after, moved_client, keeps_limits, sender_number, index_at, report_at, told_by}
use Rattle.partition.proofs.Raised.{noticed, stepped}
use Rattle.player_state.proofs.Songs.{same_songs-refl}

-- a partition to which nothing happens is as it was
pub rests_changed : (rate index : ℕ) (ps : List Part) → changed rate index (ByCommand Rests) ps ≡ ps
rests_changed rate index [] = refl
rests_changed rate index (p ∷ ps) =
    elim (p.index == index) as (λ b. (if b then p ∷ ps else p ∷ changed rate index (ByCommand Rests) ps) ≡ p ∷ ps)
    [ true ↦ refl | false ↦ ap (λ (l : List Part). p ∷ l) (rests_changed rate index ps) ]

pub rests_report : (rate : ℕ) (o : Option Part) (report : Report) → report_in rate o (ByCommand Rests) report ≡ report
rests_report rate None report = refl
rests_report rate (Some p) report = refl

rests_listeners : (o : Option Part) → changes_listeners_in o (ByCommand Rests) ≡ false
rests_listeners None = refl
rests_listeners (Some p) = refl

module _ (i : Image) (event : Event) (t : TransitionData) (alone : t ≡ record (quiet t.response) { written = t.written }) (raised : Client → Subsystems)
    (shown : raised ≡ raised_in (raised_by_fingerprint (moved_client (sender_number event) t.response) false false t.written (fingerprint Stays (index_at i event) i.parts i.shared.library) i.parts i.shared.library)) where
  abbrev index : ℕ
  index = index_at i event

  effect_is : t.effect ≡ (ByCommand Rests)
  effect_is = ap (λ (u : TransitionData). u.effect) alone

  scan_is : t.scan ≡ Stay
  scan_is = ap (λ (u : TransitionData). u.scan) alone

  crossing_is : t.crossing ≡ Stays
  crossing_is = ap (λ (u : TransitionData). u.crossing) alone

  pub told_nothing : Nothing ≡ report_at i event t
  told_nothing = sym (ap (report_at i event) alone ∙ rests_report i.shared.library.rate (part_at index i.parts) Nothing)

  parts_are : i.parts ≡ parts_after i.shared.library.rate index t i.parts
  parts_are = sym (ap (λ (u : TransitionData). parts_after i.shared.library.rate index u i.parts) alone ∙ rests_changed i.shared.library.rate index i.parts)

  library_is : i.shared.library ≡ library_after i.shared.library t.scan
  library_is = sym (ap (library_after i.shared.library) scan_is)

  same_database : not (same_songs i.shared.library.songs (songs_after i.shared.library t.scan)) ≡ false
  same_database = ap (λ (m : ScanMove). not (same_songs i.shared.library.songs (songs_after i.shared.library m))) scan_is ∙ ap not (same_songs-refl i.shared.library.songs)

  same_listeners : changes_listeners_in (part_at index i.parts) t.effect ≡ false
  same_listeners = ap (changes_listeners_in (part_at index i.parts)) effect_is ∙ rests_listeners (part_at index i.parts)

  is_shown : raised ≡ raised_in (raised_by_fingerprint (moved_client (sender_number event) t.response) (not (same_songs i.shared.library.songs (songs_after i.shared.library t.scan)))
      (changes_listeners_in (part_at index i.parts) t.effect) t.written (fingerprint t.crossing index i.parts i.shared.library) i.parts i.shared.library)
  is_shown =
      shown
      ∙ (λ j. raised_in (raised_by_fingerprint (moved_client (sender_number event) t.response) (sym same_database j) (sym same_listeners j) t.written (fingerprint (sym crossing_is j) index i.parts i.shared.library) i.parts i.shared.library))

  books_are : (books_after i.shared.books (ByCommand Rests) Nothing ≡ i.shared.books) → i.shared.books ≡ books_after i.shared.books t.effect (report_at i event t)
  books_are rests = sym rests ∙ (λ j. books_after i.shared.books (sym effect_is j) (told_nothing j))

  pub written_step : (ended : Bool) (clients : List Client) → ended ≡ ended_after i.shared.ended event → (books_after i.shared.books (ByCommand Rests) Nothing ≡ i.shared.books)
      → clients ≡ clients_after (sender_number event) raised t.response i.clients
      → record i { shared = record i.shared { ended = ended }; clients = clients } ≡ after_transition i event t
  written_step ended clients ended_is rests clients_are =
      stepped i event t i.parts i.shared.library raised t.response i.shared.books ended clients parts_are library_is (books_are rests) ended_is refl is_shown clients_are

  pub written_notices : (notices : List Notice) → notices ≡ notices_after (sender_number event) raised t.response i.clients → notices ≡ (told_by i event t).notices
  written_notices notices notices_are = noticed i event t i.parts i.shared.library raised t.response notices parts_are library_is refl is_shown notices_are

  pub written_counts : (books_after i.shared.books (ByCommand Rests) Nothing ≡ i.shared.books) → can_count_all i.shared.books ≡ true → counts_frames i event t ≡ true
  written_counts rests counted = ap can_count_all (sym (books_are rests)) ∙ counted

  pub written_limits : is_within_in i.shared.library.rate (part_at index i.parts) (ByCommand Rests) ≡ true → keeps_limits i event t ≡ true
  written_limits within = ap (keeps_limits i event) alone ∙ ap (λ b. b && true) within
