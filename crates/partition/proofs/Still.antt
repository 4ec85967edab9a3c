-- Transitions that change nothing: their client is answered and does what it does, and nobody else is told.
use Rattle.std.proofs.Common.{◌≡◌, ◌∙◌, ℕ, Bool, true, false, List, [], ap, sym, if◌then◌else◌}
use Rattle.std.specs.Prelude.{filter, map}
use Rattle.std.specs.List.{flat_map}
use Rattle.idle_notes.specs.declared.sets.Subsystems.{Subsystems}
use Rattle.partition_table.specs.Parts.{part_at}
use Rattle.partition_table.specs.declared.crossing.Crossing.TheVariants.{Stays}
use Rattle.player_state.specs.declared.effect.Effect.TheVariants.{ByCommand}
use Rattle.player_state.specs.declared.effect.CommandEffect.TheVariants.{Rests}
use Rattle.player_state.specs.declared.report.Report.TheVariants.{Nothing}
use Rattle.player_state.specs.declared.scan.ScanMove.TheVariants.{Stay}
use Rattle.player_state.specs.declared.state.Client.{Client}
use Rattle.player_state.specs.Libraries.{library_after}
use Rattle.player_state.specs.Outputs.{books_after}
use Rattle.player_events.specs.declared.event.Event.{Event}
use Rattle.connected_clients.specs.Clients.{clients_after, is_other, move_of, moved, notice_for, notified, staying}
use Rattle.connected_clients.specs.UpToDate.{AllUpToDate, nothing}
use Rattle.transitions.specs.Answers.{closes}
use Rattle.transitions.specs.Shelves.{is_written}
use Rattle.transitions.specs.Transitions.{TransitionData, parts_after}
use Rattle.partition.specs.Applying.{GoesNowhere, IsStill}
use Rattle.partition.specs.Image.{Image}
use Rattle.partition.specs.Step.{after_transition, ended_after, sender_number, index_at, raised_of, report_at, told_by}
use Rattle.partition.proofs.UpToDate.{no_notices, rest_raises, same_clients, up_to_date_filter, stays_put, unwritten}
use Rattle.partition.proofs.Written.{rests_changed, rests_report}

-- what asks for nothing else
pub still_by : (t : TransitionData) → t.scan ≡ Stay → t.effect ≡ (ByCommand Rests) → t.crossing ≡ Stays → GoesNowhere t.response.move → is_written t.written ≡ false → IsStill t
still_by t scan effect crossing nowhere written =
    ((λ j. record t { effect = effect j; scan = scan j; written = unwritten t.written written j; crossing = crossing j }), nowhere)

module _ (i : Image) (event : Event) (t : TransitionData) (still : IsStill t) where
  abbrev index : ℕ
  index = index_at i event

  abbrev number : ℕ
  number = sender_number event

  abbrev stayed : List Client
  stayed = staying number t.response i.clients

  pub still_report : t.report ≡ report_at i event t
  still_report = sym (ap (report_at i event) still.0 ∙ rests_report i.shared.library.rate (part_at index i.parts) t.report)

  parts_are : i.parts ≡ parts_after i.shared.library.rate index t i.parts
  parts_are = sym (ap (λ (u : TransitionData). parts_after i.shared.library.rate index u i.parts) still.0 ∙ rests_changed i.shared.library.rate index i.parts)

  library_is : i.shared.library ≡ library_after i.shared.library t.scan
  library_is = sym (ap (λ (u : TransitionData). library_after i.shared.library u.scan) still.0)

  books_are : (books_after i.shared.books (ByCommand Rests) Nothing ≡ i.shared.books) → i.shared.books ≡ books_after i.shared.books t.effect (report_at i event t)
  books_are rests =
      let effect_is : t.effect ≡ (ByCommand Rests) = ap (λ (u : TransitionData). u.effect) still.0 in
      sym rests ∙ (λ j. books_after i.shared.books (sym effect_is j) (still_report j))

  raises_nothing : raised_of i event t ≡ nothing
  raises_nothing = ap (raised_of i event) still.0 ∙ rest_raises number index i.parts i.shared.library t.response t.report (stays_put number t.response still.1)

  stayed_up_to_date : AllUpToDate i.clients → AllUpToDate stayed
  stayed_up_to_date all =
      elim (closes t.response.answer.next) as (λ b. AllUpToDate (if b then filter (is_other number) i.clients else i.clients))
      [ true ↦ up_to_date_filter (is_other number) i.clients all | false ↦ all ]

  pub still_step : (ended : Bool) (clients : List Client) → AllUpToDate i.clients → ended ≡ ended_after i.shared.ended event → (books_after i.shared.books (ByCommand Rests) Nothing ≡ i.shared.books)
      → clients ≡ moved number (move_of t.response) stayed
      → record i { shared = record i.shared { ended = ended }; clients = clients } ≡ after_transition i event t
  still_step ended clients all ended_is rests clients_are =
      let heard : map (notified (raised_of i event t)) stayed ≡ stayed =
      ap (λ (r : Client → Subsystems). map (notified r) stayed) raises_nothing ∙ same_clients stayed (stayed_up_to_date all) in
      let told : clients ≡ clients_after number (raised_of i event t) t.response i.clients = clients_are ∙ ap (moved number (move_of t.response)) (sym heard) in
      λ j. record { parts = parts_are j; shared = record i.shared { library = library_is j; books = books_are rests j; ended = ended_is j }; clients = told j }

  pub still_notices : AllUpToDate i.clients → (told_by i event t).notices ≡ []
  still_notices all = ap (λ (r : Client → Subsystems). flat_map (notice_for r) stayed) raises_nothing ∙ no_notices stayed (stayed_up_to_date all)
