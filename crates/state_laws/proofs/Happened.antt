-- Lines that are said are events of a history.
use Rattle.std.proofs.Common.{◌≡◌, ℕ, true, false, List, [], ◌∷◌, refl, subst, if◌then◌else◌}
use Rattle.kept_state.specs.Lines.{Line}
use Rattle.mpd_command.specs.Names.{fewest}
use Rattle.mpd_command.specs.Requests.{request_of}
use Rattle.mpd_command.specs.declared.request.Request.{Request}
use Rattle.partition.specs.History.{AreTold, replay}
use Rattle.partition.specs.Image.{Image}
use Rattle.partition.specs.Step.{next_image, told}
use Rattle.player_events.specs.declared.event.Event.{Event}
use Rattle.player_events.specs.declared.event.LogEntry.{LogEntry}
use Rattle.state_laws.specs.Partitions.{AllLinesHappen, after_all, after_lines}
use Rattle.state_laws.specs.Saying.{LeadsTo, StepsHappen, after_step, after_steps, asking, is_refused}

joined : (entries : List LogEntry) (i j k : Image) → j ≡ replay i entries → AreTold i entries → LeadsTo j k → LeadsTo i k
joined [] i j k is told more = subst (λ (x : Image). LeadsTo x k) is more
joined (h ∷ hs) i j k is told more =
    let rest : LeadsTo (next_image h.seat i h.event) k = joined hs (next_image h.seat i h.event) j k is told.1 more in
    (h ∷ rest.0, rest.1, (told.0, rest.2))

module _ (seat number : ℕ) (asked : Line → Request) where
  step_happens : (step : List Line) (i : Image) → LeadsTo i (after_step seat number asked step i)
  step_happens [] i = ([], refl, tt)
  step_happens (line ∷ more) i =
      let event : Event = asking number (asked line) in
      let next : Image = next_image seat i event in
      let entry : LogEntry = record { seat = seat; event = event; told = told i event } in
      let rest : LeadsTo next (after_step seat number asked more next) = step_happens more next in
      elim (is_refused i event) as (λ b. LeadsTo i (if b then next else after_step seat number asked more next))
      [ true ↦ (entry ∷ [], refl, (refl, tt)) | false ↦ (entry ∷ rest.0, rest.1, (refl, rest.2)) ]

  all_happen : (steps : List (List Line)) (i : Image) → LeadsTo i (after_steps seat number asked steps i)
  all_happen [] i = ([], refl, tt)
  all_happen (step ∷ steps) i =
      let first : LeadsTo i (after_step seat number asked step i) = step_happens step i in
      joined first.0 i (after_step seat number asked step i) (after_steps seat number asked (step ∷ steps) i) first.1 first.2 (all_happen steps (after_step seat number asked step i))

pub steps_happen : StepsHappen
steps_happen seat number asked steps i = all_happen seat number asked steps i

-- the same by the bytes of lines
module _ (seat number : ℕ) where
  lines_happen : (lines : List (List ℕ)) (i : Image) → LeadsTo i (after_lines seat number lines i)
  lines_happen [] i = ([], refl, tt)
  lines_happen (line ∷ more) i =
      let event : Event = asking number (request_of line fewest) in
      let next : Image = next_image seat i event in
      let entry : LogEntry = record { seat = seat; event = event; told = told i event } in
      let rest : LeadsTo next (after_lines seat number more next) = lines_happen more next in
      elim (is_refused i event) as (λ b. LeadsTo i (if b then next else after_lines seat number more next))
      [ true ↦ (entry ∷ [], refl, (refl, tt)) | false ↦ (entry ∷ rest.0, rest.1, (refl, rest.2)) ]

pub all_lines_happen : AllLinesHappen
all_lines_happen seat number [] i = ([], refl, tt)
all_lines_happen seat number (lines ∷ steps) i =
    let first : LeadsTo i (after_lines seat number lines i) = lines_happen seat number lines i in
    joined first.0 i (after_lines seat number lines i) (after_all seat number (lines ∷ steps) i) first.1 first.2 (all_lines_happen seat number steps (after_lines seat number lines i))
