-- The lines of a state pass no limit, where there is one left for each.
use Rattle.std.proofs.Common.{◌≡◌, ℕ, suc, ◌+◌, ◌<◌, ◌≤◌, true, false, List, [], ◌∷◌, length, inl, inr, refl, subst, arith, if◌then◌else◌}
use Rattle.std.specs.Prelude.{slice_index_or}
use Rattle.std.proofs.lemmas.Bool.{cases_lt}
use Rattle.std.proofs.lemmas.List.{get_or-replicate, get_or_past}
use Rattle.connected_clients.specs.Clients.{newcomer}
use Rattle.kept_state.specs.Lines.{Line, state_steps}
use Rattle.kept_state.specs.Reading.{Player, opened, read_step}
use Rattle.mpd_command.specs.declared.request.Request.{Request}
use Rattle.partition.specs.History.{AreTold, replay}
use Rattle.partition.specs.Image.{Image, first_part, no_events}
use Rattle.partition.specs.Lists.{AllWithin}
use Rattle.partition.specs.Step.{next_image, told}
use Rattle.partition.specs.declared.state.Setup.{Setup}
use Rattle.player_events.specs.declared.event.Event.{Event}
use Rattle.player_events.specs.declared.event.LogEntry.{LogEntry}
use Rattle.player_state.specs.declared.state.Library.{Library}
use Rattle.state_laws.specs.Bytes.{read_bytes}
use Rattle.state_laws.specs.Limits.{HasLeft, IsFar, LeadsWithin, OpenedStaysWithin, lines_of}
use Rattle.state_laws.specs.Saying.{AllAsk, EachAsks, PlayerHas, ReadsLines, after_reading, after_step, after_steps, asking, begun, first_options, is_refused, is_song, puts, songs_in, songs_of}
use Rattle.state_laws.proofs.Back.{AllFit, Does, Fits, fewer, line_does, step_read}
use Rattle.state_laws.proofs.Bytes.{bytes_are_read}
use Rattle.state_laws.proofs.Limits.{one_more}
use Rattle.state_laws.proofs.Opened.{opens_empty, own}
use Rattle.state_laws.proofs.Whole.{state_fits}

pub fewer_left : (seat number more less : ℕ) (i : Image) → less ≤ more → IsFar seat number more i → IsFar seat number less i
fewer_left seat number more less i low far =
    let h : HasLeft seat more i far.1.player = far.4 in
    (far.0, far.1, far.2, far.3, record { made = omega (arith, h.made); books = h.books; cuts = omega (arith, h.cuts); starts = omega (arith, h.starts); jobs = h.jobs })

pub joined : (entries : List LogEntry) (i j k : Image) → j ≡ replay i entries → AreTold i entries → AllWithin i entries → LeadsWithin j k → LeadsWithin i k
joined [] i j k is told within more = subst (λ (x : Image). LeadsWithin x k) is more
joined (h ∷ hs) i j k is told within more =
    let rest : LeadsWithin (next_image h.seat i h.event) k = joined hs (next_image h.seat i h.event) j k is told.1 within.1 more in
    (h ∷ rest.0, rest.1, (told.0, rest.2), (within.0, rest.3))

-- lines that end far from limits
abbrev pub EndsFar : ℕ → ℕ → ℕ → Image → Image → Type 0
EndsFar seat number left i j = LeadsWithin i j × IsFar seat number left j

module _ (seat number : ℕ) (library : Library) (asked : Line → Request) (reads : ReadsLines asked) where
  step_within : (step : List Line) (more left : ℕ) (i : Image) (player : Player) → AllAsk step → Fits seat number library asked reads player step
      → PlayerHas library number (songs_in step + more) i player → IsFar seat number (length step + left) i → EndsFar seat number left i (after_step seat number asked step i)
  step_within [] more left i player ask fits p far = (([], refl, tt, tt), fewer_left seat number (0 + left) left i (omega arith) far)
  step_within (line ∷ rest) more left i player ask fits p far =
      let event : Event = asking number (asked line) in
      let next : Image = next_image seat i event in
      let many : ℕ = songs_in rest + more in
      let enough : PlayerHas library number (puts line + many) i player = fewer library number (songs_in (line ∷ rest) + more) (puts line + many) i player (omega arith) p in
      let d : Does library seat number many i player line (asked line) = line_does seat number many library asked i player line reads ask.0 fits.0 enough in
      let goes = d.far (length rest + left) (fewer_left seat number (length (line ∷ rest) + left) (suc (length rest + left)) i (omega arith) far) in
      let entry : LogEntry = record { seat = seat; event = event; told = told i event } in
      let others : EndsFar seat number left next (after_step seat number asked rest next) = step_within rest more left next (after_reading library player line) ask.1 fits.2 d.has goes.1 in
      elim (is_refused i event) as (λ b. EndsFar seat number left i (if b then next else after_step seat number asked rest next)) [
        | true ↦ ((entry ∷ [], refl, (refl, tt), (goes.0, tt)), fewer_left seat number (length rest + left) left next (omega arith) goes.1)
        | false ↦ ((entry ∷ others.0.0, others.0.1, (refl, others.0.2), (goes.0, others.0.3)), others.1)
      ]

  pub steps_within : (steps : List (List Line)) (more left : ℕ) (i : Image) (player : Player) → EachAsks steps → AllFit seat number library asked reads player steps
      → PlayerHas library number (songs_of steps + more) i player → IsFar seat number (lines_of steps + left) i → EndsFar seat number left i (after_steps seat number asked steps i)
  steps_within [] more left i player ask fits p far = (([], refl, tt, tt), fewer_left seat number (0 + left) left i (omega arith) far)
  steps_within (step ∷ steps) more left i player ask fits p far =
      let many : ℕ = songs_of steps + more in
      let after : Image = after_step seat number asked step i in
      let enough : PlayerHas library number (songs_in step + many) i player = fewer library number (songs_of (step ∷ steps) + more) (songs_in step + many) i player (omega arith) p in
      let first : EndsFar seat number (lines_of steps + left) i after =
      step_within step many (lines_of steps + left) i player ask.0 fits.0 enough (fewer_left seat number (lines_of (step ∷ steps) + left) (length step + (lines_of steps + left)) i (omega arith) far) in
      let rest : EndsFar seat number left after (after_steps seat number asked steps after) =
      steps_within steps more left after (read_step (is_song library) step player) ask.1 fits.1 (step_read seat number library asked reads step many i player ask.0 fits.0 enough) first.1 in
      (joined first.0.0 i after (after_steps seat number asked (step ∷ steps) i) first.0.1 first.0.2 first.0.3 rest.0, rest.1)

zeros : (seat : ℕ) → seat < 16 → slice_index_or no_events seat 0 ≡ 0
zeros seat less = get_or-replicate 16 seat 0 0 less

pub none_made : (seat : ℕ) → slice_index_or no_events seat 0 ≡ 0
none_made seat = elim (cases_lt seat 16) [ inl less ↦ zeros seat less | inr past ↦ get_or_past no_events seat 0 past ]

-- a player that was just opened
opens_far : (seat number lines : ℕ) (setup : Setup) (library : Library) → lines ≤ setup.limits.max_cut → lines < 9223372036854775806 → IsFar seat number lines (begun seat number setup library)
unfolding next_image
opens_far seat number lines setup library cuts made = (
  newcomer number,
  first_part setup,
  own number,
  refl,
  record {
    made = omega (arith, made, one_more no_events seat, none_made seat);
    books = refl;
    cuts = omega arith;
    starts = omega arith;
    jobs = omega arith;
  },
)

pub opened_stays_within : OpenedStaysWithin
opened_stays_within seat number setup library kept ask room cuts made =
    let songs : ℕ = songs_of (state_steps kept) in
    let lines : ℕ = lines_of (state_steps kept) in
    let p : PlayerHas library number (songs + 0) (begun seat number setup library) (opened first_options) =
    opens_empty seat number (songs + 0) setup library (record { known = room.known; queue = omega (arith, room.queue); ids = omega (arith, room.ids) }) in
    (steps_within seat number library read_bytes bytes_are_read (state_steps kept) 0 0 (begun seat number setup library) (opened first_options) ask
    (state_fits seat number library read_bytes bytes_are_read kept first_options) p (opens_far seat number (lines + 0) setup library (omega arith) (omega arith))).0
