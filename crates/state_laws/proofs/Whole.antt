-- All lines of a state, told to the player of one thread.
use Rattle.std.proofs.Common.{◌≡◌, ℕ, ◌==◌, Bool, true, false, List, [], ◌∷◌, ◌++◌, map, Option, Some, None, option_map, refl, ap, sym, subst, if◌then◌else◌}
use Rattle.kept_state.specs.Lines.{Line, alone, entries_steps, entry_lines, option_lines, playback_lines, priority_lines, queue_steps, song_steps, state_steps}
use Rattle.kept_state.specs.Lines.{Line as lines}
use Rattle.kept_state.specs.Reading.{Player, after_line, behind_one, opened, prioritized, read_step, read_steps, with_front}
use Rattle.kept_state.specs.declared.kept.Kept.{Kept}
use Rattle.kept_state.specs.declared.kept.KeptEntry.{KeptEntry}
use Rattle.kept_state.specs.declared.kept.KeptOptions.{KeptOptions}
use Rattle.kept_state.specs.declared.kept.KeptOutput.{KeptOutput}
use Rattle.kept_state.specs.declared.kept.KeptPlayback.{KeptPlayback}
use Rattle.kept_state.specs.declared.kept.KeptPlayback.TheVariants as playback
use Rattle.kept_state.specs.declared.kept.KeptSong.{KeptSong}
use Rattle.kept_state.proofs.Back.{gives_back}
use Rattle.player_state.specs.declared.state.Library.{Library}
use Rattle.mpd_command.specs.declared.request.Request.{Request}
use Rattle.state_laws.specs.Saying.{PlayerHas, ReadsLines, StateComesBack, after_reading, after_steps, is_song, stands_still}
use Rattle.state_laws.proofs.Back.{AllFit, Fits, steps_read}

module _ (seat number : ℕ) (library : Library) (asked : Line → Request) (reads : ReadsLines asked) where
  abbrev Together : Player → List Line → Type 0
  Together player step = Fits seat number library asked reads player step

  abbrev Follow : Player → List (List Line) → Type 0
  Follow player steps = AllFit seat number library asked reads player steps

  abbrev step_after : List Line → Player → Player
  step_after step player = read_step (is_song library) step player

  abbrev steps_after : List (List Line) → Player → Player
  steps_after steps player = read_steps (is_song library) steps player

  follow : (xs ys : List (List Line)) (p : Player) → Follow p xs → Follow (steps_after xs p) ys → Follow p (xs ++ ys)
  follow [] ys p f g = g
  follow (x ∷ xs) ys p f g = (f.0, follow xs ys (step_after x p) f.1 g)

  joined : (xs ys : List (List Line)) (p : Player) → steps_after (xs ++ ys) p ≡ steps_after ys (steps_after xs p)
  joined [] ys p = refl
  joined (x ∷ xs) ys p = joined xs ys (step_after x p)

  options_fit : (o : KeptOptions) (p : Player) → Follow p (map alone (option_lines o))
  options_fit o p = ((tt, λ e. refl, tt), ((tt, λ e. refl, tt), ((tt, λ e. refl, tt), ((tt, λ e. refl, tt), ((tt, λ e. refl, tt), ((tt, λ e. refl, tt), tt))))))

  outputs_fit : (os : List KeptOutput) (p : Player) → Follow p (map (λ output. alone (lines.Switch output)) os)
  outputs_fit [] p = tt
  outputs_fit (o ∷ os) p = ((tt, λ e. refl, tt), outputs_fit os (step_after (alone (lines.Switch o)) p))

  priority_fits : (b : Bool) (n : ℕ) (p : Player) → Together p (if b then [] else lines.Prioritize n ∷ [])
  priority_fits true n p = tt
  priority_fits false n p = (tt, λ e. refl, tt)

  entry_fits : (e : KeptEntry) (p : Player) → Together p (entry_lines e)
  entry_fits e p = (tt, λ s. cc, priority_fits (e.priority == 0) e.priority (after_reading library p (lines.Put e.uri)))

  entries_fit : (es : List KeptEntry) (p : Player) → Follow p (entries_steps es)
  entries_fit [] p = tt
  entries_fit (e ∷ es) p = follow (entries_steps es) (entry_lines e ∷ []) p (entries_fit es p) (entry_fits e (steps_after (entries_steps es) p), tt)

  -- no song is current
  abbrev IsQuiet : Player → Type 0
  IsQuiet p = p.song ≡ None

  quiet_read : (p : Player) (step : List Line) (o : Option (List KeptEntry)) → ((q : Player) → IsQuiet q → IsQuiet (step_after step q)) → IsQuiet p
      → IsQuiet (after_line p (step_after step) (option_map (λ queue. record p { queue = queue }) o))
  quiet_read p step None stays quiet = quiet
  quiet_read p step (Some queue) stays quiet = stays (record p { queue = queue }) quiet

  quiet_put : (uri : List ℕ) (step : List Line) → ((q : Player) → IsQuiet q → IsQuiet (step_after step q)) → (p : Player) → IsQuiet p → IsQuiet (step_after (lines.Put uri ∷ step) p)
  quiet_put uri step stays p quiet =
      elim (is_song library uri) as (λ b. IsQuiet (after_line p (step_after step) (if b then Some (with_front uri p) else None)))
      [ true ↦ stays (with_front uri p) (ap behind_one quiet) | false ↦ quiet ]

  quiet_priorities : (b : Bool) (n : ℕ) (p : Player) → IsQuiet p → IsQuiet (step_after (if b then [] else lines.Prioritize n ∷ []) p)
  quiet_priorities true n p quiet = quiet
  quiet_priorities false n p quiet = quiet_read p [] (prioritized n p.queue) (λ q h. h) quiet

  quiet_entry : (e : KeptEntry) (p : Player) → IsQuiet p → IsQuiet (step_after (entry_lines e) p)
  quiet_entry e p quiet = quiet_put e.uri (priority_lines e.priority) (quiet_priorities (e.priority == 0) e.priority) p quiet

  quiet_entries : (es : List KeptEntry) (p : Player) → IsQuiet p → IsQuiet (steps_after (entries_steps es) p)
  quiet_entries [] p quiet = quiet
  quiet_entries (e ∷ es) p quiet =
      subst IsQuiet (sym (joined (entries_steps es) (entry_lines e ∷ []) p)) (quiet_entry e (steps_after (entries_steps es) p) (quiet_entries es p quiet))

  quiet_outputs : (os : List KeptOutput) (p : Player) → IsQuiet p → IsQuiet (steps_after (map (λ output. alone (lines.Switch output)) os) p)
  quiet_outputs [] p quiet = quiet
  quiet_outputs (o ∷ os) p quiet = quiet_outputs os (step_after (alone (lines.Switch o)) p) quiet

  -- so the current song is sought of a player that does not stand still
  playback_fits : (how : KeptPlayback) (p : Player) → IsQuiet p → Together p (playback_lines how)
  playback_fits playback.Stop p quiet = (tt, λ s. cc, (tt, λ s. refl, tt))
  playback_fits (playback.Play elapsed) p quiet = (ap stands_still quiet, λ s. refl, tt)
  playback_fits (playback.Pause elapsed) p quiet = (ap stands_still quiet, λ s. cc, (tt, λ s. refl, tt))

  quiet_prioritized : (n : ℕ) (p : Player) → IsQuiet p → IsQuiet (after_reading library p (lines.Prioritize n))
  quiet_prioritized n p quiet = quiet_read p [] (prioritized n p.queue) (λ q h. h) quiet

  quiet_front : (uri : List ℕ) (p : Player) → IsQuiet p → IsQuiet (after_reading library p (lines.Put uri))
  quiet_front uri p quiet = quiet_put uri [] (λ q h. h) p quiet

  rest_fits : (b : Bool) (n : ℕ) (how : KeptPlayback) (p : Player) → IsQuiet p → Together p ((if b then [] else lines.Prioritize n ∷ []) ++ playback_lines how)
  rest_fits true n how p quiet = playback_fits how p quiet
  rest_fits false n how p quiet = (tt, λ s. cc, playback_fits how (after_reading library p (lines.Prioritize n)) (quiet_prioritized n p quiet))

  song_fits : (song : Option KeptSong) (p : Player) → IsQuiet p → Follow p (song_steps song)
  song_fits None p quiet = tt
  song_fits (Some song) p quiet =
      ((tt, λ s. cc, rest_fits (song.entry.priority == 0) song.entry.priority song.playback (after_reading library p (lines.Put song.entry.uri)) (quiet_front song.entry.uri p quiet)), tt)

  pub state_fits : (kept : Kept) (options : KeptOptions) → Follow (opened options) (state_steps kept)
  state_fits kept options =
      let first : List (List Line) = map alone (option_lines kept.options) in
      let switches : List (List Line) = map (λ output. alone (lines.Switch output)) kept.outputs.items in
      let behind : List (List Line) = entries_steps kept.after.items in
      let before : List (List Line) = entries_steps kept.before.items in
      let p : Player = steps_after first (opened options) in
      let q : Player = steps_after switches p in
      let r : Player = steps_after behind q in
      let quiet : IsQuiet r = quiet_entries kept.after.items q (quiet_outputs kept.outputs.items p refl) in
      follow first (switches ++ queue_steps kept) (opened options) (options_fit kept.options (opened options))
      (follow switches (queue_steps kept) p (outputs_fit kept.outputs.items p)
      (follow behind (song_steps kept.song ++ before) q (entries_fit kept.after.items q)
      (follow (song_steps kept.song) before r (song_fits kept.song r quiet) (entries_fit kept.before.items (steps_after (song_steps kept.song) r)))))

pub state_comes_back : StateComesBack
state_comes_back seat number more library asked i kept options reads ask p =
    subst (PlayerHas library number more (after_steps seat number asked (state_steps kept) i)) (gives_back.player (is_song library) kept options)
    (steps_read seat number library asked reads (state_steps kept) more i (opened options) ask (state_fits seat number library asked reads kept options) p)
