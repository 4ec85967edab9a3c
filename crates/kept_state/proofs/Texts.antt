-- The text of a state is that of its lines.
use Rattle.std.proofs.Common.{◌≡◌, ◌∙◌, ℕ, zero, suc, List, [], ◌∷◌, ◌++◌, map, refl, sym, ap, arith, append_assoc, codes, Option, Some, None}
use Rattle.std.specs.List.{flat_map}
use Rattle.std.proofs.lemmas.Bool.{ne_eqb}
use Rattle.std.proofs.lemmas.Grind.{flat_map-append}
use Rattle.std.proofs.lemmas.List.{append-nil}
use Rattle.kept_state.specs.declared.kept.KeptEntry.{KeptEntry}
use Rattle.kept_state.specs.declared.kept.KeptOutput.{KeptOutput}
use Rattle.kept_state.specs.declared.kept.KeptPlayback.{KeptPlayback}
use Rattle.kept_state.specs.declared.kept.KeptPlayback.TheVariants as playback
use Rattle.kept_state.specs.declared.kept.KeptSong.{KeptSong}
use Rattle.kept_state.specs.Lines.{Line, alone, entries_steps, entry_lines, playback_lines, priority_lines, queue_steps, song_lines, song_steps}
use Rattle.kept_state.specs.Lines.{Line as lines}
use Rattle.kept_state.specs.Texts.{TellsSteps, entries_text, entry_text, line, list_text, output_text, playback_text, prioritize_text, priority_text, put_text, song_text, switch_text, text_of_step}

entry_at : (uri : List ℕ) (priority : ℕ) → text_of_step (lines.Put uri ∷ priority_lines priority) ≡ entry_text (record { uri = uri; priority = priority })
entry_at uri zero = refl
entry_at uri (suc n) =
    let other = ne_eqb (suc n) 0 (λ e. omega (arith, e)) in
    rw other (ap (list_text (put_text uri)) (append-nil (prioritize_text (suc n))))

song_at : (uri : List ℕ) (priority : ℕ) (how : KeptPlayback)
    → text_of_step ((lines.Put uri ∷ priority_lines priority) ++ playback_lines how)
    ≡ list_text (put_text uri) (priority_text priority ++ playback_text how)
song_at uri zero playback.Stop = refl
song_at uri zero (playback.Play elapsed) = ap (list_text (put_text uri)) (append-nil (playback_text (playback.Play elapsed)))
song_at uri zero (playback.Pause elapsed) = refl
song_at uri (suc n) playback.Stop = rw (ne_eqb (suc n) 0 (λ e. omega (arith, e))) refl
song_at uri (suc n) (playback.Play elapsed) =
    let other = ne_eqb (suc n) 0 (λ e. omega (arith, e)) in
    rw other (ap (λ end. list_text (put_text uri) (prioritize_text (suc n) ++ end)) (append-nil (playback_text (playback.Play elapsed))))
song_at uri (suc n) (playback.Pause elapsed) = rw (ne_eqb (suc n) 0 (λ e. omega (arith, e))) refl

switches : (outputs : List KeptOutput) (more : List (List Line))
    → flat_map text_of_step (map (λ output. alone (lines.Switch output)) outputs ++ more) ≡ flat_map switch_text outputs ++ flat_map text_of_step more
switches [] more = refl
switches (output ∷ outputs) more =
    ap (λ end. switch_text output ++ end) (switches outputs more)
    ∙ sym (append_assoc (switch_text output) (flat_map switch_text outputs) (flat_map text_of_step more))

entries : (es : List KeptEntry) → flat_map text_of_step (entries_steps es) ≡ entries_text es
entries [] = refl
entries (e ∷ es) =
    flat_map-append text_of_step (entries_steps es) (entry_lines e ∷ [])
    ∙ ap (λ begin. begin ++ (text_of_step (entry_lines e) ++ [])) (entries es)
    ∙ ap (λ end. entries_text es ++ end) (append-nil (text_of_step (entry_lines e)) ∙ entry_at e.uri e.priority)

song : (s : Option KeptSong) → flat_map text_of_step (song_steps s) ≡ song_text s
song None = refl
song (Some s) = append-nil (text_of_step (song_lines s)) ∙ song_at s.entry.uri s.entry.priority s.playback

queue : (after before : List KeptEntry) (s : Option KeptSong)
    → flat_map text_of_step (entries_steps after ++ (song_steps s ++ entries_steps before)) ≡ entries_text after ++ (song_text s ++ entries_text before)
queue after before s =
    flat_map-append text_of_step (entries_steps after) (song_steps s ++ entries_steps before)
    ∙ ap (λ begin. begin ++ flat_map text_of_step (song_steps s ++ entries_steps before)) (entries after)
    ∙ ap (λ end. entries_text after ++ end) (
    flat_map-append text_of_step (song_steps s) (entries_steps before)
    ∙ ap (λ begin. begin ++ flat_map text_of_step (entries_steps before)) (song s)
    ∙ ap (λ end. song_text s ++ end) (entries before)
    )

six : (a b c d e f more : List ℕ) → (a ++ (b ++ (c ++ (d ++ (e ++ f))))) ++ more ≡ a ++ (b ++ (c ++ (d ++ (e ++ (f ++ more)))))
six a b c d e f more = simp append_assoc refl

pub tells_steps : TellsSteps
tells_steps kept =
    let o = kept.options in
    let rest = output_text kept.outputs.items ++ (entries_text kept.after.items ++ (song_text kept.song ++ entries_text kept.before.items)) in
    let begin = six (line (codes "setvol") o.volume) (line (codes "repeat") o.repeat) (line (codes "random") o.random) (line (codes "single") o.single) (line (codes "consume") o.consume) (line (codes "crossfade") o.crossfade) rest in
    let end = switches kept.outputs.items (queue_steps kept) ∙ ap (λ end. output_text kept.outputs.items ++ end) (queue kept.after.items kept.before.items kept.song) in
    begin ∙ ap (λ end. line (codes "setvol") o.volume ++ (line (codes "repeat") o.repeat ++ (line (codes "random") o.random ++ (line (codes "single") o.single ++ (line (codes "consume") o.consume ++ (line (codes "crossfade") o.crossfade ++ end)))))) (sym end)
