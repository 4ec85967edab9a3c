-- A player that reads the lines of a state has what is kept.
use Rattle.std.proofs.Common.{◌≡◌, ◌∙◌, ℕ, zero, suc, Bool, true, false, List, [], ◌∷◌, ◌++◌, length, map, refl, sym, ap, arith, append_assoc, Option, Some, None, option_map}
use Rattle.std.proofs.lemmas.Bool.{ne_eqb}
use Rattle.std.proofs.lemmas.List.{append-nil}
use Rattle.kept_state.specs.declared.kept.Kept.{Kept}
use Rattle.kept_state.specs.declared.kept.KeptEntry.{KeptEntry}
use Rattle.kept_state.specs.declared.kept.KeptOptions.{KeptOptions}
use Rattle.kept_state.specs.declared.kept.KeptOutput.{KeptOutput}
use Rattle.kept_state.specs.declared.kept.KeptPlayback.{KeptPlayback}
use Rattle.kept_state.specs.declared.kept.KeptPlayback.TheVariants as playback
use Rattle.kept_state.specs.declared.kept.KeptSong.{KeptSong}
use Rattle.kept_state.specs.Lines.{Line, alone, entries_steps, entry_lines, playback_lines, priority_lines, queue_steps, song_lines, song_steps, state_steps}
use Rattle.kept_state.specs.Lines.{Line as lines}
use Rattle.kept_state.specs.Reading.{GivesBack, Player, behind_one, entry_of, given_back, opened, queue_of, read_step, read_steps, song_there, there}
use Rattle.kept_state.proofs.Texts.{tells_steps}

-- steps that are read one after the other
joined : (has : List ℕ → Bool) (xs ys : List (List Line)) (p : Player) → read_steps has (xs ++ ys) p ≡ read_steps has ys (read_steps has xs p)
joined has [] ys p = refl
joined has (x ∷ xs) ys p = joined has xs ys (read_step has x p)

abbrev with_entry : KeptEntry → Player → Player
with_entry entry p = record p { queue = entry ∷ p.queue; song = behind_one p.song }

entry_read : (has : List ℕ → Bool) (uri : List ℕ) (priority : ℕ) (p : Player) → has uri ≡ true
    → read_step has (lines.Put uri ∷ priority_lines priority) p ≡ with_entry (record { uri = uri; priority = priority }) p
entry_read has uri zero p is = rw is refl
entry_read has uri (suc n) p is = rw (is, ne_eqb (suc n) 0 (λ e. omega (arith, e))) refl

song_at : (has : List ℕ → Bool) (uri : List ℕ) (priority : ℕ) (how : KeptPlayback) (p : Player) → has uri ≡ true
    → read_step has ((lines.Put uri ∷ priority_lines priority) ++ playback_lines how) p
    ≡ record p { queue = record { uri = uri; priority = priority } ∷ p.queue; song = Some (0, how) }
song_at has uri zero playback.Stop p is = rw is refl
song_at has uri zero (playback.Play elapsed) p is = rw is refl
song_at has uri zero (playback.Pause elapsed) p is = rw is refl
song_at has uri (suc n) playback.Stop p is = rw (is, ne_eqb (suc n) 0 (λ e. omega (arith, e))) refl
song_at has uri (suc n) (playback.Play elapsed) p is = rw (is, ne_eqb (suc n) 0 (λ e. omega (arith, e))) refl
song_at has uri (suc n) (playback.Pause elapsed) p is = rw (is, ne_eqb (suc n) 0 (λ e. omega (arith, e))) refl

refused : (has : List ℕ → Bool) (uri : List ℕ) (others : List Line) (p : Player) → has uri ≡ false → read_step has (lines.Put uri ∷ others) p ≡ p
refused has uri others p is = rw is refl

-- a current song is behind these entries
abbrev behind : List KeptEntry → Option (ℕ × KeptPlayback) → Option (ℕ × KeptPlayback)
behind [] song = song
behind (e ∷ es) song = behind_one (behind es song)

behind_none : (es : List KeptEntry) → behind es None ≡ None
behind_none [] = refl
behind_none (e ∷ es) = ap behind_one (behind_none es)

behind_some : (es : List KeptEntry) (how : KeptPlayback) → behind es (Some (0, how)) ≡ Some (length es, how)
behind_some [] how = refl
behind_some (e ∷ es) how = ap behind_one (behind_some es how)

abbrev with_entries : List KeptEntry → Player → Player
with_entries es p = record p { queue = es ++ p.queue; song = behind es p.song }

entry_step : (has : List ℕ → Bool) (b : Bool) (e : KeptEntry) (es : List KeptEntry) (p : Player) → has e.uri ≡ b
    → read_step has (entry_lines e) (with_entries (there has es) p) ≡ with_entries (there has (e ∷ es)) p
entry_step has true e es p is =
    let read : read_step has (entry_lines e) (with_entries (there has es) p) ≡ with_entry e (with_entries (there has es) p) = entry_read has e.uri e.priority (with_entries (there has es) p) is in
    let more : with_entry e (with_entries (there has es) p) ≡ with_entries (there has (e ∷ es)) p = rw is refl in
    read ∙ more
entry_step has false e es p is =
    let read : read_step has (entry_lines e) (with_entries (there has es) p) ≡ with_entries (there has es) p = refused has e.uri (priority_lines e.priority) (with_entries (there has es) p) is in
    let same : with_entries (there has es) p ≡ with_entries (there has (e ∷ es)) p = rw is refl in
    read ∙ same

entries_read : (has : List ℕ → Bool) (es : List KeptEntry) (p : Player) → read_steps has (entries_steps es) p ≡ with_entries (there has es) p
entries_read has [] p = refl
entries_read has (e ∷ es) p =
    joined has (entries_steps es) (entry_lines e ∷ []) p
    ∙ ap (read_step has (entry_lines e)) (entries_read has es p)
    ∙ entry_step has (has e.uri) e es p refl

outputs_read : (has : List ℕ → Bool) (os : List KeptOutput) (p : Player)
    → read_steps has (map (λ output. alone (lines.Switch output)) os) p ≡ record p { outputs = p.outputs ++ os }
outputs_read has [] p = sym (ap (λ os. record p { outputs = os }) (append-nil p.outputs))
outputs_read has (o ∷ os) p =
    outputs_read has os (record p { outputs = p.outputs ++ o ∷ [] })
    ∙ ap (λ more. record p { outputs = more }) (append_assoc p.outputs (o ∷ []) os)

-- where a song is the current one at the front, if there is one
abbrev at_front : Option KeptSong → Option (ℕ × KeptPlayback)
at_front None = None
at_front (Some song) = Some (0, song.playback)

abbrev with_song : Option KeptSong → Player → Player
with_song song p = record p { queue = entry_of song ++ p.queue; song = at_front song }

song_step : (has : List ℕ → Bool) (b : Bool) (song : KeptSong) (p : Player) → has song.entry.uri ≡ b → p.song ≡ None
    → read_step has (song_lines song) p ≡ with_song (song_there has (Some song)) p
song_step has true song p is none =
    let read : read_step has (song_lines song) p ≡ with_song (Some song) p = song_at has song.entry.uri song.entry.priority song.playback p is in
    let same : with_song (Some song) p ≡ with_song (song_there has (Some song)) p = rw is refl in
    read ∙ same
song_step has false song p is none =
    let read : read_step has (song_lines song) p ≡ p = refused has song.entry.uri (priority_lines song.entry.priority ++ playback_lines song.playback) p is in
    let same : p ≡ record p { song = None } = ap (λ song. record p { song = song }) none in
    let there : record p { song = None } ≡ with_song (song_there has (Some song)) p = rw is refl in
    read ∙ same ∙ there

song_read : (has : List ℕ → Bool) (song : Option KeptSong) (p : Player) → p.song ≡ None
    → read_steps has (song_steps song) p ≡ with_song (song_there has song) p
song_read has None p none = ap (λ song. record p { song = song }) none
song_read has (Some song) p none = song_step has (has song.entry.uri) song p refl none

placed : (es : List KeptEntry) (song : Option KeptSong) → behind es (at_front song) ≡ option_map (λ song. (length es, song.playback)) song
placed es None = behind_none es
placed es (Some song) = behind_some es song.playback

-- a player with these, whose queue is empty
abbrev ready : KeptOptions → List KeptOutput → Player
ready options outputs = record { options = options; outputs = outputs; queue = []; song = None }

after_read : (has : List ℕ → Bool) (es : List KeptEntry) (p : Player) → p.queue ≡ [] → p.song ≡ None
    → read_steps has (entries_steps es) p ≡ record p { queue = there has es; song = None }
after_read has es p empty none =
    let queue : there has es ++ p.queue ≡ there has es = rw empty (append-nil (there has es)) in
    let song : behind (there has es) p.song ≡ None = rw none (behind_none (there has es)) in
    entries_read has es p ∙ ap (λ q. record p { queue = q; song = behind (there has es) p.song }) queue ∙ ap (λ s. record p { queue = there has es; song = s }) song

queue_read : (has : List ℕ → Bool) (kept : Kept) → read_steps has (queue_steps kept) (ready kept.options kept.outputs.items) ≡ given_back has kept
queue_read has kept =
    let p = ready kept.options kept.outputs.items in
    let first = after_read has kept.after.items p refl refl in
    let p1 : Player = record p { queue = there has kept.after.items; song = None } in
    let second = song_read has kept.song p1 refl in
    let p2 : Player = with_song (song_there has kept.song) p1 in
    let position = placed (there has kept.before.items) (song_there has kept.song) in
    joined has (entries_steps kept.after.items) (song_steps kept.song ++ entries_steps kept.before.items) p
    ∙ ap (read_steps has (song_steps kept.song ++ entries_steps kept.before.items)) first
    ∙ joined has (song_steps kept.song) (entries_steps kept.before.items) p1
    ∙ ap (read_steps has (entries_steps kept.before.items)) second
    ∙ entries_read has kept.before.items p2
    ∙ ap (λ song. record p { queue = queue_of has kept; song = song }) position

back : (has : List ℕ → Bool) (kept : Kept) (options : KeptOptions) → read_steps has (state_steps kept) (opened options) ≡ given_back has kept
back has kept options =
    let switches = map (λ output. alone (lines.Switch output)) kept.outputs.items in
    let p : Player = record (opened options) { options = kept.options } in
    joined has switches (queue_steps kept) p ∙ ap (read_steps has (queue_steps kept)) (outputs_read has kept.outputs.items p) ∙ queue_read has kept

pub gives_back : GivesBack
gives_back = record { text = tells_steps; player = back }
