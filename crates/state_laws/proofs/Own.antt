-- A player that is told the lines of a state that another told of itself.
use Rattle.std.proofs.Common.{◌≡◌, ℕ, ◌+◌, ◌≤◌, ◌==◌, Bool, true, false, min, List, [], ◌∷◌, ◌++◌, length, map, Option, Some, None, is_some, option_map, decimal, refl, ap, sym, ◌∙◌, subst, arith, if◌then◌else◌}
use Rattle.std.proofs.lemmas.Bool.{eqb-true, le-leb}
use Rattle.std.proofs.lemmas.Fmt.{decimal_digit}
use Rattle.std.proofs.lemmas.List.{length-append, length-map}
use Rattle.command_arguments.specs.Forms.{fade_of, song_mode_of, switch_of, up_to, volume_of}
use Rattle.command_arguments.specs.declared.forms.SongMode.{SongMode}
use Rattle.command_arguments.specs.declared.forms.SongMode.TheVariants as mode
use Rattle.mpd_text.specs.Answers.Millis.{millis as told_as, millis_of}
use Rattle.mpd_text.specs.declared.answers.times.Millis.{Millis}
use Rattle.play_order.specs.declared.modes.Single.{Single}
use Rattle.play_order.specs.declared.modes.Single.TheVariants as single_mode
use Rattle.play_order.specs.declared.modes.Consume.{Consume}
use Rattle.play_order.specs.declared.modes.Consume.TheVariants as consume_mode
use Rattle.player_core.specs.declared.state.Playback.{Playback}
use Rattle.player_core.specs.declared.state.Playback.TheVariants as state
use Rattle.player_core.specs.Player.{is_stopped}
use Rattle.player_state.specs.Outputs.{OutputsData, is_enabled}
use Rattle.player_state.specs.declared.state.Library.{Library}
use Rattle.player_state.specs.declared.state.Part.{Part}
use Rattle.queue_commands.specs.Playback.{frame_at}
use Rattle.song_db.specs.Lines.{duration_text, millis}
use Rattle.song_queue.specs.declared.entry.Entry.{Entry}
use Rattle.song_queue.specs.State.{queue_of}
use Rattle.status_commands.specs.Options.{consume_of, single_of}
use Rattle.status_commands.specs.Status.{consume_text, digit, single_text}
use Rattle.kept_state.specs.Lines.{Line, alone, entries_steps, entry_lines, option_lines, playback_lines, priority_lines, queue_steps, song_steps, state_steps}
use Rattle.kept_state.specs.Lines.{Line as lines}
use Rattle.kept_state.specs.Reading.{entry_of, given_back, position_of, queue_of as reading_queue, song_there, there}
use Rattle.kept_state.specs.declared.kept.Kept.{Kept}
use Rattle.kept_state.specs.declared.kept.KeptEntry.{KeptEntry}
use Rattle.kept_state.specs.declared.kept.KeptOptions.{KeptOptions}
use Rattle.kept_state.specs.declared.kept.KeptOutput.{KeptOutput}
use Rattle.kept_state.specs.declared.kept.KeptPlayback.{KeptPlayback}
use Rattle.kept_state.specs.declared.kept.KeptPlayback.TheVariants as playback
use Rattle.kept_state.specs.declared.kept.KeptSong.{KeptSong}
use Rattle.state_laws.specs.Having.{AreOptions, Has, IsCurrent, IsPlayed, kept_entry, later, said_of}
use Rattle.state_laws.specs.Own.{AreOutputsOf, AreThere, CanComeBack, IsBack, IsBackAt, IsJustBefore, IsKeptOf, IsSongOf, IsThere, PlayersComeBack, options_of, playback_of}
use Rattle.state_laws.specs.Saying.{AllAsk, CanAsk, EachAsks, HasRoom, PlayerHas, after_steps, begun, is_song, songs_in, songs_of}
use Rattle.state_laws.specs.Bytes.{read_bytes}
use Rattle.state_laws.proofs.Opened.{opened_comes_back}
use Rattle.state_laws.proofs.Times.{duration_told, offsets_come_back}
use Rattle.state_laws.proofs.Words.{number_decimal}

-- what is told is read again
volume_told : (n : ℕ) → n ≤ 100 → volume_of (decimal n) ≡ Some n
volume_told n low = ap (up_to 100) (number_decimal n (omega arith)) ∙ ap (λ (b : Bool). if b then Some n else None) (le-leb n 100 low)

fade_told : (n : ℕ) → n ≤ 3600 → fade_of (decimal n) ≡ Some n
fade_told n low = ap (up_to 3600) (number_decimal n (omega arith)) ∙ ap (λ (b : Bool). if b then Some n else None) (le-leb n 3600 low)

switch_told : (on : Bool) → switch_of (decimal (digit on)) ≡ Some on
switch_told true = ap switch_of (decimal_digit 1 (omega arith))
switch_told false = ap switch_of (decimal_digit 0 (omega arith))

single_told : (s : Single) → (m : SongMode) × (song_mode_of (single_text s) ≡ Some m) × (single_of m ≡ s)
single_told single_mode.Off = (mode.Off, refl, refl)
single_told single_mode.On = (mode.On, refl, refl)
single_told single_mode.Oneshot = (mode.Oneshot, refl, refl)

consume_told : (c : Consume) → (m : SongMode) × (song_mode_of (consume_text c) ≡ Some m) × (consume_of m ≡ c)
consume_told consume_mode.Off = (mode.Off, refl, refl)
consume_told consume_mode.On = (mode.On, refl, refl)
consume_told consume_mode.Oneshot = (mode.Oneshot, refl, refl)

one_of : {A : Type 0} (a b : A) → ◌≡◌ {A = Option A} (Some a) (Some b) → a ≡ b
one_of a b e = cc

-- each line asks
each_joined : (xs ys : List (List Line)) → EachAsks xs → EachAsks ys → EachAsks (xs ++ ys)
each_joined [] ys f g = g
each_joined (x ∷ xs) ys f g = (f.0, each_joined xs ys f.1 g)

all_joined : (xs ys : List Line) → AllAsk xs → AllAsk ys → AllAsk (xs ++ ys)
all_joined [] ys f g = g
all_joined (x ∷ xs) ys f g = (f.0, all_joined xs ys f.1 g)

options_ask : (part : Part) → part.volume ≤ 100 → part.player.crossfade ≤ 3600 → EachAsks (map alone (option_lines (options_of part)))
options_ask part volume fade =
    let m = part.player.modes in
    let s = single_told m.single in
    let c = consume_told m.consume in (
      ((_, (part.volume, volume_told part.volume volume, refl)), tt),
      (
        ((_, (m.repeat, switch_told m.repeat, refl)), tt),
        (
          ((_, (m.random, switch_told m.random, refl)), tt),
          (
            ((_, (s.0, s.1, refl)), tt),
            (
              ((_, (c.0, c.1, refl)), tt),
              (((_, (part.player.crossfade, fade_told part.player.crossfade fade, refl)), tt), tt),
            ),
          ),
        ),
      ),
    )

outputs_ask : (outputs : OutputsData) (os : List KeptOutput) → AreOutputsOf outputs os → EachAsks (map (λ output. alone (lines.Switch output)) os)
outputs_ask outputs [] are = tt
outputs_ask outputs (o ∷ os) are = (((_, (omega (arith, are.0), refl)), tt), outputs_ask outputs os are.2)

priority_asks : (b : Bool) (n : ℕ) → n ≤ 255 → AllAsk (if b then [] else lines.Prioritize n ∷ [])
priority_asks true n low = tt
priority_asks false n low = ((_, (low, refl)), tt)

entry_asks : (library : Library) (e : KeptEntry) → IsThere library e → AllAsk (entry_lines e)
entry_asks library e is = ((_, (is.1, refl)), priority_asks (e.priority == 0) e.priority is.0)

entries_ask : (library : Library) (es : List KeptEntry) → AreThere library es → EachAsks (entries_steps es)
entries_ask library [] are = tt
entries_ask library (e ∷ es) are = each_joined (entries_steps es) (entry_lines e ∷ []) (entries_ask library es are.1) (entry_asks library e are.0, tt)

playback_asks : (how : Playback) (elapsed : List ℕ) → CanAsk (lines.Seek elapsed) → AllAsk (playback_lines (playback_of how elapsed))
playback_asks state.Stop elapsed seek = ((_, refl), ((_, refl), tt))
playback_asks state.Play elapsed seek = (seek, tt)
playback_asks state.Pause elapsed seek = (seek, ((_, refl), tt))

-- the songs are there
there_front : (library : Library) (xs ys : List KeptEntry) → AreThere library (xs ++ ys) → AreThere library xs
there_front library [] ys are = tt
there_front library (x ∷ xs) ys are = (are.0, there_front library xs ys are.1)

there_back : (library : Library) (xs ys : List KeptEntry) → AreThere library (xs ++ ys) → AreThere library ys
there_back library [] ys are = are
there_back library (x ∷ xs) ys are = there_back library xs ys are.1

all_there : (library : Library) (es : List KeptEntry) → AreThere library es → there (is_song library) es ≡ es
all_there library [] are = refl
all_there library (e ∷ es) are =
    ap (λ (b : Bool). if b then e ∷ there (is_song library) es else there (is_song library) es) are.0.2 ∙ ap (λ (more : List KeptEntry). e ∷ more) (all_there library es are.1)

one_there : (library : Library) (song : Option KeptSong) → AreThere library (entry_of song) → song_there (is_song library) song ≡ song
one_there library None are = refl
one_there library (Some song) are = ap (λ (b : Bool). if b then Some song else None) are.0.2

-- how many songs lines put
songs_joined : (xs ys : List (List Line)) → songs_of (xs ++ ys) ≡ songs_of xs + songs_of ys
songs_joined [] ys = omega arith
songs_joined (x ∷ xs) ys = let more = songs_joined xs ys in omega arith

in_joined : (xs ys : List Line) → songs_in (xs ++ ys) ≡ songs_in xs + songs_in ys
in_joined [] ys = omega arith
in_joined (x ∷ xs) ys = let more = in_joined xs ys in omega arith

songs_outputs : (os : List KeptOutput) → songs_of (map (λ output. alone (lines.Switch output)) os) ≡ 0
songs_outputs [] = refl
songs_outputs (o ∷ os) = let more = songs_outputs os in omega arith

priority_puts : (b : Bool) (n : ℕ) → songs_in (if b then [] else lines.Prioritize n ∷ []) ≡ 0
priority_puts true n = refl
priority_puts false n = refl

playback_puts : (how : KeptPlayback) → songs_in (playback_lines how) ≡ 0
playback_puts playback.Stop = refl
playback_puts (playback.Play elapsed) = refl
playback_puts (playback.Pause elapsed) = refl

songs_entries : (es : List KeptEntry) → songs_of (entries_steps es) ≡ length es
songs_entries [] = refl
songs_entries (e ∷ es) =
    let both = songs_joined (entries_steps es) (entry_lines e ∷ []) in
    let more = songs_entries es in
    let none = priority_puts (e.priority == 0) e.priority in
    omega arith

songs_song : (song : Option KeptSong) → songs_of (song_steps song) ≡ length (entry_of song)
songs_song None = refl
songs_song (Some song) =
    let both = in_joined (priority_lines song.entry.priority) (playback_lines song.playback) in
    let none = priority_puts (song.entry.priority == 0) song.entry.priority in
    let last = playback_puts song.playback in
    omega arith

songs_options : (o : KeptOptions) → songs_of (map alone (option_lines o)) ≡ 0
songs_options o = refl

pub songs_state : (kept : Kept) → songs_of (state_steps kept) ≡ length (kept.before.items ++ (entry_of kept.song ++ kept.after.items))
songs_state kept =
    let switches : List (List Line) = map (λ output. alone (lines.Switch output)) kept.outputs.items in
    let a = songs_joined (map alone (option_lines kept.options)) (switches ++ queue_steps kept) in
    let b = songs_joined switches (queue_steps kept) in
    let c = songs_joined (entries_steps kept.after.items) (song_steps kept.song ++ entries_steps kept.before.items) in
    let d = songs_joined (song_steps kept.song) (entries_steps kept.before.items) in
    let e = songs_options kept.options in
    let f = songs_outputs kept.outputs.items in
    let g = songs_entries kept.after.items in
    let h = songs_song kept.song in
    let i = songs_entries kept.before.items in
    let x = length-append kept.before.items (entry_of kept.song ++ kept.after.items) in
    let y = length-append (entry_of kept.song) kept.after.items in
    omega arith

-- an output that something was said of was said to be as it is
said_so : (outputs : OutputsData) (os : List KeptOutput) (number : ℕ) (on : Bool) → AreOutputsOf outputs os → said_of number os ≡ Some on → is_enabled outputs number ≡ on
said_so outputs [] number on are e = cc
said_so outputs (o ∷ os) number on are e =
    let first : (b : Bool) → (o.number == number) ≡ b → (if b then Some o.is_on else None) ≡ Some on → is_enabled outputs number ≡ on =
    λ b. elim b as (λ b. (o.number == number) ≡ b → (if b then Some o.is_on else None) ≡ Some on → is_enabled outputs number ≡ on) [
      | true ↦ λ same h. ap (is_enabled outputs) (sym (eqb-true o.number number same)) ∙ sym are.1 ∙ one_of o.is_on on h
      | false ↦ λ other h. cc
    ] in
    let cases : (last : Option Bool) → said_of number os ≡ last → later (if o.number == number then Some o.is_on else None) last ≡ Some on → is_enabled outputs number ≡ on =
    λ last. elim last as (λ last. said_of number os ≡ last → later (if o.number == number then Some o.is_on else None) last ≡ Some on → is_enabled outputs number ≡ on) [
      | None ↦ λ none h. first (o.number == number) refl h
      | Some it ↦ λ some h. said_so outputs os number on are.2 (some ∙ h)
    ] in
    cases (said_of number os) refl e

said_on : (o : Option Bool) → is_some o ≡ true → (on : Bool) × (o ≡ Some on)
said_on None e = cc
said_on (Some on) e = (on, refl)

abbrev value : Option Millis → ℕ
value None = 0
value (Some m) = m.0

module _ (library : Library) (part other : Part) (can : CanComeBack library part) where
  abbrev rate : ℕ
  rate = library.rate

  abbrev time : ℕ
  time = millis rate part.player.offset

  told : millis_of (duration_text time) ≡ told_as time
  told = duration_told time can.time

  just_before : (entry : Entry) (again : ℕ) → millis_of (duration_text time) ≡ told_as again → other.player.offset ≡ min (frame_at rate again) entry.song.frames
      → part.player.offset ≤ entry.song.frames → IsJustBefore rate part.player.offset other.player.offset
  just_before entry again is offset inside =
      let same : again ≡ time = ap value (sym is ∙ told) in
      let back : IsJustBefore rate part.player.offset (min (frame_at rate time) entry.song.frames) = offsets_come_back rate part.player.offset entry.song.frames can.rate can.offset inside in
      subst (IsJustBefore rate part.player.offset) (sym (offset ∙ ap (λ (t : ℕ). min (frame_at rate t) entry.song.frames) same)) back

  -- a song that is played as was told
  back_played : (how : Playback) (entry : Entry) → part.player.playback ≡ how → IsPlayed rate entry other.player (playback_of how (duration_text time))
      → (other.player.playback ≡ part.player.playback)
      × (is_stopped part.player.playback ≡ false → part.player.offset ≤ entry.song.frames → IsJustBefore rate part.player.offset other.player.offset)
  back_played state.Stop entry was h = (h ∙ sym was, λ s l. (let halts : is_stopped part.player.playback ≡ true = ap is_stopped was in cc))
  back_played state.Play entry was h = (h.0 ∙ sym was, λ s l. just_before entry h.1.0 h.1.1 h.1.2 l)
  back_played state.Pause entry was h = (h.0 ∙ sym was, λ s l. just_before entry h.1.0 h.1.1 h.1.2 l)

  back_at : (song : Option KeptSong) (n : ℕ) → IsSongOf rate part n song → IsCurrent rate other (option_map (λ s. (n, s.playback)) song) → IsBackAt rate part other n song
  back_at None n is c = c
  back_at (Some song) n is c =
      let played : IsPlayed rate c.0 other.player (playback_of part.player.playback (duration_text time)) = subst (IsPlayed rate c.0 other.player) is.3 c.3 in
      let b = back_played part.player.playback c.0 refl played in
      (c.0, c.1, c.2, b.0, b.1)

  module _ (kept : Kept) (is : IsKeptOf rate part kept) where
    abbrev rest : List KeptEntry
    rest = entry_of kept.song ++ kept.after.items

    songs : AreThere library (kept.before.items ++ rest)
    songs = subst (AreThere library) (sym is.queue) can.songs

    before_there : AreThere library kept.before.items
    before_there = there_front library kept.before.items rest songs

    rest_there : AreThere library rest
    rest_there = there_back library kept.before.items rest songs

    song_is_there : AreThere library (entry_of kept.song)
    song_is_there = there_front library (entry_of kept.song) kept.after.items rest_there

    after_there : AreThere library kept.after.items
    after_there = there_back library (entry_of kept.song) kept.after.items rest_there

    seek_asks : CanAsk (lines.Seek (duration_text time))
    seek_asks = (_, (time, told, refl))

    song_asks : (song : Option KeptSong) (n : ℕ) → IsSongOf rate part n song → AreThere library (entry_of song) → EachAsks (song_steps song)
    song_asks None n at are = tt
    song_asks (Some song) n at are = (
      all_joined (entry_lines song.entry) (playback_lines song.playback) (entry_asks library song.entry are.0)
          (subst (λ (how : KeptPlayback). AllAsk (playback_lines how)) (sym at.3) (playback_asks part.player.playback (duration_text time) seek_asks)),
      tt,
    )

    pub state_asks : EachAsks (state_steps kept)
    state_asks =
        let switches : List (List Line) = map (λ output. alone (lines.Switch output)) kept.outputs.items in
        each_joined (map alone (option_lines kept.options)) (switches ++ queue_steps kept)
        (subst (λ (o : KeptOptions). EachAsks (map alone (option_lines o))) (sym is.options) (options_ask part can.volume can.crossfade))
        (each_joined switches (queue_steps kept) (outputs_ask part.outputs kept.outputs.items is.outputs)
        (each_joined (entries_steps kept.after.items) (song_steps kept.song ++ entries_steps kept.before.items) (entries_ask library kept.after.items after_there)
        (each_joined (song_steps kept.song) (entries_steps kept.before.items) (song_asks kept.song (length kept.before.items) is.song song_is_there)
        (entries_ask library kept.before.items before_there))))

    queue_is : reading_queue (is_song library) kept ≡ kept.before.items ++ rest
    queue_is =
        ap (λ (xs : List KeptEntry). xs ++ (entry_of (song_there (is_song library) kept.song) ++ there (is_song library) kept.after.items)) (all_there library kept.before.items before_there)
        ∙ ap (λ (song : Option KeptSong). kept.before.items ++ (entry_of song ++ there (is_song library) kept.after.items)) (one_there library kept.song song_is_there)
        ∙ ap (λ (xs : List KeptEntry). kept.before.items ++ (entry_of kept.song ++ xs)) (all_there library kept.after.items after_there)

    position_is : position_of (is_song library) kept ≡ option_map (λ s. (length kept.before.items, s.playback)) kept.song
    position_is =
        ap (λ (xs : List KeptEntry). option_map (λ (s : KeptSong). (length xs, s.playback)) (song_there (is_song library) kept.song)) (all_there library kept.before.items before_there)
        ∙ ap (option_map (λ (s : KeptSong). (length kept.before.items, s.playback))) (one_there library kept.song song_is_there)

    pub is_back : Has rate other (given_back (is_song library) kept) → IsBack rate part other kept
    is_back h =
        let o : AreOptions other (options_of part) = subst (AreOptions other) is.options h.options in
        let s = single_told part.player.modes.single in
        let c = consume_told part.player.modes.consume in
        record {
          volume = one_of other.volume part.volume (sym o.volume ∙ volume_told part.volume can.volume);
          repeat = one_of other.player.modes.repeat part.player.modes.repeat (sym o.repeat ∙ switch_told part.player.modes.repeat);
          random = one_of other.player.modes.random part.player.modes.random (sym o.random ∙ switch_told part.player.modes.random);
          single = one_of other.player.modes.single (single_of s.0) (sym o.single ∙ ap (option_map single_of) s.1) ∙ s.2;
          consume = one_of other.player.modes.consume (consume_of c.0) (sym o.consume ∙ ap (option_map consume_of) c.1) ∙ c.2;
          crossfade = one_of other.player.crossfade part.player.crossfade (sym o.crossfade ∙ fade_told part.player.crossfade can.crossfade);
          outputs = λ number some here fine.
              let on = said_on (said_of number kept.outputs.items) some in
              h.outputs.as_said number on.0 on.1 here fine ∙ sym (said_so part.outputs kept.outputs.items number on.0 is.outputs on.1);
          queue = sym h.queue ∙ queue_is ∙ is.queue;
          song = back_at kept.song (length kept.before.items) is.song (subst (IsCurrent rate other) position_is h.song);
        }

pub players_come_back : PlayersComeBack
players_come_back seat number setup library part kept can is room =
    let size : songs_of (state_steps kept) ≡ length (queue_of part.queue) = songs_state kept ∙ ap length is.queue ∙ length-map (queue_of part.queue) kept_entry in
    let p : PlayerHas library number 0 (after_steps seat number read_bytes (state_steps kept) (begun seat number setup library)) (given_back (is_song library) kept) =
    opened_comes_back seat number setup library kept (state_asks library part part can kept is) (subst (HasRoom setup) (sym size) room) in
    (p.client, p.part, p.there, p.placed, is_back library part p.part can kept is p.has)
