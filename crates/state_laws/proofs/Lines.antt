-- What each line of a state makes of a partition that has what a reading says.
use Rattle.std.proofs.Common.{◌≡◌, ◌⊎◌, inl, inr, ℕ, zero, suc, ◌+◌, ◌*◌, ◌≤◌, ◌==◌, Bool, true, false, min, nat_lt, List, [], ◌∷◌, ◌++◌, length, map, Option, Some, None, is_some, option_map, codes, decimal, refl, ap, sym, ◌∙◌, subst, arith, if◌then◌else◌}
use Rattle.std.specs.Prelude.{slice_get}
use Rattle.std.specs.Prelude.{Ok}
use Rattle.std.specs.declared.ops.Range.{Range as Places}
use Rattle.std.proofs.lemmas.Bool.{eqb-true, le-ltb, lt-ltb}
use Rattle.command_arguments.specs.Forms.{fade_of, song_mode_of, switch_of, volume_of}
use Rattle.command_arguments.specs.declared.forms.Position.TheVariants.{At}
use Rattle.command_arguments.specs.declared.forms.SongMode.{SongMode}
use Rattle.mpd_text.specs.Answers.Answer.{pair_line}
use Rattle.mpd_text.specs.Answers.Millis.{millis, millis_of, seconds_of}
use Rattle.mpd_text.specs.Answers.Number.{number_of}
use Rattle.mpd_text.specs.Answers.Range.{positions}
use Rattle.mpd_text.specs.Songs.Song.{SongData}
use Rattle.mpd_text.specs.declared.answers.answer.ErrorNumber.TheVariants.{System}
use Rattle.mpd_text.specs.declared.answers.ranges.Range.TheVariants.{Lone}
use Rattle.song_db.specs.Library.{same_uri, song_of}
use Rattle.song_queue.specs.declared.entry.Entry.{Entry}
use Rattle.song_queue.specs.declared.edit.Edit.TheVariants.{Insert, Prioritize}
use Rattle.song_queue.specs.Entries.{with_priority}
use Rattle.song_queue.specs.State.{QueueState, edited, queue_of}
use Rattle.song_queue.proofs.Same.{pointwise-true}
use Rattle.play_order.proofs.Choices.{find-there}
use Rattle.play_order.specs.declared.modes.Modes.{Modes}
use Rattle.player_core.specs.declared.state.Playback.{Playback}
use Rattle.player_core.specs.declared.state.Playback.TheVariants as state
use Rattle.player_core.specs.Player.{PlayerState, is_stopped, playing_or_paused}
use Rattle.player_core.specs.Steps as steps
use Rattle.player_state.specs.Effects.{part_after, sought_entry, played_entry}
use Rattle.player_state.specs.Outputs.{has_failed, is_output}
use Rattle.player_state.specs.declared.effect.Effect.TheVariants.{ByCommand}
use Rattle.player_state.specs.declared.effect.CommandEffect.{CommandEffect}
use Rattle.player_state.specs.declared.effect.CommandEffect.TheVariants.{Edits, Pauses as PausesIt, PlaysPosition, Rests, Seeks, SetsConsume, SetsCrossfade, SetsRandom, SetsRepeat, SetsSingle, SetsVolume, Stops as StopsIt, Switches}
use Rattle.player_state.specs.declared.scan.ScanMove.TheVariants.{Stay}
use Rattle.player_state.specs.declared.state.Library.{Library}
use Rattle.player_state.specs.declared.state.Part.{Part}
use Rattle.transitions.specs.CommandResults.{bad_index, does, edits, no_such_song, refusal}
use Rattle.transitions.specs.Transitions.{CommandResult}
use Rattle.transitions.specs.declared.asked.Asked.{Asked}
use Rattle.transitions.specs.declared.reply.Next.TheVariants.{Goes}
use Rattle.transitions.specs.declared.shelf_calls.ShelfWrite.TheVariants.{Nothing}
use Rattle.queue_commands.specs.Playback.{frame_at, play, seek}
use Rattle.queue_commands.specs.Queue.{CanAdd, add_id, add_one, all_within, consed, count, insert_where, lack, position_in, prio, prioritize, unless_lacking}
use Rattle.status_commands.specs.Options.{consume_of, single_of}
use Rattle.status_commands.specs.Outputs.{no_such_output, switch_known, switch_output}
use Rattle.kept_state.specs.Reading.{Player, behind_one, front, prioritized as prioritized_reading, still, with_front}
use Rattle.kept_state.specs.declared.kept.KeptEntry.{KeptEntry}
use Rattle.kept_state.specs.declared.kept.KeptOptions.{KeptOptions}
use Rattle.kept_state.specs.declared.kept.KeptPlayback.{KeptPlayback}
use Rattle.kept_state.specs.declared.kept.KeptPlayback.TheVariants as playback
use Rattle.state_laws.specs.Having.{AreOptions, AreSwitched, Has, IsCurrent, IsInto, IsPlayed, kept_entry}
use Rattle.state_laws.specs.Saying.{is_song, read_or_same, stands_still}
use Rattle.state_laws.proofs.Limits.{IsSmall}
use Rattle.state_laws.proofs.Outputs.{is_switched, is_unswitched}
use Rattle.state_laws.proofs.Player.{Pauses, Randomizes, Starts, Stops, paused, randomized, sought, started, stopped}
use Rattle.state_laws.proofs.Queue.{SameLimits, edited_limits, fresh, prioritized_first, put_first}

-- What the result of a command makes of a partition that has what a reading says: it has what the reading says
-- then, which is that before where the line is refused.
pub record IsRead (rate more : ℕ) (part : Part) (player : Player) (is_switch : Bool) (read : Option Player) (r : CommandResult) : Type 0 where
  pub has : Has rate (part_after rate part (ByCommand r.effect)) (read_or_same player read)
  pub room : CanAdd (part_after rate part (ByCommand r.effect)) more
  pub scan : r.scan ≡ Stay
  pub small : IsSmall r.effect
  pub written : r.written ≡ Nothing
  pub goes : r.answer.next ≡ Goes
  pub refused : r.answer.refused ≡ true → is_switch ≡ false → read ≡ None
  pub accepted : r.answer.refused ≡ false → is_some read ≡ true

pub options_same : (part other : Part) (o : KeptOptions) → other.volume ≡ part.volume → other.player.modes ≡ part.player.modes
    → other.player.crossfade ≡ part.player.crossfade → AreOptions part o → AreOptions other o
options_same part other o volume modes fade h = record {
  volume = h.volume ∙ ap (λ (n : ℕ). Some n) (sym volume);
  repeat = h.repeat ∙ ap (λ (m : Modes). Some m.repeat) (sym modes);
  random = h.random ∙ ap (λ (m : Modes). Some m.random) (sym modes);
  single = h.single ∙ ap (λ (m : Modes). Some m.single) (sym modes);
  consume = h.consume ∙ ap (λ (m : Modes). Some m.consume) (sym modes);
  crossfade = h.crossfade ∙ ap (λ (n : ℕ). Some n) (sym fade);
}

into_same : (rate : ℕ) (e f : Entry) (p q : PlayerState) (elapsed : List ℕ) → f.song ≡ e.song → q.offset ≡ p.offset → IsInto rate e p elapsed → IsInto rate f q elapsed
into_same rate e f p q elapsed song offset h = (h.0, h.1, offset ∙ h.2 ∙ ap (λ (s : SongData). min (frame_at rate h.0) s.frames) (sym song))

played_same : (rate : ℕ) (e f : Entry) (p q : PlayerState) (how : KeptPlayback) → f.song ≡ e.song → q.playback ≡ p.playback → q.offset ≡ p.offset
    → IsPlayed rate e p how → IsPlayed rate f q how
played_same rate e f p q playback.Stop song how offset h = how ∙ h
played_same rate e f p q (playback.Play elapsed) song how offset h = (how ∙ h.0, into_same rate e f p q elapsed song offset h.1)
played_same rate e f p q (playback.Pause elapsed) song how offset h = (how ∙ h.0, into_same rate e f p q elapsed song offset h.1)

-- the same song is current, and played so
pub current_same : (rate : ℕ) (part other : Part) (song : Option (ℕ × KeptPlayback)) → queue_of other.queue ≡ queue_of part.queue
    → other.player.current ≡ part.player.current → other.player.playback ≡ part.player.playback → other.player.offset ≡ part.player.offset
    → IsCurrent rate part song → IsCurrent rate other song
current_same rate part other None queue current how offset h = (current ∙ h.0, how ∙ h.1)
current_same rate part other (Some song) queue current how offset h =
    (h.0, ap (λ (es : List Entry). slice_get es song.0) queue ∙ h.1, current ∙ h.2, played_same rate h.0 h.0 part.player other.player song.1 refl how offset h.3)

-- the same, one position further on
current_behind : (rate : ℕ) (part other : Part) (first : Entry) (song : Option (ℕ × KeptPlayback)) → queue_of other.queue ≡ first ∷ queue_of part.queue
    → other.player.current ≡ part.player.current → other.player.playback ≡ part.player.playback → other.player.offset ≡ part.player.offset
    → IsCurrent rate part song → IsCurrent rate other (behind_one song)
current_behind rate part other first None queue current how offset h = (current ∙ h.0, how ∙ h.1)
current_behind rate part other first (Some song) queue current how offset h =
    (h.0, ap (λ (es : List Entry). slice_get es (suc song.0)) queue ∙ h.1, current ∙ h.2, played_same rate h.0 h.0 part.player other.player song.1 refl how offset h.3)

some_is : (a b : Entry) → ◌≡◌ {A = Option Entry} (Some a) (Some b) → a ≡ b
some_is a b e = cc

-- the same, where the first entry has another priority
current_first : (rate : ℕ) (part other : Part) (e f : Entry) (es : List Entry) (song : Option (ℕ × KeptPlayback))
    → queue_of part.queue ≡ e ∷ es → queue_of other.queue ≡ f ∷ es → f.id ≡ e.id → f.song ≡ e.song
    → other.player.current ≡ part.player.current → other.player.playback ≡ part.player.playback → other.player.offset ≡ part.player.offset
    → IsCurrent rate part song → IsCurrent rate other song
current_first rate part other e f es None was is id song current how offset h = (current ∙ h.0, how ∙ h.1)
current_first rate part other e f es (Some (zero, kept)) was is id song current how offset h =
    let same : e ≡ h.0 = some_is e h.0 (sym (ap (λ (xs : List Entry). slice_get xs 0) was) ∙ h.1) in (
      f,
      ap (λ (xs : List Entry). slice_get xs 0) is,
      current ∙ h.2 ∙ ap (λ (n : ℕ). Some n) (sym (id ∙ ap (λ (x : Entry). x.id) same)),
      played_same rate h.0 f part.player other.player kept (song ∙ ap (λ (x : Entry). x.song) same) how offset h.3,
    )
current_first rate part other e f es (Some (suc at, kept)) was is id song current how offset h = (
  h.0,
  ap (λ (xs : List Entry). slice_get xs (suc at)) is ∙ sym (ap (λ (xs : List Entry). slice_get xs (suc at)) was) ∙ h.1,
  current ∙ h.2,
  played_same rate h.0 h.0 part.player other.player kept refl how offset h.3,
)

-- a player that does not stand still plays once it is sought
plays_on : (rate : ℕ) (part : Part) (song : Option (ℕ × KeptPlayback)) → stands_still song ≡ false → IsCurrent rate part song → playing_or_paused part.player.playback ≡ state.Play
plays_on rate part None ready h = ap playing_or_paused h.1
plays_on rate part (Some (at, playback.Stop)) ready h = ap playing_or_paused h.3
plays_on rate part (Some (at, playback.Play elapsed)) ready h = ap playing_or_paused h.3.0
plays_on rate part (Some (at, playback.Pause elapsed)) ready h = cc

abbrev id_line : Part → List ℕ
id_line part = pair_line (codes "Id") (decimal (part.queue.greatest_id + 1))

module _ (library : Library) (asked : Asked) (more : ℕ) (part : Part) (player : Player) (h : Has library.rate part player) where
  abbrev rate : ℕ
  rate = library.rate

  -- a line is refused, and leaves what is there
  rests : (read : Option Player) (r : CommandResult) → read ≡ None → r ≡ record r { effect = Rests; scan = Stay; written = Nothing } → r.answer.next ≡ Goes → r.answer.refused ≡ true
      → CanAdd part more → IsRead rate more part player false read r
  rests read r none is goes refused room =
      let effect : r.effect ≡ Rests = ap (λ (x : CommandResult). x.effect) is in
      record {
        has = subst (λ (o : Option Player). Has rate (part_after rate part (ByCommand r.effect)) (read_or_same player o)) (sym none)
            (subst (λ effect. Has rate (part_after rate part (ByCommand effect)) player) (sym effect) h);
        room = subst (λ effect. CanAdd (part_after rate part (ByCommand effect)) more) (sym effect) room;
        scan = ap (λ (x : CommandResult). x.scan) is;
        small = subst IsSmall (sym effect) tt;
        written = ap (λ (x : CommandResult). x.written) is;
        goes = goes;
        refused = λ e k. none;
        accepted = λ e. cc;
      }

  module _ (room : CanAdd part more) where
    pub volume_read : (text : List ℕ) (volume : ℕ) → volume_of text ≡ Some volume
        → IsRead rate more part player false (Some (record player { options = record player.options { volume = text } })) (does asked (SetsVolume volume))
    volume_read text volume is = record {
      has = record {
        options = record { volume = is; repeat = h.options.repeat; random = h.options.random; single = h.options.single; consume = h.options.consume; crossfade = h.options.crossfade };
        outputs = h.outputs;
        queue = h.queue;
        song = h.song;
      };
      room = room;
      scan = refl;
      small = tt;
      written = refl;
      goes = refl;
      refused = λ e k. cc;
      accepted = λ e. refl;
    }

    pub repeat_read : (text : List ℕ) (on : Bool) → switch_of text ≡ Some on
        → IsRead rate more part player false (Some (record player { options = record player.options { repeat = text } })) (does asked (SetsRepeat on))
    repeat_read text on is = record {
      has = record {
        options = record { volume = h.options.volume; repeat = is; random = h.options.random; single = h.options.single; consume = h.options.consume; crossfade = h.options.crossfade };
        outputs = h.outputs;
        queue = h.queue;
        song = current_same rate part (part_after rate part (ByCommand (SetsRepeat on))) player.song refl refl refl refl h.song;
      };
      room = room;
      scan = refl;
      small = tt;
      written = refl;
      goes = refl;
      refused = λ e k. cc;
      accepted = λ e. refl;
    }

    pub random_read : (text : List ℕ) (on : Bool) → switch_of text ≡ Some on
        → IsRead rate more part player false (Some (record player { options = record player.options { random = text } })) (does asked (SetsRandom on))
    random_read text on is =
        let r : Randomizes part.player (steps.random part.player (queue_of part.queue) on) on = randomized part.player (queue_of part.queue) on in
        record {
          has = record {
            options = record {
              volume = h.options.volume;
              repeat = h.options.repeat ∙ ap (λ (b : Bool). Some b) (sym r.repeat);
              random = is ∙ ap (λ (b : Bool). Some b) (sym r.random);
              single = h.options.single ∙ ap (λ s. Some s) (sym r.single);
              consume = h.options.consume ∙ ap (λ c. Some c) (sym r.consume);
              crossfade = h.options.crossfade ∙ ap (λ (n : ℕ). Some n) (sym r.stays.crossfade);
            };
            outputs = h.outputs;
            queue = h.queue;
            song = current_same rate part (part_after rate part (ByCommand (SetsRandom on))) player.song refl r.stays.current r.playback r.stays.offset h.song;
          };
          room = room;
          scan = refl;
          small = tt;
          written = refl;
          goes = refl;
          refused = λ e k. cc;
          accepted = λ e. refl;
        }

    pub single_read : (text : List ℕ) (mode : SongMode) → song_mode_of text ≡ Some mode
        → IsRead rate more part player false (Some (record player { options = record player.options { single = text } })) (does asked (SetsSingle (single_of mode)))
    single_read text mode is = record {
      has = record {
        options = record { volume = h.options.volume; repeat = h.options.repeat; random = h.options.random; single = ap (option_map single_of) is; consume = h.options.consume; crossfade = h.options.crossfade };
        outputs = h.outputs;
        queue = h.queue;
        song = current_same rate part (part_after rate part (ByCommand (SetsSingle (single_of mode)))) player.song refl refl refl refl h.song;
      };
      room = room;
      scan = refl;
      small = tt;
      written = refl;
      goes = refl;
      refused = λ e k. cc;
      accepted = λ e. refl;
    }

    pub consume_read : (text : List ℕ) (mode : SongMode) → song_mode_of text ≡ Some mode
        → IsRead rate more part player false (Some (record player { options = record player.options { consume = text } })) (does asked (SetsConsume (consume_of mode)))
    consume_read text mode is = record {
      has = record {
        options = record { volume = h.options.volume; repeat = h.options.repeat; random = h.options.random; single = h.options.single; consume = ap (option_map consume_of) is; crossfade = h.options.crossfade };
        outputs = h.outputs;
        queue = h.queue;
        song = current_same rate part (part_after rate part (ByCommand (SetsConsume (consume_of mode)))) player.song refl refl refl refl h.song;
      };
      room = room;
      scan = refl;
      small = tt;
      written = refl;
      goes = refl;
      refused = λ e k. cc;
      accepted = λ e. refl;
    }

    pub crossfade_read : (text : List ℕ) (seconds : ℕ) → fade_of text ≡ Some seconds
        → IsRead rate more part player false (Some (record player { options = record player.options { crossfade = text } })) (does asked (SetsCrossfade seconds))
    crossfade_read text seconds is = record {
      has = record {
        options = record { volume = h.options.volume; repeat = h.options.repeat; random = h.options.random; single = h.options.single; consume = h.options.consume; crossfade = is };
        outputs = h.outputs;
        queue = h.queue;
        song = current_same rate part (part_after rate part (ByCommand (SetsCrossfade seconds))) player.song refl refl refl refl h.song;
      };
      room = room;
      scan = refl;
      small = tt;
      written = refl;
      goes = refl;
      refused = λ e k. cc;
      accepted = λ e. refl;
    }

    -- an output is switched, or is not since it is not there or has failed
    module _ (number : ℕ) where
      abbrev said : Bool → Player
      said on = record player { outputs = player.outputs ++ record { number = number; is_on = on } ∷ [] }

      switches : (on : Bool) → IsRead rate more part player true (Some (said on)) (does asked (Switches number on))
      switches on = record {
        has = record { options = options_same part (part_after rate part (ByCommand (Switches number on))) player.options refl refl refl h.options; outputs = is_switched part.outputs number on player.outputs h.outputs; queue = h.queue; song = h.song };
        room = room;
        scan = refl;
        small = tt;
        written = refl;
        goes = refl;
        refused = λ e k. cc;
        accepted = λ e. refl;
      }

      refuses : (on : Bool) (r : CommandResult) → r ≡ record r { effect = Rests; scan = Stay; written = Nothing } → r.answer.next ≡ Goes
          → (is_output part.outputs number ≡ false) ⊎ (has_failed part.outputs number ≡ true) → IsRead rate more part player true (Some (said on)) r
      refuses on r is goes why =
          let effect : r.effect ≡ Rests = ap (λ (x : CommandResult). x.effect) is in
          let has : Has rate part (said on) = record { options = h.options; outputs = is_unswitched part.outputs number on player.outputs h.outputs why; queue = h.queue; song = h.song } in
          record {
            has = subst (λ effect. Has rate (part_after rate part (ByCommand effect)) (said on)) (sym effect) has;
            room = subst (λ effect. CanAdd (part_after rate part (ByCommand effect)) more) (sym effect) room;
            scan = ap (λ (x : CommandResult). x.scan) is;
            small = subst IsSmall (sym effect) tt;
            written = ap (λ (x : CommandResult). x.written) is;
            goes = goes;
            refused = λ e k. cc;
            accepted = λ e. refl;
          }

      known_read : (on : Bool) → IsRead rate more part player true (Some (said on)) (switch_known asked part number on)
      known_read true =
          let failed : CommandResult = refusal asked System (codes "output has failed") in
          let cases : (b : Bool) → has_failed part.outputs number ≡ b → IsRead rate more part player true (Some (said true)) (if b then failed else does asked (Switches number true)) =
          λ b. elim b as (λ b. has_failed part.outputs number ≡ b → IsRead rate more part player true (Some (said true)) (if b then failed else does asked (Switches number true)))
          [ true ↦ λ e. refuses true failed refl refl (inr e) | false ↦ λ e. switches true ] in
          cases (has_failed part.outputs number) refl
      known_read false = switches false

      pub switch_read : (on : Bool) → IsRead rate more part player true (Some (said on)) (switch_output asked part number on)
      switch_read on =
          let cases : (b : Bool) → is_output part.outputs number ≡ b → IsRead rate more part player true (Some (said on)) (if b then switch_known asked part number on else no_such_output asked) =
          λ b. elim b as (λ b. is_output part.outputs number ≡ b → IsRead rate more part player true (Some (said on)) (if b then switch_known asked part number on else no_such_output asked))
          [ true ↦ λ e. known_read on | false ↦ λ e. refuses on (no_such_output asked) refl refl (inl e) ] in
          cases (is_output part.outputs number) refl

    -- the song at the front has another priority, where there is one
    abbrev prioritized_with : ℕ → Option Player
    prioritized_with priority = option_map (λ queue. record player { queue = queue }) (prioritized_reading priority player.queue)

    prioritized_at : (priority : ℕ) (e : Entry) (es : List Entry) → queue_of part.queue ≡ e ∷ es
        → IsRead rate more part player false (Some (record player { queue = record (kept_entry e) { priority = priority } ∷ map kept_entry es }))
        (edits asked (Prioritize (positions 0 1 ∷ []) priority) (codes ""))
    prioritized_at priority e es is =
        let other : Part = part_after rate part (ByCommand (Edits (Prioritize (positions 0 1 ∷ []) priority))) in
        let now : queue_of other.queue ≡ record e { priority = priority } ∷ es = prioritized_first part.queue priority e es is in
        let limits : SameLimits other.queue part.queue = edited_limits part.queue (with_priority (queue_of part.queue) (positions 0 1 ∷ []) priority) in
        let size : count other ≡ count part = ap length now ∙ sym (ap length is) in
        record {
          has = record {
            options = options_same part other player.options refl refl refl h.options;
            outputs = h.outputs;
            queue = sym (ap (map kept_entry) now);
            song = current_first rate part other e (record e { priority = priority }) es player.song is now refl refl refl refl refl h.song;
          };
          room = (
            subst (λ (n : ℕ). count other + more ≤ n) (sym limits.max_len) (subst (λ (n : ℕ). n + more ≤ part.queue.max_len) (sym size) room.0),
            subst (λ (n : ℕ). other.queue.greatest_id + more ≤ n) (sym limits.max_id) (subst (λ (n : ℕ). n + more ≤ part.queue.max_id) (sym limits.greatest_id) room.1),
          );
          scan = refl;
          small = tt;
          written = refl;
          goes = refl;
          refused = λ e k. cc;
          accepted = λ e. refl;
        }

    abbrev priority_range : ℕ → Option (List (Places ℕ))
    priority_range n = all_within n (Lone 0 ∷ [])

    priority_cases : (priority : ℕ) (es : List Entry) → queue_of part.queue ≡ es → IsRead rate more part player false (prioritized_with priority) (prio asked part priority (Lone 0 ∷ []))
    priority_cases priority [] is =
        let none : count part ≡ 0 = ap length is in
        let result : prio asked part priority (Lone 0 ∷ []) ≡ bad_index asked = ap (λ (n : ℕ). prioritize asked part (bad_index asked) priority (priority_range n)) none in
        let read : prioritized_with priority ≡ None = ap (λ (q : List KeptEntry). option_map (λ queue. record player { queue = queue }) (prioritized_reading priority q)) (h.queue ∙ ap (map kept_entry) is) in
        subst (λ (r : CommandResult). IsRead rate more part player false (prioritized_with priority) r) (sym result) (rests (prioritized_with priority) (bad_index asked) read refl refl refl room)
    priority_cases priority (e ∷ es) is =
        let some : nat_lt 0 (count part) ≡ true = lt-ltb 0 (count part) (omega (arith, ap length is)) in
        let made : CommandResult = edits asked (Prioritize (positions 0 1 ∷ []) priority) (codes "") in
        let result : prio asked part priority (Lone 0 ∷ []) ≡ made = ap (λ (b : Bool). prioritize asked part (bad_index asked) priority (consed (if b then Some (positions 0 1) else None) (Some []))) some in
        let new : Player = record player { queue = record (kept_entry e) { priority = priority } ∷ map kept_entry es } in
        let read : prioritized_with priority ≡ Some new = ap (λ (q : List KeptEntry). option_map (λ queue. record player { queue = queue }) (prioritized_reading priority q)) (h.queue ∙ ap (map kept_entry) is) in
        subst (λ (r : CommandResult). IsRead rate more part player false (prioritized_with priority) r) (sym result)
        (subst (λ (o : Option Player). IsRead rate more part player false o made) (sym read) (prioritized_at priority e es is))

    pub priority_read : (priority : ℕ) → IsRead rate more part player false (prioritized_with priority) (prio asked part priority (Lone 0 ∷ []))
    priority_read priority = priority_cases priority (queue_of part.queue) refl

    -- the song at the front starts, where there is one
    abbrev front_with : KeptPlayback → Option Player
    front_with how = option_map (λ song. record player { song = Some song }) (front how player.queue)

    front_none : (how : KeptPlayback) → queue_of part.queue ≡ [] → front_with how ≡ None
    front_none how is = ap (λ (q : List KeptEntry). option_map (λ song. record player { song = Some song }) (front how q)) (h.queue ∙ ap (map kept_entry) is)

    front_some : (how : KeptPlayback) (e : Entry) (es : List Entry) → queue_of part.queue ≡ e ∷ es → front_with how ≡ Some (record player { song = Some (0, how) })
    front_some how e es is = ap (λ (q : List KeptEntry). option_map (λ song. record player { song = Some song }) (front how q)) (h.queue ∙ ap (map kept_entry) is)

    starts_at : (effect : CommandEffect) (e : Entry) (es : List Entry) (elapsed : List ℕ) (time : ℕ) → IsSmall effect → queue_of part.queue ≡ e ∷ es
        → Starts part.player (part_after rate part (ByCommand effect)).player state.Play e.id (min (frame_at rate time) e.song.frames)
        → (part_after rate part (ByCommand effect)).queue ≡ part.queue → (part_after rate part (ByCommand effect)).outputs ≡ part.outputs
        → (part_after rate part (ByCommand effect)).volume ≡ part.volume → millis_of elapsed ≡ millis time
        → IsRead rate more part player false (Some (record player { song = Some (0, playback.Play elapsed) })) (does asked effect)
    starts_at effect e es elapsed time tiny is starts queue outputs volume told =
        let other : Part = part_after rate part (ByCommand effect) in
        record {
          has = record {
            options = options_same part other player.options volume starts.keeps.modes starts.keeps.crossfade h.options;
            outputs = subst (λ o. AreSwitched o player.outputs) (sym outputs) h.outputs;
            queue = h.queue ∙ ap (λ (q : QueueState). map kept_entry (queue_of q)) (sym queue);
            song = (e, ap (λ (q : QueueState). slice_get (queue_of q) 0) queue ∙ ap (λ (xs : List Entry). slice_get xs 0) is, starts.current, (starts.playback, (time, told, starts.offset)));
          };
          room = subst (λ (q : QueueState). (length (queue_of q) + more ≤ q.max_len) × (q.greatest_id + more ≤ q.max_id)) (sym queue) room;
          scan = refl;
          small = tiny;
          written = refl;
          goes = refl;
          refused = λ e k. cc;
          accepted = λ e. refl;
        }

    seek_cases : (elapsed : List ℕ) (time : ℕ) (es : List Entry) → millis_of elapsed ≡ millis time → stands_still player.song ≡ false → queue_of part.queue ≡ es
        → IsRead rate more part player false (front_with (playback.Play elapsed)) (seek asked part library 0 time)
    seek_cases elapsed time [] told ready is =
        let none : nat_lt 0 (count part) ≡ false = ap (λ (es : List Entry). nat_lt 0 (length es)) is in
        let result : seek asked part library 0 time ≡ bad_index asked = ap (λ (b : Bool). if b then does asked (Seeks 0 (frame_at rate time)) else bad_index asked) none in
        subst (λ (r : CommandResult). IsRead rate more part player false (front_with (playback.Play elapsed)) r) (sym result)
        (rests (front_with (playback.Play elapsed)) (bad_index asked) (front_none (playback.Play elapsed) is) refl refl refl room)
    seek_cases elapsed time (e ∷ es) told ready is =
        let some : nat_lt 0 (count part) ≡ true = lt-ltb 0 (count part) (omega (arith, ap length is)) in
        let made : CommandResult = does asked (Seeks 0 (frame_at rate time)) in
        let result : seek asked part library 0 time ≡ made = ap (λ (b : Bool). if b then made else bad_index asked) some in
        let steps_to : steps.seek part.player e (frame_at rate time) ≡ (part_after rate part (ByCommand (Seeks 0 (frame_at rate time)))).player =
        ap (λ (xs : List Entry). sought_entry part.player (slice_get xs 0) (frame_at rate time)) (sym is) in
        let sought_so : Starts part.player (steps.seek part.player e (frame_at rate time)) state.Play e.id (min (frame_at rate time) e.song.frames) =
        subst (λ (p : Playback). Starts part.player (steps.seek part.player e (frame_at rate time)) p e.id (min (frame_at rate time) e.song.frames))
        (plays_on rate part player.song ready h.song) (sought part.player e (frame_at rate time)) in
        let starts = subst (λ (q : PlayerState). Starts part.player q state.Play e.id (min (frame_at rate time) e.song.frames)) steps_to sought_so in
        subst (λ (r : CommandResult). IsRead rate more part player false (front_with (playback.Play elapsed)) r) (sym result)
        (subst (λ (o : Option Player). IsRead rate more part player false o made) (sym (front_some (playback.Play elapsed) e es is))
        (starts_at (Seeks 0 (frame_at rate time)) e es elapsed time tt is starts refl refl refl told))

    pub seek_read : (elapsed : List ℕ) (time : ℕ) → millis_of elapsed ≡ millis time → stands_still player.song ≡ false
        → IsRead rate more part player false (front_with (playback.Play elapsed)) (seek asked part library 0 time)
    seek_read elapsed time told ready = seek_cases elapsed time (queue_of part.queue) told ready refl

    at_zero : (frames : ℕ) → 0 ≡ min (frame_at rate 0) frames
    at_zero frames = let nothing : 0 * library.rate ≡ 0 = omega arith in rw nothing (omega arith)

    zero_told : millis_of (codes "0") ≡ millis 0
    unfolding millis_of seconds_of number_of
    zero_told = refl

    play_cases : (es : List Entry) → queue_of part.queue ≡ es → IsRead rate more part player false (front_with (playback.Play (codes "0"))) (play asked part (Some 0))
    play_cases [] is =
        let none : nat_lt 0 (count part) ≡ false = ap (λ (es : List Entry). nat_lt 0 (length es)) is in
        let result : play asked part (Some 0) ≡ bad_index asked = ap (λ (b : Bool). if b then does asked (PlaysPosition 0) else bad_index asked) none in
        subst (λ (r : CommandResult). IsRead rate more part player false (front_with (playback.Play (codes "0"))) r) (sym result)
        (rests (front_with (playback.Play (codes "0"))) (bad_index asked) (front_none (playback.Play (codes "0")) is) refl refl refl room)
    play_cases (e ∷ es) is =
        let some : nat_lt 0 (count part) ≡ true = lt-ltb 0 (count part) (omega (arith, ap length is)) in
        let made : CommandResult = does asked (PlaysPosition 0) in
        let result : play asked part (Some 0) ≡ made = ap (λ (b : Bool). if b then made else bad_index asked) some in
        let steps_to : steps.start part.player state.Play e.id 0 ≡ (part_after rate part (ByCommand (PlaysPosition 0))).player = ap (λ (xs : List Entry). played_entry part.player (slice_get xs 0)) (sym is) in
        let from : Starts part.player (steps.start part.player state.Play e.id 0) state.Play e.id (min (frame_at rate 0) e.song.frames) =
        subst (λ (n : ℕ). Starts part.player (steps.start part.player state.Play e.id 0) state.Play e.id n) (at_zero e.song.frames) (started part.player state.Play e.id 0) in
        let starts = subst (λ (q : PlayerState). Starts part.player q state.Play e.id (min (frame_at rate 0) e.song.frames)) steps_to from in
        subst (λ (r : CommandResult). IsRead rate more part player false (front_with (playback.Play (codes "0"))) r) (sym result)
        (subst (λ (o : Option Player). IsRead rate more part player false o made) (sym (front_some (playback.Play (codes "0")) e es is))
        (starts_at (PlaysPosition 0) e es (codes "0") 0 tt is starts refl refl refl zero_told))

    pub play_read : IsRead rate more part player false (front_with (playback.Play (codes "0"))) (play asked part (Some 0))
    play_read = play_cases (queue_of part.queue) refl

    abbrev paused_part : Part
    paused_part = part_after rate part (ByCommand (PausesIt true))

    still_current : (song : Option (ℕ × KeptPlayback)) → IsCurrent rate part song → IsCurrent rate paused_part (option_map (λ s. (s.0, still s.1)) song)
    still_current None c =
        let p : Pauses part.player paused_part.player = paused part.player in
        (p.stays.current ∙ c.0, p.still (ap is_stopped c.1) ∙ c.1)
    still_current (Some (at, playback.Stop)) c =
        let p : Pauses part.player paused_part.player = paused part.player in
        (c.0, c.1, p.stays.current ∙ c.2, p.still (ap is_stopped c.3) ∙ c.3)
    still_current (Some (at, playback.Play elapsed)) c =
        let p : Pauses part.player paused_part.player = paused part.player in
        (c.0, c.1, p.stays.current ∙ c.2, (p.paused (ap is_stopped c.3.0), into_same rate c.0 c.0 part.player paused_part.player elapsed refl p.stays.offset c.3.1))
    still_current (Some (at, playback.Pause elapsed)) c =
        let p : Pauses part.player paused_part.player = paused part.player in
        (c.0, c.1, p.stays.current ∙ c.2, (p.paused (ap is_stopped c.3.0), into_same rate c.0 c.0 part.player paused_part.player elapsed refl p.stays.offset c.3.1))

    pub pause_read : IsRead rate more part player false (Some (record player { song = option_map (λ s. (s.0, still s.1)) player.song })) (does asked (PausesIt true))
    pause_read =
        let p : Pauses part.player paused_part.player = paused part.player in
        record {
          has = record { options = options_same part paused_part player.options refl p.modes p.stays.crossfade h.options; outputs = h.outputs; queue = h.queue; song = still_current player.song h.song };
          room = room;
          scan = refl;
          small = tt;
          written = refl;
          goes = refl;
          refused = λ e k. cc;
          accepted = λ e. refl;
        }

    abbrev stopped_part : Part
    stopped_part = part_after rate part (ByCommand StopsIt)

    stopped_current : (song : Option (ℕ × KeptPlayback)) → IsCurrent rate part song → IsCurrent rate stopped_part (option_map (λ s. (s.0, playback.Stop)) song)
    stopped_current None c =
        let p : Stops part.player stopped_part.player = stopped part.player in
        (p.stays.current ∙ c.0, p.playback)
    stopped_current (Some song) c =
        let p : Stops part.player stopped_part.player = stopped part.player in
        (c.0, c.1, p.stays.current ∙ c.2, p.playback)

    pub stop_read : IsRead rate more part player false (Some (record player { song = option_map (λ s. (s.0, playback.Stop)) player.song })) (does asked StopsIt)
    stop_read =
        let p : Stops part.player stopped_part.player = stopped part.player in
        record {
          has = record { options = options_same part stopped_part player.options refl p.modes p.stays.crossfade h.options; outputs = h.outputs; queue = h.queue; song = stopped_current player.song h.song };
          room = room;
          scan = refl;
          small = tt;
          written = refl;
          goes = refl;
          refused = λ e k. cc;
          accepted = λ e. refl;
        }

  -- a song is put at the front, where there is one of that name
  module _ (room : CanAdd part (1 + more)) where
    uri_is : (uri : List ℕ) (song : SongData) → song_of library.songs uri ≡ Some song → song.uri ≡ uri
    uri_is uri song found = pointwise-true ◌==◌ eqb-true song.uri uri (find-there (λ (s : SongData). same_uri s.uri uri) library.songs song found).1

    put_at : (uri : List ℕ) (song : SongData) (lines : List ℕ) → song.uri ≡ uri → IsRead rate more part player false (Some (with_front uri player)) (edits asked (Insert 0 (song ∷ [])) lines)
    put_at uri song lines is =
        let other : Part = part_after rate part (ByCommand (Edits (Insert 0 (song ∷ [])))) in
        let now : queue_of other.queue ≡ fresh part.queue song ∷ queue_of part.queue = put_first part.queue song in
        let limits : SameLimits (edited part.queue (fresh part.queue song ∷ queue_of part.queue)) part.queue = edited_limits part.queue (fresh part.queue song ∷ queue_of part.queue) in
        let size : count other ≡ suc (count part) = ap length now in
        record {
          has = record {
            options = options_same part other player.options refl refl refl h.options;
            outputs = h.outputs;
            queue = ap (λ (u : List ℕ). record { uri = u; priority = 0 } ∷ player.queue) (sym is) ∙ ap (λ (q : List KeptEntry). kept_entry (fresh part.queue song) ∷ q) h.queue ∙ sym (ap (map kept_entry) now);
            song = current_behind rate part other (fresh part.queue song) player.song now refl refl refl h.song;
          };
          room = (
            subst (λ (n : ℕ). count other + more ≤ n) (sym limits.max_len) (omega (arith, size, room.0)),
            subst (λ (n : ℕ). part.queue.greatest_id + 1 + more ≤ n) (sym limits.max_id) (omega (arith, room.1)),
          );
          scan = refl;
          small = tt;
          written = refl;
          goes = refl;
          refused = λ e k. cc;
          accepted = λ e. refl;
        }

    front_position : position_in part (Some (At 0)) ≡ Ok 0
    front_position = let none : nat_lt (count part) 0 ≡ false = le-ltb (count part) 0 (omega arith) in rw none refl

    nothing_lacks : lack part 1 ≡ None
    nothing_lacks =
        let queue : nat_lt part.queue.max_len (count part + 1) ≡ false = le-ltb part.queue.max_len (count part + 1) (omega (arith, room.0)) in
        let ids : nat_lt part.queue.max_id (part.queue.greatest_id + 1) ≡ false = le-ltb part.queue.max_id (part.queue.greatest_id + 1) (omega (arith, room.1)) in
        ap (λ (b : Bool). if b then Some (codes "playlist is full") else (if nat_lt part.queue.max_id (part.queue.greatest_id + 1) then Some (codes "no more song ids") else None)) queue
        ∙ ap (λ (b : Bool). if b then Some (codes "no more song ids") else None) ids

    put_result : (song : SongData) → add_one asked part (Some song) (Some (At 0)) ≡ edits asked (Insert 0 (song ∷ [])) (id_line part)
    put_result song =
        ap (λ position. insert_where asked part (song ∷ []) (id_line part) position) front_position
        ∙ ap (λ why. unless_lacking asked part why (edits asked (Insert 0 (song ∷ [])) (id_line part))) nothing_lacks

    put_cases : (uri : List ℕ) (o : Option SongData) → song_of library.songs uri ≡ o
        → IsRead rate more part player false (if is_some o then Some (with_front uri player) else None) (add_one asked part o (Some (At 0)))
    put_cases uri None found = rests None (no_such_song asked) refl refl refl refl (omega (arith, room.0), omega (arith, room.1))
    put_cases uri (Some song) found =
        subst (λ (r : CommandResult). IsRead rate more part player false (Some (with_front uri player)) r) (sym (put_result song)) (put_at uri song (id_line part) (uri_is uri song found))

    pub put_read : (uri : List ℕ) → IsRead rate more part player false (if is_song library uri then Some (with_front uri player) else None) (add_id asked part library uri (Some (At 0)))
    put_read uri = put_cases uri (song_of library.songs uri) refl
