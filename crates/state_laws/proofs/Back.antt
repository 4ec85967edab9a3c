-- Lines that are told to the player of one thread, one after the other.
use Rattle.std.proofs.Common.{◌≡◌, ℕ, suc, ◌+◌, ◌≤◌, Bool, true, false, List, [], ◌∷◌, Option, Some, None, is_some, refl, ap, sym, ◌∙◌, subst, arith, if◌then◌else◌}
use Rattle.command_arguments.specs.declared.forms.Position.TheVariants.{At}
use Rattle.command_arguments.specs.declared.forms.SongMode.{SongMode}
use Rattle.connected_clients.specs.Clients.{client_of}
use Rattle.mpd_command.specs.declared.command.Command.{Command}
use Rattle.mpd_command.specs.declared.command.Command.TheVariants as command
use Rattle.mpd_command.specs.declared.name.Name.{Name}
use Rattle.mpd_command.specs.declared.options.OptionCommand.TheVariants as options
use Rattle.mpd_command.specs.declared.playback.PlaybackCommand.TheVariants as playback
use Rattle.mpd_command.specs.declared.queue.QueueCommand.TheVariants as queue
use Rattle.mpd_command.specs.declared.request.Request.{Request}
use Rattle.mpd_command.specs.declared.request.Request.TheVariants.{Run}
use Rattle.mpd_text.specs.declared.answers.ranges.Range.TheVariants.{Lone}
use Rattle.partition_table.specs.Parts.{part_at}
use Rattle.partition.specs.Image.{Image, overview}
use Rattle.partition.specs.Step.{asked_by, limit_of, next_image, transition_run}
use Rattle.player_state.specs.Effects.{part_after}
use Rattle.player_state.specs.declared.effect.Effect.TheVariants.{ByCommand}
use Rattle.player_state.specs.declared.state.Client.{Client}
use Rattle.player_state.specs.declared.state.Library.{Library}
use Rattle.player_state.specs.declared.state.Part.{Part}
use Rattle.queue_commands.specs.Queue.{CanAdd, add_id, prio}
use Rattle.queue_commands.specs.Queue.{result_of as queue_result}
use Rattle.queue_commands.specs.Playback.{pause, play, seek, stop}
use Rattle.queue_commands.specs.Playback.{result_of as playback_result}
use Rattle.status_commands.specs.Options.{consume, crossfade, random, repeat, set_volume, single}
use Rattle.status_commands.specs.Options.{result_of as options_result}
use Rattle.status_commands.specs.Outputs.{switch_output}
use Rattle.status_commands.specs.Outputs.{result_of as outputs_result}
use Rattle.status_commands.specs.Status.{wish_of}
use Rattle.transitions.specs.Transitions.{CommandResult, transition_by}
use Rattle.transitions.specs.declared.asked.Asked.{Asked}
use Rattle.transitions.specs.declared.asked.ListPlace.TheVariants.{Alone}
use Rattle.transitions.specs.declared.shelf_calls.Read.TheVariants.{Nothing as NothingRead}
use Rattle.kept_state.specs.Lines.{Line}
use Rattle.kept_state.specs.Lines.{Line as lines}
use Rattle.kept_state.specs.Reading.{Player, after_line, read_line, read_step, read_steps}
use Rattle.state_laws.specs.Having.{Has}
use Rattle.state_laws.specs.Saying.{AllAsk, Asks, CanAsk, EachAsks, IsReady, LineIsRead, PlayerHas, ReadsLines, after_reading, after_step, after_steps, asking, is_refused, is_song, puts, read_or_same, songs_in, songs_of, switch_to}
use Rattle.state_laws.specs.Limits.{IsFar}
use Rattle.state_laws.proofs.Events.{ChangesOwn, Leaves, leaves, stays_far}
use Rattle.state_laws.proofs.Lines.{IsRead, consume_read, crossfade_read, pause_read, play_read, priority_read, put_read, random_read, repeat_read, seek_read, single_read, stop_read, switch_read, volume_read}

abbrev pub is_switch : Line → Bool
is_switch (lines.Switch output) = true
is_switch _ = false

none_more : (part : Part) (more : ℕ) → CanAdd part (0 + more) → CanAdd part more
none_more part more room =
    let first = room.0 in
    let second = room.1 in
    (omega arith, omega arith)

no_wish : (number : ℕ) (on : Bool) → wish_of (command.Outputs (switch_to number on)) ≡ None
no_wish number true = refl
no_wish number false = refl

-- an event is a line to the player: it has what a reading says after it, and refuses it where the reading does
pub record Does (library : Library) (seat number more : ℕ) (i : Image) (player : Player) (line : Line) (request : Request) : Type 0 where
  pub has : PlayerHas library number more (next_image seat i (asking number request)) (after_reading library player line)
  pub refused : is_refused i (asking number request) ≡ true → is_switch line ≡ false → read_line (is_song library) player line ≡ None
  pub accepted : is_refused i (asking number request) ≡ false → is_some (read_line (is_song library) player line) ≡ true
  pub far : (left : ℕ) → IsFar seat number (suc left) i
      → (limit_of seat i (asking number request) ≡ None) × IsFar seat number left (next_image seat i (asking number request))
  pub own : ChangesOwn number i (next_image seat i (asking number request))

module _ (seat number more : ℕ) (i : Image) (player : Player) (client : Client) (part : Part) where
  abbrev lib : Library
  lib = i.shared.library

  abbrev DoesIt : Line → Request → Type 0
  DoesIt line request = Does lib seat number more i player line request

  module _ (line : Line) (name : Name) (it : Command) (r : CommandResult) (here : client_of number i.clients ≡ Some client)
      (l : Leaves seat number i client part (asking number (Run name it)) r) (is : IsRead lib.rate more part player (is_switch line) (read_line (is_song lib) player line) r)
      (far : (left : ℕ) → IsFar seat number (suc left) i → (limit_of seat i (asking number (Run name it)) ≡ None) × IsFar seat number left (next_image seat i (asking number (Run name it)))) where
    by_result : DoesIt line (Run name it)
    by_result = record {
      has = record {
        same = l.library;
        client = l.own;
        there = l.there;
        listens = l.listens;
        part = part_after lib.rate part (ByCommand r.effect);
        placed = ap (λ (index : ℕ). part_at index (next_image seat i (asking number (Run name it))).parts) l.index ∙ l.placed;
        has = is.has;
        room = is.room;
      };
      refused = λ e k. is.refused (sym l.refused ∙ e) k;
      accepted = λ e. is.accepted (sym l.refused ∙ e);
      far = far;
      own = record {
        openings = l.openings;
        before = client;
        after = l.own;
        here = here;
        there = l.there;
        index = l.index;
        effect = r.effect;
        small = is.small;
        parts = l.parts;
      };
    }

  module _ (there : client_of number i.clients ≡ Some client) (listens : client.pending.waiting ≡ None) (placed : part_at client.index i.parts ≡ Some part) where
    module _ (name : Name) where
      abbrev asked : Asked
      asked = asked_by client name Alone

      abbrev Runs : Command → CommandResult → Type 0
      Runs it r = transition_run (overview i) asked part lib NothingRead it ≡ transition_by r

      by_run : (line : Line) (it : Command) (r : CommandResult) → wish_of it ≡ None → Runs it r
          → IsRead lib.rate more part player (is_switch line) (read_line (is_song lib) player line) r → DoesIt line (Run name it)
      by_run line it r quiet runs is = by_result line name it r there (leaves seat number i client part name it r there listens placed quiet runs is.scan is.written is.goes) is
          (λ left far. stays_far seat number i client part name it r there listens placed quiet runs is.scan is.written is.goes left is.small far)

      runs_volume : (volume : ℕ) → Runs (command.Options (options.SetVol volume)) (set_volume asked volume)
      unfolding options_result
      runs_volume volume = refl

      runs_repeat : (on : Bool) → Runs (command.Options (options.Repeat on)) (repeat asked on)
      unfolding options_result
      runs_repeat on = refl

      runs_random : (on : Bool) → Runs (command.Options (options.Random on)) (random asked on)
      unfolding options_result
      runs_random on = refl

      runs_single : (mode : SongMode) → Runs (command.Options (options.Single mode)) (single asked mode)
      unfolding options_result
      runs_single mode = refl

      runs_consume : (mode : SongMode) → Runs (command.Options (options.Consume mode)) (consume asked mode)
      unfolding options_result
      runs_consume mode = refl

      runs_crossfade : (seconds : ℕ) → Runs (command.Options (options.Crossfade seconds)) (crossfade asked seconds)
      unfolding options_result
      runs_crossfade seconds = refl

      runs_switch : (output : ℕ) (on : Bool) → Runs (command.Outputs (switch_to output on)) (switch_output asked part output on)
      unfolding outputs_result
      runs_switch output true = refl
      runs_switch output false = refl

      runs_put : (uri : List ℕ) → Runs (command.Queue (queue.AddId (record { 0 = uri }) (Some (At 0)))) (add_id asked part lib uri (Some (At 0)))
      unfolding queue_result
      runs_put uri = refl

      runs_priority : (priority : ℕ) → Runs (command.Queue (queue.Prio priority (Lone 0 ∷ []))) (prio asked part priority (Lone 0 ∷ []))
      unfolding queue_result
      runs_priority priority = refl

      runs_seek : (time : ℕ) → Runs (command.Playback (playback.Seek 0 (record { 0 = time }))) (seek asked part lib 0 time)
      unfolding playback_result
      runs_seek time = refl

      runs_play : Runs (command.Playback (playback.Play (Some 0))) (play asked part (Some 0))
      unfolding playback_result
      runs_play = refl

      runs_pause : Runs (command.Playback (playback.Pause (Some true))) (pause asked (Some true))
      unfolding playback_result
      runs_pause = refl

      runs_stop : Runs (command.Playback playback.Stop) (stop asked)
      unfolding playback_result
      runs_stop = refl

      -- each line, where the command is the one that it asks for
      does_line : (line : Line) (it : Command) → Asks line it → IsReady player line → Has lib.rate part player → CanAdd part (puts line + more) → DoesIt line (Run name it)
      does_line (lines.Volume text) it asks ready h room =
          let so : CommandResult = set_volume asked asks.0 in
          subst (λ it. DoesIt (lines.Volume text) (Run name it)) (sym asks.2) (by_run (lines.Volume text) (command.Options (options.SetVol asks.0)) so refl (runs_volume asks.0) (volume_read lib asked more part player h (none_more part more room) text asks.0 asks.1))
      does_line (lines.Repeat text) it asks ready h room =
          subst (λ it. DoesIt (lines.Repeat text) (Run name it)) (sym asks.2) (by_run (lines.Repeat text) (command.Options (options.Repeat asks.0)) (repeat asked asks.0) refl (runs_repeat asks.0) (repeat_read lib asked more part player h (none_more part more room) text asks.0 asks.1))
      does_line (lines.Random text) it asks ready h room =
          subst (λ it. DoesIt (lines.Random text) (Run name it)) (sym asks.2) (by_run (lines.Random text) (command.Options (options.Random asks.0)) (random asked asks.0) refl (runs_random asks.0) (random_read lib asked more part player h (none_more part more room) text asks.0 asks.1))
      does_line (lines.Single text) it asks ready h room =
          subst (λ it. DoesIt (lines.Single text) (Run name it)) (sym asks.2) (by_run (lines.Single text) (command.Options (options.Single asks.0)) (single asked asks.0) refl (runs_single asks.0) (single_read lib asked more part player h (none_more part more room) text asks.0 asks.1))
      does_line (lines.Consume text) it asks ready h room =
          subst (λ it. DoesIt (lines.Consume text) (Run name it)) (sym asks.2) (by_run (lines.Consume text) (command.Options (options.Consume asks.0)) (consume asked asks.0) refl (runs_consume asks.0) (consume_read lib asked more part player h (none_more part more room) text asks.0 asks.1))
      does_line (lines.Crossfade text) it asks ready h room =
          subst (λ it. DoesIt (lines.Crossfade text) (Run name it)) (sym asks.2) (by_run (lines.Crossfade text) (command.Options (options.Crossfade asks.0)) (crossfade asked asks.0) refl (runs_crossfade asks.0) (crossfade_read lib asked more part player h (none_more part more room) text asks.0 asks.1))
      does_line (lines.Switch output) it asks ready h room =
          subst (λ it. DoesIt (lines.Switch output) (Run name it)) (sym asks.1) (by_run (lines.Switch output) (command.Outputs (switch_to output.number output.is_on)) (switch_output asked part output.number output.is_on) (no_wish output.number output.is_on)
          (runs_switch output.number output.is_on) (switch_read lib asked more part player h (none_more part more room) output.number output.is_on))
      does_line (lines.Put uri) it asks ready h room =
          subst (λ it. DoesIt (lines.Put uri) (Run name it)) (sym asks.1) (by_run (lines.Put uri) (command.Queue (queue.AddId (record { 0 = uri }) (Some (At 0)))) (add_id asked part lib uri (Some (At 0))) refl (runs_put uri) (put_read lib asked more part player h room uri))
      does_line (lines.Prioritize priority) it asks ready h room =
          subst (λ it. DoesIt (lines.Prioritize priority) (Run name it)) (sym asks.1) (by_run (lines.Prioritize priority) (command.Queue (queue.Prio priority (Lone 0 ∷ []))) (prio asked part priority (Lone 0 ∷ [])) refl (runs_priority priority) (priority_read lib asked more part player h (none_more part more room) priority))
      does_line (lines.Seek text) it asks ready h room =
          subst (λ it. DoesIt (lines.Seek text) (Run name it)) (sym asks.2) (by_run (lines.Seek text) (command.Playback (playback.Seek 0 (record { 0 = asks.0 }))) (seek asked part lib 0 asks.0) refl (runs_seek asks.0) (seek_read lib asked more part player h (none_more part more room) text asks.0 asks.1 ready))
      does_line lines.Play it asks ready h room =
          subst (λ it. DoesIt lines.Play (Run name it)) (sym asks) (by_run lines.Play (command.Playback (playback.Play (Some 0))) (play asked part (Some 0)) refl runs_play (play_read lib asked more part player h (none_more part more room)))
      does_line lines.Pause it asks ready h room =
          subst (λ it. DoesIt lines.Pause (Run name it)) (sym asks) (by_run lines.Pause (command.Playback (playback.Pause (Some true))) (pause asked (Some true)) refl runs_pause (pause_read lib asked more part player h (none_more part more room)))
      does_line lines.Stop it asks ready h room =
          subst (λ it. DoesIt lines.Stop (Run name it)) (sym asks) (by_run lines.Stop (command.Playback playback.Stop) (stop asked) refl runs_stop (stop_read lib asked more part player h (none_more part more room)))

-- a line that asks for a command, said by a client that is there
pub line_does : (seat number more : ℕ) (library : Library) (asked : Line → Request) (i : Image) (player : Player) (line : Line)
    → ReadsLines asked → CanAsk line → IsReady player line → PlayerHas library number (puts line + more) i player
    → Does library seat number more i player line (asked line)
line_does seat number more library asked i player line reads can ready p =
    let named : (name : Name) × (asked line ≡ Run name can.0) = reads line can.0 can.1 in
    let has : Has i.shared.library.rate p.part player = subst (λ (l : Library). Has l.rate p.part player) (sym p.same) p.has in
    subst (λ (l : Library). Does l seat number more i player line (asked line)) p.same
    (subst (λ (request : Request). Does i.shared.library seat number more i player line request) (sym named.1)
    (does_line seat number more i player p.client p.part p.there p.listens p.placed named.0 line can.0 can.1 ready has p.room))

pub line_is_read : LineIsRead
line_is_read seat number more library asked i player line reads can ready p = (line_does seat number more library asked i player line reads can ready p).has

pub fewer : (library : Library) (number more less : ℕ) (i : Image) (player : Player) → less ≤ more → PlayerHas library number more i player → PlayerHas library number less i player
fewer library number more less i player low p =
    let first = p.room.0 in
    let second = p.room.1 in
    record { same = p.same; client = p.client; there = p.there; listens = p.listens; part = p.part; placed = p.placed; has = p.has; room = (omega arith, omega arith) }

module _ (seat number : ℕ) (library : Library) (asked : Line → Request) (reads : ReadsLines asked) where
  -- lines that are told together, of which none is a seek of a player that stands still, and an output is switched alone
  abbrev pub Fits : Player → List Line → Type 0
  Fits player [] = Unit {0}
  Fits player (line ∷ more) = IsReady player line × (is_switch line ≡ true → more ≡ []) × Fits (after_reading library player line) more

  goes_on : (player : Player) (more : List Line) (o : Option Player) → is_some o ≡ true → read_step (is_song library) more (read_or_same player o) ≡ after_line player (read_step (is_song library) more) o
  goes_on player more None e = cc
  goes_on player more (Some read) e = refl

  ends : (player : Player) (more : List Line) (o : Option Player) → o ≡ None → read_or_same player o ≡ after_line player (read_step (is_song library) more) o
  ends player more None e = refl
  ends player more (Some read) e = cc

  lone : (player : Player) (o : Option Player) → read_or_same player o ≡ after_line player (read_step (is_song library) []) o
  lone player None = refl
  lone player (Some read) = refl

  last : (player : Player) (more : List Line) (o : Option Player) → more ≡ [] → read_or_same player o ≡ after_line player (read_step (is_song library) more) o
  last player more o e = subst (λ more. read_or_same player o ≡ after_line player (read_step (is_song library) more) o) (sym e) (lone player o)

  pub step_read : (step : List Line) (more : ℕ) (i : Image) (player : Player) → AllAsk step → Fits player step → PlayerHas library number (songs_in step + more) i player
      → PlayerHas library number more (after_step seat number asked step i) (read_step (is_song library) step player)
  step_read [] more i player ask fits p = fewer library number (songs_in [] + more) more i player (omega arith) p
  step_read (line ∷ rest) more i player ask fits p =
      let event = asking number (asked line) in
      let next : Image = next_image seat i event in
      let after : Player = read_step (is_song library) (line ∷ rest) player in
      let many : ℕ = songs_in rest + more in
      let enough : PlayerHas library number (puts line + many) i player = fewer library number (songs_in (line ∷ rest) + more) (puts line + many) i player (omega arith) p in
      let d : Does library seat number many i player line (asked line) = line_does seat number many library asked i player line reads ask.0 fits.0 enough in
      let ended : (b : Bool) → is_switch line ≡ b → is_refused i event ≡ true → after_reading library player line ≡ after =
      λ b. elim b as (λ b. is_switch line ≡ b → is_refused i event ≡ true → after_reading library player line ≡ after) [
        | true ↦ λ s e. last player rest (read_line (is_song library) player line) (fits.1 s)
        | false ↦ λ s e. ends player rest (read_line (is_song library) player line) (d.refused e s)
      ] in
      let cases : (b : Bool) → is_refused i event ≡ b → PlayerHas library number more (if b then next else after_step seat number asked rest next) after =
      λ b. elim b as (λ b. is_refused i event ≡ b → PlayerHas library number more (if b then next else after_step seat number asked rest next) after) [
        | true ↦ λ e. subst (λ (q : Player). PlayerHas library number more next q) (ended (is_switch line) refl e)
            (fewer library number many more next (after_reading library player line) (omega arith) d.has)
        | false ↦ λ e. subst (λ (q : Player). PlayerHas library number more (after_step seat number asked rest next) q)
            (goes_on player rest (read_line (is_song library) player line) (d.accepted e))
            (step_read rest more next (after_reading library player line) ask.1 fits.2 d.has)
      ] in
      cases (is_refused i event) refl

  abbrev pub AllFit : Player → List (List Line) → Type 0
  AllFit player [] = Unit {0}
  AllFit player (step ∷ steps) = Fits player step × AllFit (read_step (is_song library) step player) steps

  pub steps_read : (steps : List (List Line)) (more : ℕ) (i : Image) (player : Player) → EachAsks steps → AllFit player steps → PlayerHas library number (songs_of steps + more) i player
      → PlayerHas library number more (after_steps seat number asked steps i) (read_steps (is_song library) steps player)
  steps_read [] more i player ask fits p = fewer library number (songs_of [] + more) more i player (omega arith) p
  steps_read (step ∷ steps) more i player ask fits p =
      let many : ℕ = songs_of steps + more in
      let enough : PlayerHas library number (songs_in step + many) i player = fewer library number (songs_of (step ∷ steps) + more) (songs_in step + many) i player (omega arith) p in
      steps_read steps more (after_step seat number asked step i) (read_step (is_song library) step player) ask.1 fits.1 (step_read step many i player ask.0 fits.0 enough)
