-- The lines of a state change the client's own partition alone, and leave its name and which outputs stand in it.
use Rattle.std.proofs.Common.{◌≡◌, ℕ, ◌+◌, ◌==◌, Bool, true, false, List, [], ◌∷◌, ◌++◌, Some, None, refl, ap, sym, ◌∙◌, arith, if◌then◌else◌}
use Rattle.std.proofs.lemmas.Bool.{eq-eqb}
use Rattle.connected_clients.specs.Clients.{client_of}
use Rattle.kept_state.specs.Lines.{Line}
use Rattle.kept_state.specs.Reading.{Player, read_step}
use Rattle.mpd_command.specs.declared.request.Request.{Request}
use Rattle.partition_table.specs.Parts.{changed, part_at}
use Rattle.partition.specs.Image.{Image}
use Rattle.partition.specs.Step.{next_image}
use Rattle.player_events.specs.declared.event.Event.{Event}
use Rattle.player_state.specs.Effects.{part_after}
use Rattle.player_state.specs.declared.effect.CommandEffect.{CommandEffect}
use Rattle.player_state.specs.declared.effect.CommandEffect.TheVariants.{Edits, Pauses, PlaysPosition, Rests, Seeks, SetsConsume, SetsCrossfade, SetsRandom, SetsRepeat, SetsSingle, SetsVolume, Stops, Switches}
use Rattle.player_state.specs.declared.effect.Effect.{Effect}
use Rattle.player_state.specs.declared.effect.Effect.TheVariants.{ByCommand}
use Rattle.player_state.specs.declared.state.Client.{Client}
use Rattle.player_state.specs.declared.state.Library.{Library}
use Rattle.player_state.specs.declared.state.Part.{Part}
use Rattle.song_queue.specs.declared.edit.Edit.TheVariants.{Insert, Prioritize}
use Rattle.state_laws.specs.Saying.{AllAsk, EachAsks, PlayerHas, ReadsLines, after_reading, after_step, after_steps, asking, is_refused, is_song, puts, songs_in, songs_of}
use Rattle.state_laws.proofs.Back.{AllFit, Does, Fits, fewer, line_does, step_read}
use Rattle.state_laws.proofs.Events.{ChangesOwn, one_client}
use Rattle.state_laws.proofs.Limits.{IsSmall, raises}

-- a partition keeps its number, its name, the outputs that stand in it, and its limit of cuts
pub record Keeps (p q : Part) : Type 0 where
  pub index : q.index ≡ p.index
  pub name : q.name ≡ p.name
  pub names : q.outputs.names ≡ p.outputs.names
  pub here : q.outputs.here ≡ p.outputs.here
  pub failed : q.outputs.failed ≡ p.outputs.failed
  pub moves : q.outputs.moves ≡ p.outputs.moves
  pub max_cut : q.player.max_cut ≡ p.player.max_cut

keeps_all : (p : Part) → Keeps p p
keeps_all p = record { index = refl; name = refl; names = refl; here = refl; failed = refl; moves = refl; max_cut = refl }

keeps_on : (p q r : Part) → Keeps p q → Keeps q r → Keeps p r
keeps_on p q r h k = record {
  index = k.index ∙ h.index;
  name = k.name ∙ h.name;
  names = k.names ∙ h.names;
  here = k.here ∙ h.here;
  failed = k.failed ∙ h.failed;
  moves = k.moves ∙ h.moves;
  max_cut = k.max_cut ∙ h.max_cut;
}

kept_by : (rate : ℕ) (p : Part) (effect : CommandEffect) → IsSmall effect → (part_after rate p (ByCommand effect)).index ≡ p.index
    → (part_after rate p (ByCommand effect)).name ≡ p.name → (part_after rate p (ByCommand effect)).outputs.names ≡ p.outputs.names
    → (part_after rate p (ByCommand effect)).outputs.here ≡ p.outputs.here → (part_after rate p (ByCommand effect)).outputs.failed ≡ p.outputs.failed
    → (part_after rate p (ByCommand effect)).outputs.moves ≡ p.outputs.moves → Keeps p (part_after rate p (ByCommand effect))
kept_by rate p effect s index name names here failed moves =
    record { index = index; name = name; names = names; here = here; failed = failed; moves = moves; max_cut = (raises rate p effect s).max_cut }

small_keeps : (rate : ℕ) (p : Part) (effect : CommandEffect) → IsSmall effect → Keeps p (part_after rate p (ByCommand effect))
small_keeps rate p Rests s = kept_by rate p Rests s refl refl refl refl refl refl
small_keeps rate p (Edits (Insert at songs)) s = kept_by rate p (Edits (Insert at songs)) s refl refl refl refl refl refl
small_keeps rate p (Edits (Prioritize ranges priority)) s = kept_by rate p (Edits (Prioritize ranges priority)) s refl refl refl refl refl refl
small_keeps rate p (SetsVolume volume) s = kept_by rate p (SetsVolume volume) s refl refl refl refl refl refl
small_keeps rate p (SetsRepeat on) s = kept_by rate p (SetsRepeat on) s refl refl refl refl refl refl
small_keeps rate p (SetsRandom on) s = kept_by rate p (SetsRandom on) s refl refl refl refl refl refl
small_keeps rate p (SetsSingle mode) s = kept_by rate p (SetsSingle mode) s refl refl refl refl refl refl
small_keeps rate p (SetsConsume mode) s = kept_by rate p (SetsConsume mode) s refl refl refl refl refl refl
small_keeps rate p (SetsCrossfade seconds) s = kept_by rate p (SetsCrossfade seconds) s refl refl refl refl refl refl
small_keeps rate p (PlaysPosition position) s = kept_by rate p (PlaysPosition position) s refl refl refl refl refl refl
small_keeps rate p (Pauses on) s = kept_by rate p (Pauses on) s refl refl refl refl refl refl
small_keeps rate p Stops s = kept_by rate p Stops s refl refl refl refl refl refl
small_keeps rate p (Seeks position frame) s = kept_by rate p (Seeks position frame) s refl refl refl refl refl refl
small_keeps rate p (Switches output on) s = kept_by rate p (Switches output on) s refl refl refl refl refl refl
small_keeps rate p _ s = absurd s

-- the first partition of a list is another one, where none has this number
pub not_first : (index : ℕ) (p : Part) (ps : List Part) → part_at index (p ∷ ps) ≡ None → ((p.index == index) ≡ false) × (part_at index ps ≡ None)
not_first index p ps none =
    let cases : (b : Bool) → (p.index == index) ≡ b → (if b then Some p else part_at index ps) ≡ None → ((p.index == index) ≡ false) × (part_at index ps ≡ None) =
    λ b. elim b as (λ b. (p.index == index) ≡ b → (if b then Some p else part_at index ps) ≡ None → ((p.index == index) ≡ false) × (part_at index ps ≡ None))
    [ true ↦ λ e h. cc | false ↦ λ e h. (e, h) ] in
    cases (p.index == index) refl none

-- a partition behind others, none of which has its number
pub changed_behind : (rate index : ℕ) (effect : Effect) (front : List Part) (own : Part) (back : List Part) → part_at index front ≡ None → own.index ≡ index
    → changed rate index effect (front ++ own ∷ back) ≡ front ++ part_after rate own effect ∷ back
changed_behind rate index effect [] own back none is =
    ap (λ (b : Bool). if b then part_after rate own effect ∷ back else own ∷ changed rate index effect back) (eq-eqb own.index index is)
changed_behind rate index effect (p ∷ front) own back none is =
    let first = not_first index p front none in
    ap (λ (b : Bool). if b then part_after rate p effect ∷ (front ++ own ∷ back) else p ∷ changed rate index effect (front ++ own ∷ back)) first.0
    ∙ ap (λ (ps : List Part). p ∷ ps) (changed_behind rate index effect front own back first.1 is)

pub found_behind : (index : ℕ) (front : List Part) (own : Part) (back : List Part) → part_at index front ≡ None → own.index ≡ index
    → part_at index (front ++ own ∷ back) ≡ Some own
found_behind index [] own back none is = ap (λ (b : Bool). if b then Some own else part_at index back) (eq-eqb own.index index is)
found_behind index (p ∷ front) own back none is =
    let first = not_first index p front none in
    ap (λ (b : Bool). if b then Some p else part_at index (front ++ own ∷ back)) first.0 ∙ found_behind index front own back first.1 is

-- a client is in this one of the partitions
pub record IsIn (number : ℕ) (front : List Part) (own : Part) (back : List Part) (i : Image) : Type 0 where
  pub client : Client
  pub there : client_of number i.clients ≡ Some client
  pub index : own.index ≡ client.index
  pub apart : part_at own.index front ≡ None
  pub parts : i.parts ≡ front ++ own ∷ back

-- lines after which the client is in a partition that keeps what lines of a state leave; the others are as they were
pub record ChangesAlone (number : ℕ) (front : List Part) (own : Part) (back : List Part) (i j : Image) : Type 0 where
  pub other : Part
  pub keeps : Keeps own other
  pub there : IsIn number front other back j
  pub openings : j.shared.openings ≡ i.shared.openings

none_changed : (number : ℕ) (front : List Part) (own : Part) (back : List Part) (i : Image) → IsIn number front own back i → ChangesAlone number front own back i i
none_changed number front own back i h = record { other = own; keeps = keeps_all own; there = h; openings = refl }

one_changed : (number : ℕ) (front : List Part) (own : Part) (back : List Part) (i j : Image) → IsIn number front own back i → ChangesOwn number i j
    → ChangesAlone number front own back i j
one_changed number front own back i j h c =
    let same : c.before ≡ h.client = one_client c.before h.client (sym c.here ∙ h.there) in
    let rate : ℕ = i.shared.library.rate in
    let index : c.before.index ≡ own.index = ap (λ (k : Client). k.index) same ∙ sym h.index in
    let other : Part = part_after rate own (ByCommand c.effect) in
    let keeps : Keeps own other = small_keeps rate own c.effect c.small in
    record {
      other = other;
      keeps = keeps;
      there = record {
        client = c.after;
        there = c.there;
        index = keeps.index ∙ sym index ∙ sym c.index;
        apart = ap (λ (n : ℕ). part_at n front) keeps.index ∙ h.apart;
        parts = c.parts ∙ ap (λ (n : ℕ). changed rate n (ByCommand c.effect) i.parts) index
            ∙ ap (changed rate own.index (ByCommand c.effect)) h.parts ∙ changed_behind rate own.index (ByCommand c.effect) front own back h.apart refl;
      };
      openings = c.openings;
    }

changed_on : (number : ℕ) (front : List Part) (own : Part) (back : List Part) (i j k : Image) (h : ChangesAlone number front own back i j)
    → ChangesAlone number front h.other back j k → ChangesAlone number front own back i k
changed_on number front own back i j k h more = record {
  other = more.other;
  keeps = keeps_on own h.other more.other h.keeps more.keeps;
  there = more.there;
  openings = more.openings ∙ h.openings;
}

module _ (seat number : ℕ) (library : Library) (asked : Line → Request) (reads : ReadsLines asked) (front back : List Part) where
  abbrev Alone : Part → Image → Image → Type 0
  Alone own i j = ChangesAlone number front own back i j

  step_alone : (step : List Line) (more : ℕ) (own : Part) (i : Image) (player : Player) → AllAsk step → Fits seat number library asked reads player step
      → PlayerHas library number (songs_in step + more) i player → IsIn number front own back i → Alone own i (after_step seat number asked step i)
  step_alone [] more own i player ask fits p h = none_changed number front own back i h
  step_alone (line ∷ rest) more own i player ask fits p h =
      let event : Event = asking number (asked line) in
      let next : Image = next_image seat i event in
      let many : ℕ = songs_in rest + more in
      let enough : PlayerHas library number (puts line + many) i player = fewer library number (songs_in (line ∷ rest) + more) (puts line + many) i player (omega arith) p in
      let d : Does library seat number many i player line (asked line) = line_does seat number many library asked i player line reads ask.0 fits.0 enough in
      let first : Alone own i next = one_changed number front own back i next h d.own in
      let others : Alone first.other next (after_step seat number asked rest next) = step_alone rest more first.other next (after_reading library player line) ask.1 fits.2 d.has first.there in
      elim (is_refused i event) as (λ b. Alone own i (if b then next else after_step seat number asked rest next))
      [ true ↦ first | false ↦ changed_on number front own back i next (after_step seat number asked rest next) first others ]

  pub steps_alone : (steps : List (List Line)) (more : ℕ) (own : Part) (i : Image) (player : Player) → EachAsks steps → AllFit seat number library asked reads player steps
      → PlayerHas library number (songs_of steps + more) i player → IsIn number front own back i → Alone own i (after_steps seat number asked steps i)
  steps_alone [] more own i player ask fits p h = none_changed number front own back i h
  steps_alone (step ∷ steps) more own i player ask fits p h =
      let many : ℕ = songs_of steps + more in
      let after : Image = after_step seat number asked step i in
      let enough : PlayerHas library number (songs_in step + many) i player = fewer library number (songs_of (step ∷ steps) + more) (songs_in step + many) i player (omega arith) p in
      let first : Alone own i after = step_alone step many own i player ask.0 fits.0 enough h in
      let rest : Alone first.other after (after_steps seat number asked steps after) =
      steps_alone steps more first.other after (read_step (is_song library) step player) ask.1 fits.1 (step_read seat number library asked reads step many i player ask.0 fits.0 enough) first.there in
      changed_on number front own back i after (after_steps seat number asked (step ∷ steps) i) first rest
