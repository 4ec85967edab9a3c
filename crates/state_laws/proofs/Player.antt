-- What steps leave of a player, as far as a state keeps it.
use Rattle.std.proofs.Common.{◌≡◌, ℕ, Bool, true, false, min, List, Option, Some, None, refl, ap, if◌then◌else◌}
use Rattle.std.proofs.lemmas.Bool.{eqb-true}
use Rattle.song_queue.specs.declared.entry.Entry.{Entry}
use Rattle.play_order.specs.Draws as draws
use Rattle.play_order.specs.Draws.{RoundState}
use Rattle.play_order.specs.Order as order
use Rattle.player_core.specs.declared.state.Playback.{Playback}
use Rattle.player_core.specs.declared.state.Playback.TheVariants.{Stop, Play, Pause}
use Rattle.player_core.specs.Player.{PlayerState, cut, halted, is_stopped, playing_or_paused}
use Rattle.player_core.specs.Steps as steps
use Rattle.player_core.specs.Steps.{is_current}

-- modes and the fade stay
pub record KeepsOptions (p q : PlayerState) : Type 0 where
  pub modes : q.modes ≡ p.modes
  pub crossfade : q.crossfade ≡ p.crossfade

-- the song with an id is the current one, from an offset on
pub record Starts (p q : PlayerState) (how : Playback) (id at : ℕ) : Type 0 where
  pub keeps : KeepsOptions p q
  pub playback : q.playback ≡ how
  pub current : q.current ≡ Some id
  pub offset : q.offset ≡ at

pub started : (p : PlayerState) (playback : Playback) (id offset : ℕ) → Starts p (steps.start p playback id offset) playback id offset
started p playback id offset = record { keeps = record { modes = refl; crossfade = refl }; playback = refl; current = refl; offset = refl }

current_is : (current : Option ℕ) (id : ℕ) → is_current current id ≡ true → current ≡ Some id
current_is None id e = cc
current_is (Some c) id e = ap (λ (n : ℕ). Some n) (eqb-true c id e)

pub sought : (p : PlayerState) (e : Entry) (frame : ℕ) → Starts p (steps.seek p e frame) (playing_or_paused p.playback) e.id (min frame e.song.frames)
sought p e frame =
    let offset : ℕ = min frame e.song.frames in
    let how : Playback = playing_or_paused p.playback in
    let cases : (b : Bool) → is_current p.current e.id ≡ b → Starts p (if b then steps.sought p offset else steps.start p how e.id offset) how e.id offset =
    λ b. elim b as (λ b. is_current p.current e.id ≡ b → Starts p (if b then steps.sought p offset else steps.start p how e.id offset) how e.id offset) [
      | true ↦ λ is. record { keeps = record { modes = refl; crossfade = refl }; playback = refl; current = current_is p.current e.id is; offset = refl }
      | false ↦ λ other. started p how e.id offset
    ] in
    cases (is_current p.current e.id) refl

-- the song stays where it is
pub record StaysPut (p q : PlayerState) : Type 0 where
  pub current : q.current ≡ p.current
  pub offset : q.offset ≡ p.offset
  pub crossfade : q.crossfade ≡ p.crossfade

pub record Randomizes (p q : PlayerState) (on : Bool) : Type 0 where
  pub stays : StaysPut p q
  pub playback : q.playback ≡ p.playback
  pub random : q.modes.random ≡ on
  pub repeat : q.modes.repeat ≡ p.modes.repeat
  pub single : q.modes.single ≡ p.modes.single
  pub consume : q.modes.consume ≡ p.modes.consume

pub randomized : (p : PlayerState) (entries : List Entry) (on : Bool) → Randomizes p (steps.random p entries on) on
randomized p entries true =
    let round : RoundState = order.randomized p.round entries p.current in
    let cases : (b : Bool) → p.modes.random ≡ b → Randomizes p (if b then p else record p { modes = record p.modes { random = true }; round = round }) true =
    λ b. elim b as (λ b. p.modes.random ≡ b → Randomizes p (if b then p else record p { modes = record p.modes { random = true }; round = round }) true) [
      | true ↦ λ is. record { stays = record { current = refl; offset = refl; crossfade = refl }; playback = refl; random = is; repeat = refl; single = refl; consume = refl }
      | false ↦ λ is. record { stays = record { current = refl; offset = refl; crossfade = refl }; playback = refl; random = refl; repeat = refl; single = refl; consume = refl }
    ] in
    cases p.modes.random refl
randomized p entries false =
    let round : RoundState = draws.emptied p.round in
    let cases : (b : Bool) → p.modes.random ≡ b → Randomizes p (if b then record p { modes = record p.modes { random = false }; round = round } else p) false =
    λ b. elim b as (λ b. p.modes.random ≡ b → Randomizes p (if b then record p { modes = record p.modes { random = false }; round = round } else p) false) [
      | true ↦ λ is. record { stays = record { current = refl; offset = refl; crossfade = refl }; playback = refl; random = refl; repeat = refl; single = refl; consume = refl }
      | false ↦ λ is. record { stays = record { current = refl; offset = refl; crossfade = refl }; playback = refl; random = is; repeat = refl; single = refl; consume = refl }
    ] in
    cases p.modes.random refl

stopped_is : (playback : Playback) → is_stopped playback ≡ true → playback ≡ Stop
stopped_is Stop e = refl
stopped_is Play e = cc
stopped_is Pause e = cc

pub record Stops (p q : PlayerState) : Type 0 where
  pub stays : StaysPut p q
  pub modes : q.modes ≡ p.modes
  pub playback : q.playback ≡ Stop

pub stopped : (p : PlayerState) → Stops p (steps.stop p)
stopped p =
    let cases : (b : Bool) → is_stopped p.playback ≡ b → Stops p (if b then p else cut (halted p p.current)) =
    λ b. elim b as (λ b. is_stopped p.playback ≡ b → Stops p (if b then p else cut (halted p p.current))) [
      | true ↦ λ is. record { stays = record { current = refl; offset = refl; crossfade = refl }; modes = refl; playback = stopped_is p.playback is }
      | false ↦ λ is. record { stays = record { current = refl; offset = refl; crossfade = refl }; modes = refl; playback = refl }
    ] in
    cases (is_stopped p.playback) refl

pub record Pauses (p q : PlayerState) : Type 0 where
  pub stays : StaysPut p q
  pub modes : q.modes ≡ p.modes
  pub still : is_stopped p.playback ≡ true → q.playback ≡ p.playback
  pub paused : is_stopped p.playback ≡ false → q.playback ≡ Pause

pub paused : (p : PlayerState) → Pauses p (steps.pause p true)
paused p =
    let q : PlayerState = record p { playback = Pause } in
    let cases : (b : Bool) → is_stopped p.playback ≡ b → Pauses p (if b then p else q) =
    λ b. elim b as (λ b. is_stopped p.playback ≡ b → Pauses p (if b then p else q)) [
      | true ↦ λ is. record { stays = record { current = refl; offset = refl; crossfade = refl }; modes = refl; still = λ e. refl; paused = λ e. cc }
      | false ↦ λ is. record { stays = record { current = refl; offset = refl; crossfade = refl }; modes = refl; still = λ e. cc; paused = λ e. refl }
    ] in
    cases (is_stopped p.playback) refl
