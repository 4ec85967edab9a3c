-- The player, and how songs start and stop (MPD protocol reference, Querying MPD's status, `status`;
-- Controlling playback; cuts, starts and jobs, their limit, and fades are this profile's).
use Rattle.std.specs.Prelude.{ℕ, ◌≡◌, ◌↔◌, ◌+◌, ◌≤◌, ◌<◌, ◌^◌, Bool, true, false, ◌&&◌, nat_le, List, Option, Some, None, Result, IsErrOf}
use Rattle.std.specs.Option.{ForSome}
use Rattle.rand_pcg.specs.Lcg.{Lcg}
use Rattle.song_queue.specs.declared.entry.Entry.{Entry}
use Rattle.song_queue.specs.State.{QueueState, edited}
use Rattle.play_order.specs.declared.modes.Modes.{Modes}
use Rattle.play_order.specs.declared.modes.Single.TheVariants as single
use Rattle.play_order.specs.declared.modes.Consume.TheVariants as consume
use Rattle.play_order.specs.Draws.{RoundState}
use Rattle.play_order.specs.Draws as draws
use Rattle.player_core.specs.declared.fault.PlayerFault.{PlayerFault}
use Rattle.player_core.specs.declared.fault.PlayerFault.TheVariants.{CutsAtLimit}
use Rattle.player_core.specs.declared.state.Playback.{Playback}
use Rattle.player_core.specs.declared.state.Playback.TheVariants.{Stop, Play, Pause}
use Rattle.player_core.specs.declared.state.Fade.{Fade}
use Rattle.player_core.specs.declared.state.Job.{Job}

pub record PlayerState : Type 0 where
  pub modes : Modes
  pub round : RoundState
  -- the seconds of a fade
  pub crossfade : ℕ
  pub playback : Playback
  -- the id of the current song
  pub current : Option ℕ
  -- how many frames of the current song were accepted
  pub offset : ℕ
  -- how many songs have started
  pub starts : ℕ
  -- how often frames of earlier blocks were no longer to be heard
  pub cuts : ℕ
  pub error : Option (List ℕ)
  -- the number of the last job
  pub jobs : ℕ
  -- the last job, until it is accepted or void
  pub job : Option Job
  -- the fade that is fixed
  pub fade : Option Fade
  -- whether a fade was given up since the last start or seek
  pub gave_up : Bool
  -- the greatest number of cuts, starts and jobs
  pub max_cut : ℕ

-- a player that has not played
abbrev pub opened : ℕ → Lcg → PlayerState
opened max_cut g = record {
  modes = record { repeat = false; random = false; single = single.Off; consume = consume.Off };
  round = draws.opened g;
  crossfade = 0;
  playback = Stop;
  current = None;
  offset = 0;
  starts = 0;
  cuts = 0;
  error = None;
  jobs = 0;
  job = None;
  fade = None;
  gave_up = false;
  max_cut = max_cut;
}

-- a step is refused where it would raise a number above its limit
abbrev pub is_within : PlayerState → Bool
is_within p = nat_le p.cuts p.max_cut && nat_le p.starts p.max_cut && nat_le p.jobs p.max_cut

-- a step is refused at a limit exactly where the player that it would leave has a number above it
abbrev pub IsRefusedAtLimit : {A : Type 0} → Result A PlayerFault → PlayerState → Type 0
IsRefusedAtLimit result after = IsErrOf result CutsAtLimit ↔ (is_within after ≡ false)

-- what is true of each player: its numbers are within their limit, and what a job asks for can be counted
pub record IsPlayer (p : PlayerState) : Type 0 where
  pub cuts : p.cuts ≤ p.max_cut
  pub starts : p.starts ≤ p.max_cut
  pub jobs : p.jobs ≤ p.max_cut
  pub max_cut : p.max_cut < 9223372036854775808
  pub job : ForSome p.job (λ j. (p.offset + j.count < 2 ^ 64) × ForSome j.fade (λ f. f.index ≤ p.offset))

-- what a step leaves: the player, and what is left of the queue where a song has ended
pub record Stepped : Type 0 where
  pub player : PlayerState
  pub edit : Option (List Entry)

abbrev pub stays : PlayerState → Stepped
stays p = record { player = p; edit = None }

-- the queue after a step
abbrev pub queue_after : QueueState → Option (List Entry) → QueueState
queue_after q None = q
queue_after q (Some entries) = edited q entries

-- a player and its queue
pub record PlayerAndQueue : Type 0 where
  pub player : PlayerState
  pub queue : QueueState

-- the two after a step
abbrev pub both_after : QueueState → Stepped → PlayerAndQueue
both_after q stepped = record { player = stepped.player; queue = queue_after q stepped.edit }

abbrev pub is_stopped : Playback → Bool
is_stopped Stop = true
is_stopped Play = false
is_stopped Pause = false

abbrev pub is_playing : Playback → Bool
is_playing Stop = false
is_playing Play = true
is_playing Pause = false

abbrev pub is_paused : Playback → Bool
is_paused Stop = false
is_paused Play = false
is_paused Pause = true

-- a pause stays, and else the player plays
abbrev pub playing_or_paused : Playback → Playback
playing_or_paused Stop = Play
playing_or_paused Play = Play
playing_or_paused Pause = Pause

-- frames of earlier blocks are no longer to be heard
abbrev pub cut : PlayerState → PlayerState
cut p = record p { cuts = p.cuts + 1 }

-- what was asked of the decoder is void, and no fade is fixed
abbrev pub voided : PlayerState → PlayerState
voided p = record p { job = None; fade = None }

abbrev pub given_up : PlayerState → PlayerState
given_up p = record (voided p) { gave_up = true }

-- the entry with an id starts at an offset; what its start does to the round is said with each step
abbrev pub started : PlayerState → Playback → ℕ → ℕ → PlayerState
started p playback id offset = record (voided p) {
  playback = playback;
  current = Some id;
  offset = offset;
  starts = p.starts + 1;
  error = None;
  gave_up = false;
}

-- the player stops, with this current song; its offset stays
abbrev pub halted : PlayerState → Option ℕ → PlayerState
halted p current = record (voided p) { playback = Stop; current = current }

-- an entry starts at an offset, or the player stops where there is none
abbrev pub goes_on : PlayerState → Playback → Option ℕ → ℕ → Option ℕ → PlayerState
goes_on p playback (Some id) offset current = started p playback id offset
goes_on p playback None offset current = halted p current

-- an entry starts by hand, if there is one: with a cut
abbrev pub starts_by_hand : PlayerState → Playback → Option ℕ → ℕ → PlayerState
starts_by_hand p playback (Some id) offset = cut (started p playback id offset)
starts_by_hand p playback None offset = p
