-- What steps leave of the queue.
use Rattle.std.proofs.Common.{ℕ, ◌+◌, ◌≤◌, Bool, true, false, not, ◌&&◌, nat_le, List, [], ◌∷◌, Option, Some, None, filter, max, arith, if◌then◌else◌}
use Rattle.song_queue.specs.declared.entry.Entry.{Entry}
use Rattle.song_queue.specs.Past.{greatest_in}
use Rattle.play_order.specs.declared.modes.Modes.{Modes}
use Rattle.play_order.specs.declared.modes.Single.{Single}
use Rattle.play_order.specs.declared.modes.Single.TheVariants as single_mode
use Rattle.play_order.specs.Draws.{RoundState, has_id}
use Rattle.play_order.specs.Order.{entry_of}
use Rattle.play_order.specs.Ends as ends
use Rattle.player_core.specs.declared.state.Job.{Job}
use Rattle.player_core.specs.Player.{PlayerState, given_up, stays, is_playing}
use Rattle.player_core.specs.Steps as steps
use Rattle.player_core.specs.Decoding as decoding
use Rattle.player_state.specs.declared.effect.Effect.{Effect}
use Rattle.player_state.specs.declared.effect.Effect.TheVariants.{ByCommand, ByAudio}
use Rattle.player_state.specs.declared.effect.CommandEffect.TheVariants.{GoesOn}
use Rattle.player_state.specs.declared.effect.AudioStep.TheVariants.{Wants, Accepts}
use Rattle.player_state.specs.declared.state.Part.{Part}
use Rattle.player_state.specs.Outputs.{any_enabled}
use Rattle.player_state.specs.Effects.{Change, ByEdit, ByStep, change_of, entries}

-- a step that leaves something of the queue brings no entry in
abbrev pub Keeps : List Entry → Change → Type 0
Keeps queue (ByEdit edit) = Unit {0}
Keeps queue (ByStep None) = Unit {0}
Keeps queue (ByStep (Some left)) = greatest_in left ≤ greatest_in queue

greatest_in-filter : (p : Entry → Bool) (es : List Entry) → greatest_in (filter p es) ≤ greatest_in es
greatest_in-filter p [] = omega arith
greatest_in-filter p (e ∷ es) =
    let rest : greatest_in (filter p es) ≤ greatest_in es = greatest_in-filter p es in
    elim (p e) as (λ b. greatest_in (if b then e ∷ filter p es else filter p es) ≤ max e.id (greatest_in es)) [ true ↦ omega arith | false ↦ omega arith ]

few_left : (modes : Modes) (es : List Entry) (id : ℕ) → greatest_in (ends.entries_left modes es id) ≤ greatest_in es
few_left modes es id =
    elim (ends.consumes modes.consume) as (λ b. greatest_in (if b then filter (λ e. not (has_id id e)) es else es) ≤ greatest_in es)
    [ true ↦ greatest_in-filter (λ e. not (has_id id e)) es | false ↦ omega arith ]

by_single : (single : Single) (modes : Modes) (round : RoundState) (es : List Entry) (id : ℕ) → greatest_in (ends.end_by single modes round es id).left ≤ greatest_in es
by_single single_mode.Off modes round es id = few_left modes es id
by_single single_mode.On modes round es id = few_left modes es id
by_single single_mode.Oneshot modes round es id = few_left modes es id

ended_keeps : (p : PlayerState) (es : List Entry) (id offset : ℕ) → Keeps es (ByStep (steps.ended p es id offset).edit)
ended_keeps p es id offset = by_single p.modes.single p.modes p.round es id

next_keeps : (p : PlayerState) (es : List Entry) (current : Option ℕ) → Keeps es (ByStep (steps.next_by p es current).edit)
next_keeps p es None = tt
next_keeps p es (Some id) = few_left p.modes es id

found_keeps : (rate : ℕ) (p : PlayerState) (es : List Entry) (id : ℕ) (found : Option Entry) → Keeps es (ByStep (decoding.want_at rate p es id found).stepped.edit)
found_keeps rate p es id None = tt
found_keeps rate p es id (Some entry) =
    let ends_here : decoding.DueJob = record { stepped = steps.ended p es id 0; job = None } in
    let goes_on : decoding.DueJob = decoding.job_for rate p entry (ends.peek p.modes p.round es id) in
    elim (nat_le entry.song.frames p.offset) as (λ b. Keeps es (ByStep (if b then ends_here else goes_on).stepped.edit)) [ true ↦ ended_keeps p es id 0 | false ↦ tt ]

current_keeps : (rate : ℕ) (p : PlayerState) (es : List Entry) (current : Option ℕ) → Keeps es (ByStep (decoding.want_of rate p es current).stepped.edit)
current_keeps rate p es None = tt
current_keeps rate p es (Some id) = found_keeps rate p es id (entry_of es id)

want_keeps : (rate : ℕ) (p : PlayerState) (es : List Entry) (enabled owes : Bool) → Keeps es (ByStep (decoding.want rate p es enabled owes).stepped.edit)
want_keeps rate p es enabled owes =
    elim (is_playing p.playback && enabled && not owes) as (λ b. Keeps es (ByStep (if b then decoding.want_of rate p es p.current else decoding.nothing p).stepped.edit))
    [ true ↦ current_keeps rate p es p.current | false ↦ tt ]

accepted_keeps : (p : PlayerState) (es : List Entry) (job : Job) (count : ℕ) → Keeps es (ByStep (decoding.accepted p es job count).edit)
accepted_keeps p es job count =
    let offset : ℕ = decoding.mixed job.fade count in
    elim (decoding.is_last p es job count)
    as (λ b. Keeps es (ByStep (if b then steps.ended (record p { offset = p.offset + count }) es job.id offset else stays (record p { offset = p.offset + count; job = None })).edit))
    [ true ↦ ended_keeps (record p { offset = p.offset + count }) es job.id offset | false ↦ tt ]

job_keeps : (p : PlayerState) (es : List Entry) (job : Option Job) (number count : ℕ) → Keeps es (ByStep (decoding.have_of p es job number count).stepped.edit)
job_keeps p es None number count = tt
job_keeps p es (Some job) number count =
    let fed_job : decoding.Had = record { stepped = decoding.accepted p es job count; feed = Some p.cuts } in
    let lost : Bool = decoding.has_lost_partner job.fade (steps.peek p es) in
    elim (decoding.answers job number count)
    as (λ a. Keeps es (ByStep (if a then (if lost then decoding.stale (given_up p) else fed_job) else decoding.stale p).stepped.edit)) [
      | true ↦ elim lost as (λ b. Keeps es (ByStep (if b then decoding.stale (given_up p) else fed_job).stepped.edit)) [ true ↦ tt | false ↦ accepted_keeps p es job count ]
      | false ↦ tt
    ]

pub keeps : (rate : ℕ) (part : Part) (effect : Effect) → Keeps (entries part) (change_of rate part effect)
keeps rate part (ByCommand GoesOn) = next_keeps part.player (entries part) part.player.current
keeps rate part (ByAudio (Wants owes)) = want_keeps rate part.player (entries part) (any_enabled part.outputs) owes
keeps rate part (ByAudio (Accepts number frames)) = job_keeps part.player (entries part) part.player.job number frames
keeps rate part _ = tt
