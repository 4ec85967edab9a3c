-- What an event raises, and whom it tells, said of the worlds before and after it and of the transitions
-- before it (MPD protocol reference, Querying MPD's status, `idle`; that a notice clears also what was not
-- named is this profile's).
use Rattle.std.specs.Prelude.{◌≡◌, ◌≢◌, ◌↔◌, ◌⊎◌, ◌<◌, ℕ, true, false, List, [], ◌∷◌, ◌++◌, reverse, map, Option, Some, None, codes}
use Rattle.idle_notes.specs.declared.sets.Subsystems.{Subsystems}
use Rattle.idle_notes.specs.declared.subsystem.Subsystem.{Subsystem}
use Rattle.idle_notes.specs.Channels.{pairs}
use Rattle.idle_notes.specs.Names.{changed_lines}
use Rattle.mpd_text.specs.declared.songs.song.TagName.{TagName}
use Rattle.idle_notes.specs.Sets.{has}
use Rattle.mpd_command.specs.declared.command.Command.TheVariants as command_group
use Rattle.mpd_command.specs.declared.status.StatusCommand.TheVariants as status_command
use Rattle.mpd_command.specs.declared.name.Name.{Name}
use Rattle.mpd_command.specs.declared.request.Request.TheVariants.{Run}
use Rattle.player_events.specs.declared.event.Event.{Event}
use Rattle.player_events.specs.declared.event.Event.TheVariants.{Line}
use Rattle.player_events.specs.declared.event.LogEntry.{LogEntry}
use Rattle.transitions.specs.declared.reply.Next.TheVariants.{Goes, Waits}
use Rattle.connected_clients.specs.declared.notices.Notice.{Notice}
use Rattle.transitions.specs.declared.asked.ListPlace.TheVariants.{Alone}
use Rattle.player_core.specs.Player.{PlayerState}
use Rattle.player_events.specs.Outcomes.{OutcomeData}
use Rattle.transitions.specs.declared.shelf_calls.StoreReply.{StoreReply}
use Rattle.partition.specs.Step.{sender}
use Rattle.partition.specs.World.{PartWorld, World, WorldTransition, Differs, DiffersForAll, DiffersWithin, IsPending, is_told, raised_at}

-- a player's order and its decoder's work, of which no subsystem speaks: the random round, the offset in the
-- song, the jobs and the fade
abbrev pub with_order_of : PlayerState → PlayerState → PlayerState
with_order_of p other = record p { round = other.round; offset = other.offset; jobs = other.jobs; job = other.job; fade = other.fade; gave_up = other.gave_up }

-- what a partition owns is the same except for the order of play and the decoder's work, which outputs that are off
-- are in it, how often they were moved, which have failed and which the last job is for, the messages that wait,
-- and how many frames were decoded
abbrev pub AgreesButForUnwatched : PartWorld → PartWorld → Type 0
AgreesButForUnwatched before after =
    (after ≡ record before {
      player = with_order_of before.player after.player;
      outputs = record after.outputs { names = before.outputs.names; here = before.outputs.here; enabled = before.outputs.enabled };
      channels = after.channels;
      played = after.played;
    })
    × (pairs before.channels ≡ pairs after.channels)

-- each of some partitions agrees so with the one at the same index of others
abbrev pub AllAgree : List PartWorld → List PartWorld → Type 0
AllAgree [] [] = Unit {0}
AllAgree [] (after ∷ afters) = ⊥
AllAgree (before ∷ befores) [] = ⊥
AllAgree (before ∷ befores) (after ∷ afters) = AgreesButForUnwatched before after × AllAgree befores afters

-- two worlds are one except for that, for who is there, who waits, which tags each is shown and in which partition
-- each is, and for whether the daemon has ended
abbrev pub AgreeButForUnwatched : World → World → Type 0
AgreeButForUnwatched before after =
    (after ≡ record before { parts = after.parts; clients = after.clients; ended = after.ended }) × AllAgree before.parts after.parts

-- nothing that a subsystem speaks of differs between any partition and the one at the same index
abbrev pub NoneDiffers : List PartWorld → List PartWorld → Type 0
NoneDiffers (before ∷ befores) (after ∷ afters) =
    ((number : ℕ) (subsystem : Subsystem) → DiffersWithin number subsystem before after → ⊥) × NoneDiffers befores afters
NoneDiffers _ _ = Unit {0}

-- A subsystem is raised for a client exactly where it goes to another partition, or the part of the subsystem
-- differs where it is. Where no part differs, neither of those of all nor of those of any partition, whether a
-- client is in it or not, the worlds agree in all but what no subsystem speaks of, so that whatever else an event
-- changes has a part that speaks of it.
pub record Raises (world_transition : WorldTransition) : Type 0 where
  pub each : (number : ℕ) (subsystem : Subsystem) → (has (raised_at number world_transition) subsystem ≡ true) ↔ Differs number subsystem world_transition
  pub all : ((subsystem : Subsystem) → DiffersForAll subsystem world_transition → ⊥) → NoneDiffers world_transition.before.parts world_transition.after.parts
      → AgreeButForUnwatched world_transition.before world_transition.after

-- it is one of these
abbrev pub IsIn : {A : Type 0} → A → List A → Type 0
IsIn x [] = ⊥
IsIn x (y ∷ ys) = (y ≡ x) ⊎ IsIn x ys

-- a client is there, in some partition and shown some tags, and this is what it waits for, if it waits
abbrev pub Listens : ℕ → Option Subsystems → World → Type 0
Listens number waiting w =
    (index : ℕ) × (tags : List TagName) × IsIn (record { number = number; index = index; tags = tags; waiting = waiting }) w.clients

-- a client is there, and waits for these
abbrev pub WaitsFor : ℕ → Subsystems → World → Type 0
WaitsFor number named w = Listens number (Some named) w

-- a client is there, and does not wait
abbrev pub WaitsNot : ℕ → World → Type 0
WaitsNot number w = Listens number None w

abbrev pub IsThere : ℕ → World → Type 0
IsThere number w = (waiting : Option Subsystems) × Listens number waiting w

-- by this transition a subsystem changed for a client: it was pending before, or its part differs now
abbrev pub HasChanged : ℕ → Subsystem → WorldTransition → List WorldTransition → Type 0
HasChanged number subsystem world_transition earlier = IsPending number subsystem earlier ⊎ Differs number subsystem world_transition

-- these are the subsystems of a named set that changed for a client, and there is one
pub record Meets (number : ℕ) (named names : Subsystems) (world_transition : WorldTransition) (earlier : List WorldTransition) : Type 0 where
  pub each : (subsystem : Subsystem) → (has names subsystem ≡ true) ↔ ((has named subsystem ≡ true) × HasChanged number subsystem world_transition earlier)
  pub some : (subsystem : Subsystem) × (has names subsystem ≡ true)

-- a client waited before the event and stays, and these are what changed of what it waits for
pub record HasNews (number : ℕ) (names : Subsystems) (world_transition : WorldTransition) (earlier : List WorldTransition) : Type 0 where
  pub named : Subsystems
  pub waited : WaitsFor number named world_transition.before
  pub stays : IsThere number world_transition.after
  pub meets : Meets number named names world_transition earlier

abbrev pub IsSent : ℕ → Subsystems → WorldTransition → Type 0
IsSent number names world_transition = IsIn (record { client = number; names = names }) world_transition.notices

-- after the event the client does not wait, and nothing is pending for it
pub record IsClear (number : ℕ) (world_transition : WorldTransition) (earlier : List WorldTransition) : Type 0 where
  pub waits : WaitsNot number world_transition.after
  pub pending : (subsystem : Subsystem) → IsPending number subsystem (world_transition ∷ earlier) → ⊥

-- every notice is for a client above this
abbrev pub AllBeyond : ℕ → List Notice → Type 0
AllBeyond number [] = Unit {0}
AllBeyond number (notice ∷ notices) = (number < notice.client) × AllBeyond number notices

-- notices are in the order of their clients, and none has two
abbrev pub NoticesRise : List Notice → Type 0
NoticesRise [] = Unit {0}
NoticesRise (notice ∷ notices) = AllBeyond notice.client notices × NoticesRise notices

-- a client that did not wait asks what changed of these, on a line alone
pub record Asks (number : ℕ) (named : Subsystems) (world_transition : WorldTransition) : Type 0 where
  pub name : Name
  pub heard : StoreReply
  pub event : world_transition.event ≡ Line number Alone (Run name (command_group.Status (status_command.Idle named))) heard
  pub free : WaitsNot number world_transition.before

-- a client was told what changed: by a notice, or as the answer to its `idle`
abbrev pub IsToldNews : ℕ → WorldTransition → List WorldTransition → Type 0
IsToldNews number world_transition earlier =
    ((names : Subsystems) × IsSent number names world_transition)
    ⊎ ((named : Subsystems) × (names : Subsystems) × Asks number named world_transition × Meets number named names world_transition earlier)

-- Whom a transition tells. A notice goes to a client exactly where it waited and stays, and something changed
-- of what it waits for; the notice names that; then the client waits no more and nothing is pending for it.
-- Notices are in the order of their clients. A client that is sent none waits on, if the event is another's.
-- A client that asks by `idle` gets what changed as its answer, with nothing pending after it; where nothing
-- changed it waits, without an answer. No other client begins to wait, and no other event counts as the last
-- notice of a client.
pub record Tells (world_transition : WorldTransition) (earlier : List WorldTransition) : Type 0 where
  pub sent : (number : ℕ) (names : Subsystems) → IsSent number names world_transition ↔ HasNews number names world_transition earlier
  pub clear : (number : ℕ) (names : Subsystems) → IsSent number names world_transition → IsClear number world_transition earlier
  pub rising : NoticesRise world_transition.notices
  pub waits_on : (number : ℕ) (named : Subsystems) → sender world_transition.event ≢ Some number → WaitsFor number named world_transition.before
      → ((names : Subsystems) → IsSent number names world_transition → ⊥) → WaitsFor number named world_transition.after
  pub answered : (number : ℕ) (named names : Subsystems) → Asks number named world_transition → Meets number named names world_transition earlier
      → (world_transition.transition.response.answer ≡ record { text = changed_lines names ++ codes "OK\n"; next = Goes; refused = false }) × IsClear number world_transition earlier
  pub waits : (number : ℕ) (named : Subsystems) → Asks number named world_transition
      → ((subsystem : Subsystem) → has named subsystem ≡ true → HasChanged number subsystem world_transition earlier → ⊥)
      → (world_transition.transition.response.answer ≡ record { text = []; next = Waits; refused = false }) × WaitsFor number named world_transition.after
  pub begins : (number : ℕ) (named : Subsystems) → WaitsFor number named world_transition.after → WaitsFor number named world_transition.before ⊎ Asks number named world_transition
  pub told : (number : ℕ) → is_told number world_transition ≡ true → IsToldNews number world_transition earlier

-- at each transition, with the transitions before it
abbrev pub EachWorldTransition : (WorldTransition → List WorldTransition → Type 0) → List WorldTransition → Type 0
EachWorldTransition P [] = Unit {0}
EachWorldTransition P (world_transition ∷ earlier) = P world_transition earlier × EachWorldTransition P earlier

-- an event, and what was told at it
abbrev pub outcome_at : WorldTransition → Event × OutcomeData
outcome_at world_transition = (world_transition.event, record { answer = world_transition.transition.response.answer; notices = world_transition.notices; report = world_transition.report })

abbrev pub outcome_in : LogEntry → Event × OutcomeData
outcome_in log_entry = (log_entry.event, log_entry.told)

-- the events of a history, and what was told at each, are those of the transitions, the latest of which is
-- first
abbrev pub AreOutcomes : List WorldTransition → List LogEntry → Type 0
AreOutcomes world_transitions history = map outcome_at (reverse world_transitions) ≡ map outcome_in history
