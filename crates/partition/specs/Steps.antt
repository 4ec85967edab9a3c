-- Events that are no line: they ask no shelf and write to none.
use Rattle.std.specs.Prelude.{◌≡◌, ◌⊎◌, ℕ, true}
use Rattle.player_events.specs.declared.event.Event.{Event}
use Rattle.player_events.specs.declared.event.LogEntry.{LogEntry}
use Rattle.partition.specs.declared.partition.PartitionFault.{PartitionFault}
use Rattle.partition.specs.declared.partition.PartitionFault.TheVariants.{HistoryFull}
use Rattle.player_events.specs.Outcomes.{OutcomeData}
use Rattle.partition.specs.History.{Chronicle, is_full, joined_by, with_room}
use Rattle.partition.specs.Refusals.{MayRefuse}
use Rattle.partition.specs.Step.{limit_of}

-- an entry of the history
abbrev pub entry : ℕ → Event → OutcomeData → LogEntry
entry seat event outcome = record { seat = seat; event = event; told = outcome }

-- an event joined the history, with what was told at it
abbrev pub JoinsTold : Chronicle → Chronicle → ℕ → Event → OutcomeData → Type 0
JoinsTold before after seat event outcome = after ≡ joined_by before (entry seat event outcome)

-- What an event leaves that was refused. A full window is folded first: where there was no memory for that,
-- all is as it was. Else it was refused for the limit that it would pass, or for lack of memory.
abbrev pub RefusesStep : Chronicle → Chronicle → ℕ → Event → PartitionFault → Type 0
RefusesStep before after seat event fault =
    ((fault ≡ HistoryFull) × ((is_full before ≡ true) × (after ≡ before)))
    ⊎ ((after ≡ with_room before) × MayRefuse (limit_of seat before.present event) fault)
