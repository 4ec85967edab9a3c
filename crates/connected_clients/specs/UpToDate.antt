-- Clients that were told what they wait for, and how many notices an event can give.
use Rattle.std.specs.Prelude.{◌≡◌, ◌⊎◌, ◌≤◌, ℕ, false, List, [], ◌∷◌, count_by}
use Rattle.idle_notes.specs.declared.sets.Subsystems.{Subsystems}
use Rattle.idle_notes.specs.Notes.{due}
use Rattle.idle_notes.specs.Sets.{none, is_nonempty}
use Rattle.player_state.specs.declared.state.Client.{Client}
use Rattle.connected_clients.specs.Rooms.{is_waiting}

-- nothing that the client waits for is pending for it
abbrev pub IsUpToDate : Client → Type 0
IsUpToDate client = is_nonempty (due client.pending) ≡ false

abbrev pub AllUpToDate : List Client → Type 0
AllUpToDate [] = Unit {0}
AllUpToDate (client ∷ clients) = IsUpToDate client × AllUpToDate clients

-- nothing is raised for any client
abbrev pub nothing : Client → Subsystems
nothing client = none

-- there is room for the notices to these clients: one for each that waits, or none where nothing is raised
abbrev pub HasRoom : (Client → Subsystems) → List Client → ℕ → Type 0
HasRoom raised clients room = (raised ≡ nothing) ⊎ (count_by is_waiting clients ≤ room)
