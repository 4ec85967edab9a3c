-- The flags that stand are the pending sets.
use Rattle.std.proofs.Common.{◌≡◌, List, [], ◌∷◌, map, sym, subst}
use Rattle.std.specs.List.{All}
use Rattle.std.proofs.lemmas.List.Elements.{All-nil, All-cons}
use Rattle.player_events.specs.declared.event.LogEntry.{LogEntry}
use Rattle.partition.specs.Image.{Image}
use Rattle.partition.specs.Legal.{HasPending}
use Rattle.partition.specs.World.{Trace, Listener, WorldTransition, client_in, image_of}
use Rattle.partition.proofs.Pending.{reads_pending}

all_read : (world_transitions : List WorldTransition) (ls : List Listener) → All (HasPending world_transitions) (map (client_in world_transitions) ls)
all_read world_transitions [] = All-nil (HasPending world_transitions)
all_read world_transitions (l ∷ ls) =
    All-cons (HasPending world_transitions) (client_in world_transitions l) (map (client_in world_transitions) ls) (λ subsystem. reads_pending l.number subsystem world_transitions) (all_read world_transitions ls)

-- of any image of a trace
pub flags_stand : (trace : Trace) (done : List LogEntry) (i : Image) → i ≡ image_of trace done → All (HasPending trace.world_transitions) i.clients
flags_stand trace done i e = subst (λ (j : Image). All (HasPending trace.world_transitions) j.clients) (sym e) (all_read trace.world_transitions trace.world.clients)
