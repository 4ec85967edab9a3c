use Rattle.std.proofs.Common.{◌≡◌, map}
use Rattle.std.specs.List.{AllWithin}
use Rattle.idle_notes.specs.Channels.{data_of, IsReady}
use Rattle.idle_notes.proofs.channels.make_room.Given as goal

abbrev pub invariant-loop-member : goal.invariant-loop-member
invariant-loop-member l =
    record {
      room : AllWithin (IsReady l.name) l.members 0 l.member-index;
      same : map data_of l.members ≡ map data_of l.initial.members;
    }
