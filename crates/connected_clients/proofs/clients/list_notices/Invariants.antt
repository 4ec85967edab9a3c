use Rattle.std.proofs.Common.{◌≡◌, ◌≤◌, ◌+◌, ◌++◌, length, take, drop, count_by}
use Rattle.std.specs.List.{flat_map}
use Rattle.connected_clients.specs.Clients.{notice_for}
use Rattle.connected_clients.specs.Fingerprint.{raised_in}
use Rattle.connected_clients.specs.Rooms.{is_waiting, listed, room_in}
use Rattle.connected_clients.proofs.clients.list_notices.Given as goal

abbrev pub invariant-loop-client : goal.invariant-loop-client
invariant-loop-client l =
    record {
      list : listed l.notices ≡ listed l.initial.notices ++ flat_map (notice_for (raised_in l.raised)) (take l.client-index l.clients);
      room : length (listed l.notices) + count_by is_waiting (drop l.client-index l.clients) ≤ room_in l.notices;
      few : length (listed l.notices) + count_by is_waiting (drop l.client-index l.clients) ≤ length (listed l.initial.notices) + count_by is_waiting l.clients;
    }
