-- How many notices an event can give, and where they are kept.
use Rattle.std.specs.Prelude.{ℕ, Bool, List, [], Option, Some, None, is_some, vec_capacity, if◌then◌else◌}
use Rattle.std.specs.Global.{Box, Vec}
use Rattle.connected_clients.specs.declared.notices.Notice.{Notice}
use Rattle.connected_clients.specs.declared.notices.Notices.{Notices}
use Rattle.player_state.specs.declared.state.Client.{Client}

abbrev pub is_waiting : Client → Bool
is_waiting client = is_some client.pending.waiting

-- at most one for a client that waits
abbrev pub room_for : Client → ℕ
room_for client = if is_waiting client then 1 else 0

abbrev pub items_in : Option (Box (Vec Notice)) → List Notice
items_in None = []
items_in (Some list) = list.value.items

-- the notices that are kept; none where there is no list
abbrev pub listed : Notices → List Notice
listed notices = items_in notices.list

abbrev pub capacity_of : Option (Box (Vec Notice)) → ℕ
capacity_of None = 0
capacity_of (Some list) = vec_capacity list.value

abbrev pub room_in : Notices → ℕ
room_in notices = capacity_of notices.list
