-- What is pending for a client, and when it is told (MPD protocol reference, Querying MPD's status, `idle`;
-- that a notice clears also what was not named is this profile's).
use Rattle.std.specs.Prelude.{Option, Some, None, if◌then◌else◌}
use Rattle.idle_notes.specs.declared.pending.Pending.{Pending}
use Rattle.idle_notes.specs.declared.sets.Subsystems.{Subsystems}
use Rattle.idle_notes.specs.Sets.{none, all, union, meet, is_nonempty}

-- nothing is pending, and the client does not wait
abbrev pub fresh : Pending
fresh = record { waiting = None; changed = none }

-- everything is pending, and the client does not wait
abbrev pub everything : Pending
everything = record { waiting = None; changed = all }

-- what was raised joins what changed
abbrev pub noted : Subsystems → Pending → Pending
noted raised p = record p { changed = union p.changed raised }

abbrev pub waits : Subsystems → Pending → Pending
waits named p = record p { waiting = Some named }

abbrev pub cancelled : Pending → Pending
cancelled p = record p { waiting = None }

-- what changed of what is named
abbrev pub named_among : Option Subsystems → Subsystems → Subsystems
named_among None changed = none
named_among (Some named) changed = meet changed named

-- what a client that waits is to be told
abbrev pub due : Pending → Subsystems
due p = named_among p.waiting p.changed

abbrev pub notice_of : Pending → Option Subsystems
notice_of p = if is_nonempty (due p) then Some (due p) else None

-- a client that is told waits no more, and nothing is pending
abbrev pub up_to_date : Pending → Pending
up_to_date p = if is_nonempty (due p) then fresh else p
