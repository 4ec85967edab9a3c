-- What the calls of its devices tell of a session's end, and of what is left to write.
use Rattle.std.specs.Prelude.{◌≡◌, ◌⊎◌, ◌<◌, ℕ, List, [], Bool, true, false, Option, None, Some}
use Rattle.counted_devices.specs.declared.call_counts.CallCounts.{CallCounts}
use Rattle.counted_devices.specs.CallCounts.{HasFailed, one_blocked, one_call, one_failure}
use Rattle.mpd_session.specs.declared.end.End.{End}
use Rattle.mpd_session.specs.declared.end.End.TheVariants.{NoPeer, ReadFault, Unsent, WriteFault}

-- How one read ends a session: by the peer where it returned no byte, by a fault where it failed, and not at all where
-- it returned some, or would have blocked.
abbrev pub ReadEnds : ℕ → Option End → CallCounts → CallCounts → Type 0
ReadEnds count None old new = ((0 < count) × (new ≡ one_call old)) ⊎ ((count ≡ 0) × (new ≡ one_blocked old))
ReadEnds count (Some NoPeer) old new = (count ≡ 0) × (new ≡ one_call old)
ReadEnds count (Some ReadFault) old new = (count ≡ 0) × (new ≡ one_failure old)
ReadEnds count (Some _) old new = ⊥

-- The reader was not asked, or it returned bytes or would have blocked.
abbrev pub HearsOn : CallCounts → CallCounts → Type 0
HearsOn old new = (new ≡ old) ⊎ ((new ≡ one_call old) ⊎ (new ≡ one_blocked old))

-- What a turn's reader did, by how the session is ended: it failed just where that is for its fault, it returned no
-- byte where that is by the peer, and it did neither else.
abbrev pub EndsByReader : Option End → CallCounts → CallCounts → Type 0
EndsByReader (Some ReadFault) old new = new ≡ one_failure old
EndsByReader (Some NoPeer) old new = new ≡ one_call old
EndsByReader _ old new = HearsOn old new

-- no call of the device failed
abbrev pub NeverFails : CallCounts → CallCounts → Type 0
NeverFails old new = new.failures ≡ old.failures

-- a session that stays open had no call of its writer fail
abbrev pub StaysSound : Option End → CallCounts → CallCounts → Type 0
StaysSound ended old new = ended ≡ None → NeverFails old new

-- Nothing more is written to a session's client.
abbrev pub is_given_up : Option End → Bool
is_given_up (Some Unsent) = true
is_given_up (Some WriteFault) = true
is_given_up _ = false

-- All these bytes are written, or the writer would have blocked or failed; but nothing is where that was given up.
abbrev pub WritesOut : Option End → List ℕ → CallCounts → CallCounts → Type 0
WritesOut ended unsent old new = (is_given_up ended ≡ true) ⊎ ((unsent ≡ []) ⊎ HasFailed old new)
