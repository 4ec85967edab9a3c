-- Why a session is closed: what its turns answer of that, and what is left to do for its client.
use Rattle.std.specs.Prelude.{◌≡◌, ◌⊎◌, Bool, true, false, Option, None, Some, Result, Ok, Err}
use Rattle.mpd_session.specs.declared.end.End.{End}
use Rattle.mpd_session.specs.declared.end.End.TheVariants.{Left, Killed, Unsent, ReadFault, WriteFault}
use Rattle.mpd_session.specs.declared.end.SessionFault.{SessionFault}
use Rattle.mpd_session.specs.declared.end.SessionFault.TheVariants as fault

-- By an answer that closes it the player took the client out. Of every other end it knows nothing yet.
abbrev pub is_by_answer : End → Bool
is_by_answer Left = true
is_by_answer Killed = true
is_by_answer _ = false

-- What is unsent is not written any more: a device failed, or there was too much.
abbrev pub gives_up : End → Bool
gives_up Unsent = true
gives_up ReadFault = true
gives_up WriteFault = true
gives_up _ = false

-- what the turn answers that closes a session: which device failed, or why else it is closed
abbrev pub closing_answer : End → Result (Option End) SessionFault
closing_answer ReadFault = Err fault.ReadFault
closing_answer WriteFault = Err fault.WriteFault
closing_answer end = Ok (Some end)

-- what the turn of an open session answers that leaves it so, and did all that there was to do, or did not
abbrev pub turn_answer : Option End → Bool → Result (Option End) SessionFault
turn_answer (Some end) all = closing_answer end
turn_answer None true = Ok None
turn_answer None false = Err fault.NoMemory

-- What a turn answers, by why the session was closed before it, if it was, and why it is closed after it, if it is:
-- a closed session stays so and says why, one that is closed now says how, and one that is open goes on or is short
-- of memory.
abbrev pub TellsEnd : Option End → Option End → Result (Option End) SessionFault → Type 0
TellsEnd (Some end) ended answer = (ended ≡ Some end) × (answer ≡ Ok (Some end))
TellsEnd None (Some end) answer = answer ≡ closing_answer end
TellsEnd None None answer = (answer ≡ Ok None) ⊎ (answer ≡ Err fault.NoMemory)
