-- What a session holds, and what a turn does.
use Rattle.std.specs.Prelude.{◌≡◌, ◌≢◌, ◌⊎◌, ◌<◌, ◌≤◌, ◌-◌, ◌^◌, ℕ, List, [], ◌∷◌, ◌++◌, length, map, Option, Some, None, Bool, false, true, not, ◌&&◌, is_none, if◌then◌else◌, Result, Ok, Err}
use Rattle.std.specs.Io.KnownBytes.{Appends, Consumes}
use Rattle.mpd_text.specs.Lines.Cut.{Split, split_from}
use Rattle.mpd_text.specs.Lines.Split.{line_of, views}
use Rattle.counted_devices.specs.declared.call_counts.CallCounts.{CallCounts}
use Rattle.command_lists.specs.Lists.{LineData}
use Rattle.house.specs.Seats.{SeatCount}
use Rattle.mpd_session.specs.Answers.{Caller, at_uptime, caller}
use Rattle.mpd_session.specs.declared.asker.Asker.{Asker}
use Rattle.transitions.specs.declared.reply.Next.{Next}
use Rattle.transitions.specs.declared.reply.Next.TheVariants.{Goes, Waits, Closes, Kills}
use Rattle.mpd_session.specs.declared.conversation.Conversation.{Conversation}
use Rattle.mpd_session.specs.declared.end.End.{End}
use Rattle.mpd_session.specs.declared.end.End.TheVariants.{Left, Killed, LongLine, LargeList, Unsent, NoPeer, ReadFault, WriteFault}
use Rattle.mpd_session.specs.declared.end.SessionFault.{SessionFault}
use Rattle.mpd_session.specs.declared.end.SessionFault.TheVariants.{NoMemory}
use Rattle.mpd_session.specs.Devices.{EndsByReader, WritesOut}
use Rattle.mpd_session.specs.Notices.{AreNotices}
use Rattle.mpd_session.specs.Output.{IsOutput, IsLastOutput}
use Rattle.mpd_session.specs.Owing.{is_nothing, owed_bytes}
use Rattle.mpd_session.specs.Requests.{Asking, ListState, Within, Over, gather, is_over}

-- what came of the stream and is not answered: what has come of a list, lines, the start of a line, and a
-- piece that was not split
pub record Pending : Type 0 where
  pub list : ListState
  pub lines : List LineData
  pub next : Option (List ℕ)
  pub piece : List ℕ

-- the lines that a piece ends; nothing changes where nothing came
abbrev pub fed : Option (List ℕ) → List ℕ → Split
fed next [] = record { lines = []; next = next }
fed next (b ∷ bs) = split_from next (b ∷ bs)

-- all that is asked in what came, what has come of a list after that, and the start of a line after that
pub record Coming : Type 0 where
  pub asked : List Asking
  pub list : ListState
  pub next : Option (List ℕ)

abbrev pub coming_from : ListState → List LineData → Option (List ℕ) → Coming
coming_from state lines next = record { asked = (gather state lines).asked; list = (gather state lines).list; next = next }

unfoldable pub coming : Pending → Coming
coming p = coming_from p.list (p.lines ++ map line_of (fed p.next p.piece).lines) (fed p.next p.piece).next

abbrev pub ahead : List Asking → Coming → Coming
ahead asked c = record { asked = asked ++ c.asked; list = c.list; next = c.next }

-- the same with more bytes after
abbrev pub read_on : Pending → List ℕ → Pending
read_on p bytes = record { list = p.list; lines = p.lines; next = p.next; piece = p.piece ++ bytes }

-- what a session holds: what is not answered, the bytes that are not written, and why it is closed
pub record Held : Type 0 where
  pub pending : Pending
  pub unsent : List ℕ
  pub ended : Option End

abbrev pub pending_of : Conversation → Pending
pending_of c = record { list = c.gatherer; lines = views c.lines.items; next = c.splitter; piece = c.piece.items }

abbrev pub held_of : Conversation → Held
held_of c = record { pending = pending_of c; unsent = c.unsent ++ owed_bytes c.owed; ended = c.ended }

abbrev pub is_some_byte : List ℕ → Bool
is_some_byte [] = false
is_some_byte (b ∷ bs) = true

-- whose session it is, what it holds, whether some of the unsent bytes are owed: not put after the others yet, for
-- lack of memory; and whether its client waits for a notice
pub record SessionData : Type 0 where
  pub asker : Asker
  pub held : Held
  pub owes : Bool
  pub waits : Bool

abbrev pub session_of : Conversation → SessionData
session_of c = record { asker = c.asker; held = held_of c; owes = not (is_nothing c.owed); waits = c.waits }

-- a session whose client is told for how many seconds the daemon has been running
abbrev pub with_uptime : SessionData → Option ℕ → SessionData
with_uptime s uptime = record s { asker = at_uptime s.asker uptime }

-- whether bytes are not written, or are owed
abbrev pub has_unsent : SessionData → Bool
has_unsent s = if s.owes then true else is_some_byte s.held.unsent

-- a client that is not closed may have to be told something
abbrev pub may_wait : SessionData → Bool
may_wait s = s.waits && is_none s.held.ended

-- All bytes for the client are written, or some are owed for lack of memory, or the writer would have blocked or
-- failed; but nothing is written where that was given up.
abbrev pub WritesAll : SessionData → CallCounts → CallCounts → Type 0
WritesAll s old new = (s.owes ≡ true) ⊎ WritesOut s.held.ended s.held.unsent old new

-- Something is not done that came or is owed: a piece is not split, a line is not run, or bytes are owed.
abbrev pub HasMore : SessionData → Type 0
HasMore s = (s.held.pending.piece ≢ []) ⊎ (s.held.pending.lines ≢ []) ⊎ (s.owes ≡ true)

-- A piece that was read is not split.
abbrev pub HasPiece : Conversation → Type 0
HasPiece c = c.piece.items ≢ []

-- Memory ran out where something is not done, or before the reader was asked.
abbrev pub IsShort : SessionData → CallCounts → CallCounts → Type 0
IsShort s reader reader' = HasMore s ⊎ (reader' ≡ reader)

-- the same of a conversation, where a reader's calls are counted so
abbrev pub StopsShort : {I : Type 0} → (I → CallCounts) → Conversation → I → I → Type 0
StopsShort counts c reader reader' = IsShort (session_of c) (counts reader) (counts reader')

-- what was written and what is not grow by the output, and bytes go from the second to the first
abbrev pub Grows : Option (List ℕ) → List ℕ → Option (List ℕ) → List ℕ → List ℕ → Type 0
Grows old unsent new unsent' output = (sent : List ℕ) × Appends old new sent × (unsent ++ output ≡ sent ++ unsent')

abbrev pub with_read : Held → List ℕ → Held
with_read h bytes = record { pending = read_on h.pending bytes; unsent = h.unsent; ended = h.ended }

-- What stands before a turn, or after it: what the session holds, what its caller has, which bytes are left to the
-- reader, and which the writer has taken, as far as these two are known.
pub record Side (P : Type 0) : Type 0 where
  pub held : Held
  pub has : P
  pub unread : Option (List ℕ)
  pub written : Option (List ℕ)

-- the same, where the caller has a seat and a shelf
abbrev pub side : {S : Type 0} → Held → SeatCount → S → Option (List ℕ) → Option (List ℕ) → Side (Caller S)
side held seat shelf unread written = record { held = held; has = caller seat shelf; unread = unread; written = written }

-- `P` is what the caller has, and changes with each answer.
module _ {P : Type 0} (Answers : P → Asking → List ℕ → Next → P → Type 0) where
  -- The first of what was asked is answered, and the rest is left.
  abbrev pub Continues : Coming → P → Coming → P → List ℕ → Type 0
  Continues whole p left q output = (asked : List Asking) × (whole ≡ ahead asked left) × IsOutput Answers p asked output q

  -- The first of what was asked is answered, and the rest never is.
  abbrev pub StopsIn : List Asking → P → P → List ℕ → Type 0
  StopsIn asked p q output = (front more : List Asking) × (asked ≡ front ++ more) × IsOutput Answers p front output q

  -- This was asked, and its answer is the last.
  abbrev pub EndsAt : Next → List Asking → P → P → List ℕ → Type 0
  EndsAt next asked p q output =
      (front more : List Asking) × (last : Asking) × (asked ≡ front ++ last ∷ more) × IsLastOutput Answers p front last next output q

  -- what was answered where a session was closed
  abbrev pub EndsBy : End → Coming → P → P → List ℕ → List ℕ → Type 0
  -- by an answer
  EndsBy Left whole p q output unsent = EndsAt Closes whole.asked p q output
  EndsBy Killed whole p q output unsent = EndsAt Kills whole.asked p q output
  -- by a line that is too long: all before it is answered
  EndsBy LongLine whole p q output unsent = IsOutput Answers p whole.asked output q × (whole.next ≡ None)
  -- by a list that is too large: all before it is answered
  EndsBy LargeList whole p q output unsent = IsOutput Answers p whole.asked output q × (whole.list ≡ Over)
  -- by the peer: all that came is answered
  EndsBy NoPeer whole p q output unsent = IsOutput Answers p whole.asked output q
  -- by too many bytes that are not written
  EndsBy Unsent whole p q output unsent = StopsIn whole.asked p q output × (16777216 < length unsent)
  -- by a device
  EndsBy ReadFault whole p q output unsent = StopsIn whole.asked p q output
  EndsBy WriteFault whole p q output unsent = StopsIn whole.asked p q output

  abbrev pub StepsTo : Option End → Coming → P → Held → P → List ℕ → Type 0
  StepsTo None whole p new q output = Continues whole p (coming new.pending) q output
  StepsTo (Some end) whole p new q output = EndsBy end whole p q output new.unsent

  -- what was answered of all that came
  abbrev pub Steps : Coming → P → Held → P → List ℕ → Type 0
  Steps whole p new q output = StepsTo new.ended whole p new q output

  -- without a writer
  abbrev pub Says : Held → P → Held → P → Type 0
  Says old p new q = (output : List ℕ) × Steps (coming old.pending) p new q output × (new.unsent ≡ old.unsent ++ output)

  -- with a writer that holds these bytes before and after
  abbrev pub Runs : Held → P → Option (List ℕ) → Held → P → Option (List ℕ) → Type 0
  Runs old p written new q written' =
      (output : List ℕ) × Steps (coming old.pending) p new q output × Grows written old.unsent written' new.unsent output

  -- A turn: some bytes are read, and what is written or held unsent grows by an output for what is asked in
  -- all that came.
  abbrev pub Turns : Side P → Side P → Type 0
  Turns old new =
      (read : List ℕ) × Consumes old.unread new.unread read
      × Runs (with_read old.held read) old.has old.written new.held new.has new.written

  -- Two turns, one after the other, write what one turn may write that reads the bytes of both.
  abbrev pub TurnsJoin : Type 0
  TurnsJoin = (old mid new : Side P) → mid.held.ended ≡ None → Turns old mid → Turns mid new → Turns old new

-- A turn of a closed session: nothing is read, run or said.
abbrev pub StaysClosed : Held → Option (List ℕ) → Held → Option (List ℕ) → Type 0
StaysClosed old written new written' = (new.pending ≡ old.pending) × (new.ended ≡ old.ended) × Grows written old.unsent written' new.unsent []

-- the same of a session, where it was closed; the bytes that a writer has taken are told so
abbrev pub StaysIfClosed : {O : Type 0} → (O → Option (List ℕ)) → SessionData → SessionData → O → O → Type 0
StaysIfClosed contents old new writer writer' =
    old.held.ended ≢ None → StaysClosed old.held (contents writer) new.held (contents writer')

-- a turn of a closed session writes all that there is, as far as its writer goes, whose calls are counted so
abbrev pub WritesAllIfClosed : {O : Type 0} → (O → CallCounts) → SessionData → SessionData → O → O → Type 0
WritesAllIfClosed counts old new writer writer' = old.held.ended ≢ None → WritesAll new (counts writer) (counts writer')

-- a turn of an open session leaves it as its reader did, whose calls are counted so: ended by a fault of it, or by the
-- peer, or by neither
abbrev pub EndsByItsReader : {I : Type 0} → (I → CallCounts) → SessionData → SessionData → I → I → Type 0
EndsByItsReader counts old new reader reader' =
    old.held.ended ≡ None → EndsByReader new.held.ended (counts reader) (counts reader')

-- An open session that passed no limit: no line came that is too long, no list that is too large, and no more
-- than 16 MiB are not written.
abbrev pub IsWithinLimits : Held → Type 0
IsWithinLimits held = (held.pending.next ≢ None) × (is_over held.pending.list ≡ false) × (length held.unsent ≤ 16777216)

-- a session that was closed asks its reader no more
abbrev pub ReadsNoMore : Held → CallCounts → CallCounts → Type 0
ReadsNoMore held old new = held.ended ≢ None → new ≡ old

-- an open session that has run all lines that came
abbrev pub HasRunAll : Held → Type 0
HasRunAll held = (held.ended ≡ None) × (held.pending.lines ≡ []) × (held.pending.piece ≡ [])

-- a session that greets its client so, of which nothing came
abbrev pub opening : List ℕ → Held
opening greeting = record { pending = record { list = Within None; lines = []; next = Some []; piece = [] }; unsent = greeting; ended = None }

-- the session of a client that was greeted so: nothing came, and it waits for nothing
abbrev pub new_session : Asker → List ℕ → SessionData
new_session asker greeting = record { asker = asker; held = opening greeting; owes = false; waits = false }

-- the unsent bytes grow by notices, or by none
abbrev pub TellsOf : List ℕ → List ℕ → Type 0
TellsOf old new = (notices : List ℕ) × AreNotices notices × (new ≡ old ++ notices)

-- a read leaves a session open, or ends it and gives nothing
abbrev pub ReadsAs : Option End → List ℕ → Option End → Type 0
ReadsAs old piece new = (new ≡ old) ⊎ ((piece ≡ []) × ((new ≡ Some NoPeer) ⊎ (new ≡ Some ReadFault)))

-- what bytes that are read leave of all that came: it stays; or the peer sends no more, and nothing is asked
-- any more; or the reader failed
abbrev pub ReadsTo : Option End → Coming → Held → Type 0
ReadsTo None whole new = whole ≡ coming new.pending
ReadsTo (Some NoPeer) whole new = whole.asked ≡ []
ReadsTo (Some ReadFault) whole new = Unit {0}
ReadsTo (Some _) whole new = ⊥

-- bytes are read, and perhaps split; nothing is answered
abbrev pub ReadsOn : Held → Option (List ℕ) → Held → Option (List ℕ) → Type 0
ReadsOn old unread new unread' =
    (read : List ℕ) × Consumes unread unread' read × ReadsTo new.ended (coming (read_on old.pending read)) new × (new.unsent ≡ old.unsent)

-- what a write leaves: an open session is ended where the writer fails, or where too much is left
abbrev pub SentAs : Option End → List ℕ → Option End → List ℕ → Type 0
SentAs old unsent new unsent' =
    ((new ≡ old) × (old ≡ Some Unsent → unsent' ≡ unsent))
    ⊎ ((old ≡ None) × ((new ≡ Some WriteFault) ⊎ ((new ≡ Some Unsent) × (16777216 < length unsent'))))

abbrev pub Sends : Held → Option (List ℕ) → Held → Option (List ℕ) → Type 0
Sends old written new written' =
    (new.pending ≡ old.pending) × Grows written old.unsent written' new.unsent [] × SentAs old.ended old.unsent new.ended new.unsent

-- a call of the device failed since, and not for having to wait; or their count is at its greatest value
abbrev pub HasFailedSince : CallCounts → CallCounts → Type 0
HasFailedSince old new = (old.failures < new.failures) ⊎ (2 ^ 64 - 1 ≤ new.failures)

-- a session is ended for no device's fault, and not by its peer
abbrev pub BlamesNone : Option End → Type 0
BlamesNone (Some ReadFault) = ⊥
BlamesNone (Some WriteFault) = ⊥
BlamesNone (Some NoPeer) = ⊥
BlamesNone _ = Unit {0}

-- a session is ended for its reader's fault only where that failed, and for no writer's
abbrev pub BlamesReader : Option End → CallCounts → CallCounts → Type 0
BlamesReader (Some ReadFault) old new = HasFailedSince old new
BlamesReader (Some WriteFault) old new = ⊥
BlamesReader _ old new = Unit {0}

abbrev pub BlamesWriter : Option End → CallCounts → CallCounts → Type 0
BlamesWriter (Some ReadFault) old new = ⊥
BlamesWriter (Some NoPeer) old new = ⊥
BlamesWriter (Some WriteFault) old new = HasFailedSince old new
BlamesWriter _ old new = Unit {0}

-- a session is ended for a device's fault only where that device failed: the reader, or the writer
abbrev pub Blames : Option End → CallCounts → CallCounts → CallCounts → CallCounts → Type 0
Blames (Some ReadFault) reader reader' writer writer' = HasFailedSince reader reader'
Blames (Some WriteFault) reader reader' writer writer' = HasFailedSince writer writer'
Blames _ reader reader' writer writer' = Unit {0}

-- the end of a session by what becomes of its client after an answer
abbrev pub end_by : Next → Option End
end_by Goes = None
end_by Waits = None
end_by Closes = Some Left
end_by Kills = Some Killed

abbrev pub end_in_list : Bool → Option End
end_in_list true = Some LargeList
end_in_list false = None

-- A session that stays open goes on, unless it is short of memory; its reader's calls are counted so.
abbrev pub GoesOnUnlessShort : {I : Type 0} → (I → CallCounts) → Result (Option End) SessionFault → SessionData → I → I → Type 0
GoesOnUnlessShort counts answer new reader reader' =
    new.held.ended ≡ None → (answer ≡ Ok None) ⊎ ((answer ≡ Err NoMemory) × IsShort new (counts reader) (counts reader'))

-- what comes with more bytes
abbrev pub then_read : Coming → List ℕ → Coming
then_read c bytes = ahead c.asked (coming (record { list = c.list; lines = []; next = c.next; piece = bytes }))

-- What comes of bytes is the same in whatever pieces they are read.
abbrev pub BytesInAnyCut : Type 0
BytesInAnyCut = (pending : Pending) (bytes more : List ℕ)
    → (coming (read_on pending bytes) ≡ then_read (coming pending) bytes) × (coming (read_on pending (bytes ++ more)) ≡ then_read (coming (read_on pending bytes)) more)

-- what a step of a session's code leaves as it was: all but what is read, or split, or told
abbrev pub KeepsAllButRead : Conversation → Conversation → Type 0
KeepsAllButRead old new = new ≡ record old { splitter = new.splitter; lines = new.lines; piece = new.piece; ended = new.ended }

abbrev pub KeepsAllButSplit : Conversation → Conversation → Type 0
KeepsAllButSplit old new = new ≡ record old { splitter = new.splitter; lines = new.lines; piece = new.piece }

abbrev pub KeepsAllButTold : Conversation → Conversation → Type 0
KeepsAllButTold old new = new ≡ record old { unsent = new.unsent; owed = new.owed; waits = new.waits }

-- an open session whose bytes are all split has met no line that is too long
abbrev pub HasNoLongLine : Conversation → Type 0
HasNoLongLine c = c.ended ≡ None → c.piece.items ≡ [] → c.splitter ≢ None

-- a session is as it was; or it was open, all lines before one that is too long are run, and it is closed
abbrev pub EndsForLongLine : Conversation → Conversation → Type 0
EndsForLongLine old new = (new.ended ≡ old.ended)
    ⊎ ((old.ended ≡ None) × (new.ended ≡ Some LongLine) × (old.lines.items ≡ []) × (old.piece.items ≡ []) × (old.splitter ≡ None))

-- bytes are read, and perhaps split
abbrev pub ReadsInto : Conversation → Option (List ℕ) → Conversation → Option (List ℕ) → Type 0
ReadsInto old unread new unread' = ReadsOn (held_of old) unread (held_of new) unread'

-- a session is closed for its writer's fault only where it was before, or where that failed, whose calls are counted so
abbrev pub FailsAsItsWriter : {O : Type 0} → (O → CallCounts) → Conversation → Conversation → O → O → Type 0
FailsAsItsWriter counts old new writer writer' =
    new.ended ≡ Some WriteFault → (old.ended ≡ Some WriteFault) ⊎ HasFailedSince (counts writer) (counts writer')

-- a write ends a session for its writer's fault only where it was ended for that before, or the writer failed
abbrev pub FailsOnlyBy : Bool → Option End → Option End → Type 0
FailsOnlyBy failed old new = new ≡ Some WriteFault → (old ≡ Some WriteFault) ⊎ (failed ≡ true)

-- a read of nothing may end a session, by its peer or by a fault
abbrev pub EndsWithoutBytes : ℕ → Option End → Type 0
EndsWithoutBytes count end = (end ≡ None) ⊎ ((count ≡ 0) × ((end ≡ Some NoPeer) ⊎ (end ≡ Some ReadFault)))

-- a write may end an open session: by a fault, or where more than 16 MiB are left
abbrev pub EndsByWrite : Option End → Option End → List ℕ → Type 0
EndsByWrite old new left =
    (new ≡ old) ⊎ ((old ≡ None) × ((new ≡ Some WriteFault) ⊎ ((new ≡ Some Unsent) × (16777216 < length left))))
