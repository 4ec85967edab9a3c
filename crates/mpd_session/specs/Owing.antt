-- The bytes of what a session owes its client.
use Rattle.std.specs.Prelude.{◌≡◌, ℕ, Bool, true, false, List, [], ◌++◌, Option, codes}
use Rattle.mpd_text.specs.Answers.Answer.{ack_line}
use Rattle.partition.specs.Lists.{fault_text, next_after, stop_text, text_with}
use Rattle.mpd_session.specs.declared.owed.Owed.{Owed}
use Rattle.mpd_session.specs.declared.owed.Owed.TheVariants as owed
use Rattle.mpd_session.specs.Answers.{Answers, Caller, caller, list_end}
use Rattle.mpd_session.specs.Output.{IsOwed}
use Rattle.mpd_session.specs.Requests.{Asking, Single, Whole}
use Rattle.command_lists.specs.Lists.{LineData}
use Rattle.command_lists.specs.declared.list.CommandList.{CommandList}
use Rattle.mpd_session.specs.declared.asker.Asker.{Asker}
use Rattle.transitions.specs.declared.reply.Next.{Next}
use Rattle.transitions.specs.declared.reply.Next.TheVariants.{Goes, Waits}
use Rattle.house.specs.Lists.{HandedList}
use Rattle.house.specs.Views.{Handed}
use Rattle.shelf.specs.Calls.{Call}
use Rattle.shelf.specs.Maps.{Standing}
use Rattle.shelf.specs.declared.traits.Shelf.{Ghosts}
use Rattle.house.specs.Seats.{SeatCount}
use Rattle.partition.specs.declared.partition.PartitionFault.{PartitionFault}
use Rattle.mpd_session.specs.Notices.{notice_bytes, notice_text}

-- the answer to a line, and that to a list, after the notice that waited
abbrev pub line_bytes : Handed → List ℕ
line_bytes answered = notice_bytes answered.front ++ answered.told.answer.text

abbrev pub list_bytes : HandedList → Option ℕ → List ℕ
list_bytes answered unread = notice_bytes answered.front ++ text_with (list_end unread) answered.tolds

abbrev pub owed_bytes : Owed → List ℕ
owed_bytes owed.Nothing = []
owed_bytes (owed.Notice notice) = notice_text notice
owed_bytes (owed.Line answered) = line_bytes answered
owed_bytes (owed.List answered unread) = list_bytes answered unread
owed_bytes owed.EmptyList = codes "OK\n"
owed_bytes (owed.LineFault name fault) = ack_line 52 0 name.now (fault_text fault)
owed_bytes (owed.ListFault stop) = stop_text stop

-- whether nothing is owed
abbrev pub is_nothing : Owed → Bool
is_nothing owed.Nothing = true
is_nothing _ = false

-- what becomes of the client
abbrev pub next_by : Owed → Next
next_by (owed.Line answered) = answered.told.answer.next
next_by (owed.List answered unread) = next_after answered.tolds
next_by _ = Goes

abbrev pub is_waiting : Next → Bool
is_waiting Waits = true
is_waiting _ = false

-- Whether the client waits for a notice after this, where it waited before or did not: an answer to a line
-- says so, and nothing else begins or ends a wait.
abbrev pub waits_after : Owed → Bool → Bool
waits_after (owed.Line answered) waited = is_waiting answered.told.answer.next
waits_after _ waited = waited

-- bytes stand where they stood, and perhaps more after them
abbrev pub Grows : List ℕ → List ℕ → Type 0
Grows old new = (more : List ℕ) × (new ≡ old ++ more)

-- what is owed for what was asked, and what becomes of the client: an answer that the player of one thread
-- may give to it
abbrev pub IsOwedFor : {S : Type 0} → (S → Standing) → (S → S → Call → Type 0) → Asker → Caller S → Asking → Owed → Caller S → Type 0
IsOwedFor standing failed asker before one owed after =
    IsOwed (Answers standing failed asker) before one (owed_bytes owed) (next_by owed) after

-- the same, where the caller had this seat and this shelf before, and those after
abbrev pub Owes : {S : Type 0} → Ghosts S → Asker → SeatCount → S → Asking → Owed → SeatCount → S → Type 0
Owes shelf asker seat old one owed seat' new =
    IsOwedFor shelf.standing shelf.failed asker (caller seat old) one owed (caller seat' new)

-- the same of a line that is in no list, and of a whole list
abbrev pub OwesLine : {S : Type 0} → Ghosts S → Asker → SeatCount → S → LineData → Owed → SeatCount → S → Type 0
OwesLine shelf asker seat old line owed seat' new = Owes shelf asker seat old (Single line) owed seat' new

abbrev pub OwesList : {S : Type 0} → Ghosts S → Asker → SeatCount → S → CommandList → Owed → SeatCount → S → Type 0
OwesList shelf asker seat old list owed seat' new = Owes shelf asker seat old (Whole list) owed seat' new

-- the line that says why a command made no event stands after other bytes
abbrev pub AddsFault : List ℕ → List ℕ → List ℕ → PartitionFault → Type 0
AddsFault old new command fault = new ≡ old ++ ack_line 52 0 command (fault_text fault)
