-- What can be read of an event, and of what it makes clients hear.
use Rattle.std.specs.Prelude.{Bool, true, false, ◌||◌, Option, Some, None}
use Rattle.mpd_command.specs.declared.name.Name.{Name}
use Rattle.mpd_command.specs.declared.request.Request.{Request}
use Rattle.mpd_command.specs.declared.request.Request.TheVariants.{Run, Refused}
use Rattle.transitions.specs.Shelves.{no_store_reply}
use Rattle.transitions.specs.declared.asked.ListPlace.{ListPlace}
use Rattle.transitions.specs.declared.asked.ListPlace.TheVariants.{Alone}
use Rattle.transitions.specs.declared.shelf_calls.StoreReply.{StoreReply}
use Rattle.transitions.specs.Answers.{closes}
use Rattle.player_events.specs.declared.event.Event.{Event}
use Rattle.player_events.specs.declared.event.Event.TheVariants.{Line}
use Rattle.player_events.specs.Outcomes.{OutcomeData}

-- a line is the one event that a shelf is lent to
abbrev pub is_line : Event → Bool
is_line (Line number list_place request heard) = true
is_line _ = false

-- the command that a request names, if it names one
abbrev pub name_of : Request → Option Name
name_of (Run name command) = Some name
name_of (Refused ack) = ack.command

-- what a shelf answered to an event
abbrev pub store_reply_at : Event → StoreReply
store_reply_at (Line number list_place request heard) = heard
store_reply_at _ = no_store_reply

-- how a line comes, and the command that it names, for what the shelf refuses
abbrev pub list_place_of : Event → ListPlace
list_place_of (Line number list_place request heard) = list_place
list_place_of _ = Alone

abbrev pub name_at : Event → Option Name
name_at (Line number list_place request heard) = name_of request
name_at _ = None

-- the event, with what a shelf answered to it
abbrev pub with_store_reply : Event → StoreReply → Event
with_store_reply (Line number list_place request before) heard = Line number list_place request heard
with_store_reply event heard = event

-- a list ends at its first refusal, and where its client is closed
abbrev pub ends_list : OutcomeData → Bool
ends_list t = t.answer.refused || closes t.answer.next
