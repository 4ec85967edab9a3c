-- What the house is told beside lines and frames.
use Rattle.std.specs.Prelude.{ℕ, ◌≡◌, List, ◌++◌, Option, Some, None}
use Rattle.house.specs.declared.news.News.{News}
use Rattle.house.specs.declared.news.News.TheVariants as news
use Rattle.house.specs.Waiting.{of_others}
use Rattle.player_events.specs.declared.event.Event.{Event}
use Rattle.player_events.specs.declared.event.Event.TheVariants.{Connect, Disconnect, ScanQuestion, ScanResult, Want, Failed}
use Rattle.connected_clients.specs.declared.notices.Notice.{Notice}
use Rattle.player_events.specs.Outcomes.{OutcomeData}

-- the event that a piece of news is
abbrev pub event_of : News → Event
event_of (news.Comes client) = Connect client
event_of (news.Goes client) = Disconnect client
event_of news.AsksToScan = ScanQuestion
event_of (news.Scanned songs second) = ScanResult songs second
event_of (news.Wants index owes) = Want index owes
event_of (news.Failed index number of_partner) = Failed index number of_partner

-- the client that goes at an event, if one goes
abbrev pub gone_at : Event → Option ℕ
gone_at (Disconnect client) = Some client
gone_at _ = None

-- the notices that still wait: those of a client that goes are dropped
abbrev pub kept_without : Option ℕ → List Notice → List Notice
kept_without None waiting = waiting
kept_without (Some client) waiting = of_others client waiting

abbrev pub kept_at : News → List Notice → List Notice
kept_at piece waiting = kept_without (gone_at (event_of piece)) waiting

-- the notices that wait once a piece of news was told so: those that are kept, and then those that it made
abbrev pub WaitAfterNews : News → List Notice → List Notice → OutcomeData → Type 0
WaitAfterNews piece old new told = new ≡ kept_at piece old ++ told.notices
