-- What a client asks for by its lines (MPD protocol reference, Requests and Command lists).
use Rattle.std.specs.Prelude.{◌≡◌, ◌⊎◌, ◌+◌, Bool, false, true, List, [], ◌∷◌, ◌++◌, length, Option, Some, None}
use Rattle.command_lists.specs.Grammar.{BeginsNone, IsOpen, IsPart, Whole as WholePart, Dropped}
use Rattle.command_lists.specs.Lists.{LineData, is_too_large, outcome_of}
use Rattle.command_lists.specs.declared.collector.Taken.{Taken}
use Rattle.command_lists.specs.declared.collector.Taken.TheVariants.{Alone, Begun, Collected, Ended, TooLarge}
use Rattle.command_lists.specs.declared.list.CommandList.{CommandList}
use Rattle.mpd_text.specs.Lines.Split.{view, views}
use Rattle.mpd_text.specs.declared.lines.splitter.Line.{Line}
use Rattle.mpd_session.specs.declared.gatherer.ClientRequest.{ClientRequest}
use Rattle.mpd_session.specs.declared.gatherer.ClientRequest.TheVariants.{Single as OneLine, Whole as OneList}

-- what is answered as one: a line that is in no list, or a whole list
pub data Asking : Type 0 where
  Single : (line : LineData) → Asking
  Whole : (list : CommandList) → Asking

-- what has come of a list after that: perhaps one is open; or one was too large, and no line after it counts
pub data ListState : Type 0 where
  Within : (list : Option CommandList) → ListState
  Over : ListState

-- what lines ask for, one after the other, and what has come of a list after it
pub record Gathered : Type 0 where
  pub asked : List Asking
  pub list : ListState

-- what a line completes that was taken so
abbrev pub completes : Taken → Option LineData → List Asking
completes Alone (Some line) = Single line ∷ []
completes Alone None = []
completes (Ended list) line = Whole list ∷ []
completes Begun line = []
completes Collected line = []
completes TooLarge line = []

abbrev pub state_of : Bool → Option CommandList → ListState
state_of true list = Over
state_of false list = Within list

-- a line adds what it completes
abbrev pub by_taken : LineData → Option CommandList → Taken → Gathered
by_taken line list taken = record { asked = completes taken (Some line); list = state_of (is_too_large taken) list }

abbrev pub gather_line : ListState → LineData → Gathered
gather_line (Within list) line = by_taken line (outcome_of list line).open_list (outcome_of list line).taken
gather_line Over line = record { asked = []; list = Over }

-- more in front of what is gathered
abbrev pub onto : List Asking → Gathered → Gathered
onto asked g = record { asked = asked ++ g.asked; list = g.list }

-- what lines ask for, after what had come of a list
unfoldable pub gather : ListState → List LineData → Gathered
gather state [] = record { asked = []; list = state }
gather state (line ∷ lines) = onto (gather_line state line).asked (gather (gather_line state line).list lines)

-- what is gathered goes on
abbrev pub then_gather : Gathered → List LineData → Gathered
then_gather g more = onto g.asked (gather g.list more)

-- Of whole lists of lines: these lines are one that is in no list, or a list from its first word to its last.
abbrev pub Spells : List LineData → Asking → Type 0
Spells lines (Single line) = (lines ≡ line ∷ []) × BeginsNone line
Spells lines (Whole list) = IsPart lines (WholePart list)

-- These lines are an open list, or none at all; or one that was too large, with any lines after it.
abbrev pub IsLeft : List LineData → ListState → Type 0
IsLeft lines (Within list) = IsOpen lines list
IsLeft lines Over = (front more : List LineData) × (list : CommandList) × (lines ≡ front ++ more) × IsPart front (Dropped list)

-- The lines are what is asked, one after the other, and then what has come of a list.
abbrev pub AskFor : List LineData → List Asking → ListState → Type 0
AskFor lines [] state = IsLeft lines state
AskFor lines (one ∷ more) state = (front back : List LineData) × (lines ≡ front ++ back) × Spells front one × AskFor back more state

-- What lines ask for is read off whole lists of them.
abbrev pub LinesAskFor : Type 0
LinesAskFor = (lines : List LineData) (asked : List Asking) (state : ListState) → AskFor lines asked state → gather (Within None) lines ≡ record { asked = asked; list = state }

-- Where lines are cut does not matter.
abbrev pub LinesInAnyCut : Type 0
LinesInAnyCut = (state : ListState) (lines more : List LineData) → gather state (lines ++ more) ≡ then_gather (gather state lines) more

-- what the program has of it
abbrev pub asking_of : ClientRequest → Asking
asking_of (OneLine line) = Single (view line)
asking_of (OneList list) = Whole list

abbrev pub askings_of : Option ClientRequest → List Asking
askings_of None = []
askings_of (Some one) = asking_of one ∷ []

-- the first of the lines that wait is taken, and this is what it adds
abbrev pub Takes : ListState → List LineData → Option ClientRequest → ListState → List LineData → Type 0
Takes old [] asked new left = Unit {0}
Takes old (line ∷ lines) asked new left = (left ≡ lines) × (gather_line old line ≡ record { asked = askings_of asked; list = new })

-- the same of the lines that a caller has
abbrev pub TakesFirst : ListState → List Line → ListState → List Line → Option ClientRequest → Type 0
TakesFirst old lines new left asked = Takes old (views lines) asked new (views left)

-- one line less waits, or none did
abbrev pub HasOneLess : List Line → List Line → Type 0
HasOneLess lines left = (length left + 1 ≡ length lines) ⊎ (lines ≡ [])

abbrev pub is_over : ListState → Bool
is_over (Within list) = false
is_over Over = true
