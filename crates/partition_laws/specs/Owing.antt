-- A ring is fed only where it owed no frames when their job was given, and only where its output has been in the
-- partition since then, over the events of a daemon.
use Rattle.std.specs.Prelude.{◌≡◌, ℕ, ◌==◌, Bool, true, false, ◌&&◌, List, [], ◌∷◌, Some, slice_index_or}
use Rattle.player_state.specs.declared.report.Feed.{Feed}
use Rattle.player_state.specs.declared.report.Report.{Report}
use Rattle.player_state.specs.declared.report.Report.TheVariants.{ToDecode, ToFeed}
use Rattle.player_events.specs.declared.event.Event.{Event}
use Rattle.player_events.specs.declared.event.Event.TheVariants.{Have, Want}
use Rattle.partition.specs.Image.{Image}
use Rattle.partition.specs.Step.{next_image, index_at, told}
use Rattle.partition_laws.specs.Apart.{after_events}
use Rattle.partition_laws.specs.Moves.{IsAt}
use Rattle.partition_laws.specs.Reports.{HasOutputs, is_fed_at}

abbrev pub is_job : Report → Bool
is_job (ToDecode (Some job)) = true
is_job _ = false

-- a partition is given a job by an event
abbrev pub gives_job : ℕ → Image → Event → Bool
gives_job index i event = (index_at i event == index) && is_job (told i event).report

-- a partition is given no job by a list of events
abbrev pub GivesNoJob : ℕ → Image → List (ℕ × Event) → Type 0
GivesNoJob index i [] = Unit {0}
GivesNoJob index i (e ∷ es) = (gives_job index i e.1 ≡ false) × GivesNoJob index (next_image e.0 i e.1) es

-- the frames of a partition's job are fed to none of these outputs
abbrev pub FeedsNoneOf : List Bool → ℕ → Image → Type 0
FeedsNoneOf owes index i = (number frames : ℕ) (feed : Feed) → (told i (Have index number frames)).report ≡ ToFeed (Some feed)
    → (output moves : ℕ) → is_fed_at feed output ≡ Some moves → slice_index_or owes output false ≡ false

-- A want says in the rings of which outputs frames wait. Where it is given a job, the frames of that job are
-- fed to none of these, whatever happens before they are decoded.
abbrev pub FeedsOweNothing : Type 0
FeedsOweNothing = (i : Image) (seat index : ℕ) (owes : List Bool) (es : List (ℕ × Event)) → HasOutputs i
    → gives_job index i (Want index owes) ≡ true → GivesNoJob index (next_image seat i (Want index owes)) es
    → FeedsNoneOf owes index (after_events (next_image seat i (Want index owes)) es)

-- the frames of a partition's job are fed only to outputs that were in it at another moment, each of them moved as
-- often then
abbrev pub FeedsThoseOf : Image → ℕ → Image → Type 0
FeedsThoseOf earlier index i = (number frames : ℕ) (feed : Feed) → (told i (Have index number frames)).report ≡ ToFeed (Some feed)
    → (output moves : ℕ) → is_fed_at feed output ≡ Some moves → IsAt output earlier (record { index = index; moves = moves })

-- A want is given a job. Whatever happens before its frames are decoded, they are fed to no output that came to the
-- partition since then, be it for the first time or once more: one that comes was moved more often.
abbrev pub FeedsNoNewcomer : Type 0
FeedsNoNewcomer = (i : Image) (seat index : ℕ) (owes : List Bool) (es : List (ℕ × Event)) → HasOutputs i
    → gives_job index i (Want index owes) ≡ true → GivesNoJob index (next_image seat i (Want index owes)) es
    → FeedsThoseOf i index (after_events (next_image seat i (Want index owes)) es)
