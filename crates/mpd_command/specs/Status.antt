-- The table of commands that ask for the player's state and wait for its changes (MPD protocol reference,
-- Querying MPD's status).
use Rattle.std.specs.Prelude.{ℕ, Bool, true, false, ◌||◌, List, [], ◌∷◌, fold, Option, Some, option_map, Result, Ok, codes, if◌then◌else◌}
use Rattle.std.specs.Str.{bytes_eq}
use Rattle.idle_notes.specs.Names.{subsystem_of}
use Rattle.idle_notes.specs.Sets.{all, none as no_subsystem, with_one}
use Rattle.idle_notes.specs.declared.sets.Subsystems.{Subsystems}
use Rattle.command_arguments.specs.Readers.{map_ok, some_of, subsystems_of}
use Rattle.command_arguments.specs.declared.readers.Misread.{Misread}
use Rattle.mpd_command.specs.Tables.{Arguments, Row, none}
use Rattle.mpd_command.specs.declared.status.Watched.{Watched}
use Rattle.mpd_command.specs.declared.status.Watched.TheVariants.{Changing, Unchanging}
use Rattle.mpd_command.specs.declared.command_set.CommandSet.{CommandSet}
use Rattle.mpd_command.specs.declared.status.StatusCommand.{StatusCommand}
use Rattle.mpd_command.specs.declared.status.StatusCommand.TheVariants as status

-- what `idle` may name in the everyday profile: mounts and neighbors, which never change, as well
abbrev pub watched_of : List ℕ → Option Watched
watched_of word =
    if bytes_eq word (codes "mount") || bytes_eq word (codes "neighbor") then Some Unchanging else option_map Changing (subsystem_of word)

abbrev pub with_watched : Subsystems → Watched → Subsystems
with_watched set (Changing subsystem) = with_one set subsystem
with_watched set Unchanging = set

-- the set of those that change
abbrev pub changing : List Watched → Subsystems
changing watched = fold with_watched no_subsystem watched

-- what `idle` waits for: all subsystems where none is named
abbrev pub waited_for : Bool → List (List ℕ) → Result Subsystems Misread
waited_for everyday [] = Ok all
waited_for false (word ∷ words) = subsystems_of (word ∷ words)
waited_for true (word ∷ words) = map_ok changing (some_of watched_of (word ∷ words))

abbrev pub idle : {A : Type 0} → Bool → (Subsystems → A) → Arguments A
idle everyday f words = map_ok f (waited_for everyday words)

unfoldable pub rows : CommandSet → List (Row StatusCommand)
rows set =
    (codes "clearerror", none status.ClearError)
    ∷ (codes "currentsong", none status.CurrentSong)
    ∷ (codes "idle", idle set.everyday status.Idle)
    ∷ (codes "noidle", none status.NoIdle)
    ∷ (codes "stats", none (status.Stats set.uptime))
    ∷ (codes "status", none (status.Status set.everyday))
    ∷ []
