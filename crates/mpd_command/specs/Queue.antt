-- The table of commands of the queue (MPD protocol reference, The Queue).
use Rattle.std.specs.Prelude.{ℕ, Bool, List, [], ◌∷◌, Option, None, Result, codes, if◌then◌else◌}
use Rattle.filters.specs.declared.expression.Test.TheVariants.{Equals, Contains}
use Rattle.mpd_text.specs.Answers.Number.{number_of}
use Rattle.mpd_text.specs.Answers.Range.{range_of}
use Rattle.command_arguments.specs.Forms.{uri_of, byte_of, position_of}
use Rattle.command_arguments.specs.Readers.{map_ok, one_of, one_perhaps_of}
use Rattle.command_arguments.specs.declared.forms.Position.{Position}
use Rattle.command_arguments.specs.declared.forms.Uri.{Uri}
use Rattle.command_arguments.specs.declared.readers.Misread.{Misread}
use Rattle.mpd_command.specs.Tables.{Arguments, Row, filter, none, one, perhaps, two, one_perhaps, one_many}
use Rattle.mpd_command.specs.declared.command_set.CommandSet.{CommandSet}
use Rattle.mpd_command.specs.declared.queue.QueueCommand.{QueueCommand}
use Rattle.mpd_command.specs.declared.queue.QueueCommand.TheVariants as queue

-- a URI, and in the everyday profile perhaps a position
abbrev pub uri_perhaps_position_of : Bool → List (List ℕ) → Result (Uri × Option Position) Misread
uri_perhaps_position_of everyday words =
    if everyday then one_perhaps_of uri_of position_of words else map_ok (λ uri. (uri, None)) (one_of uri_of words)

abbrev pub uri_perhaps_position : {A : Type 0} → Bool → (Uri → Option Position → A) → Arguments A
uri_perhaps_position everyday f words = map_ok (λ p. f p.0 p.1) (uri_perhaps_position_of everyday words)

-- the rows from `prio` on
unfoldable pub rows_from_prio : List (Row QueueCommand)
rows_from_prio =
    (codes "prio", one_many byte_of range_of queue.Prio)
    ∷ (codes "prioid", one_many byte_of number_of queue.PrioId)
    ∷ (codes "shuffle", perhaps range_of queue.Shuffle)
    ∷ (codes "swap", two number_of number_of queue.Swap)
    ∷ (codes "swapid", two number_of number_of queue.SwapId)
    ∷ []

-- the rows from `playlist` on
unfoldable pub rows_from_playlist : List (Row QueueCommand)
rows_from_playlist =
    (codes "playlist", none queue.Playlist)
    ∷ (codes "playlistfind", filter Equals queue.PlaylistFind)
    ∷ (codes "playlistid", perhaps number_of queue.PlaylistId)
    ∷ (codes "playlistinfo", perhaps range_of queue.PlaylistInfo)
    ∷ (codes "playlistsearch", filter Contains queue.PlaylistSearch)
    ∷ (codes "plchanges", one_perhaps number_of range_of queue.PlChanges)
    ∷ (codes "plchangesposid", one_perhaps number_of range_of queue.PlChangesPosId)
    ∷ rows_from_prio

unfoldable pub rows : CommandSet → List (Row QueueCommand)
rows set =
    (codes "add", uri_perhaps_position set.everyday queue.Add)
    ∷ (codes "addid", one_perhaps uri_of position_of queue.AddId)
    ∷ (codes "clear", none queue.Clear)
    ∷ (codes "delete", one range_of queue.Delete)
    ∷ (codes "deleteid", one number_of queue.DeleteId)
    ∷ (codes "move", two range_of number_of queue.Move)
    ∷ (codes "moveid", two number_of number_of queue.MoveId)
    ∷ rows_from_playlist
