-- The table of commands of the connection (MPD protocol reference, Connection settings; Reflection; Mounts
-- and neighbors).
use Rattle.std.specs.Prelude.{ℕ, Bool, true, false, List, [], ◌∷◌, Result, Err, codes, if◌then◌else◌}
use Rattle.std.specs.Str.{bytes_eq}
use Rattle.known_tags.specs.KnownTags.{tag_of}
use Rattle.command_arguments.specs.Readers.{map_ok, none_of, some_of}
use Rattle.command_arguments.specs.declared.readers.Misread.{Misread}
use Rattle.command_arguments.specs.declared.readers.Misread.TheVariants.{Bad}
use Rattle.mpd_command.specs.Tables.{Row, none}
use Rattle.mpd_command.specs.declared.command_set.CommandSet.{CommandSet}
use Rattle.mpd_command.specs.declared.connection.ConnectionCommand.{ConnectionCommand}
use Rattle.mpd_command.specs.declared.connection.ConnectionCommand.TheVariants as connection

-- what is done to the client's tags: a word, and the names of tags after it
abbrev pub tag_choice : List ℕ → List (List ℕ) → Result ConnectionCommand Misread
tag_choice choice names =
    if bytes_eq choice (codes "all") then none_of connection.AllTags names
    else (if bytes_eq choice (codes "clear") then none_of connection.NoTags names
    else (if bytes_eq choice (codes "disable") then map_ok connection.WithoutTags (some_of tag_of names)
    else (if bytes_eq choice (codes "enable") then map_ok connection.WithTags (some_of tag_of names)
    else Err (Bad choice))))

-- `tagtypes` alone shows the client's tags; in the everyday profile words after it change them
abbrev pub tags_chosen : Bool → List (List ℕ) → Result ConnectionCommand Misread
tags_chosen true (choice ∷ names) = tag_choice choice names
tags_chosen true [] = none_of (connection.TagTypes true) []
tags_chosen false words = none_of (connection.TagTypes false) words

-- the rows from `notcommands` on
unfoldable pub rows_from_notcommands : CommandSet → List (Row ConnectionCommand)
rows_from_notcommands set =
    (codes "notcommands", none (connection.NotCommands set))
    ∷ (codes "ping", none connection.Ping)
    ∷ (codes "tagtypes", tags_chosen set.everyday)
    ∷ (codes "urlhandlers", none connection.UrlHandlers)
    ∷ []

-- `commands` and `notcommands` show which commands there are
unfoldable pub rows : CommandSet → List (Row ConnectionCommand)
rows set =
    (codes "close", none connection.Close)
    ∷ (codes "commands", none (connection.Commands set))
    ∷ (codes "decoders", none connection.Decoders)
    ∷ (codes "kill", none connection.Kill)
    ∷ (codes "listmounts", none connection.ListMounts)
    ∷ rows_from_notcommands set
