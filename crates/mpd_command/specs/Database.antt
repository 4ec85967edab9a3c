-- The table of commands of the library (MPD protocol reference, The music database).
use Rattle.std.specs.Prelude.{List, [], ◌∷◌, codes}
use Rattle.filters.specs.declared.expression.Test.TheVariants.{Equals, Contains}
use Rattle.command_arguments.specs.Forms.{uri_of}
use Rattle.mpd_text.specs.Answers.Number.{number_of}
use Rattle.mpd_command.specs.Tables.{Row, one, two, perhaps, counting, grouping, name_selection, placed_selection, selection}
use Rattle.mpd_command.specs.declared.command_set.CommandSet.{CommandSet}
use Rattle.mpd_command.specs.declared.database.DatabaseCommand.{DatabaseCommand}
use Rattle.mpd_command.specs.declared.database.DatabaseCommand.TheVariants as database

-- the rows from `rescan` on
unfoldable pub rows_from_rescan : CommandSet → List (Row DatabaseCommand)
rows_from_rescan set =
    (codes "rescan", perhaps uri_of database.Rescan)
    ∷ (codes "search", selection set.everyday Contains database.Search)
    ∷ (codes "searchadd", placed_selection set.everyday Contains database.SearchAdd)
    ∷ (codes "searchaddpl", name_selection Contains database.SearchAddPl)
    ∷ (codes "update", perhaps uri_of database.Update)
    ∷ []

-- the rows from `listall` on
unfoldable pub rows_from_listall : CommandSet → List (Row DatabaseCommand)
rows_from_listall set =
    (codes "listall", perhaps uri_of (λ uri. database.ListAll uri set.everyday))
    ∷ (codes "listallinfo", perhaps uri_of database.ListAllInfo)
    ∷ (codes "lsinfo", perhaps uri_of (λ uri. database.LsInfo uri set.everyday))
    ∷ (codes "readcomments", one uri_of database.ReadComments)
    ∷ (codes "readpicture", two uri_of number_of database.ReadPicture)
    ∷ rows_from_rescan set

unfoldable pub rows : CommandSet → List (Row DatabaseCommand)
rows set =
    (codes "albumart", two uri_of number_of database.AlbumArt)
    ∷ (codes "count", counting set.everyday database.Count)
    ∷ (codes "find", selection set.everyday Equals database.Find)
    ∷ (codes "findadd", placed_selection set.everyday Equals database.FindAdd)
    ∷ (codes "list", grouping set.everyday database.List)
    ∷ rows_from_listall set
