-- Why the shelf of a file is not opened or closed, and what the daemon makes of it (this profile's).
use Rattle.std.specs.Prelude.{◌≡◌, Result, Ok, Err}
use Rattle.serving.specs.declared.fault.DaemonFault.{DaemonFault}
use Rattle.serving.specs.declared.fault.DaemonFault.TheVariants as fault
use Rattle.shelf.specs.declared.faults.ShelfFault.{ShelfFault}
use Rattle.shelf.specs.declared.faults.ShelfFault.TheVariants as shelf
use Rattle.shelf_database.specs.Opens.{IsBlamed}
use Rattle.sqlite.specs.Held.{Held}
use Rattle.sqlite.specs.Store.{Ghosts}
use Rattle.sqlite.specs.declared.error.Error.{Error}
use Rattle.sqlite.specs.declared.error.Error.TheVariants.{SqliteFailure}
use Rattle.sqlite.specs.declared.error.ErrorCode.TheVariants as code

-- a database is not opened: there is no memory, or the file cannot be a shelf
abbrev pub unopened : Error → DaemonFault
unopened (SqliteFailure code.OutOfMemory) = fault.NoMemory
unopened _ = fault.CannotOpenShelf

-- a database is no shelf's, or there is no memory to find that out
abbrev pub no_shelf : ShelfFault → DaemonFault
no_shelf shelf.NoMemory = fault.NoMemory
no_shelf _ = fault.CannotOpenShelf

-- a file is not closed, so that a log stands beside it
abbrev pub unclosed : Error → DaemonFault
unclosed (SqliteFailure code.OutOfMemory) = fault.NoMemory
unclosed _ = fault.WriteFault

abbrev pub after_close : Result (Unit {0}) Error → Result (Unit {0}) DaemonFault
after_close (Ok done) = Ok done
after_close (Err error) = Err (unclosed error)

-- why the daemon was not served comes before why the file was not closed
abbrev pub ends_with : Result (Unit {0}) DaemonFault → Result (Unit {0}) Error → Result (Unit {0}) DaemonFault
ends_with (Ok done) closed = after_close closed
ends_with (Err why) closed = Err why

-- the shelf of a connection is refused for what the database is blamed for
abbrev pub IsNoShelf : {S : Type 0} → Ghosts S → Held S → DaemonFault → Type 0
IsNoShelf {S} store connection why = (left : Held S) × (cause : ShelfFault) × IsBlamed store connection left cause × (why ≡ no_shelf cause)
