use Rattle.std.proofs.Common.{◌≡◌, List, map, take}
use Rattle.sqlite.specs.Order.{Row, column}
use Rattle.sqlite.specs.declared.types.Value.TheVariants.{Text}
use Rattle.shelf.specs.declared.faults.Entry.{Entry}
use Rattle.shelf.specs.Entries.{entry_texts}
use Rattle.shelf_database.proofs.rows.entries_of.Given as goal

-- the rows so far show the entries
pub record AreShown (rows : List Row) (entries : List Entry) : Type 0 where
  pub keys : map (λ row. column row 0) rows ≡ map (λ e. Text (entry_texts e).0) entries
  pub values : map (λ row. column row 1) rows ≡ map (λ e. Text (entry_texts e).1) entries

abbrev pub invariant-loop-row : goal.invariant-loop-row
invariant-loop-row l = AreShown (take l.row-index l.rows) l.entries.items
