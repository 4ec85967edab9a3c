use Rattle.std.proofs.Common.{◌≡◌, map, take, string_bytes}
use Rattle.sqlite.specs.Order.{column}
use Rattle.sqlite.specs.declared.types.Value.TheVariants.{Text}
use Rattle.shelf_database.proofs.rows.texts_of.Given as goal

abbrev pub invariant-loop-row : goal.invariant-loop-row
invariant-loop-row l = map (λ row. column row 0) (take l.row-index l.rows) ≡ map (λ text. Text (string_bytes text)) l.texts.items
