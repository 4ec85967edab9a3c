-- The texts of an entry.
use Rattle.std.specs.Prelude.{ℕ, List, string_bytes}
use Rattle.shelf.specs.declared.faults.Entry.{Entry}

abbrev pub entry_texts : Entry → List ℕ × List ℕ
entry_texts e = (string_bytes e.key, string_bytes e.value)
