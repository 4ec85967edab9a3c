-- What contracts see of a file with a state.
use Rattle.std.specs.Prelude.{ℕ, List, string_bytes}
use Rattle.kept_state.specs.Storing.{Keeps}
use Rattle.kept_state.specs.declared.storing.StateFile.{StateFile}

module _ {S F : Type 0} (writes : S → List ℕ → List ℕ → S → Type 0) (renames : S → List ℕ → List ℕ → S → Type 0) where
  -- a text is kept in a file, in place of the one that was written last
  abbrev pub KeepsText : StateFile S F → StateFile S F → List ℕ → Type 0
  KeepsText old new text =
      Keeps writes renames old.store new.store (string_bytes old.aside) (string_bytes old.path) (string_bytes old.written) text
