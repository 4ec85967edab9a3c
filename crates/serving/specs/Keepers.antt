-- What contracts see of the client that keeps the state.
use Rattle.std.specs.Prelude.{ℕ, ◌≡◌, Bool, true, List, string_bytes}
use Rattle.std.specs.Global.{Vec}
use Rattle.house.specs.Lists.{HandedList}
use Rattle.kept_state.specs.declared.partitions.KeptPartition.{KeptPartition}
use Rattle.shelf.specs.declared.traits.Shelf.{Ghosts}
use Rattle.serving.specs.Keeping.{IsAnswered, IsKeptThen, IsStateThen}
use Rattle.serving.specs.declared.keeper.Keeper.{Keeper}

module _ {L S R : Type 0} (shelf : Ghosts S) where
  -- the client is answered to all that it asks of the partitions that it knows
  abbrev pub IsAnsweredTo : Keeper L S R → Keeper L S R → HandedList → Type 0
  IsAnsweredTo old new answered =
      IsAnswered shelf.standing shelf.failed old.shelf new.shelf old.seat new.seat old.names.items answered

  -- what is kept is what the player then answers to it
  abbrev pub IsKeptFor : Keeper L S R → Keeper L S R → Vec KeptPartition → Type 0
  IsKeptFor old new kept =
      IsKeptThen shelf.standing shelf.failed old.shelf new.shelf old.seat new.seat old.names.items kept

  -- the text is that of what the player then answers to it
  abbrev pub IsStateFor : Keeper L S R → Keeper L S R → List ℕ → Type 0
  IsStateFor old new text =
      IsStateThen shelf.standing shelf.failed old.shelf new.shelf old.seat new.seat old.names.items text

  -- where this is said, the file has that text
  abbrev pub WritesStateIf : Keeper L S R → Keeper L S R → Bool → Type 0
  WritesStateIf old new is_kept = is_kept ≡ true → IsStateFor old new (string_bytes new.file.written)
