-- What a call looks for on the shelf before it makes its change.
use Rattle.std.specs.Prelude.{◌≡◌, ◌⊎◌, ℕ, Bool, true, false, List, [], ◌∷◌, Some, None, if◌then◌else◌, is_some, IsSome, Result, IfOk}
use Rattle.sqlite.specs.Store.{Ghosts}
use Rattle.sqlite.specs.Held.{Held, state}
use Rattle.sqlite.specs.State.{HasCleanDisk}
use Rattle.shelf.specs.declared.faults.ShelfFault.{ShelfFault}
use Rattle.shelf.specs.declared.faults.ShelfFault.TheVariants.{NoSuchList}
use Rattle.shelf.specs.declared.kinds.StickerKind.{StickerKind}
use Rattle.shelf.specs.Maps.{refusal_of_target}
use Rattle.shelf_database.specs.Asks.{Refuses}
use Rattle.shelf_database.specs.Faults.{HasFailed, LacksText}
use Rattle.shelf_database.specs.Tables.{note_maps, of_target, IsReady, Reads}

module _ {S : Type 0} (store : Ghosts S) (old new : Held S) where
  -- the connection is as before where nothing was asked, or a query showed its rows
  abbrev pub ReadsAtMost : Type 0
  ReadsAtMost = (new ≡ old) ⊎ Reads (state store old) (state store new)

  -- where the disk is clean, over a shelf's tables, a success says whether a list has the name
  abbrev pub FindsList : List ℕ → Result Bool ShelfFault → Type 0
  FindsList name result =
      HasCleanDisk (state store new)
      → IsReady (state store old)
      → IfOk result (λ is_there. is_there ≡ is_some ((note_maps (state store old).now.trees).lists name))

  -- where the disk is clean, over a shelf's tables, a success says whether the target may have a sticker
  abbrev pub FindsTarget : StickerKind → List ℕ → Result Bool ShelfFault → Type 0
  FindsTarget kind target result =
      HasCleanDisk (state store new)
      → IsReady (state store old)
      → IfOk result (λ is_there. refusal_of_target (note_maps (state store old).now.trees) kind target
      ≡ (if is_there then None else Some NoSuchList))

  -- where the disk is clean, over a shelf's tables, a success says whether the target has a sticker of the
  -- name
  abbrev pub FindsNote : StickerKind → List ℕ → List ℕ → Result Bool ShelfFault → Type 0
  FindsNote kind target name result =
      HasCleanDisk (state store new)
      → IsReady (state store old)
      → IfOk result (λ is_there. is_there ≡ is_some ((note_maps (state store old).now.trees).stickers kind target name))

  -- where the disk is clean, over a shelf's tables, the target has a sticker where the call says so
  abbrev pub FindsNotes : StickerKind → List ℕ → Result Bool ShelfFault → Type 0
  FindsNotes kind target result =
      HasCleanDisk (state store new)
      → IsReady (state store old)
      → IfOk result (λ is_there. is_there ≡ true → (name : List ℕ)
      × IsSome ((note_maps (state store old).now.trees).stickers kind target name))

  -- where the disk is clean, over a shelf's tables, the target has no sticker where the call says so
  abbrev pub MissesNotes : StickerKind → List ℕ → Result Bool ShelfFault → Type 0
  MissesNotes kind target result =
      HasCleanDisk (state store new)
      → IsReady (state store old)
      → IfOk result (λ is_there. is_there ≡ false → (name : List ℕ)
      → (note_maps (state store old).now.trees).stickers kind target name ≡ None)

  -- the maps are left, and the call is refused since the store failed, or for lack of memory
  abbrev pub RefusesAsFailed : ShelfFault → Type 0
  RefusesAsFailed fault =
      Refuses (state store old) (state store new) (HasFailed (state store old) (state store new)) fault

  -- the same, or the call is refused since a sticker of the target has a name that is no text
  abbrev pub FailsToName : StickerKind → List ℕ → ShelfFault → Type 0
  FailsToName kind target fault =
      Refuses (state store old) (state store new)
      (HasFailed (state store old) (state store new)
      ⊎ LacksText (3 ∷ []) (of_target kind target) ((state store old).now.trees 5)) fault
