-- What a call on stickers answers and leaves once their target was found.
use Rattle.std.specs.Prelude.{List, ℕ, Option, Some, None, is_some, is_ok, if◌then◌else◌, Result}
use Rattle.std.specs.Global.{Vec, Global}
use Rattle.std.specs.declared.string.String.{String}
use Rattle.sqlite.specs.Store.{Ghosts}
use Rattle.sqlite.specs.Held.{Held, state}
use Rattle.sqlite.specs.State.{State}
use Rattle.shelf.specs.declared.faults.Entry.{Entry}
use Rattle.shelf.specs.declared.faults.ShelfFault.{ShelfFault}
use Rattle.shelf.specs.declared.faults.ShelfFault.TheVariants.{NoSticker, BadName}
use Rattle.shelf.specs.declared.kinds.StickerKind.{StickerKind}
use Rattle.shelf.specs.Calls.{Call, StickerOf, SetSticker, DeleteSticker, DeleteStickers, StickersOf}
use Rattle.shelf.specs.Maps.{Maps, Changes, Trusted, Answers, AnswersAll, no_refusal, is_sticker_name}
use Rattle.shelf.specs.Shelf.{maps_once_done, TellsText, TellsEntries}
use Rattle.shelf_database.specs.Tables.{note_maps, database_standing}
use Rattle.shelf_database.specs.Faults.{StoreFailed}

-- why a call is refused once the target was found, by the maps
abbrev pub refusal_of_note : StickerKind → List ℕ → List ℕ → Maps → Option ShelfFault
refusal_of_note kind target name m = if is_some (m.stickers kind target name) then None else Some NoSticker

abbrev pub refusal_of_note_name : List ℕ → Maps → Option ShelfFault
refusal_of_note_name name m = if is_sticker_name name then None else Some BadName

abbrev pub no_note_refusal : Maps → Option ShelfFault
no_note_refusal m = no_refusal

module _ (old new : State) where
  -- where the store is trusted, the call answers by the maps from before it
  abbrev pub AnswersThere : {X : Type 0} → Call → (Maps → Option ShelfFault) → Result X ShelfFault → Type 0
  AnswersThere call refusal result =
      Trusted (database_standing old) (database_standing new) → Answers (StoreFailed old new call) (refusal (note_maps old.now.trees)) result

  -- so does the call that takes all stickers of the target
  abbrev pub AnswersAllThere : {X : Type 0} → StickerKind → List ℕ → Result X ShelfFault → Type 0
  AnswersAllThere kind target result =
      Trusted (database_standing old) (database_standing new)
      → AnswersAll (StoreFailed old new (DeleteStickers kind target)) no_refusal ((note_maps old.now.trees).stickers kind target) result

  -- the call changes the maps to those of the call done, or changes nothing while the store is open
  abbrev pub ChangesThere : {X : Type 0} → Call → Result X ShelfFault → Type 0
  ChangesThere call result = Changes (database_standing old) (database_standing new) (is_ok result) (maps_once_done call (note_maps old.now.trees))

-- what a call on stickers answers and leaves, from the connection before it to the one after it
module _ {S : Type 0} (store : Ghosts S) (old new : Held S) where
  -- a sticker is asked for
  abbrev pub AnswersSticker : {X : Type 0} → StickerKind → List ℕ → List ℕ → Result X ShelfFault → Type 0
  AnswersSticker kind target name result =
      AnswersThere (state store old) (state store new) (StickerOf kind target name)
      (refusal_of_note kind target name) result

  -- where the store is trusted, a success tells the text of the sticker
  abbrev pub TellsSticker : StickerKind → List ℕ → List ℕ → Result (String Global) ShelfFault → Type 0
  TellsSticker kind target name result =
      TellsText (database_standing (state store old)) (database_standing (state store new)) kind target name result

  abbrev pub ChangesSticker : {X : Type 0} → StickerKind → List ℕ → List ℕ → Result X ShelfFault → Type 0
  ChangesSticker kind target name result =
      ChangesThere (state store old) (state store new) (StickerOf kind target name) result

  -- a sticker is set
  abbrev pub AnswersSetting : {X : Type 0} → StickerKind → List ℕ → List ℕ → List ℕ → Result X ShelfFault → Type 0
  AnswersSetting kind target name value result =
      AnswersThere (state store old) (state store new) (SetSticker kind target name value)
      (refusal_of_note_name name) result

  abbrev pub ChangesSetting : {X : Type 0} → StickerKind → List ℕ → List ℕ → List ℕ → Result X ShelfFault → Type 0
  ChangesSetting kind target name value result =
      ChangesThere (state store old) (state store new) (SetSticker kind target name value) result

  -- a sticker is taken away
  abbrev pub AnswersDeleteSticker : {X : Type 0} → StickerKind → List ℕ → List ℕ → Result X ShelfFault → Type 0
  AnswersDeleteSticker kind target name result =
      AnswersThere (state store old) (state store new) (DeleteSticker kind target name)
      (refusal_of_note kind target name) result

  abbrev pub ChangesDeleteSticker : {X : Type 0} → StickerKind → List ℕ → List ℕ → Result X ShelfFault → Type 0
  ChangesDeleteSticker kind target name result =
      ChangesThere (state store old) (state store new) (DeleteSticker kind target name) result

  -- all stickers of a target are taken away
  abbrev pub AnswersDeleteStickers : {X : Type 0} → StickerKind → List ℕ → Result X ShelfFault → Type 0
  AnswersDeleteStickers kind target result =
      AnswersAllThere (state store old) (state store new) kind target result

  abbrev pub ChangesDeleteStickers : {X : Type 0} → StickerKind → List ℕ → Result X ShelfFault → Type 0
  ChangesDeleteStickers kind target result =
      ChangesThere (state store old) (state store new) (DeleteStickers kind target) result

  -- the stickers of a target are asked for
  abbrev pub AnswersStickersOf : {X : Type 0} → StickerKind → List ℕ → Result X ShelfFault → Type 0
  AnswersStickersOf kind target result =
      AnswersThere (state store old) (state store new) (StickersOf kind target) no_note_refusal result

  -- where the store is trusted, a success tells their names and texts
  abbrev pub TellsStickersOf : StickerKind → List ℕ → Result (Vec Entry) ShelfFault → Type 0
  TellsStickersOf kind target result =
      TellsEntries (database_standing (state store old)) (database_standing (state store new))
      (λ m. m.stickers kind target) result

  abbrev pub ChangesStickersOf : {X : Type 0} → StickerKind → List ℕ → Result X ShelfFault → Type 0
  ChangesStickersOf kind target result = ChangesThere (state store old) (state store new) (StickersOf kind target) result
