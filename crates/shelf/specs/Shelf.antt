-- What each call of a shelf answers, tells and makes of the maps (MPD protocol reference, Stored playlists,
-- Stickers).
use Rattle.std.specs.Prelude.{◌≡◌, ℕ, List, map, Option, Some, None, Result, IfOk, IsTrue, is_ok, string_bytes}
use Rattle.std.specs.Global.{Vec, Global}
use Rattle.std.specs.declared.string.String.{String}
use Rattle.shelf.specs.declared.faults.Entry.{Entry}
use Rattle.shelf.specs.declared.faults.ShelfFault.{ShelfFault}
use Rattle.shelf.specs.declared.kinds.StickerKind.{StickerKind}
use Rattle.shelf.specs.Calls.{Call, Lists, ListOf, Put, Create, Rename, Remove, StickerOf, SetSticker, DeleteSticker, DeleteStickers, StickersOf, FindStickers}
use Rattle.shelf.specs.Entries.{entry_texts}
use Rattle.shelf.specs.Maps.{Maps, Standing, Same, Trusted, Changes, Answers, AnswersAll, AreKeys, AreEntries, with_list, with_renamed, with_removed, with_sticker, with_stickers, no_stickers, no_refusal, refusal_of_list, refusal_of_put, refusal_of_create, refusal_of_rename, refusal_of_target, refusal_of_set, refusal_of_sticker}

-- what each call answers over these maps: its own refusal, and `StoreFault` for this reason alone
abbrev pub AnswersCall : {X : Type 0} → Type 0 → Maps → Call → Result X ShelfFault → Type 0
AnswersCall failed m Lists result = Answers failed no_refusal result
AnswersCall failed m (ListOf name) result = Answers failed (refusal_of_list m name) result
AnswersCall failed m (Put name uris) result = Answers failed (refusal_of_put name) result
AnswersCall failed m (Create name uris) result = Answers failed (refusal_of_create m name) result
AnswersCall failed m (Rename name new) result = Answers failed (refusal_of_rename m name new) result
AnswersCall failed m (Remove name) result = Answers failed (refusal_of_list m name) result
AnswersCall failed m (StickerOf kind target name) result = Answers failed (refusal_of_sticker m kind target name) result
AnswersCall failed m (SetSticker kind target name value) result = Answers failed (refusal_of_set m kind target name) result
AnswersCall failed m (DeleteSticker kind target name) result = Answers failed (refusal_of_sticker m kind target name) result
AnswersCall failed m (DeleteStickers kind target) result = AnswersAll failed (refusal_of_target m kind target) (m.stickers kind target) result
AnswersCall failed m (StickersOf kind target) result = Answers failed (refusal_of_target m kind target) result
AnswersCall failed m (FindStickers kind name) result = Answers failed no_refusal result

-- the maps once the call is done; one that asks leaves them
abbrev pub maps_once_done : Call → Maps → Maps
maps_once_done Lists m = m
maps_once_done (ListOf name) m = m
maps_once_done (Put name uris) m = with_list m name (Some uris)
maps_once_done (Create name uris) m = with_list m name (Some uris)
maps_once_done (Rename name new) m = with_renamed m name new
maps_once_done (Remove name) m = with_removed m name
maps_once_done (StickerOf kind target name) m = m
maps_once_done (SetSticker kind target name value) m = with_sticker m kind target name (Some value)
maps_once_done (DeleteSticker kind target name) m = with_sticker m kind target name None
maps_once_done (DeleteStickers kind target) m = with_stickers m kind target no_stickers
maps_once_done (StickersOf kind target) m = m
maps_once_done (FindStickers kind name) m = m

module _ {S : Type 0} (standing : S → Standing) where
  -- where the store is trusted, the call answers by the maps from before it
  abbrev pub IsAnswerTo : {X : Type 0} → (S → S → Call → Type 0) → S → S → Call → Result X ShelfFault → Type 0
  IsAnswerTo failed old new call result =
      Trusted (standing old) (standing new) → AnswersCall (failed old new call) (standing old).maps call result

  -- the call changes the maps to those of the call done, or changes nothing while the store is open
  abbrev pub ChangesBy : {X : Type 0} → S → S → Call → Result X ShelfFault → Type 0
  ChangesBy old new call result = Changes (standing old) (standing new) (is_ok result) (maps_once_done call (standing old).maps)

module _ (old new : Standing) where
  -- where the store is trusted, a success tells the names of all lists, by rising bytes
  abbrev pub TellsNames : Result (Vec (String Global)) ShelfFault → Type 0
  TellsNames result = Trusted old new → IfOk result (λ names. AreKeys old.maps.lists (map string_bytes names.items))

  -- where the store is trusted, a success tells the URIs of the list with the name
  abbrev pub TellsUris : List ℕ → Result (List (List ℕ)) ShelfFault → Type 0
  TellsUris name result = Trusted old new → IfOk result (λ uris. old.maps.lists name ≡ Some uris)

  -- where the store is trusted, a success tells the text of the sticker of the target with the name
  abbrev pub TellsText : StickerKind → List ℕ → List ℕ → Result (String Global) ShelfFault → Type 0
  TellsText kind target name result = Trusted old new → IfOk result (λ text. old.maps.stickers kind target name ≡ Some (string_bytes text))

  -- where the store is trusted, a success tells all entries of a part of the maps, by rising bytes of the
  -- keys
  abbrev pub TellsEntries : (Maps → List ℕ → Option (List ℕ)) → Result (Vec Entry) ShelfFault → Type 0
  TellsEntries part result =
      Trusted old new → IfOk result (λ entries. AreEntries (part old.maps) (map entry_texts entries.items))

-- the texts of the stickers of a target, by their names
abbrev pub texts_by_name : StickerKind → List ℕ → Maps → List ℕ → Option (List ℕ)
texts_by_name kind target m = m.stickers kind target

-- the texts of the stickers of a kind with a name, by their targets
abbrev pub texts_by_target : StickerKind → List ℕ → Maps → List ℕ → Option (List ℕ)
texts_by_target kind name m target = m.stickers kind target name

-- while the store is open, a stop leaves the maps that the shelf shows
abbrev pub LeavesWhatItShows : Standing → Type 0
LeavesWhatItShows s = (m : Maps) → s.IsClean → s.IsOurs → IsTrue s.is_open → s.MayLeave m → Same s.maps m
