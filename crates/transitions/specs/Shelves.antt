-- What an event asks of the lent shelf, and what it makes of the shelf's two maps (MPD protocol reference,
-- Stored playlists, Stickers).
use Rattle.std.specs.Prelude.{◌≡◌, ⊤, ℕ, Bool, true, false, List, Option, Some, None, is_some, Result, Ok, Err, IfOk}
use Rattle.shelf.specs.declared.faults.ShelfFault.{ShelfFault}
use Rattle.shelf.specs.declared.kinds.StickerKind.{StickerKind}
use Rattle.shelf.specs.declared.faults.ShelfFault.TheVariants.{NoMemory, StoreFault}
use Rattle.shelf.specs.Calls as calls
use Rattle.shelf.specs.Calls.{Call}
use Rattle.shelf.specs.Shelf.{AnswersCall, maps_once_done}
use Rattle.shelf.specs.Maps.{Maps, Standing, Trusted, Changes, AreKeys, AreEntries, no_refusal, refusal_of_list, refusal_of_target, refusal_of_sticker}
use Rattle.transitions.specs.declared.shelf_calls.StoreReply.{StoreReply}
use Rattle.transitions.specs.declared.shelf_calls.Read.{Read}
use Rattle.transitions.specs.declared.shelf_calls.Read.TheVariants as read_variant
use Rattle.transitions.specs.declared.shelf_calls.ShelfWrite.{ShelfWrite}
use Rattle.transitions.specs.declared.shelf_calls.ShelfWrite.TheVariants.{Nothing, Put, Create, Rename, Remove, SetSticker, DeleteSticker, DeleteStickers}

-- what the shelf is asked before an event is decided: nothing; the names of all lists; a list; the sticker of
-- a target with a name; all stickers of a target; all stickers of a kind with a name
pub data Question : Type 0 where
  NoQuestion : Question
  AskNames : Question
  AskList : List ℕ → Question
  AskSticker : StickerKind → List ℕ → List ℕ → Question
  AskStickers : StickerKind → List ℕ → Question
  AskFound : StickerKind → List ℕ → Question

abbrev pub no_store_reply : StoreReply
no_store_reply = record { read = read_variant.Nothing; refused = None }

-- the call of the shelf by which it is written, if one is made
abbrev pub call_of : ShelfWrite → Option Call
call_of Nothing = None
call_of (Put name uris changes) = Some (calls.Put name uris)
call_of (Create name uris) = Some (calls.Create name uris)
call_of (Rename name new has_stickers) = Some (calls.Rename name new)
call_of (Remove name has_stickers) = Some (calls.Remove name)
call_of (SetSticker kind target name value changes) = Some (calls.SetSticker kind target name value)
call_of (DeleteSticker kind target name) = Some (calls.DeleteSticker kind target name)
call_of (DeleteStickers kind target) = Some (calls.DeleteStickers kind target)

abbrev pub is_written : ShelfWrite → Bool
is_written write = is_some (call_of write)

-- whether what is written makes the stored playlists others
abbrev pub changes_lists : ShelfWrite → Bool
changes_lists Nothing = false
changes_lists (Put name uris changes) = changes
changes_lists (Create name uris) = true
changes_lists (Rename name new has_stickers) = true
changes_lists (Remove name has_stickers) = true
changes_lists (SetSticker kind target name value changes) = false
changes_lists (DeleteSticker kind target name) = false
changes_lists (DeleteStickers kind target) = false

-- whether it makes the stickers others: those of a list go with it
abbrev pub changes_stickers : ShelfWrite → Bool
changes_stickers Nothing = false
changes_stickers (Put name uris changes) = false
changes_stickers (Create name uris) = false
changes_stickers (Rename name new has_stickers) = has_stickers
changes_stickers (Remove name has_stickers) = has_stickers
changes_stickers (SetSticker kind target name value changes) = changes
changes_stickers (DeleteSticker kind target name) = true
changes_stickers (DeleteStickers kind target) = true

-- the maps once a call is done, if one is made
abbrev pub maps_by : Option Call → Maps → Maps
maps_by None m = m
maps_by (Some call) m = maps_once_done call m

-- the maps once it is written
abbrev pub maps_after : ShelfWrite → Maps → Maps
maps_after write m = maps_by (call_of write) m

-- A call that asks is refused for its cause in the maps, or for the store. Want of memory is no answer: it
-- refuses the event itself.
abbrev pub IsCause : Type 0 → Option ShelfFault → ShelfFault → Type 0
IsCause failed refusal NoMemory = ⊥
IsCause failed refusal StoreFault = failed
IsCause failed refusal fault = refusal ≡ Some fault

-- The answer to a question is the maps', or a refusal of the call.
abbrev pub IsRead : (Call → Type 0) → Maps → Question → Read → Type 0
IsRead failed m NoQuestion read = read ≡ read_variant.Nothing
IsRead failed m AskNames (read_variant.Names names) = AreKeys m.lists names
IsRead failed m AskNames (read_variant.Refused fault) = IsCause (failed calls.Lists) no_refusal fault
IsRead failed m AskNames _ = ⊥
IsRead failed m (AskList name) (read_variant.List uris) = m.lists name ≡ Some uris
IsRead failed m (AskList name) (read_variant.Refused fault) = IsCause (failed (calls.ListOf name)) (refusal_of_list m name) fault
IsRead failed m (AskList name) _ = ⊥
IsRead failed m (AskSticker kind target name) (read_variant.Value value) =
    (refusal_of_sticker m kind target name ≡ None) × (m.stickers kind target name ≡ Some value)
IsRead failed m (AskSticker kind target name) (read_variant.Refused fault) =
    IsCause (failed (calls.StickerOf kind target name)) (refusal_of_sticker m kind target name) fault
IsRead failed m (AskSticker kind target name) _ = ⊥
IsRead failed m (AskStickers kind target) (read_variant.Entries entries) =
    (refusal_of_target m kind target ≡ None) × AreEntries (m.stickers kind target) entries
IsRead failed m (AskStickers kind target) (read_variant.Refused fault) =
    IsCause (failed (calls.StickersOf kind target)) (refusal_of_target m kind target) fault
IsRead failed m (AskStickers kind target) _ = ⊥
IsRead failed m (AskFound kind name) (read_variant.Entries entries) = AreEntries (λ target. m.stickers kind target name) entries
IsRead failed m (AskFound kind name) (read_variant.Refused fault) = IsCause (failed (calls.FindStickers kind name)) no_refusal fault
IsRead failed m (AskFound kind name) _ = ⊥

abbrev pub is_read : Read → Bool
is_read read_variant.Nothing = false
is_read (read_variant.Names names) = true
is_read (read_variant.List uris) = true
is_read (read_variant.Value value) = true
is_read (read_variant.Entries entries) = true
is_read (read_variant.Refused fault) = false

-- whether a question was answered, where memory was not wanting
abbrev pub is_ok_read : {E : Type 0} → Result Read E → Bool
is_ok_read (Ok read) = is_read read
is_ok_read (Err e) = false

-- a call that asks leaves the shelf's maps
abbrev pub ChangesByReading : {S E : Type 0} → (S → Standing) → S → S → Result Read E → Type 0
ChangesByReading standing old new result = Changes (standing old) (standing new) (is_ok_read result) (standing old).maps

-- what was read answers the question, where the shelf can be trusted and memory was not wanting
abbrev pub ReadsFor : {S E : Type 0} → (S → Standing) → (S → S → Call → Type 0) → S → S → Question → Result Read E → Type 0
ReadsFor standing failed old new question result =
    Trusted (standing old) (standing new) → IfOk result (λ read. IsRead (failed old new) (standing old).maps question read)

-- what a call that writes answers, by why it was refused
abbrev pub answered : Option ShelfFault → Result ⊤ ShelfFault
answered None = Ok tt
answered (Some fault) = Err fault

-- what a call answers, if one is made
abbrev pub IsAnsweredBy : (Call → Type 0) → Maps → Option Call → Result ⊤ ShelfFault → Type 0
IsAnsweredBy failed m None result = result ≡ Ok tt
IsAnsweredBy failed m (Some call) result = AnswersCall (failed call) m call result

-- What is written is done, or refused for its cause in the maps, or for the store.
abbrev pub IsAnswered : (Call → Type 0) → Maps → ShelfWrite → Result ⊤ ShelfFault → Type 0
IsAnswered failed m write result = IsAnsweredBy failed m (call_of write) result

-- whether something is to be written and was not refused
abbrev pub is_ok_write : ShelfWrite → Result ⊤ ShelfFault → Bool
is_ok_write write (Ok x) = is_written write
is_ok_write write (Err fault) = false

-- whether a refusal is for lack of memory
abbrev pub is_out_of_memory : Option ShelfFault → Bool
is_out_of_memory (Some NoMemory) = true
is_out_of_memory _ = false

module _ {S : Type 0} (standing : S → Standing) (failed : S → S → Call → Type 0) where
  -- What a lent shelf does for an event: it is asked at most one question, and then at most one thing is
  -- written. Between the two stands a shelf with the maps from before. An event that the shelf had no memory
  -- for is none.
  pub record Serves (old new : S) (question : Question) (write : ShelfWrite) (heard : StoreReply) : Type 0 where
    pub between : S
    pub asked : Changes (standing old) (standing between) (is_read heard.read) (standing old).maps
    pub read : Trusted (standing old) (standing between) → IsRead (failed old between) (standing old).maps question heard.read
    pub written : Changes (standing between) (standing new) (is_ok_write write (answered heard.refused)) (maps_after write (standing between).maps)
    pub answers : Trusted (standing between) (standing new) → IsAnswered (failed between new) (standing between).maps write (answered heard.refused)
    pub ample : is_out_of_memory heard.refused ≡ false

  -- What is left of a lent shelf where an event was refused: it was asked, and nothing was written.
  pub record LeavesUnchanged (old new : S) : Type 0 where
    pub between : S
    pub was_read : Bool
    pub asked : Changes (standing old) (standing between) was_read (standing old).maps
    pub after : Maps
    pub written : Changes (standing between) (standing new) false after
