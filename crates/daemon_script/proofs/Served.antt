-- What a shelf in memory does for an event is what its contents say.
use Rattle.std.proofs.Common.{◌≡◌, ℕ, Bool, true, false, List, Option, Some, None, is_some, Ok, refl, sym, ap, subst, ◌∙◌, if◌then◌else◌}
use Rattle.std.specs.FinMap as finite
use Rattle.std.proofs.lemmas.Option.{same_Some}
use Rattle.shelf.specs.Calls.{Call}
use Rattle.shelf.specs.Maps.{Answers, AnswersAll, Maps, Same, Standing, Changes, refusal_of_create, refusal_of_list, refusal_of_put, refusal_of_rename, refusal_of_set, refusal_of_sticker, refusal_of_target, first_of}
use Rattle.shelf.specs.Memory.{maps_of, memory_of}
use Rattle.shelf.specs.declared.faults.ShelfFault.{ShelfFault}
use Rattle.shelf.specs.declared.faults.ShelfFault.TheVariants.{NoSuchList, Exists, BadName, NoSticker, StoreFault, NoMemory}
use Rattle.shelf.specs.declared.kinds.StickerKind.{StickerKind}
use Rattle.shelf.specs.declared.memory.MemShelf.{MemShelf}
use Rattle.player_events.specs.declared.event.Event.{Event}
use Rattle.transitions.specs.declared.shelf_calls.StoreReply.{StoreReply}
use Rattle.transitions.specs.declared.shelf_calls.Read.{Read}
use Rattle.transitions.specs.declared.shelf_calls.Read.TheVariants as read_variant
use Rattle.transitions.specs.declared.shelf_calls.ShelfWrite.{ShelfWrite}
use Rattle.transitions.specs.declared.shelf_calls.ShelfWrite.TheVariants.{Nothing, Put, Create, Rename, Remove, SetSticker, DeleteSticker, DeleteStickers}
use Rattle.partition.specs.Image.{Image}
use Rattle.partition.specs.Lent.{question, writing}
use Rattle.transitions.specs.Shelves.{IsAnswered, IsCause, IsRead, Question, NoQuestion, AskNames, AskList, AskSticker, AskStickers, AskFound, Serves, LeavesUnchanged, answered, is_ok_write, is_out_of_memory, is_written, maps_after}
use Rattle.daemon_script.specs.Contents.{Contents, contents_of, has_stickers, maps_in, stickers_for, stickers_of}
use Rattle.daemon_script.specs.Shelf.{contents_after, contents_with, heard_by, list_read, read_in, refusal_in, refusal_of_all, refusal_of_none, shelf_after, sticker_read, unless_refused}
use Rattle.daemon_script.proofs.Edited.{list_put, list_removed, list_renamed, sticker_put, stickers_gone}
use Rattle.daemon_script.proofs.Held.{held, shows_lists, shows_stickers}
use Rattle.daemon_script.proofs.Listed.{keys_are, named_are, no_stickers_at, some_stickers, stickers_are}

abbrev pub standing_of : MemShelf → Standing
standing_of s = memory_of (maps_of s)

-- a shelf in memory never fails
abbrev pub never_failed : MemShelf → MemShelf → Call → Type 0
never_failed old new call = ⊥

abbrev pub contents : MemShelf → Contents
contents s = contents_of s

-- a shelf shows its contents
shows : (s : MemShelf) → maps_in (contents s) ≡ (standing_of s).maps
shows s = λ i. record { lists = λ name. shows_lists s name i; stickers = λ kind target name. shows_stickers s kind target name i }

-- a shelf whose maps are shown by contents has these contents
pub holds : (s : MemShelf) (c : Contents) → Same (maps_in c) (standing_of s).maps → contents s ≡ c
holds s c same = held s c same

-- ---- what a question is answered

never_none : {A : Type 0} (fault : ShelfFault) → None ≡ Some fault → A
never_none fault e = (let clash : false ≡ true = ap is_some e in cc)

-- memory that is wanting is no answer, and memory does not fail
cause_is : (refusal : Option ShelfFault) (fault : ShelfFault) → IsCause ⊥ refusal fault → refusal ≡ Some fault
cause_is refusal NoSuchList is = is
cause_is refusal Exists is = is
cause_is refusal BadName is = is
cause_is refusal NoSticker is = is
cause_is refusal StoreFault is = absurd is
cause_is refusal NoMemory is = absurd is

list_refused : (o : Option (List (List ℕ))) (fault : ShelfFault) → (if is_some o then None else Some NoSuchList) ≡ Some fault → read_variant.Refused fault ≡ list_read o
list_refused None fault e = ap read_variant.Refused (sym (same_Some NoSuchList fault e))
list_refused (Some uris) fault e = never_none fault e

sticker_refused : (target : Option ShelfFault) (o : Option (List ℕ)) (fault : ShelfFault) → first_of target (if is_some o then None else Some NoSticker) ≡ Some fault
    → read_variant.Refused fault ≡ unless_refused target (sticker_read o)
sticker_refused (Some cause) o fault e = ap read_variant.Refused (sym (same_Some cause fault e))
sticker_refused None None fault e = ap read_variant.Refused (sym (same_Some NoSticker fault e))
sticker_refused None (Some value) fault e = never_none fault e

-- a target that refuses
target_refused : (target : Option ShelfFault) (read : Read) (fault : ShelfFault) → target ≡ Some fault → read_variant.Refused fault ≡ unless_refused target read
target_refused target read fault e = ap (λ o. unless_refused o read) (sym e)

-- a target that refuses nothing
unrefused : (target : Option ShelfFault) (read : Read) → target ≡ None → read ≡ unless_refused target read
unrefused target read e = ap (λ o. unless_refused o read) (sym e)

first_none : (first later : Option ShelfFault) → first_of first later ≡ None → first ≡ None
first_none None later e = refl
first_none (Some fault) later e = e

abbrev Fails : Call → Type 0
Fails call = ⊥

reads : (c : Contents) (q : Question) (read : Read) → IsRead Fails (maps_in c) q read → read ≡ read_in c q
reads c NoQuestion read is = is
reads c AskNames read_variant.Nothing is = absurd is
reads c AskNames (read_variant.Names names) is = ap read_variant.Names (keys_are c.lists (maps_in c).lists names (λ q. refl) is)
reads c AskNames (read_variant.List uris) is = absurd is
reads c AskNames (read_variant.Value value) is = absurd is
reads c AskNames (read_variant.Entries es) is = absurd is
reads c AskNames (read_variant.Refused fault) is = never_none fault (cause_is None fault is)
reads c (AskList name) read_variant.Nothing is = absurd is
reads c (AskList name) (read_variant.Names names) is = absurd is
reads c (AskList name) (read_variant.List uris) is = ap list_read (sym is)
reads c (AskList name) (read_variant.Value value) is = absurd is
reads c (AskList name) (read_variant.Entries es) is = absurd is
reads c (AskList name) (read_variant.Refused fault) is = list_refused (finite.get c.lists name) fault (cause_is (refusal_of_list (maps_in c) name) fault is)
reads c (AskSticker kind target name) read_variant.Nothing is = absurd is
reads c (AskSticker kind target name) (read_variant.Names names) is = absurd is
reads c (AskSticker kind target name) (read_variant.List uris) is = absurd is
reads c (AskSticker kind target name) (read_variant.Value value) is =
    ap sticker_read (sym is.1) ∙ unrefused (refusal_of_target (maps_in c) kind target) (sticker_read (finite.get (stickers_for c kind) (target, name)))
    (first_none (refusal_of_target (maps_in c) kind target) _ is.0)
reads c (AskSticker kind target name) (read_variant.Entries es) is = absurd is
reads c (AskSticker kind target name) (read_variant.Refused fault) is =
    sticker_refused (refusal_of_target (maps_in c) kind target) (finite.get (stickers_for c kind) (target, name)) fault (cause_is (refusal_of_sticker (maps_in c) kind target name) fault is)
reads c (AskStickers kind target) read_variant.Nothing is = absurd is
reads c (AskStickers kind target) (read_variant.Names names) is = absurd is
reads c (AskStickers kind target) (read_variant.List uris) is = absurd is
reads c (AskStickers kind target) (read_variant.Value value) is = absurd is
reads c (AskStickers kind target) (read_variant.Entries es) is =
    ap read_variant.Entries (stickers_are (stickers_for c kind) target ((maps_in c).stickers kind target) es (λ name. refl) is.1)
    ∙ unrefused (refusal_of_target (maps_in c) kind target) (read_variant.Entries (stickers_of (stickers_for c kind) target)) is.0
reads c (AskStickers kind target) (read_variant.Refused fault) is =
    target_refused (refusal_of_target (maps_in c) kind target) (read_variant.Entries (stickers_of (stickers_for c kind) target)) fault (cause_is (refusal_of_target (maps_in c) kind target) fault is)
reads c (AskFound kind name) read_variant.Nothing is = absurd is
reads c (AskFound kind name) (read_variant.Names names) is = absurd is
reads c (AskFound kind name) (read_variant.List uris) is = absurd is
reads c (AskFound kind name) (read_variant.Value value) is = absurd is
reads c (AskFound kind name) (read_variant.Entries es) is =
    ap read_variant.Entries (named_are (stickers_for c kind) name (λ target. (maps_in c).stickers kind target name) es (λ target. refl) is)
reads c (AskFound kind name) (read_variant.Refused fault) is = never_none fault (cause_is None fault is)

-- ---- why what is to be written is refused

answer_is : (refusal r : Option ShelfFault) → Answers ⊥ refusal (answered r) → is_out_of_memory r ≡ false → r ≡ refusal
answer_is refusal None is ample = sym is
answer_is refusal (Some NoSuchList) is ample = sym is
answer_is refusal (Some Exists) is ample = sym is
answer_is refusal (Some BadName) is ample = sym is
answer_is refusal (Some NoSticker) is ample = sym is
answer_is refusal (Some StoreFault) is ample = absurd is
answer_is refusal (Some NoMemory) is ample = cc

-- a target that refuses is the first cause
first_refuses : (c : Contents) (kind : StickerKind) (target : List ℕ) (fault : ShelfFault) → refusal_of_target (maps_in c) kind target ≡ Some fault
    → Some fault ≡ refusal_of_all c kind target
first_refuses c kind target fault e = sym (ap (λ o. first_of o (refusal_of_none c kind target)) e)

all_answer_is : (c : Contents) (kind : StickerKind) (target : List ℕ) (r : Option ShelfFault)
    → AnswersAll ⊥ (refusal_of_target (maps_in c) kind target) ((maps_in c).stickers kind target) (answered r) → is_out_of_memory r ≡ false
    → r ≡ refusal_of_all c kind target
all_answer_is c kind target None is ample =
    sym (ap (λ o. first_of o (refusal_of_none c kind target)) is.0
    ∙ ap (λ b. if b then None else Some NoSticker) (some_stickers (stickers_for c kind) target is.1.0 is.1.1))
all_answer_is c kind target (Some NoSuchList) is ample = first_refuses c kind target NoSuchList is
all_answer_is c kind target (Some Exists) is ample = first_refuses c kind target Exists is
all_answer_is c kind target (Some BadName) is ample = first_refuses c kind target BadName is
all_answer_is c kind target (Some NoSticker) is ample =
    sym (ap (λ o. first_of o (refusal_of_none c kind target)) is.0
    ∙ ap (λ b. if b then None else Some NoSticker) (no_stickers_at (stickers_for c kind) target is.1))
all_answer_is c kind target (Some StoreFault) is ample = absurd is
all_answer_is c kind target (Some NoMemory) is ample = cc

not_refused : (r : Option ShelfFault) → answered r ≡ Ok tt → r ≡ None
not_refused None e = refl
not_refused (Some fault) e = cc

refuses : (c : Contents) (w : ShelfWrite) (r : Option ShelfFault) → IsAnswered Fails (maps_in c) w (answered r) → is_out_of_memory r ≡ false → r ≡ refusal_in c w
refuses c Nothing r is ample = not_refused r is
refuses c (Put name uris changes) r is ample = answer_is (refusal_of_put name) r is ample
refuses c (Create name uris) r is ample = answer_is (refusal_of_create (maps_in c) name) r is ample
refuses c (Rename name new has_stickers) r is ample = answer_is (refusal_of_rename (maps_in c) name new) r is ample
refuses c (Remove name has_stickers) r is ample = answer_is (refusal_of_list (maps_in c) name) r is ample
refuses c (SetSticker kind target name value changes) r is ample = answer_is (refusal_of_set (maps_in c) kind target name) r is ample
refuses c (DeleteSticker kind target name) r is ample = answer_is (refusal_of_sticker (maps_in c) kind target name) r is ample
refuses c (DeleteStickers kind target) r is ample = all_answer_is c kind target r is ample

-- ---- the contents after

after_write : (c : Contents) (w : ShelfWrite) → is_written w ≡ true → Same (maps_after w (maps_in c)) (maps_in (contents_with w c))
after_write c Nothing e = cc
after_write c (Put name uris changes) e = list_put c name (Some uris)
after_write c (Create name uris) e = list_put c name (Some uris)
after_write c (Rename name new has_stickers) e = list_renamed c name new
after_write c (Remove name has_stickers) e = list_removed c name
after_write c (SetSticker kind target name value changes) e = sticker_put c kind target name (Some value)
after_write c (DeleteSticker kind target name) e = sticker_put c kind target name None
after_write c (DeleteStickers kind target) e = stickers_gone c kind target

same_between : (a b c : Maps) → Same a b → Same a c → Same b c
same_between a b c ab ac = record { lists = λ name. ac.lists name ∙ sym (ab.lists name); stickers = λ kind target name. ac.stickers kind target name ∙ sym (ab.stickers kind target name) }

trusted : Unit {0} × Unit {0}
trusted = (record {}, record {})

-- a call that changes nothing leaves the contents
pub kept : (old new : MemShelf) (after : Maps) → Changes (standing_of old) (standing_of new) false after → contents new ≡ contents old
kept old new after changes = holds new (contents old) (subst (λ m. Same m (standing_of new).maps) (sym (shows old)) (changes.kept trusted refl refl))

pub asked : (old new : MemShelf) (b : Bool) → Changes (standing_of old) (standing_of new) b (standing_of old).maps → contents new ≡ contents old
asked old new true changes = holds new (contents old) (subst (λ m. Same m (standing_of new).maps) (sym (shows old)) (changes.done trusted refl).1)
asked old new false changes = kept old new (standing_of old).maps changes

done : (old new : MemShelf) (w : ShelfWrite) → is_written w ≡ true → Changes (standing_of old) (standing_of new) true (maps_after w (standing_of old).maps) → contents new ≡ contents_with w (contents old)
done old new w e changes =
    holds new (contents_with w (contents old)) (same_between (maps_after w (maps_in (contents old))) (maps_in (contents_with w (contents old))) (standing_of new).maps
    (after_write (contents old) w e) (subst (λ m. Same (maps_after w m) (standing_of new).maps) (sym (shows old)) (changes.done trusted refl).1))

unwritten_same : (w : ShelfWrite) (c : Contents) → is_written w ≡ false → contents_with w c ≡ c
unwritten_same Nothing c e = refl
unwritten_same (Put name uris changes) c e = cc
unwritten_same (Create name uris) c e = cc
unwritten_same (Rename name new has_stickers) c e = cc
unwritten_same (Remove name has_stickers) c e = cc
unwritten_same (SetSticker kind target name value changes) c e = cc
unwritten_same (DeleteSticker kind target name) c e = cc
unwritten_same (DeleteStickers kind target) c e = cc

written : (old new : MemShelf) (w : ShelfWrite) (r : Option ShelfFault) → Changes (standing_of old) (standing_of new) (is_ok_write w (answered r)) (maps_after w (standing_of old).maps)
    → contents new ≡ contents_after w r (contents old)
written old new w None changes =
    let cases : (b : Bool) → is_written w ≡ b → Changes (standing_of old) (standing_of new) b (maps_after w (standing_of old).maps) → contents new ≡ contents_with w (contents old) =
    λ b. elim b as (λ b. is_written w ≡ b → Changes (standing_of old) (standing_of new) b (maps_after w (standing_of old).maps) → contents new ≡ contents_with w (contents old)) [
      | true ↦ λ e t. done old new w e t
      | false ↦ λ e t. kept old new (maps_after w (standing_of old).maps) t ∙ sym (unwritten_same w (contents old) e)
    ] in
    cases (is_written w) refl changes
written old new w (Some fault) changes = kept old new (maps_after w (standing_of old).maps) changes

-- ---- an event

module _ (i : Image) (e : Event) (old new : MemShelf) where
  abbrev c : Contents
  c = contents old

  -- what an event heard is what the contents answer, and the contents are those after it
  pub served : (heard : StoreReply) → Serves standing_of never_failed old new (question i e) (writing i e heard) heard
      → (heard ≡ heard_by c i e) × (contents new ≡ shelf_after c i e heard)
  served heard serves =
      let before : contents serves.between ≡ c = asked old serves.between _ serves.asked in
      let read : heard.read ≡ read_in c (question i e) = reads c (question i e) heard.read (subst (λ m. IsRead Fails m (question i e) heard.read) (sym (shows old)) (serves.read trusted)) in
      let answers : IsAnswered Fails (maps_in c) (writing i e heard) (answered heard.refused) =
      subst (λ m. IsAnswered Fails m (writing i e heard) (answered heard.refused)) (sym (shows serves.between) ∙ ap maps_in before) (serves.answers trusted) in
      let refused : heard.refused ≡ refusal_in c (writing i e heard) = refuses c (writing i e heard) heard.refused answers serves.ample in (
        λ j. record { read = read j; refused = (refused ∙ ap (λ (r : Read). refusal_in c (writing i e (record { read = r; refused = None }))) read) j },
        written serves.between new (writing i e heard) heard.refused serves.written ∙ ap (contents_after (writing i e heard) heard.refused) before,
      )

  -- an event that was refused leaves the contents
  pub unchanged : LeavesUnchanged standing_of never_failed old new → contents new ≡ contents old
  unchanged leaves_unchanged = kept leaves_unchanged.between new leaves_unchanged.after leaves_unchanged.written ∙ asked old leaves_unchanged.between leaves_unchanged.was_read leaves_unchanged.asked
