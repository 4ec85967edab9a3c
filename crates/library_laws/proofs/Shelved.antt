-- What a shelf that works answers, and what is left of it.
use Rattle.std.proofs.Common.{◌≡◌, ℕ, true, cond, List, Option, Some, None, Ok, is_some, refl, sym, ap, subst}
use Rattle.shelf.specs.Maps.{Maps, first_of, refusal_of_list, refusal_of_sticker, refusal_of_target, is_list_name}
use Rattle.shelf.specs.declared.faults.ShelfFault.{ShelfFault}
use Rattle.shelf.specs.declared.faults.ShelfFault.TheVariants.{NoSuchList, Exists, BadName, NoSticker, StoreFault, NoMemory}
use Rattle.shelf.specs.declared.kinds.StickerKind.{StickerKind}
use Rattle.transitions.specs.CommandResults.{writes}
use Rattle.transitions.specs.Shelves.{AskList, AskSticker, AskStickers, IsAnswered, IsCause, IsRead, NoQuestion, maps_after}
use Rattle.transitions.specs.Transitions.{CommandResult}
use Rattle.transitions.specs.declared.asked.Asked.{Asked}
use Rattle.transitions.specs.declared.shelf_calls.Read.{Read}
use Rattle.transitions.specs.declared.shelf_calls.Read.TheVariants as reads
use Rattle.transitions.specs.declared.shelf_calls.ShelfWrite.{ShelfWrite}
use Rattle.library_laws.specs.Shelves.{IsDone, never}

-- where nothing refuses, there is no cause
no-cause : (refusal : Option ShelfFault) (fault : ShelfFault) → refusal ≡ None → IsCause ⊥ refusal fault → ⊥
no-cause refusal NoMemory e h = h
no-cause refusal StoreFault e h = h
no-cause refusal NoSuchList e h = absurd (cc)
no-cause refusal Exists e h = absurd (cc)
no-cause refusal BadName e h = absurd (cc)
no-cause refusal NoSticker e h = absurd (cc)

-- where something refuses, that is the cause
the-cause : (refusal : Option ShelfFault) (cause fault : ShelfFault) → refusal ≡ Some cause → IsCause ⊥ refusal fault → fault ≡ cause
the-cause refusal cause NoMemory e h = absurd h
the-cause refusal cause StoreFault e h = absurd h
the-cause refusal cause NoSuchList e h = cc
the-cause refusal cause Exists e h = cc
the-cause refusal cause BadName e h = cc
the-cause refusal cause NoSticker e h = cc

pub list-there : (maps : Maps) (name : List ℕ) (uris : List (List ℕ)) → maps.lists name ≡ Some uris → refusal_of_list maps name ≡ None
list-there maps name uris e = ap (λ (o : Option (List (List ℕ))). cond (is_some o) None (Some NoSuchList)) e

list-missing : (maps : Maps) (name : List ℕ) → maps.lists name ≡ None → refusal_of_list maps name ≡ Some NoSuchList
list-missing maps name e = ap (λ (o : Option (List (List ℕ))). cond (is_some o) None (Some NoSuchList)) e

read-list : (maps : Maps) (name : List ℕ) (uris : List (List ℕ)) (read : Read) → maps.lists name ≡ Some uris → IsRead never maps (AskList name) read → read ≡ reads.List uris
read-list maps name uris (reads.List other) e h = let is : other ≡ uris = cc in ap reads.List is
read-list maps name uris (reads.Refused fault) e h = absurd (no-cause (refusal_of_list maps name) fault (list-there maps name uris e) h)
read-list maps name uris _ e h = absurd h

read-missing : (maps : Maps) (name : List ℕ) (read : Read) → maps.lists name ≡ None → IsRead never maps (AskList name) read → read ≡ reads.Refused NoSuchList
read-missing maps name (reads.List other) e h = absurd (cc)
read-missing maps name (reads.Refused fault) e h = ap reads.Refused (the-cause (refusal_of_list maps name) NoSuchList fault (list-missing maps name e) h)
read-missing maps name _ e h = absurd h

-- the same of a question that is asked where the name is one's
pub asked-list : (maps : Maps) (name : List ℕ) (uris : List (List ℕ)) (read : Read) → is_list_name name ≡ true → maps.lists name ≡ Some uris → IsRead never maps (cond (is_list_name name) (AskList name) NoQuestion) read → read ≡ reads.List uris
asked-list maps name uris read named e h = read-list maps name uris read e (subst (λ b. IsRead never maps (cond b (AskList name) NoQuestion) read) named h)

pub asked-missing : (maps : Maps) (name : List ℕ) (read : Read) → is_list_name name ≡ true → maps.lists name ≡ None → IsRead never maps (cond (is_list_name name) (AskList name) NoQuestion) read → read ≡ reads.Refused NoSuchList
asked-missing maps name read named e h = read-missing maps name read e (subst (λ b. IsRead never maps (cond b (AskList name) NoQuestion) read) named h)

-- the stickers of a target that is there
pub read-stickers : (maps : Maps) (kind : StickerKind) (target : List ℕ) (read : Read) → refusal_of_target maps kind target ≡ None → IsRead never maps (AskStickers kind target) read → (entries : List (List ℕ × List ℕ)) × (read ≡ reads.Entries entries)
read-stickers maps kind target (reads.Entries entries) e h = (entries, refl)
read-stickers maps kind target (reads.Refused fault) e h = absurd (no-cause (refusal_of_target maps kind target) fault e h)
read-stickers maps kind target _ e h = absurd h

-- one of them

pub value-there : (maps : Maps) (kind : StickerKind) (target name value : List ℕ) → refusal_of_target maps kind target ≡ None → maps.stickers kind target name ≡ Some value → refusal_of_sticker maps kind target name ≡ None
value-there maps kind target name value there e = λ i. first_of (there i) (cond (is_some (e i)) None (Some NoSticker))

pub value-missing : (maps : Maps) (kind : StickerKind) (target name : List ℕ) → refusal_of_target maps kind target ≡ None → maps.stickers kind target name ≡ None → refusal_of_sticker maps kind target name ≡ Some NoSticker
value-missing maps kind target name there e = λ i. first_of (there i) (cond (is_some (e i)) None (Some NoSticker))

pub read-value : (maps : Maps) (kind : StickerKind) (target name value : List ℕ) (read : Read) → refusal_of_target maps kind target ≡ None → maps.stickers kind target name ≡ Some value → IsRead never maps (AskSticker kind target name) read → read ≡ reads.Value value
read-value maps kind target name value (reads.Value other) there e h = let is : other ≡ value = cc (h.1, e) in ap reads.Value is
read-value maps kind target name value (reads.Refused fault) there e h = absurd (no-cause (refusal_of_sticker maps kind target name) fault (value-there maps kind target name value there e) h)
read-value maps kind target name value _ there e h = absurd h

pub read-no-value : (maps : Maps) (kind : StickerKind) (target name : List ℕ) (read : Read) → refusal_of_target maps kind target ≡ None → maps.stickers kind target name ≡ None → IsRead never maps (AskSticker kind target name) read → read ≡ reads.Refused NoSticker
read-no-value maps kind target name (reads.Value other) there e h = absurd (cc (h.1, e))
read-no-value maps kind target name (reads.Refused fault) there e h = ap reads.Refused (the-cause (refusal_of_sticker maps kind target name) NoSticker fault (value-missing maps kind target name there e) h)
read-no-value maps kind target name _ there e h = absurd h

-- a command that writes is done
pub writes-done : (asked : Asked) (maps : Maps) (AreSo : Maps → Type 0) (write : ShelfWrite) (result : CommandResult) → result ≡ writes asked write → IsAnswered never maps write (Ok tt) → AreSo (maps_after write maps) → IsDone maps AreSo result
writes-done asked maps AreSo write result e answered left =
    subst (λ (r : CommandResult). IsDone maps AreSo r) (sym e) (record { granted = refl; answered = answered; left = left })
