-- The maps of a shelf in memory.
use Rattle.std.specs.Prelude.{◌≡◌, ℕ, Bool, true, if◌then◌else◌, List, map, Option, Some, None, is_some, option_map, Result, IfOk, string_bytes, bytes_eq}
use Rattle.std.specs.Map.{update}
use Rattle.std.specs.BTreeMap.{BTreeMap, get_by_text}
use Rattle.std.specs.Global.{Vec, Global}
use Rattle.std.specs.declared.string.String.{String}
use Rattle.shelf.specs.declared.faults.Entry.{Entry}
use Rattle.shelf.specs.declared.faults.ShelfFault.{ShelfFault}
use Rattle.shelf.specs.declared.faults.ShelfFault.TheVariants.{NoSticker}
use Rattle.shelf.specs.declared.kinds.StickerKind.{StickerKind}
use Rattle.shelf.specs.declared.kinds.StickerKind.TheVariants.{Song, Playlist}
use Rattle.shelf.specs.declared.memory.MemShelf.{MemShelf}
use Rattle.shelf.specs.declared.stickers.Stickers.{Stickers}
use Rattle.shelf.specs.Entries.{entry_texts}
use Rattle.shelf.specs.Maps.{Maps, Standing, AreEntries, no_stickers}

abbrev pub Lists : Type 0
Lists = BTreeMap (String Global) (List (List ℕ))

abbrev pub Texts : Type 0
Texts = BTreeMap (String Global) (String Global)

abbrev pub text_in : Option Texts → List ℕ → Option (List ℕ)
text_in None name = None
text_in (Some names) name = option_map string_bytes (get_by_text names name)

abbrev pub stickers_in : BTreeMap (String Global) Texts → List ℕ → List ℕ → Option (List ℕ)
stickers_in targets target name = text_in (get_by_text targets target) name

-- texts by target and name
abbrev pub ByTarget : Type 0
ByTarget = List ℕ → List ℕ → Option (List ℕ)

-- the text of each sticker of one kind
abbrev pub texts_of : Stickers → ByTarget
texts_of stickers = stickers_in stickers.targets

abbrev pub no_texts : ByTarget
no_texts = λ target. no_stickers

abbrev pub refusal_of_text : Option (List ℕ) → Option ShelfFault
refusal_of_text text = if is_some text then None else Some NoSticker

-- the texts where the target has these
abbrev pub with_texts : List ℕ → (List ℕ → Option (List ℕ)) → ByTarget → ByTarget
with_texts target named texts = λ other. if bytes_eq target other then named else texts other

-- the texts where the target has this one, or none, at the name
abbrev pub with_text : List ℕ → List ℕ → Option (List ℕ) → ByTarget → ByTarget
with_text target name value texts = with_texts target (update bytes_eq (texts target) name value) texts

-- the texts once those of the target have moved to another
abbrev pub moved : List ℕ → List ℕ → ByTarget → ByTarget
moved target new_target texts = with_texts new_target (texts target) (with_texts target no_stickers texts)

-- the stickers have these texts
abbrev pub Shows : Stickers → ByTarget → Type 0
Shows stickers texts = (target name : List ℕ) → texts_of stickers target name ≡ texts target name

-- a call that is to change the texts so does that, or leaves them
abbrev pub ChangesTexts : Stickers → Stickers → Bool → (ByTarget → ByTarget) → Type 0
ChangesTexts old new is_done change = Shows new (if is_done then change (texts_of old) else texts_of old)

-- a success tells all entries of these texts, by rising bytes of the keys
abbrev pub TellsTexts : (List ℕ → Option (List ℕ)) → Result (Vec Entry) ShelfFault → Type 0
TellsTexts texts result = IfOk result (λ entries. AreEntries texts (map entry_texts entries.items))

-- the one of the kind
abbrev pub of_kind : {X : Type 0} → X → X → StickerKind → X
of_kind songs playlists Song = songs
of_kind songs playlists Playlist = playlists

-- memory returns what was written, and nothing of it is left after a stop
abbrev pub memory_of : Maps → Standing
memory_of maps = record { maps = maps; IsClean = Unit {0}; IsOurs = Unit {0}; is_open = true; faults = 0; MayLeave = λ m. ⊥ }

abbrev pub memory_maps : Lists → Stickers → Stickers → Maps
memory_maps lists songs playlists =
    record { lists = get_by_text lists; stickers = λ kind. texts_of (of_kind songs playlists kind) }

abbrev pub maps_of : MemShelf → Maps
maps_of shelf = memory_maps shelf.lists shelf.songs shelf.playlists
