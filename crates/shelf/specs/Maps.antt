-- Stored playlists and stickers as two maps, and what each call answers and leaves of them (MPD protocol
-- reference, Stored playlists, Stickers).
use Rattle.std.specs.Prelude.{◌≡◌, ◌⊎◌, ℕ, ◌+◌, ◌-◌, ◌^◌, ◌≤◌, min, nat_lt, nat_le, Bool, true, false, not, ◌&&◌, ◌||◌, ◌==◌, if◌then◌else◌, List, length, map, Option, Some, None, is_some, IsSome, IsTrue, Result, Ok, Err, bytes_eq}
use Rattle.std.specs.Map.{update, lookup}
use Rattle.std.specs.List.{list_any}
use Rattle.std.specs.List.Sorted.{IsStrictlySortedBy}
use Rattle.std.specs.Cmp.Lexicographic.{slice_cmp}
use Rattle.std.specs.Ordering.{nat_cmp}
use Rattle.shelf.specs.declared.faults.ShelfFault.{ShelfFault}
use Rattle.shelf.specs.declared.kinds.StickerKind.{StickerKind}
use Rattle.shelf.specs.declared.kinds.StickerKind.TheVariants.{Song, Playlist}
use Rattle.shelf.specs.declared.faults.ShelfFault.TheVariants.{NoSuchList, Exists, BadName, NoSticker, StoreFault, NoMemory}

-- the URIs of each stored playlist by its name, and the text of each sticker by its kind, its target (a
-- song's URI or a playlist's name) and its name
pub record Maps : Type 0 where
  pub lists : List ℕ → Option (List (List ℕ))
  pub stickers : StickerKind → List ℕ → List ℕ → Option (List ℕ)

-- the same answer at every name
pub record Same (a b : Maps) : Type 0 where
  pub lists : (name : List ℕ) → b.lists name ≡ a.lists name
  pub stickers : (kind : StickerKind) (target name : List ℕ) → b.stickers kind target name ≡ a.stickers kind target name

-- a shelf with nothing on it
abbrev pub no_maps : Maps
no_maps = record { lists = λ name. None; stickers = λ kind target name. None }

abbrev pub no_stickers : List ℕ → Option (List ℕ)
no_stickers name = None

-- the maps with this list, or none, at the name
abbrev pub with_list : Maps → List ℕ → Option (List (List ℕ)) → Maps
with_list m name uris = record m { lists = update bytes_eq m.lists name uris }

-- whether a sticker is of the one kind or of the other
abbrev pub same_kind : StickerKind → StickerKind → Bool
same_kind Song Song = true
same_kind Playlist Playlist = true
same_kind _ _ = false

-- the maps with these stickers at the target
abbrev pub with_stickers : Maps → StickerKind → List ℕ → (List ℕ → Option (List ℕ)) → Maps
with_stickers m kind target named =
    record m { stickers = λ other_kind other. if same_kind kind other_kind && bytes_eq target other then named else m.stickers other_kind other }

-- the maps with this text, or none, at the target and the name
abbrev pub with_sticker : Maps → StickerKind → List ℕ → List ℕ → Option (List ℕ) → Maps
with_sticker m kind target name value = with_stickers m kind target (update bytes_eq (m.stickers kind target) name value)

-- the maps where the list moved to another name, with its stickers
abbrev pub with_renamed : Maps → List ℕ → List ℕ → Maps
with_renamed m name new =
    with_stickers (with_stickers (with_list (with_list m name None) new (m.lists name)) Playlist name no_stickers) Playlist new (m.stickers Playlist name)

-- the maps without the list and its stickers
abbrev pub with_removed : Maps → List ℕ → Maps
with_removed m name = with_stickers (with_list m name None) Playlist name no_stickers

-- 1 to 255 bytes, without `/` and bytes below 0x20
abbrev pub is_list_name : List ℕ → Bool
is_list_name name = nat_lt 0 (length name) && nat_le (length name) 255 && not (list_any (λ b. nat_lt b 0x20 || b == 47) name)

-- not empty, and without `=`
abbrev pub is_sticker_name : List ℕ → Bool
is_sticker_name name = nat_lt 0 (length name) && not (list_any (λ b. b == 61) name)

-- what refuses each call, or nothing: the first cause by the order NoSuchList, Exists, BadName, NoSticker
abbrev pub no_refusal : Option ShelfFault
no_refusal = None

-- the first of two causes
abbrev pub first_of : Option ShelfFault → Option ShelfFault → Option ShelfFault
first_of None later = later
first_of (Some fault) later = Some fault

abbrev pub refusal_of_list : Maps → List ℕ → Option ShelfFault
refusal_of_list m name = if is_some (m.lists name) then None else Some NoSuchList

abbrev pub refusal_of_put : List ℕ → Option ShelfFault
refusal_of_put name = if is_list_name name then None else Some BadName

abbrev pub refusal_of_create : Maps → List ℕ → Option ShelfFault
refusal_of_create m name = if is_some (m.lists name) then Some Exists else refusal_of_put name

abbrev pub refusal_of_rename : Maps → List ℕ → List ℕ → Option ShelfFault
refusal_of_rename m name new = if is_some (m.lists name) then refusal_of_create m new else Some NoSuchList

-- a song may be any; a stored playlist has to be there
abbrev pub refusal_of_target : Maps → StickerKind → List ℕ → Option ShelfFault
refusal_of_target m Song target = None
refusal_of_target m Playlist target = refusal_of_list m target

abbrev pub refusal_of_set : Maps → StickerKind → List ℕ → List ℕ → Option ShelfFault
refusal_of_set m kind target name = first_of (refusal_of_target m kind target) (if is_sticker_name name then None else Some BadName)

abbrev pub refusal_of_sticker : Maps → StickerKind → List ℕ → List ℕ → Option ShelfFault
refusal_of_sticker m kind target name =
    first_of (refusal_of_target m kind target) (if is_some (m.stickers kind target name) then None else Some NoSticker)

-- Success means that nothing refuses, and a named refusal is the one that does; want of memory, and the store
-- where it answered an error, may take its place.
abbrev pub Answers : {X : Type 0} → Type 0 → Option ShelfFault → Result X ShelfFault → Type 0
Answers failed refusal (Ok x) = refusal ≡ None
Answers failed refusal (Err NoMemory) = Unit {0}
Answers failed refusal (Err StoreFault) = failed
Answers failed refusal (Err e) = refusal ≡ Some e

-- the same for the call that takes all stickers of a target: first the target may refuse, and then one
-- sticker must be there
abbrev pub AnswersAll : {X : Type 0} → Type 0 → Option ShelfFault → (List ℕ → Option (List ℕ)) → Result X ShelfFault → Type 0
AnswersAll failed refusal named (Ok x) = (refusal ≡ None) × ((name : List ℕ) × IsSome (named name))
AnswersAll failed refusal named (Err NoMemory) = Unit {0}
AnswersAll failed refusal named (Err StoreFault) = failed
AnswersAll failed refusal named (Err NoSticker) = (refusal ≡ None) × ((name : List ℕ) → named name ≡ None)
AnswersAll failed refusal named (Err e) = refusal ≡ Some e

-- the keys of a map, each once, by rising bytes
pub record AreKeys {X : Type 0} (f : List ℕ → Option X) (keys : List (List ℕ)) : Type 0 where
  pub rising : IsStrictlySortedBy (slice_cmp nat_cmp) keys
  pub whole : (key : List ℕ) → list_any (bytes_eq key) keys ≡ is_some (f key)

-- the entries of a map, by rising bytes of their keys
pub record AreEntries (f : List ℕ → Option (List ℕ)) (entries : List (List ℕ × List ℕ)) : Type 0 where
  pub rising : IsStrictlySortedBy (slice_cmp nat_cmp) (map (λ e. e.0) entries)
  pub whole : (key : List ℕ) → lookup (bytes_eq key) entries ≡ f key

-- what a shelf shows
pub record Standing : Type 1 where
  pub maps : Maps
  -- so far the device has returned what was written
  pub IsClean : Type 0
  -- the store is open and has the tables of a shelf and no others, as where shelves alone wrote it
  pub IsOurs : Type 0
  -- no failure of the device has shut the store
  pub is_open : Bool
  -- how many times the device has failed or refused, up to 2^64 - 1
  pub faults : ℕ
  -- what an open after a stop at this moment may find
  pub MayLeave : Maps → Type 0

-- The premise of what is said of a call: the store was ours, and the device still returns what was written.
abbrev pub Trusted : Standing → Standing → Type 0
Trusted old new = new.IsClean × old.IsOurs

-- the device failed or refused between the two, or so often before that it is counted no further
abbrev pub DeviceFailed : Standing → Standing → Type 0
DeviceFailed old new = min (old.faults + 1) (2 ^ 64 - 1) ≤ new.faults

-- A call that is to change the maps to `after`: it does, or changes nothing while the store is open. Only a
-- failure of the device shuts the store. A stop during the call leaves the maps from before it or after it.
pub record Changes (old new : Standing) (is_done : Bool) (after : Maps) : Type 0 where
  pub clean : new.IsClean → old.IsClean
  pub counts : old.faults ≤ new.faults
  pub stays_open : new.IsClean → IsTrue old.is_open → IsTrue new.is_open ⊎ DeviceFailed old new
  pub ours : Trusted old new → IsTrue new.is_open → new.IsOurs
  pub done : Trusted old new → IsTrue is_done → IsTrue new.is_open × Same after new.maps
  pub kept : Trusted old new → is_done ≡ false → IsTrue new.is_open → Same old.maps new.maps
  pub stop : Trusted old new → (m : Maps) → new.MayLeave m → old.MayLeave m ⊎ Same after m
