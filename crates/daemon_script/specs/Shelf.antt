-- What a shelf in memory answers to an event, and its contents after it (MPD protocol reference, Stored
-- playlists, Stickers).
use Rattle.std.specs.Prelude.{ℕ, List, Option, Some, None, if◌then◌else◌}
use Rattle.std.specs.FinMap as finite
use Rattle.shelf.specs.declared.faults.ShelfFault.{ShelfFault}
use Rattle.shelf.specs.declared.faults.ShelfFault.TheVariants.{NoSuchList, NoSticker}
use Rattle.shelf.specs.declared.kinds.StickerKind.{StickerKind}
use Rattle.shelf.specs.Maps.{first_of, refusal_of_list, refusal_of_put, refusal_of_create, refusal_of_rename, refusal_of_target, refusal_of_set, refusal_of_sticker}
use Rattle.daemon_script.specs.Contents.{Contents, has_stickers, maps_in, moved, put_in, stickers_for, stickers_named, stickers_of, with_stickers_for, without}
use Rattle.player_events.specs.declared.event.Event.{Event}
use Rattle.transitions.specs.declared.shelf_calls.StoreReply.{StoreReply}
use Rattle.transitions.specs.declared.shelf_calls.Read.{Read}
use Rattle.transitions.specs.declared.shelf_calls.Read.TheVariants as read_variant
use Rattle.transitions.specs.declared.shelf_calls.ShelfWrite.{ShelfWrite}
use Rattle.transitions.specs.declared.shelf_calls.ShelfWrite.TheVariants.{Nothing, Put, Create, Rename, Remove, SetSticker, DeleteSticker, DeleteStickers}
use Rattle.partition.specs.Image.{Image}
use Rattle.partition.specs.Lent.{question, writing}
use Rattle.transitions.specs.Shelves.{Question, NoQuestion, AskNames, AskList, AskSticker, AskStickers, AskFound}

abbrev pub list_read : Option (List (List ℕ)) → Read
list_read None = read_variant.Refused NoSuchList
list_read (Some uris) = read_variant.List uris

abbrev pub sticker_read : Option (List ℕ) → Read
sticker_read None = read_variant.Refused NoSticker
sticker_read (Some value) = read_variant.Value value

-- what is read, unless this refuses it
abbrev pub unless_refused : Option ShelfFault → Read → Read
unless_refused None read = read
unless_refused (Some fault) read = read_variant.Refused fault

-- what is read of a target: a song may be any, a stored playlist has to be there
abbrev pub target_read : Contents → StickerKind → List ℕ → Read → Read
target_read c kind target read = unless_refused (refusal_of_target (maps_in c) kind target) read

-- what a question is answered
abbrev pub read_in : Contents → Question → Read
read_in c NoQuestion = read_variant.Nothing
read_in c AskNames = read_variant.Names (finite.keys c.lists)
read_in c (AskList name) = list_read (finite.get c.lists name)
read_in c (AskSticker kind target name) =
    target_read c kind target (sticker_read (finite.get (stickers_for c kind) (target, name)))
read_in c (AskStickers kind target) =
    target_read c kind target (read_variant.Entries (stickers_of (stickers_for c kind) target))
read_in c (AskFound kind name) = read_variant.Entries (stickers_named (stickers_for c kind) name)

-- a target without stickers
abbrev pub refusal_of_none : Contents → StickerKind → List ℕ → Option ShelfFault
refusal_of_none c kind target = if has_stickers (stickers_for c kind) target then None else Some NoSticker

-- why not all stickers of a target can be taken away, if they cannot: it has to be there, and to have some
abbrev pub refusal_of_all : Contents → StickerKind → List ℕ → Option ShelfFault
refusal_of_all c kind target = first_of (refusal_of_target (maps_in c) kind target) (refusal_of_none c kind target)

-- why what is to be written is refused, if it is
abbrev pub refusal_in : Contents → ShelfWrite → Option ShelfFault
refusal_in c Nothing = None
refusal_in c (Put name uris changes) = refusal_of_put name
refusal_in c (Create name uris) = refusal_of_create (maps_in c) name
refusal_in c (Rename name new has_stickers) = refusal_of_rename (maps_in c) name new
refusal_in c (Remove name has_stickers) = refusal_of_list (maps_in c) name
refusal_in c (SetSticker kind target name value changes) = refusal_of_set (maps_in c) kind target name
refusal_in c (DeleteSticker kind target name) = refusal_of_sticker (maps_in c) kind target name
refusal_in c (DeleteStickers kind target) = refusal_of_all c kind target

-- the contents where a list has another name, and its stickers with it
abbrev pub renamed : Contents → List ℕ → List ℕ → Contents
renamed c name new = record c {
  lists = put_in (put_in c.lists name None) new (finite.get c.lists name);
  playlists = moved name new c.playlists;
}

-- the contents without a list and its stickers
abbrev pub removed : Contents → List ℕ → Contents
removed c name = record c { lists = put_in c.lists name None; playlists = without name c.playlists }

-- the contents with this text of a sticker, or with none
abbrev pub sticker_set : Contents → StickerKind → List ℕ → List ℕ → Option (List ℕ) → Contents
sticker_set c kind target name value = with_stickers_for c kind (put_in (stickers_for c kind) (target, name) value)

-- the contents once it is written
abbrev pub contents_with : ShelfWrite → Contents → Contents
contents_with Nothing c = c
contents_with (Put name uris changes) c = record c { lists = put_in c.lists name (Some uris) }
contents_with (Create name uris) c = record c { lists = put_in c.lists name (Some uris) }
contents_with (Rename name new has_stickers) c = renamed c name new
contents_with (Remove name has_stickers) c = removed c name
contents_with (SetSticker kind target name value changes) c = sticker_set c kind target name (Some value)
contents_with (DeleteSticker kind target name) c = sticker_set c kind target name None
contents_with (DeleteStickers kind target) c = with_stickers_for c kind (without target (stickers_for c kind))

-- what is refused changes nothing
abbrev pub contents_after : ShelfWrite → Option ShelfFault → Contents → Contents
contents_after write None c = contents_with write c
contents_after write (Some fault) c = c

-- what the shelf answers to an event of a player: to its question, and then to what is to be written
abbrev pub heard_by : Contents → Image → Event → StoreReply
heard_by c i event =
    let read : Read = read_in c (question i event) in
    record { read = read; refused = refusal_in c (writing i event (record { read = read; refused = None })) }

-- the shelf after an event that it answered so
abbrev pub shelf_after : Contents → Image → Event → StoreReply → Contents
shelf_after c i event heard = contents_after (writing i event heard) heard.refused c
