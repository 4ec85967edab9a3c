-- Stickers: what is set is there, and nothing else is another (MPD protocol reference, Stickers; that stored
-- playlists have stickers is this profile's).
use Rattle.std.specs.Prelude.{◌≡◌, ◌≢◌, ◌⊎◌, ℕ, true, List, ◌++◌, Option, Some, None, codes}
use Rattle.mpd_text.specs.Answers.Answer.{pair_line}
use Rattle.mpd_text.specs.Songs.Song.{SongData}
use Rattle.song_db.specs.Library.{song_of}
use Rattle.shelf.specs.Maps.{Maps, is_list_name, is_sticker_name}
use Rattle.shelf.specs.declared.kinds.StickerKind.{StickerKind}
use Rattle.shelf.specs.declared.kinds.StickerKind.TheVariants.{Song as OfSong, Playlist as OfPlaylist}
use Rattle.player_state.specs.declared.state.Library.{Library}
use Rattle.transitions.specs.declared.asked.Asked.{Asked}
use Rattle.mpd_command.specs.declared.sticker.StickerCommand.{StickerCommand}
use Rattle.mpd_command.specs.declared.sticker.StickerCommand.TheVariants.{Get, Set, Delete}
use Rattle.mpd_command.specs.declared.sticker.Target.{Target}
use Rattle.mpd_command.specs.declared.sticker.Target.TheVariants.{Song, Playlist}
use Rattle.library_commands.specs.Stickers.{question_of, result_of}
use Rattle.library_laws.specs.Shelves.{Gives, IsMissing, Leaves, ShelfCommand, Shows}

-- a command of stickers, over this library
abbrev pub asks : Asked → Library → StickerCommand → ShelfCommand
asks asked library it = record { question = question_of library it; result = λ read. result_of asked library read it }

-- of which kind a target is, and what it is called
abbrev pub kind_of : Target → StickerKind
kind_of (Song uri) = OfSong
kind_of (Playlist list) = OfPlaylist

abbrev pub key_of : Target → List ℕ
key_of (Song uri) = uri.0
key_of (Playlist list) = list

-- the target can have stickers: a song of the library, or a stored playlist
abbrev pub IsThere : Library → Maps → Target → Type 0
IsThere library maps (Song uri) = (song : SongData) × (song_of library.songs uri.0 ≡ Some song)
IsThere library maps (Playlist list) =
    (uris : List (List ℕ)) × (is_list_name list ≡ true) × (maps.lists list ≡ Some uris)

-- a sticker is another: of another kind, of another target or of another name
abbrev pub IsAnother : StickerKind → List ℕ → List ℕ → StickerKind → List ℕ → List ℕ → Type 0
IsAnother kind target name other_kind other_target other =
    (other_kind ≢ kind) ⊎ ((other_target ≢ target) ⊎ (other ≢ name))

-- one sticker has this value now, or is not there; each other sticker and all lists are as they were
pub record SetsSticker (kind : StickerKind) (target name : List ℕ) (value : Option (List ℕ)) (maps after : Maps) : Type 0 where
  pub here : after.stickers kind target name ≡ value
  pub others : (other_kind : StickerKind) (other_target other : List ℕ)
      → IsAnother kind target name other_kind other_target other
      → after.stickers other_kind other_target other ≡ maps.stickers other_kind other_target other
  pub lists : (list : List ℕ) → after.lists list ≡ maps.lists list

-- the line of a sticker
abbrev pub line_of : List ℕ → List ℕ → List ℕ
line_of name value = pair_line (codes "sticker") (name ++ codes "=" ++ value)

-- `sticker get` shows the value of a sticker; of one that is not there it is refused
pub record StickersAreShown : Type 0 where
  pub shown : (asked : Asked) (library : Library) (maps : Maps) (target : Target) (name value : List ℕ)
      → IsThere library maps target
      → is_sticker_name name ≡ true
      → maps.stickers (kind_of target) (key_of target) name ≡ Some value
      → Gives maps (asks asked library (Get target name)) (Shows asked (line_of name value))
  pub missing : (asked : Asked) (library : Library) (maps : Maps) (target : Target) (name : List ℕ)
      → IsThere library maps target
      → is_sticker_name name ≡ true
      → maps.stickers (kind_of target) (key_of target) name ≡ None
      → Gives maps (asks asked library (Get target name)) (IsMissing asked (codes "no such sticker"))

-- `sticker set` gives a sticker its value, and `sticker delete` takes it away; each leaves all others
pub record StickersAreSet : Type 0 where
  pub set : (asked : Asked) (library : Library) (maps : Maps) (target : Target) (name value : List ℕ)
      → IsThere library maps target
      → is_sticker_name name ≡ true
      → Leaves maps (asks asked library (Set target name value))
      (SetsSticker (kind_of target) (key_of target) name (Some value) maps)
  pub deleted : (asked : Asked) (library : Library) (maps : Maps) (target : Target) (name value : List ℕ)
      → IsThere library maps target
      → is_sticker_name name ≡ true
      → maps.stickers (kind_of target) (key_of target) name ≡ Some value
      → Leaves maps (asks asked library (Delete target (Some name)))
      (SetsSticker (kind_of target) (key_of target) name None maps)

-- after `sticker set` any client that asks `sticker get` is shown the value that was set; after `sticker delete` it
-- is refused
pub record StickersAreAsSet : Type 0 where
  pub get_after_set : (asked : Asked) (library : Library) (maps : Maps) (target : Target) (name value : List ℕ)
      → IsThere library maps target
      → is_sticker_name name ≡ true
      → Leaves maps (asks asked library (Set target name value)) (λ after.
      (client : Asked) → Gives after (asks client library (Get target name)) (Shows client (line_of name value)))
  pub get_after_delete : (asked : Asked) (library : Library) (maps : Maps) (target : Target) (name value : List ℕ)
      → IsThere library maps target
      → is_sticker_name name ≡ true
      → maps.stickers (kind_of target) (key_of target) name ≡ Some value
      → Leaves maps (asks asked library (Delete target (Some name))) (λ after.
      (client : Asked) → Gives after (asks client library (Get target name)) (IsMissing client (codes "no such sticker")))
