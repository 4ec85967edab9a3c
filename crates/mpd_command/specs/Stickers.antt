-- What the words after `sticker` ask for (MPD protocol reference, Stickers). The first says how many there
-- have to be, which is looked at before any form; then the forms are looked at from the left (this order is
-- this profile's).
use Rattle.std.specs.Prelude.{ℕ, nat_le, ◌&&◌, List, [], ◌∷◌, length, Option, Some, None, Result, Ok, Err, if◌then◌else◌, codes}
use Rattle.std.specs.Str.{bytes_eq}
use Rattle.command_arguments.specs.Forms.{uri_of}
use Rattle.command_arguments.specs.Readers.{map_ok, argument_of, both}
use Rattle.mpd_command.specs.Tables.{Row}
use Rattle.command_arguments.specs.declared.readers.Misread.{Misread}
use Rattle.command_arguments.specs.declared.readers.Misread.TheVariants.{WrongNumber, Bad}
use Rattle.mpd_command.specs.declared.sticker.Comparison.{Comparison}
use Rattle.mpd_command.specs.declared.sticker.Operator.{Operator}
use Rattle.mpd_command.specs.declared.sticker.Operator.TheVariants.{Equals, Less, Greater}
use Rattle.mpd_command.specs.declared.sticker.Target.{Target}
use Rattle.mpd_command.specs.declared.sticker.Target.TheVariants.{Song, Playlist}
use Rattle.mpd_command.specs.declared.sticker.StickerCommand.{StickerCommand}
use Rattle.mpd_command.specs.declared.sticker.StickerCommand.TheVariants.{Get, Set, Delete, List as ListStickers, Find}

-- =, < or >
abbrev pub operator_of : List ℕ → Option Operator
operator_of word =
    if bytes_eq word (codes "=") then Some Equals
    else (if bytes_eq word (codes "<") then Some Less
    else (if bytes_eq word (codes ">") then Some Greater else None))

-- TYPE URI, where the type is song, or playlist and the URI its name
abbrev pub target_of : List ℕ → List ℕ → Result Target Misread
target_of kind uri =
    if bytes_eq kind (codes "song") then map_ok Song (argument_of uri_of uri)
    else (if bytes_eq kind (codes "playlist") then Ok (Playlist uri) else Err (Bad kind))

-- OP VALUE
abbrev pub comparison_of : List ℕ → List ℕ → Result Comparison Misread
comparison_of operator value = map_ok (λ o. record { operator = o; value = value }) (argument_of operator_of operator)

-- TYPE URI NAME
abbrev pub get_of : List (List ℕ) → Result StickerCommand Misread
get_of (kind ∷ uri ∷ name ∷ []) = map_ok (λ target. Get target name) (target_of kind uri)
get_of _ = Err WrongNumber

-- TYPE URI NAME VALUE
abbrev pub set_of : List (List ℕ) → Result StickerCommand Misread
set_of (kind ∷ uri ∷ name ∷ value ∷ []) = map_ok (λ target. Set target name value) (target_of kind uri)
set_of _ = Err WrongNumber

-- TYPE URI [NAME]
abbrev pub delete_of : List (List ℕ) → Result StickerCommand Misread
delete_of (kind ∷ uri ∷ []) = map_ok (λ target. Delete target None) (target_of kind uri)
delete_of (kind ∷ uri ∷ name ∷ []) = map_ok (λ target. Delete target (Some name)) (target_of kind uri)
delete_of _ = Err WrongNumber

-- TYPE URI
abbrev pub list_of : List (List ℕ) → Result StickerCommand Misread
list_of (kind ∷ uri ∷ []) = map_ok ListStickers (target_of kind uri)
list_of _ = Err WrongNumber

-- TYPE URI NAME
abbrev pub find_any_of : List ℕ → List ℕ → List ℕ → Result StickerCommand Misread
find_any_of kind uri name = map_ok (λ target. Find target name None) (target_of kind uri)

-- TYPE URI NAME OP VALUE
abbrev pub find_compared_of : List ℕ → List ℕ → List ℕ → List ℕ → List ℕ → Result StickerCommand Misread
find_compared_of kind uri name operator value = map_ok (λ p. Find p.0 name (Some p.1)) (both (target_of kind uri) (comparison_of operator value))

-- TYPE URI NAME [OP VALUE]
abbrev pub find_of : List (List ℕ) → Result StickerCommand Misread
find_of (kind ∷ uri ∷ name ∷ []) = find_any_of kind uri name
find_of (kind ∷ uri ∷ name ∷ operator ∷ value ∷ []) = find_compared_of kind uri name operator value
find_of _ = Err WrongNumber

-- another first word, where 2 to 5 words after it are as many as some first word takes
abbrev pub other_of : List ℕ → List (List ℕ) → Result StickerCommand Misread
other_of verb words = if nat_le 2 (length words) && nat_le (length words) 5 then Err (Bad verb) else Err WrongNumber

-- the words after `sticker`
abbrev pub sticker_of : List (List ℕ) → Result StickerCommand Misread
sticker_of [] = Err WrongNumber
sticker_of (verb ∷ words) =
    if bytes_eq verb (codes "get") then get_of words
    else (if bytes_eq verb (codes "set") then set_of words
    else (if bytes_eq verb (codes "delete") then delete_of words
    else (if bytes_eq verb (codes "list") then list_of words
    else (if bytes_eq verb (codes "find") then find_of words else other_of verb words))))

-- the table of commands of stickers
unfoldable pub rows : List (Row StickerCommand)
rows = (codes "sticker", sticker_of) ∷ []
