-- The lines that show stored playlists and stickers (MPD protocol reference, Stored playlists:
-- `listplaylist`, `listplaylistinfo`, `listplaylists`; Stickers: `sticker get`, `sticker list`).
use Rattle.std.specs.Prelude.{ℕ, List, ◌++◌, codes, flat_map, Option, Some, None}
use Rattle.mpd_text.specs.Answers.Answer.{pair_line}
use Rattle.mpd_text.specs.Songs.Song.{SongData}
use Rattle.mpd_text.specs.declared.songs.song.TagName.{TagName}
use Rattle.song_db.specs.Library.{song_of}
use Rattle.known_tags.specs.Lines.{song_lines_with}

abbrev pub uri_line : List ℕ → List ℕ
uri_line uri = pair_line (codes "file") uri

-- the URIs of a list
abbrev pub uri_lines : List (List ℕ) → List ℕ
uri_lines uris = flat_map uri_line uris

-- the lines of the song that the library has at a URI, with the tags of a set, or the URI alone where it has
-- none
abbrev pub info : List TagName → ℕ → List ℕ → Option SongData → List ℕ
info tags rate uri (Some song) = song_lines_with tags rate song
info tags rate uri None = uri_line uri

-- the songs of a list
abbrev pub info_lines : List TagName → ℕ → List SongData → List (List ℕ) → List ℕ
info_lines tags rate songs uris = flat_map (λ uri. info tags rate uri (song_of songs uri)) uris

abbrev pub playlist_line : List ℕ → List ℕ
playlist_line name = pair_line (codes "playlist") name

-- the names of lists
abbrev pub playlist_lines : List (List ℕ) → List ℕ
playlist_lines names = flat_map playlist_line names

-- a sticker's name and its text
abbrev pub sticker_of : List ℕ → List ℕ → List ℕ
sticker_of name value = pair_line (codes "sticker") (name ++ codes "=" ++ value)

-- the stickers of a target
abbrev pub stickers_of : List (List ℕ × List ℕ) → List ℕ
stickers_of entries = flat_map (λ e. sticker_of e.0 e.1) entries
