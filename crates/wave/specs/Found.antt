-- The texts that are found while chunks are read.
use Rattle.std.specs.Prelude.{◌≡◌, ℕ, List, [], ◌∷◌, ◌++◌, length, Bool, true, false, Option, Some, None, MatchOption, Result, IfOk, IfSome, if◌then◌else◌, codes}
use Rattle.std.specs.Borrow.{Bor}
use Rattle.std.specs.List.{find}
use Rattle.std.specs.Option.{option_or, option_map}
use Rattle.std.specs.Str.{bytes_eq}
use Rattle.mpd_text.specs.Songs.Song.{TagData}
use Rattle.mpd_text.specs.Songs.Tags.{tag_with}
use Rattle.mpd_text.specs.declared.songs.song.TagName.TheVariants.{Title, Artist, Album, Date, Genre, Comment, AlbumArtist, Track, Disc, Composer}
use Rattle.id3_tags.specs.declared.texts.Id3Texts.{Id3Texts}
use Rattle.wave.specs.declared.tag.ItemName.{ItemName}
use Rattle.wave.specs.declared.tag.ItemName.TheVariants.{Inam, Iart, Iprd, Icrd, Ignr, Icmt, Itrk, Iprt, Imus}
use Rattle.wave.specs.declared.first_texts.Texts.{Texts}
use Rattle.wave.specs.declared.found_chunk.FoundChunk.{FoundChunk}
use Rattle.wave.specs.Chunks.{Chunk}
use Rattle.wave.specs.Texts.{text_of, counts, items}
use Rattle.wave.specs.Everyday.{everyday_text, first_named, is_id3}
use Rattle.wave.specs.Parts.{content_of, chunk_of, file_chunks, items_in}

-- the bytes of a name
abbrev pub letters : ItemName → List ℕ
letters Inam = codes "INAM"
letters Iart = codes "IART"
letters Iprd = codes "IPRD"
letters Icrd = codes "ICRD"
letters Ignr = codes "IGNR"
letters Icmt = codes "ICMT"
letters Itrk = codes "ITRK"
letters Iprt = codes "IPRT"
letters Imus = codes "IMUS"

-- the name that these bytes are; none where they are no such name
abbrev pub IsNameOf : List ℕ → Option ItemName → Type 0
IsNameOf bytes found = MatchOption found
    ((name : ItemName) → bytes_eq bytes (letters name) ≡ false)
    (λ name. bytes_eq bytes (letters name) ≡ true)

-- the text of a content in the base profile, if it is not skipped
abbrev pub base_text : List ℕ → Option (List ℕ)
base_text content = if counts (text_of content) then Some (text_of content) else None

-- how contents are read in the everyday profile, or in the base profile
abbrev pub text_in : Bool → List ℕ → Option (List ℕ)
text_in everyday = if everyday then everyday_text else base_text

-- the text of an item of a file with these bytes
abbrev pub item_text : Bool → FoundChunk → List ℕ → Option (List ℕ)
item_text everyday item bytes = text_in everyday (content_of bytes item)

-- that text of a content in the base profile; none where it is skipped
abbrev pub IsBaseText : List ℕ → Option (Bor (List ℕ)) → Type 0
IsBaseText content found = MatchOption found (base_text content ≡ None) (λ text. base_text content ≡ Some text.now)

abbrev pub no_texts : Texts
no_texts = record { inam = None; iart = None; iprd = None; icrd = None; ignr = None; icmt = None; itrk = None; iprt = None; imus = None }

-- the texts with one more, which counts only where there is none of its name
abbrev pub put : ItemName → List ℕ → Texts → Texts
put Inam text texts = record texts { inam = option_or texts.inam (Some text) }
put Iart text texts = record texts { iart = option_or texts.iart (Some text) }
put Iprd text texts = record texts { iprd = option_or texts.iprd (Some text) }
put Icrd text texts = record texts { icrd = option_or texts.icrd (Some text) }
put Ignr text texts = record texts { ignr = option_or texts.ignr (Some text) }
put Icmt text texts = record texts { icmt = option_or texts.icmt (Some text) }
put Itrk text texts = record texts { itrk = option_or texts.itrk (Some text) }
put Iprt text texts = record texts { iprt = option_or texts.iprt (Some text) }
put Imus text texts = record texts { imus = option_or texts.imus (Some text) }

-- the texts with the first ones of these chunks
abbrev pub joined : (List ℕ → Option (List ℕ)) → Texts → List Chunk → Texts
joined read texts found = record {
  inam = option_or texts.inam (first_named read (letters Inam) found);
  iart = option_or texts.iart (first_named read (letters Iart) found);
  iprd = option_or texts.iprd (first_named read (letters Iprd) found);
  icrd = option_or texts.icrd (first_named read (letters Icrd) found);
  ignr = option_or texts.ignr (first_named read (letters Ignr) found);
  icmt = option_or texts.icmt (first_named read (letters Icmt) found);
  itrk = option_or texts.itrk (first_named read (letters Itrk) found);
  iprt = option_or texts.iprt (first_named read (letters Iprt) found);
  imus = option_or texts.imus (first_named read (letters Imus) found);
}

-- the texts of all lists of a file's first bytes
abbrev pub file_texts : Bool → List ℕ → ℕ → Texts
file_texts everyday bytes end = joined (text_in everyday) no_texts (items (file_chunks bytes end))

-- these are the texts with that of an item, if it counts, before all that come later
abbrev pub TakesItem : Bool → Texts → Chunk → Texts → Type 0
TakesItem everyday texts item next = (more : List Chunk) → joined (text_in everyday) next more ≡ joined (text_in everyday) texts (item ∷ more)

-- the same of all items of a list
abbrev pub TakesItems : Bool → Texts → List Chunk → Texts → Type 0
TakesItems everyday texts found next = (more : List Chunk) → joined (text_in everyday) next more ≡ joined (text_in everyday) texts (found ++ more)

-- what a call gives are these texts with that of an item, or with those of a list, where the device's bytes are known
abbrev pub GivesWithItem : {E : Type 0} → Option (List ℕ) → Bool → FoundChunk → Texts → Result Texts E → Type 0
GivesWithItem known everyday item texts r = IfSome known (λ bytes. IfOk r (TakesItem everyday texts (chunk_of bytes item)))

abbrev pub GivesWithList : {E : Type 0} → Option (List ℕ) → Bool → FoundChunk → Texts → Result Texts E → Type 0
GivesWithList known everyday list texts r = IfSome known (λ bytes. IfOk r (TakesItems everyday texts (items_in bytes list)))

-- this is a file's first chunk for an ID3v2 tag, or it has none
abbrev pub IsFirstId3 : List ℕ → ℕ → Option FoundChunk → Type 0
IsFirstId3 bytes end found = (option_map (chunk_of bytes) found ≡ find is_id3 (file_chunks bytes end)) × IfSome found (λ part. length (content_of bytes part) ≡ part.len)

-- a list of one tag, or of none
abbrev pub shown : Option TagData → List TagData
shown None = []
shown (Some tag) = tag ∷ []

-- the tags of the base profile, in the order of answers
abbrev pub base_listed : Texts → List TagData
base_listed texts = shown (tag_with Title texts.inam) ++ (shown (tag_with Artist texts.iart) ++ (shown (tag_with Album texts.iprd)
    ++ (shown (tag_with Date texts.icrd) ++ (shown (tag_with Genre texts.ignr) ++ shown (tag_with Comment texts.icmt)))))

-- the first six tags of the everyday profile, of the texts of an ID3v2 tag and those of lists
abbrev pub first_six : Id3Texts → Texts → List TagData
first_six id3 texts = shown (tag_with Title (option_or id3.title texts.inam)) ++ (shown (tag_with Artist (option_or id3.artist texts.iart))
    ++ (shown (tag_with Album (option_or id3.album texts.iprd)) ++ (shown (tag_with Date (option_or id3.date texts.icrd))
    ++ (shown (tag_with Genre (option_or id3.genre texts.ignr)) ++ shown (tag_with Comment (option_or id3.comment texts.icmt))))))

-- and the last four
abbrev pub last_four : Id3Texts → Texts → List TagData
last_four id3 texts = shown (tag_with AlbumArtist id3.album_artist) ++ (shown (tag_with Track (option_or id3.track (option_or texts.itrk texts.iprt)))
    ++ (shown (tag_with Disc id3.disc) ++ shown (tag_with Composer (option_or id3.composer texts.imus))))

-- all ten, in the order of answers
abbrev pub listed : Id3Texts → Texts → List TagData
listed id3 texts = first_six id3 texts ++ last_four id3 texts
