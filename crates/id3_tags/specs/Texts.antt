-- The texts that a tag gives (ID3 tag version 2, Text information frames and Comments; version 2.3.0 and
-- version 2.4.0, Text information frames and Comments). Which frame gives which tag is this profile's.
use Rattle.std.specs.Prelude.{ℕ, List, [], ◌∷◌, drop, if◌then◌else◌, Option, Some, None, codes}
use Rattle.std.specs.Option.{option_or, option_and_then}
use Rattle.std.specs.Str.{bytes_eq}
use Rattle.id3_tags.specs.declared.tag.Version.{Version}
use Rattle.id3_tags.specs.declared.tag.Version.TheVariants.{Two, Three, Four}
use Rattle.id3_tags.specs.declared.encoding.Encoding.{Encoding}
use Rattle.id3_tags.specs.declared.encoding.Kind.{Kind}
use Rattle.id3_tags.specs.declared.encoding.Kind.TheVariants.{Plain, Comment}
use Rattle.id3_tags.specs.declared.texts.Id3Texts.{Id3Texts}
use Rattle.id3_tags.specs.Tags.{Id3Tag, tag_in}
use Rattle.id3_tags.specs.Frames.{Id3Frame, frames, content_of}
use Rattle.id3_tags.specs.Encodings.{encoding_of, text_in, after_empty}

-- the text in what follows the byte of encoding: in a comment it stands after three bytes of language and a
-- description, which has to be empty
abbrev pub text_after : Kind → Encoding → List ℕ → Option (List ℕ)
text_after Plain encoding bytes = text_in encoding bytes
text_after Comment encoding bytes = option_and_then (text_in encoding) (after_empty encoding (drop 3 bytes))

-- the text in the content of a frame, if it is not skipped
unfoldable pub content_text : Kind → List ℕ → Option (List ℕ)
content_text kind [] = None
content_text kind (number ∷ bytes) = option_and_then (λ encoding. text_after kind encoding bytes) (encoding_of number)

-- the text that a frame of a tag gives, if it is not skipped
abbrev pub frame_text : Id3Tag → Kind → Id3Frame → Option (List ℕ)
frame_text tag kind frame = option_and_then (content_text kind) (content_of tag.version tag.unsynchronised frame)

-- the text of a frame that has this identifier
abbrev pub text_named : Id3Tag → Kind → List ℕ → Id3Frame → Option (List ℕ)
text_named tag kind identifier frame = if bytes_eq frame.identifier identifier then frame_text tag kind frame else None

-- the first text of the frames with this identifier
abbrev pub first_text : Id3Tag → Kind → List ℕ → List Id3Frame → Option (List ℕ)
first_text tag kind identifier [] = None
first_text tag kind identifier (frame ∷ more) = option_or (text_named tag kind identifier frame) (first_text tag kind identifier more)

-- the first text of the tag's frames with this identifier
unfoldable pub text_of : Id3Tag → Kind → List ℕ → Option (List ℕ)
text_of tag kind identifier = first_text tag kind identifier (frames tag.version tag.frames)

-- one of two identifiers: that of version 2.2, and that of the later ones
abbrev pub by_version : Version → List ℕ → List ℕ → List ℕ
by_version Two early late = early
by_version Three early late = late
by_version Four early late = late

-- the text of frames that are called so in version 2.2 and so in the later ones
abbrev pub plain_text : Id3Tag → List ℕ → List ℕ → Option (List ℕ)
plain_text tag early late = text_of tag Plain (by_version tag.version early late)

-- a recording time, or else a year
abbrev pub time_or_year : Id3Tag → Option (List ℕ)
time_or_year tag = option_or (text_of tag Plain (codes "TDRC")) (text_of tag Plain (codes "TYER"))

-- the date, which is a year alone in version 2.2
abbrev pub date_of : Id3Tag → Version → Option (List ℕ)
date_of tag Two = text_of tag Plain (codes "TYE")
date_of tag Three = time_or_year tag
date_of tag Four = time_or_year tag

-- no text of any tag
abbrev pub no_texts : Id3Texts
no_texts = record {
  title = None;
  artist = None;
  album = None;
  album_artist = None;
  track = None;
  disc = None;
  date = None;
  genre = None;
  composer = None;
  comment = None;
}

-- the comment
abbrev pub comment_of : Id3Tag → Option (List ℕ)
comment_of tag = text_of tag Comment (by_version tag.version (codes "COM") (codes "COMM"))

-- the texts of a tag
unfoldable pub texts_in : Id3Tag → Id3Texts
texts_in tag = record {
  title = plain_text tag (codes "TT2") (codes "TIT2");
  artist = plain_text tag (codes "TP1") (codes "TPE1");
  album = plain_text tag (codes "TAL") (codes "TALB");
  album_artist = plain_text tag (codes "TP2") (codes "TPE2");
  track = plain_text tag (codes "TRK") (codes "TRCK");
  disc = plain_text tag (codes "TPA") (codes "TPOS");
  date = date_of tag tag.version;
  genre = plain_text tag (codes "TCO") (codes "TCON");
  composer = plain_text tag (codes "TCM") (codes "TCOM");
  comment = comment_of tag;
}

-- the texts of a tag, if there is one
abbrev pub tag_texts : Option Id3Tag → Id3Texts
tag_texts None = no_texts
tag_texts (Some tag) = texts_in tag

-- the texts that a chunk gives
unfoldable pub id3_texts : List ℕ → Id3Texts
id3_texts chunk = tag_texts (tag_in chunk)
