-- A tag has a number of its own.
use Rattle.std.proofs.Common.{◌≡◌, refl, arith}
use Rattle.mpd_text.specs.declared.songs.song.TagName.{TagName}
use Rattle.mpd_text.specs.declared.songs.song.TagName.TheVariants.{Title, Artist, Album, Date, Genre, Comment, AlbumArtist, Track, Disc, Composer}
use Rattle.mpd_text.specs.Songs.Tags.{tag_number}

pub tag_number-inj : (a b : TagName) → tag_number a ≡ tag_number b → a ≡ b
tag_number-inj Title Title e = refl
tag_number-inj Artist Artist e = refl
tag_number-inj Album Album e = refl
tag_number-inj Date Date e = refl
tag_number-inj Genre Genre e = refl
tag_number-inj Comment Comment e = refl
tag_number-inj AlbumArtist AlbumArtist e = refl
tag_number-inj Track Track e = refl
tag_number-inj Disc Disc e = refl
tag_number-inj Composer Composer e = refl
tag_number-inj _ _ e = absurd (omega arith)
