use Rattle.std.proofs.Common.{◌≡◌, Err, Ok, inl, inr}
use Rattle.house.specs.Counts.{IsSongSomewhere}
use Rattle.crew_steps.specs.Songs.{found_song}
use Rattle.crew_steps.specs.declared.songs.NoFrames.TheVariants.{Failed}
use Rattle.crew_steps.proofs.Causes.{has_left, is_there, same_fault}
use Rattle.crew_steps.proofs.decoder.Decoder.open.Goals as goal

pub returns-in_err-song-clause-cause : goal.returns-in_err-song-clause-cause
returns-in_err-song-clause-cause g c = λ is.
    let found : found_song c.song.result c.args.of_partner ≡ Err c.in_err-song.field-0.0 = cc c.in_err-song.ensures.song in
    let failed : c.in_err-song.field-0.0 ≡ Failed c.args.of_partner = same_fault c.from_residual.result c.in_err-song.field-0.0 (Failed c.args.of_partner) c.from_residual.ensures.1 is in
    inl (has_left (IsSongSomewhere c.args.index c.args.id) c.song.result c.args.of_partner c.in_err-song.field-0.0 found c.song.ensures failed)

pub returns-clause-cause : goal.returns-clause-cause
returns-clause-cause g c = λ is.
    let found : found_song c.song.result c.args.of_partner ≡ Ok c.in_ok-song.song = cc c.in_ok-song.ensures.song in
    inr (c.in_ok-song.song, is_there (IsSongSomewhere c.args.index c.args.id) c.song.result c.args.of_partner c.in_ok-song.song found c.song.ensures, c.open.ensures.cause is)
