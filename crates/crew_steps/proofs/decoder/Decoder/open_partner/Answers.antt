use Rattle.std.proofs.Common.{◌≡◌, Some, refl, rules}
use Rattle.crew_steps.proofs.Causes.{of_part}
use Rattle.crew_steps.proofs.decoder.Decoder.open_partner.Goals as goal

pub returns-clause-cause : goal.returns-clause-cause
returns-clause-cause g c = λ is.
    let fades : c.args.fade ≡ Some c.in-Some.part = search rules in
    of_part g.S.SongSource.answers g.M.Media.all_bytes g.M.Failing.call_counts c.args.self.now.songs.rate c.args.self.now.songs.rate c.args.index c.args.fade c.in-Some.part fades refl (c.open.ensures.cause is)
