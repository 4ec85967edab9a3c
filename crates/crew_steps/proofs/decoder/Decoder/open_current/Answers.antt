use Rattle.crew_steps.proofs.Causes.{not_opened}
use Rattle.crew_steps.proofs.decoder.Decoder.open_current.Goals as goal

pub returns-clause-cause : goal.returns-clause-cause
returns-clause-cause g c = λ is.
    not_opened g.S.SongSource.answers g.M.Media.all_bytes g.M.Failing.call_counts c.args.self.now.songs.rate c.is_current.new.self.rate c.args.index c.args.id c.is_current.ensures.rate (c.open.ensures.cause is)
