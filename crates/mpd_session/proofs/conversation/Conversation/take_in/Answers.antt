use Rattle.std.proofs.Common.{ap}
use Rattle.mpd_session.specs.Sessions.{held_of}
use Rattle.mpd_session.proofs.Runs.{reads_split}
use Rattle.mpd_session.proofs.Blame.{same_reader}
use Rattle.mpd_session.proofs.Reading.{same_end}
use Rattle.mpd_session.proofs.conversation.Conversation.take_in.Goals as goal

pub returns-clause-reads : goal.returns-clause-reads
returns-clause-reads g c =
    reads_split (held_of c.args.self.now) (held_of c.read.new.self) (held_of c.split.new.self) _ _ c.read.ensures.reads c.split.ensures.coming (ap (λ s. (held_of s).unsent) c.split.ensures.frame) (ap (λ s. (held_of s).ended) c.split.ensures.frame)

pub returns-clause-blamed : goal.returns-clause-blamed
returns-clause-blamed g c = same_reader _ _ _ _ (ap (λ s. (held_of s).ended) c.split.ensures.frame) c.read.ensures.blamed

pub returns-clause-reader : goal.returns-clause-reader
returns-clause-reader g c = same_end _ _ _ _ (ap (λ s. (held_of s).ended) c.split.ensures.frame) c.read.ensures.reader
