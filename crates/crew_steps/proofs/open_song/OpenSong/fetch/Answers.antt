use Rattle.crew_steps.specs.OpenSongs.{opened}
use Rattle.crew_steps.proofs.Spans.{held_anew, stand_anew}
use Rattle.crew_steps.proofs.open_song.OpenSong.fetch.Goals as goal

pub invariant_of-self : goal.invariant_of-self
invariant_of-self g c =
    record { stands = stand_anew (opened c.args.self.now) (opened c.read.new.self) c.in_ok-self.field-0.items c.args.from 8192 c.in_ok-self.ensures.song c.in_ok-self.ensures.value }

pub returns-clause-held : goal.returns-clause-held
returns-clause-held g c = λ low. held_anew (opened c.args.self.now) c.in_ok-self.field-0.items c.args.from c.args.count 8192 c.in_ok-self.ensures.value low
