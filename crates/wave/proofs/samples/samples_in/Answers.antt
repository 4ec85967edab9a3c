use Rattle.wave.proofs.Sounds.{data_unformed, data_formed}
use Rattle.wave.proofs.samples.samples_in.Goals as goal

pub returns-in-None-clause-value : goal.returns-in-None-clause-value
returns-in-None-clause-value c = λ bytes rate more long. rw c.in-None.is (data_unformed rate _ more c.requires)

pub returns-in-Some-clause-value : goal.returns-in-Some-clause-value
returns-in-Some-clause-value c = λ bytes rate more long. (rw c.in-Some.is (data_formed rate c.in-Some.layout _ more c.requires), long)
