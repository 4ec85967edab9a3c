use Rattle.id3_tags.proofs.GrammarLaws.{frames_are, frames_only}
use Rattle.id3_tags.proofs.frame.frames_are_those_of_the_bytes.Goals as goal

pub returns : goal.returns
returns c = record { are = frames_are; only = λ version bytes found h. frames_only version found bytes h }
