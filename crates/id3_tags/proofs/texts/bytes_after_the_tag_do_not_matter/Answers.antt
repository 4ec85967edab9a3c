use Rattle.id3_tags.proofs.TagLaws.{texts_of_start}
use Rattle.id3_tags.proofs.texts.bytes_after_the_tag_do_not_matter.Goals as goal

pub returns : goal.returns
returns c = λ chunk n h. texts_of_start chunk n h
