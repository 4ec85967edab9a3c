use Rattle.known_tags.proofs.ReadBack.{read-back}
use Rattle.known_tags.proofs.known_tag.each_name_is_read_back.Goals as goal

pub returns : goal.returns
returns c = read-back
