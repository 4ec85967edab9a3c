use Rattle.library_laws.proofs.FoundTexts.{found_texts_are_listed}
use Rattle.library_laws.proofs.found.found_texts_are_listed.Goals as goal

pub returns : goal.returns
returns c = found_texts_are_listed
