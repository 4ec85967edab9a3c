use Rattle.library_laws.proofs.SetStickers.{stickers_are_as_set, stickers_are_set, stickers_are_shown}
use Rattle.library_laws.proofs.stickers.stickers_are_as_set.Goals as goal

pub returns-clause-shown : goal.returns-clause-shown
returns-clause-shown c = stickers_are_shown

pub returns-clause-set : goal.returns-clause-set
returns-clause-set c = stickers_are_set

pub returns-clause-after : goal.returns-clause-after
returns-clause-after c = stickers_are_as_set
