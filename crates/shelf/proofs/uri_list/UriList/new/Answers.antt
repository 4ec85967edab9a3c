use Rattle.std.proofs.Common.{refl}
use Rattle.shelf.specs.Lines.{lines_of}
use Rattle.shelf.proofs.LineLemmas.{nothing_whole}
use Rattle.shelf.proofs.uri_list.UriList.new.Goals as goal

pub invariant_of-result : goal.invariant_of-result
invariant_of-result c = rw c.new.ensures.bytes nothing_whole

pub returns : goal.returns
unfolding lines_of
returns c = rw c.new.ensures.bytes refl
