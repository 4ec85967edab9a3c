-- What was accepted before an output was moved is not heard.
use Rattle.std.proofs.Common.{◌≡◌, List, [], ◌∷◌, refl, arith}
use Rattle.std.specs.Prelude.{filter}
use Rattle.std.proofs.lemmas.Bool.Decides.{nat_tests}
use Rattle.output_ring.specs.declared.frames.CutFrame.{CutFrame}
use Rattle.output_ring.specs.declared.frames.Live.{Live}
use Rattle.output_ring.specs.Frames.{heard, is_since_move}

pub heard_since : (live : Live) (items : List CutFrame) → heard live items ≡ heard live (filter (is_since_move live) items)
heard_since live [] = refl
heard_since live (x ∷ xs) = grind (arith, nat_tests, heard_since live xs)
