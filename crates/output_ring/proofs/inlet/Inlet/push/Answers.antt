use Rattle.std.proofs.Common.{◌≡◌, ◌∙◌, length, take, ap, sym, refl}
use Rattle.std.proofs.Math.Seq.{take-append_seam}
use Rattle.rtrb.specs.Ring.{sent}
use Rattle.output_ring.proofs.Pairs.{paired-push}
use Rattle.output_ring.proofs.inlet.Inlet.push.Goals as goal

pub returns-then-count-gt0-clause-sent : goal.returns-then-count-gt0-clause-sent
returns-then-count-gt0-clause-sent c =
    let old = c.args.self.now in
    let moved = c.push_partial_slice.result.0.now in
    let front : take (length moved) c.args.frames.now ≡ moved = ap (take (length moved)) (sym c.push_partial_slice.ensures.parts) ∙ take-append_seam moved c.push_partial_slice.result.1.now in
    rw front (paired-push (sent old.runs) (sent c.is_full.new.self) _ _ (sent old.frames) moved _ old.whole c.is_full.ensures.looked.1 c.push_reserved.ensures.sent.0 c.push_partial_slice.ensures.sent refl)
