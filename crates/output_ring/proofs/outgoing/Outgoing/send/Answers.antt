use Rattle.std.proofs.Common.{◌∙◌, ◌*◌, ap, take, arith}
use Rattle.std.proofs.lemmas.List.{with_items_is}
use Rattle.output_ring.specs.Runs.{cuts_of, paired}
use Rattle.output_ring.proofs.Sends.{stops}
use Rattle.output_ring.proofs.outgoing.Outgoing.send.Goals as goal

pub returns-then-done-count-clause-sent : goal.returns-then-done-count-clause-sent
returns-then-done-count-clause-sent g c =
    let count = c.lay_out-count.ensures.count.0 in
    let bytes = with_items_is c.args.self.now.bytes c.lay_out-count.new.bytes (c.lay_out-count.ensures.length ∙ c.deref_mut.ensures.len) in
    stops _ _ c.args.live (paired (cuts_of c.args.runs.now) c.args.frames.now) _ c.write_bytes-done.result
    (ap (take (4 * c.lay_out-count.result)) (c.deref.ensures.value ∙ bytes) ∙ c.lay_out-count.ensures.bytes)
    (omega (arith, count, c.if-done-count.true))
    c.write_bytes-done.ensures.bytes
