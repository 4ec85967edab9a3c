use Rattle.std.proofs.Common.{◌≡◌, ◌∙◌, ◌+◌, ◌*◌, [], length, take, ap, sym, arith}
use Rattle.std.proofs.lemmas.List.{append-nil}
use Rattle.output_ring.specs.Frames.{heard, with_cut}
use Rattle.output_ring.proofs.Heard.{heard_all, heard_none}
use Rattle.output_ring.proofs.outgoing.lay_run.Goals as goal

none : (c : goal.Then-not-is_heard) → heard c.args.live (with_cut c.args.cut c.args.frames.now) ≡ []
none c = heard_none c.args.live c.args.cut c.args.frames.now (sym c.is_heard.ensures ∙ c.if-not-is_heard.true)

pub returns-then-not-is_heard-clause-count : goal.returns-then-not-is_heard-clause-count
returns-then-not-is_heard-clause-count c = (omega (arith, ap length (none c)), omega arith)

pub returns-then-not-is_heard-clause-bytes : goal.returns-then-not-is_heard-clause-bytes
returns-then-not-is_heard-clause-bytes c = rw (none c) (sym (append-nil _))

pub returns-clause-count : goal.returns-clause-count
returns-clause-count c =
    let all = heard_all c.args.live c.args.cut c.args.frames.now (sym c.is_heard.ensures ∙ c.if-not-is_heard.false) in
    (omega (arith, ap length all), omega arith)

pub returns-clause-bytes : goal.returns-clause-bytes
returns-clause-bytes c =
    let all = heard_all c.args.live c.args.cut c.args.frames.now (sym c.is_heard.ensures ∙ c.if-not-is_heard.false) in
    let n = length c.args.frames.now in
    let sum : 4 * (c.args.before + n) ≡ 4 * c.args.before + 4 * n = omega arith in
    rw all (ap (λ k. take k c.put_after.new.bytes) sum ∙ c.put_after.ensures.bytes)
