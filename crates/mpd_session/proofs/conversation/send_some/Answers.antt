use Rattle.std.proofs.Common.{◌≡◌, ◌≢◌, ap, inl, ◌≤◌, ◌<◌, ◌+◌, ◌-◌, ◌∙◌, length, List, ℕ, take, drop, arith, rules, subst, sym}
use Rattle.std.proofs.lemmas.List.{length-drop, take_rest}
use Rattle.std.specs.Io.KnownBytes.{Appends}
use Rattle.counted_devices.specs.declared.call_counts.CallCounts.{CallCounts}
use Rattle.counted_devices.specs.CallCounts.{one_call}
use Rattle.mpd_session.proofs.Sending.{more_taken}
use Rattle.mpd_session.proofs.Blame.{later, one_failed}
use Rattle.mpd_session.proofs.conversation.send_some.Goals as goal

above : (n : ℕ) → n ≢ 0 → 0 < n
above n some = omega (arith, some)

grows : {a b c : ℕ} → a ≤ b → b ≤ c → a ≤ c
grows h i = omega (arith, h, i)

rest_some : (xs : List ℕ) (n : ℕ) → n < length xs → 0 < length (take (length xs - n) (drop n xs))
rest_some xs n h = let e = length-drop n xs in subst (λ (ys : List ℕ). 0 < length ys) (sym (take_rest xs n)) (omega (arith, e, h))

pub loop-count-preserved : goal.loop-count-preserved
loop-count-preserved g c =
    let bound : c.loop-count.count + c.in-Ok.n ≤ length c.args.bytes.now = search rules in
    let more : Appends (g.O.Write.contents c.loop-count.writer) (g.O.Write.contents c.write_some.new.self) (take c.in-Ok.n (drop c.loop-count.count c.args.bytes.now)) =
    subst (λ (x : List ℕ). Appends (g.O.Write.contents c.loop-count.writer) (g.O.Write.contents c.write_some.new.self) (take c.in-Ok.n x)) (take_rest c.args.bytes.now c.loop-count.count) c.in-Ok.ensures.bytes in
    let one : g.O.Failing.call_counts c.write_some.new.self ≡ one_call (g.O.Failing.call_counts c.loop-count.writer) = c.in-Ok.ensures.counts.0 (inl (above c.in-Ok.n (search rules))) in
    (bound, more_taken _ (g.O.Write.contents c.loop-count.writer) _ c.args.bytes.now _ _ c.loop-count.invariant.1 more, grows c.loop-count.invariant.2 c.in-Ok.ensures.calm.0, ap (λ (t : CallCounts). t.failures) one ∙ c.loop-count.invariant.3, ap (λ (t : CallCounts). t.blocked) one ∙ c.loop-count.invariant.4)

pub returns-in-Ok-eq0-clause-failed : goal.returns-in-Ok-eq0-clause-failed
returns-in-Ok-eq0-clause-failed g c = λ e.
    let none : c.in-Ok-eq0.field-0 ≡ 0 = search rules in
    later (g.O.Failing.call_counts c.args.writer.now) (g.O.Failing.call_counts c.loop-count.writer) (g.O.Failing.call_counts c.write_some.new.self) c.loop-count.invariant.2
    (one_failed (g.O.Failing.call_counts c.loop-count.writer) (g.O.Failing.call_counts c.write_some.new.self) (c.in-Ok-eq0.ensures.counts.1 (none, rest_some c.args.bytes.now c.loop-count.count c.loop-count-test.true)))

pub returns-in-Ok-eq0-clause-calm : goal.returns-in-Ok-eq0-clause-calm
returns-in-Ok-eq0-clause-calm g c = grows c.loop-count.invariant.2 c.in-Ok-eq0.ensures.calm.0

pub returns-in-Err-clause-failed : goal.returns-in-Err-clause-failed
returns-in-Err-clause-failed g c = λ e.
    later (g.O.Failing.call_counts c.args.writer.now) (g.O.Failing.call_counts c.loop-count.writer) (g.O.Failing.call_counts c.write_some.new.self) c.loop-count.invariant.2
    (one_failed (g.O.Failing.call_counts c.loop-count.writer) (g.O.Failing.call_counts c.write_some.new.self) (c.in-Err.ensures.counts.1 (λ w. c.is_failure-failed.ensures.failed e (c.kind.ensures ∙ w))))

pub returns-in-Err-clause-calm : goal.returns-in-Err-clause-calm
returns-in-Err-clause-calm g c = grows c.loop-count.invariant.2 c.in-Err.ensures.calm.0

pub returns-clause-calm : goal.returns-clause-calm
returns-clause-calm g c = c.loop-count.invariant.2
