use Rattle.std.proofs.Common.{◌≡◌, ℕ, ◌≤◌, Bool, false, length, ap, sym, subst, ◌∙◌, arith}
use Rattle.std.specs.Bool.{OnFalse}
use Rattle.song_queue.specs.State.{QueueState, removed}
use Rattle.song_queue.proofs.Edits.{IsQueue-left, removed-is, removed-nothing}
use Rattle.song_queue.specs.Fields.{state_in}
use Rattle.song_queue.proofs.queue.Queue.remove.Goals as goal

pub returns-then-start-end-clause-ok : goal.returns-then-start-end-clause-ok
returns-then-start-end-clause-ok c = sym (removed-nothing c.args.self.now c.args.range.start) ∙ ap (removed c.args.self.now c.args.range.start) c.if-start-end.true

inside : (start end len : ℕ) (outside : Bool) → outside ≡ false → OnFalse outside ((start ≤ end) × (end ≤ len)) → (start ≤ end) × (end ≤ len)
inside start end len outside inner within = subst (λ (b : Bool). OnFalse b ((start ≤ end) × (end ≤ len))) inner within

pub invariant_of-self : goal.invariant_of-self
invariant_of-self c =
    let q : QueueState = state_in c.self.inside in
    let lies = inside c.args.range.start c.args.range.end c.len.result c.lies_outside.result c.if-lies_outside.false c.lies_outside.ensures.within in
    let order : c.args.range.start ≤ c.args.range.end = lies.0 in
    let fits : c.args.range.end ≤ c.len.result = lies.1 in
    let within : c.args.range.end ≤ length q.slots = omega arith in
    IsQueue-left q c.self.invariant c.args.range.start c.args.range.end order within c.version_after-version.result.0 c.version_after-version.result.1 _ c.take_out.new.self
    c.version_after-version.ensures.next c.version_after-version.ensures.wraps (omega arith) c.take_out.ensures

pub returns-clause-ok : goal.returns-clause-ok
returns-clause-ok c =
    let q : QueueState = state_in c.self.inside in
    let lies = inside c.args.range.start c.args.range.end c.len.result c.lies_outside.result c.if-lies_outside.false c.lies_outside.ensures.within in
    let order : c.args.range.start ≤ c.args.range.end = lies.0 in
    let fits : c.args.range.end ≤ c.len.result = lies.1 in
    let within : c.args.range.end ≤ length q.slots = omega arith in
    removed-is q c.self.invariant c.args.range.start c.args.range.end order within c.version_after-version.result.0 c.version_after-version.result.1 c.take_out.new.self
    c.version_after-version.ensures.next c.version_after-version.ensures.wraps (omega arith) c.take_out.ensures
    ∙ ap (λ x. removed x c.args.range.start c.args.range.end) c.self.view_is
