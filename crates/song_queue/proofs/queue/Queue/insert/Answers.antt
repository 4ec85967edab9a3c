use Rattle.std.proofs.Common.{◌≡◌, ◌≤◌, ◌+◌, length, ap, sym, subst, ◌∙◌, arith}
use Rattle.std.proofs.lemmas.List.{length-map}
use Rattle.queue_slots.specs.declared.entry.Slot.{Slot}
use Rattle.song_queue.specs.State.{QueueState, IsQueue, inserted}
use Rattle.song_queue.proofs.Edits.{length-entries_for, IsQueue-inserted, inserted-is, inserted-nothing}
use Rattle.song_queue.specs.Fields.{state_in}
use Rattle.song_queue.proofs.queue.Queue.insert.Goals as goal

pub returns-then-count-eq0-clause-ok : goal.returns-then-count-eq0-clause-ok
returns-then-count-eq0-clause-ok c =
    let q : QueueState = state_in c.self.inside in
    let within : c.args.at ≤ length q.slots = omega arith in
    let none : length c.args.songs.items ≡ 0 = omega arith in
    let P : QueueState → Type 0 = λ x. x ≡ inserted x c.args.at c.args.songs.items in
    subst P c.self.view_is (sym (inserted-nothing q c.self.invariant c.args.at c.args.songs.items within none))

pub put_in-requires-clause-fits : goal.put_in-requires-clause-fits
put_in-requires-clause-fits c =
    let long = ap (λ x. length x) c.in_ok-added.ensures in
    let entries = length-map c.in_ok-added.added.items (λ (s : Slot). s.entry) in
    let songs = length-entries_for (c.self.inside.greatest_id + 1) c.args.songs.items in
    let most = c.self.invariant.len in
    omega arith

pub put_in-requires-clause-some : goal.put_in-requires-clause-some
put_in-requires-clause-some c =
    let long = ap (λ x. length x) c.in_ok-added.ensures in
    let entries = length-map c.in_ok-added.added.items (λ (s : Slot). s.entry) in
    let songs = length-entries_for (c.self.inside.greatest_id + 1) c.args.songs.items in
    omega arith

pub invariant_of-self-2 : goal.invariant_of-self-2
invariant_of-self-2 c =
    let q : QueueState = state_in c.self.inside in
    let within : c.args.at ≤ length q.slots = omega arith in
    let count : c.len-count.result ≡ length c.args.songs.items = omega arith in
    subst IsQueue (sym (inserted-is q c.self.invariant c.args.at c.args.songs.items within c.version_after-version.result.0 c.len-count.result c.version_after-version.result.1 c.in_ok-added.added.items c.put_in.new.self
    c.version_after-version.ensures.next c.version_after-version.ensures.wraps count (omega arith) c.in_ok-added.ensures c.in_ok-put_in.ensures.ok))
    (IsQueue-inserted q c.self.invariant c.args.at c.args.songs.items within (omega (arith, c.self.invariant.len)) (omega (arith, c.self.invariant.greatest_id)))

pub returns-clause-ok : goal.returns-clause-ok
returns-clause-ok c =
    let q : QueueState = state_in c.self.inside in
    let within : c.args.at ≤ length q.slots = omega arith in
    let count : c.len-count.result ≡ length c.args.songs.items = omega arith in
    inserted-is q c.self.invariant c.args.at c.args.songs.items within c.version_after-version.result.0 c.len-count.result c.version_after-version.result.1 c.in_ok-added.added.items c.put_in.new.self
    c.version_after-version.ensures.next c.version_after-version.ensures.wraps count (omega arith) c.in_ok-added.ensures c.in_ok-put_in.ensures.ok
    ∙ ap (λ x. inserted x c.args.at c.args.songs.items) c.self.view_is
