use Rattle.std.proofs.Common.{◌≡◌, ◌+◌, ◌-◌, ◌++◌, List, length, map, take, drop, ap, sym, ◌∙◌, arith}
use Rattle.std.proofs.lemmas.List.{length-map}
use Rattle.queue_slots.specs.declared.entry.Entry.{Entry}
use Rattle.queue_slots.specs.declared.entry.Slot.{Slot}
use Rattle.song_queue.specs.State.{kept, written, entries_of, restamped}
use Rattle.song_queue.proofs.Moves.{moved_to-back, moved_to-ahead, parts-slots, restamped-rotated}
use Rattle.song_queue.proofs.slots.move_part.Goals as goal

pub returns-then-to-start : goal.returns-then-to-start
returns-then-to-start c =
    let ss = c.args.slots.now in
    let start = c.args.start in
    let end = c.args.end in
    let to = c.args.to in
    let v = c.args.version in
    let w = c.args.wraps in
    let d = c.requires.distinct in
    let size : length (entries_of ss) ≡ length ss = length-map ss (λ (s : Slot). s.entry) in
    let spread : List Entry → List Slot = λ x. map (kept w) (take to ss) ++ map (written v w) x ++ map (kept w) (drop end ss) in
    c.rotate.ensures ∙ ap spread (parts-slots ss d to start end (omega arith) (omega arith) (omega arith)) ∙ sym (restamped-rotated ss d to start end (omega arith) (omega arith) (omega arith) v w)
    ∙ sym (ap (restamped v w ss) (moved_to-back (entries_of ss) start end to (omega arith) (omega arith)))

pub returns-else-to-start : goal.returns-else-to-start
returns-else-to-start c =
    let ss = c.args.slots.now in
    let start = c.args.start in
    let end = c.args.end in
    let to = c.args.to in
    let high = to + (end - start) in
    let v = c.args.version in
    let w = c.args.wraps in
    let d = c.requires.distinct in
    let size : length (entries_of ss) ≡ length ss = length-map ss (λ (s : Slot). s.entry) in
    let spread : List Entry → List Slot = λ x. map (kept w) (take start ss) ++ map (written v w) x ++ map (kept w) (drop high ss) in
    c.rotate-else-to-start.ensures ∙ ap spread (parts-slots ss d start end high (omega arith) (omega arith) (omega arith)) ∙ sym (restamped-rotated ss d start end high (omega arith) (omega arith) (omega arith) v w)
    ∙ sym (ap (restamped v w ss) (moved_to-ahead (entries_of ss) start end to (omega arith) (omega arith) (omega arith)))
