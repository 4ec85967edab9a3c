use Rattle.std.proofs.Common.{◌≡◌, ◌+◌, ◌-◌, ◌++◌, List, map, take, drop, ap, sym, ◌∙◌, append_assoc, arith}
use Rattle.std.specs.List.{slice_range}
use Rattle.std.proofs.lemmas.List.{drop-drop}
use Rattle.queue_slots.specs.declared.entry.Slot.{Slot}
use Rattle.queue_slots.specs.Slots.{kept, written, entries_of}
use Rattle.queue_slots.specs.Blocks.{joined}
use Rattle.queue_slots.proofs.Joined.{joined-append, rotated}
use Rattle.queue_slots.proofs.many.rotate_slice.Goals as goal

pub returns-clause-rotation : goal.returns-clause-rotation
returns-clause-rotation c =
    let bs = c.args.blocks.now in
    let i = c.args.i in
    let j = c.args.j in
    let k = c.args.k in
    let keep : List Slot → List Slot = map (kept c.args.wraps) in
    let write : List Slot → List Slot = λ x. map (written c.args.version c.args.wraps) (entries_of x) in
    let front = c.keep_all.ensures.blocks ∙ ap (λ x. keep (joined x)) c.split_at_mut-front.ensures.front in
    let rest = c.split_at_mut-front.ensures.back in
    let span = c.split_at_mut-span.ensures.front ∙ ap (take (k - i)) rest in
    let rotation : drop (j - i) (slice_range bs i k) ++ take (j - i) (slice_range bs i k) ≡ slice_range bs j k ++ slice_range bs i j = rotated bs i j k c.requires.front c.requires.back in
    let middle = c.write_all.ensures.blocks ∙ ap (λ x. write (joined x)) (c.rotate_left.ensures.after ∙ ap (λ x. drop (j - i) x ++ take (j - i) x) span ∙ rotation) ∙ ap write (joined-append (slice_range bs j k) (slice_range bs i j)) in
    let last : i + (k - i) ≡ k = omega arith in
    let back = c.keep_all-2.ensures.blocks ∙ ap (λ x. keep (joined x)) (c.split_at_mut-span.ensures.back ∙ ap (drop (k - i)) rest ∙ drop-drop (k - i) i bs ∙ ap (λ n. drop n bs) last) in
    joined-append c.keep_all.new.blocks _ ∙ ap (λ x. joined c.keep_all.new.blocks ++ x) (joined-append c.write_all.new.blocks c.keep_all-2.new.blocks) ∙ (λ t. front t ++ (middle t ++ back t)) ∙ sym (append_assoc (keep (joined (take i bs))) _ _)
