use Rattle.std.proofs.Common.{◌≡◌, ℕ, ◌+◌, ◌++◌, [], ◌∷◌, length, ap, sym, ◌∙◌, arith, append_assoc, false}
use Rattle.std.proofs.lemmas.List.{length_push}
use Rattle.std.specs.Vec.Iter.{into_iter_items}
use Rattle.queue_slots.specs.declared.entry.Entry.{Entry}
use Rattle.song_queue.specs.State.{entries_of}
use Rattle.song_queue.specs.Entries.{entries_for}
use Rattle.song_queue.proofs.Lists.{entries_for-push, entries_of-push}
use Rattle.song_queue.proofs.slots.new_slots.Goals as goal

pub loop-song-preserved : goal.loop-song-preserved
loop-song-preserved c =
    let done = c.loop-song.yielded in
    let song = c.in-Some.song in
    let more : length (done ++ song ∷ []) ≡ length done + 1 = length_push done song in
    let number : c.loop-song.id + 1 ≡ c.args.id + 1 + length done = omega arith in
    let entry : ℕ → Entry = λ n. record { id = n; song = song; priority = 0 } in (
      tt,
      tt,
      omega arith,
      ap (λ x. entries_of x) c.in_ok-push.ensures.items ∙ entries_of-push c.loop-song.slots.items (record { entry = entry (c.loop-song.id + 1); stamp = 1; marked = false })
          ∙ ap (λ x. x ++ entry (c.loop-song.id + 1) ∷ []) c.loop-song.invariant.3 ∙ ap (λ n. entries_for (c.args.id + 1) done ++ entry n ∷ []) number ∙ sym (entries_for-push (c.args.id + 1) done song),
      append_assoc done (song ∷ []) (into_iter_items c.next.new.self) ∙ ap (λ x. done ++ x) (sym c.in-Some.ensures.steps.0) ∙ c.loop-song.invariant.4,
    )
