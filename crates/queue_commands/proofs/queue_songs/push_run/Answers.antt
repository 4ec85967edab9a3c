use Rattle.std.proofs.Common.{◌≡◌, ◌+◌, ◌++◌, ◌∷◌, [], ℕ, List, length, take, ap, sym, ◌∙◌, arith}
use Rattle.std.proofs.lemmas.List.{length-map, length-take, map_more}
use Rattle.song_queue.specs.declared.entry.Slot.{Slot}
use Rattle.song_queue.specs.declared.entry.Entry.{Entry}
use Rattle.song_queue.specs.State.{entries_of}
use Rattle.queue_commands.specs.Shown.{row_lines}
use Rattle.queue_commands.proofs.Rows.{one_entry}
use Rattle.queue_commands.proofs.queue_songs.push_run.Goals as goal

pub loop-slot-preserved : goal.loop-slot-preserved
loop-slot-preserved c =
    let row : ℕ × Entry → List ℕ = row_lines c.args.shown c.args.tags c.args.library.now.rate in
    let run : List Slot = c.args.run.now in
    let i : ℕ = c.loop-slot.slot-index in
    let slot : Slot = c.slot-item.result in
    let entry : Slot → Entry = λ s. s.entry in
    let done : List Entry = entries_of (take i run) in
    let grown : entries_of (take (i + 1) run) ≡ done ++ slot.entry ∷ [] = map_more entry run i slot (omega arith) ∙ ap (λ (s : Slot). done ++ s.entry ∷ []) (sym c.slot-item.is) in
    let size : length (take i run) ≡ i = length-take i run ∙ omega arith in
    let long : length done ≡ i = length-map (take i run) entry ∙ size in
    record {
      position = omega (arith, c.loop-slot.invariant.position);
      lines =
          c.in_ok-push_row.ensures
          ∙ one_entry row c.args.first c.loop-slot.position done (entries_of (take (i + 1) run)) slot.entry c.args.lines.now c.loop-slot.lines grown (omega (arith, c.loop-slot.invariant.position, long))
          c.loop-slot.invariant.lines;
    }
