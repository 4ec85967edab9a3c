use Rattle.std.proofs.Common.{ℕ, List, ◌||◌, map, ap, sym, ◌∙◌, ltb}
use Rattle.std.specs.Prelude.{filter}
use Rattle.std.specs.List.{enumerate_from}
use Rattle.queue_slots.specs.declared.entry.Entry.{Entry}
use Rattle.queue_slots.specs.declared.entry.Slot.{Slot}
use Rattle.song_queue.specs.State.{changed}
use Rattle.song_queue.proofs.Edits.{map-rows}
use Rattle.song_queue.proofs.Patches.{patches-earlier}
use Rattle.song_queue.proofs.queue.Queue.changed_since.Goals as goal

pub returns-clause-positions : goal.returns-clause-positions
returns-clause-positions c =
    let shown : List Slot → List (ℕ × Slot) = λ ss. filter (λ (p : ℕ × Slot). p.1.marked || ltb c.args.version p.1.stamp || ltb c.self.inside.version c.args.version) (enumerate_from 0 ss) in
    c.in_ok-positions.ensures ∙ sym (map-rows (shown c.self.inside.slots))
    ∙ ap (λ q. map (λ (p : ℕ × Entry). p.0) (changed q c.args.version)) c.self.view_is

pub returns-clause-patches : goal.returns-clause-patches
returns-clause-patches c = patches-earlier c.args.self.now c.args.version c.in_ok-positions.positions.items (returns-clause-positions c)
