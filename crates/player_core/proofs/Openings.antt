-- When there is an entry to begin with.
use Rattle.std.proofs.Common.{◌≡◌, true, List, Option, Some, None, is_some, refl, ap, ◌∙◌}
use Rattle.song_queue.specs.declared.entry.Entry.{Entry}
use Rattle.play_order.specs.declared.modes.Modes.{Modes}
use Rattle.play_order.specs.Draws.{RoundState}
use Rattle.play_order.specs.Order.{next_of, opening_of}
use Rattle.play_order.specs.Ends.{id_of, next_after_removal}
use Rattle.play_order.proofs.Going.{opening-next, without-none}

-- it is what comes next with repeat when nothing is taken out
pub opening-some : (modes : Modes) (round : RoundState) (entries : List Entry) → is_some (next_after_removal (record modes { repeat = true }) round entries 0 0) ≡ is_some (opening_of modes round entries)
opening-some modes round entries =
    ap (λ (r : RoundState). is_some (next_of (record modes { repeat = true }) r entries 0)) (without-none round) ∙ ap (λ (o : Option Entry). is_some o) (opening-next modes round entries)

pub id-some : (entry : Option Entry) → is_some (id_of entry) ≡ is_some entry
id-some None = refl
id-some (Some e) = refl
