use Rattle.std.proofs.Common.{◌≡◌, vec_len}
use Rattle.std.specs.List.{All}
use Rattle.idle_notes.specs.declared.channels.Message.{Message}
use Rattle.idle_notes.proofs.channels.copies_of.Given as goal

abbrev pub invariant-loop : goal.invariant-loop
invariant-loop l =
    record {
      same : All (λ (copy : Message). copy ≡ l.message) l.copies.items;
      count : vec_len l.copies ≡ l.counter;
    }
