use Rattle.std.specs.Prelude.{◌≡◌, string_bytes, take, true}
use Rattle.std.specs.List.{flat_map, list_all}
use Rattle.own_lines.specs.Answered.{goes}
use Rattle.own_lines.proofs.lines.answers_of.Given as goal

abbrev pub invariant-heard : goal.invariant-heard
invariant-heard l =
    (list_all goes (take l.outcome-index l.outcomes) ≡ true)
    × (string_bytes l.text ≡ flat_map (λ outcome. outcome.answer.text) (take l.outcome-index l.outcomes))
