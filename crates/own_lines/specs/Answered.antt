-- What lines that were said together are answered.
use Rattle.std.specs.Prelude.{ℕ, Bool, true, false, not, ◌&&◌, List, Option, Some, None, if◌then◌else◌}
use Rattle.std.specs.List.{flat_map, list_all}
use Rattle.player_events.specs.Outcomes.{OutcomeData}
use Rattle.transitions.specs.declared.reply.Next.{Next}
use Rattle.transitions.specs.declared.reply.Next.TheVariants.{Goes}

abbrev pub is_going : Next → Bool
is_going Goes = true
is_going _ = false

-- an answer that is no refusal, and lets the client go on
abbrev pub goes : OutcomeData → Bool
goes outcome = is_going outcome.answer.next && not outcome.answer.refused

-- the answers, one behind the other, where each is one
abbrev pub answers_in : List OutcomeData → Option (List ℕ)
answers_in outcomes = if list_all goes outcomes then Some (flat_map (λ outcome. outcome.answer.text) outcomes) else None
