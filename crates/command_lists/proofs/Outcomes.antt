-- What lines are taken as, one after the other.
use Rattle.std.proofs.Common.{[], ◌∷◌, refl, ap}
use Rattle.command_lists.specs.Lists.{outcome_of, Outcomes, outcomes_of}
use Rattle.command_lists.specs.Grammar.{AnyCut}

pub any_cut : AnyCut
unfolding outcomes_of
any_cut list [] more = refl
any_cut list (line ∷ lines) more =
    ap (λ (o : Outcomes). record { open_list = o.open_list; taken = (outcome_of list line).taken ∷ o.taken }) (any_cut (outcome_of list line).open_list lines more)
