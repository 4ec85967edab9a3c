use Rattle.std.proofs.Common.{rules}
use Rattle.shelf_database.proofs.FormerLemmas.{all_blamed}
use Rattle.shelf_database.proofs.profile.make_ready.Goals as goal

pub returns-then-not-is_blank-clause-blamed : goal.returns-then-not-is_blank-clause-blamed
returns-then-not-is_blank-clause-blamed g c =
    all_blamed g.S.Store c.args.connection.now c.read_profile.new.connection c.read_profile.result (λ none. search (rules, none)) c.read_profile.ensures.blamed c.read_profile.ensures.unmoved c.read_profile.ensures.other
