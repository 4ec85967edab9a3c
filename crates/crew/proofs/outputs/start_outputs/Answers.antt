use Rattle.std.proofs.Common.{arith, rules, ◌≡◌, vec_len, ◌+◌, [], ◌∷◌, ◌++◌}
use Rattle.std.proofs.lemmas.Grind.{common_steps}
use Rattle.crew.specs.Rows.{output_of_run}
use Rattle.crew.proofs.Numbers.{one_more}
use Rattle.crew.proofs.outputs.start_outputs.Goals as goal

pub loop-output_setup-preserved : goal.loop-output_setup-preserved
loop-output_setup-preserved g c =
    let grown : c.push.new.self.items ≡ c.loop-output_setup.runs.items ++ c.in_ok-run.run' ∷ [] = search rules in
    let is : output_of_run c.in_ok-run.run' ≡ vec_len c.loop-output_setup.runs = search rules in
    let more : vec_len c.push.new.self ≡ vec_len c.loop-output_setup.runs + 1 = search rules in record {
      parts = search rules;
      count = search rules;
      numbers =
          one_more output_of_run c.loop-output_setup.runs.items c.push.new.self.items c.in_ok-run.run' (vec_len c.loop-output_setup.runs) (vec_len c.push.new.self)
          c.loop-output_setup.invariant.numbers grown is more;
      runs = grind (arith, common_steps);
      drainers = grind (arith, common_steps);
      feeders = grind (arith, common_steps);
    }

pub invariant_of-result : goal.invariant_of-result
invariant_of-result g c = record { numbers = c.loop-output_setup.invariant.numbers; rings = grind (arith, common_steps); parts = search rules }
