use Rattle.std.proofs.Common.{◌≡◌, true, drop}
use Rattle.filters.specs.Machine.{run, parsed, IsCut}
use Rattle.filters.proofs.reading.read.Given as goal

-- the rest of the text gives what the whole gives
abbrev pub invariant-loop-i : goal.invariant-loop-i
invariant-loop-i l =
    record {
      run : run l.vocabulary true l.i l.state l.purposes (drop l.i l.text) ≡ parsed l.vocabulary l.text;
      cut : IsCut l.state (drop l.i l.text);
    }
