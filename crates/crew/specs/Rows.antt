-- Of which output, feeder and drainer a thread is.
use Rattle.std.specs.Prelude.{ℕ, List, map}
use Rattle.std.specs.Global.{Vec}
use Rattle.output_ring.specs.declared.feeder.Feeder.{Feeder}
use Rattle.output_ring.specs.declared.drainer.Drainer.{Drainer}
use Rattle.crew.specs.declared.output.OutputRun.{OutputRun}

module _ {L : Type 0} where
  -- the feeder of its ring, as it was when the threads began
  abbrev pub first_of_run : OutputRun L → Feeder
  first_of_run r = r.first.value

  abbrev pub drainer_of_run : OutputRun L → Drainer
  drainer_of_run r = r.handle.promise.drainer.value

  -- the number that it tells the house at each turn
  abbrev pub output_of_run : OutputRun L → ℕ
  output_of_run r = r.handle.promise.output

  -- the same of the threads of all outputs, one after the other
  abbrev pub firsts_of : Vec (OutputRun L) → List Feeder
  firsts_of runs = map first_of_run runs.items

  abbrev pub drainers_of : Vec (OutputRun L) → List Drainer
  drainers_of runs = map drainer_of_run runs.items

  abbrev pub numbers_of : Vec (OutputRun L) → List ℕ
  numbers_of runs = map output_of_run runs.items
