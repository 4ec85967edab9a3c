use Rattle.std.proofs.Common.{arith, ap, sym}
use Rattle.partition.specs.Image.{image_of_state}
use Rattle.partition.proofs.Chronicles.{came_on}
use Rattle.partition.proofs.partition.Partition.fold.Goals as goal

pub invariant_of-self : goal.invariant_of-self
invariant_of-self c =
    let p = c.self.inside in
    let copied = ap image_of_state c.of.ensures in
    record {
      room = c.self.invariant.room;
      few = rw c.in-Ok.ensures.items (omega arith);
      came = rw copied (came_on (image_of_state p.base.value) (image_of_state p.state) p.history.items c.self.invariant.came c.self.invariant.present c.self.invariant.told);
      present = rw c.in-Ok.ensures.items (sym copied);
      told = rw c.in-Ok.ensures.items tt;
      bytes = rw c.in-Ok.ensures.items (omega arith);
    }
