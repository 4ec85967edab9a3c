use Rattle.std.proofs.Common.{[], ap, sym, ◌∙◌, refl, arith}
use Rattle.partition.specs.Image.{image_of_state}
use Rattle.partition.proofs.partition.Partition.open.Goals as goal

pub invariant_of-result : goal.invariant_of-result
invariant_of-result c =
    let opened = c.in_ok-state.ensures in
    let copied = ap image_of_state c.of-base.ensures in
    record {
      room = c.requires.history;
      few = rw c.new.ensures.items (omega arith);
      came = record { setup = c.args.setup; library = c.args.library; earlier = []; above = c.requires.version; leads = copied ∙ opened; told = tt };
      present = rw c.new.ensures.items (sym copied);
      told = rw c.new.ensures.items tt;
      bytes = rw c.new.ensures.items refl;
    }
