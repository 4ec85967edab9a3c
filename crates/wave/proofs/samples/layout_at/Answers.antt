use Rattle.std.proofs.Common.{arith, ap, ◌∙◌, take, drop}
use Rattle.wave.specs.Formats.{layout_of}
use Rattle.wave.proofs.Known.{known_map}
use Rattle.wave.proofs.Filling.{start_is}
use Rattle.wave.proofs.samples.layout_at.Goals as goal

pub returns-clause-value : goal.returns-clause-value
returns-clause-value g c =
    known_map (g.M.Media.all_bytes c.args.media.now) (λ bytes filled.
    c.layout_of.ensures ∙ ap (layout_of c.args.rate) (ap (λ k. take k c.read_at.new.buf) c.min.ensures
    ∙ start_is 40 c.in_ok-n.n c.args.part.len c.read_at.new.buf (drop c.args.part.offset bytes) (omega arith) filled)) c.in_ok-n.ensures.value
