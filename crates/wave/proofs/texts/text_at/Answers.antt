use Rattle.std.proofs.Common.{arith, ap, ◌∙◌, take}
use Rattle.wave.specs.Found.{text_in}
use Rattle.wave.proofs.Known.{known_map}
use Rattle.wave.proofs.Items.{text_read}
use Rattle.wave.proofs.texts.text_at.Goals as goal

pub returns-clause-value : goal.returns-clause-value
returns-clause-value g c =
    known_map (g.M.Media.all_bytes c.args.media.now) (λ bytes filled.
    c.in_ok-text_in.ensures ∙ ap (λ k. text_in c.args.everyday (take k c.read_at.new.buf)) c.min.ensures
    ∙ text_read c.args.everyday c.in_ok-n.n c.args.item.len c.args.item.offset c.read_at.new.buf bytes (omega arith) filled) c.in_ok-n.ensures.value
