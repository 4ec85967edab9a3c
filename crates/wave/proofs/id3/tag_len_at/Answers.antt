use Rattle.std.proofs.Common.{arith, ap, ◌∙◌, take, min}
use Rattle.id3_tags.specs.Tags.{tag_len}
use Rattle.wave.proofs.Known.{known_map}
use Rattle.wave.proofs.Id3Chunks.{head_read}
use Rattle.wave.proofs.id3.tag_len_at.Goals as goal

pub returns-clause-value : goal.returns-clause-value
returns-clause-value g c =
    known_map (g.M.Media.all_bytes c.args.media.now) (λ bytes filled.
    c.min-2.ensures ∙ ap (λ k. min k c.args.part.len) (c.tag_len.ensures.value ∙ ap (λ k. tag_len (take k c.read_at.new.buf)) c.min.ensures
    ∙ head_read c.in_ok-n.n c.args.part.len c.args.part.offset c.read_at.new.buf bytes (omega arith) filled)) c.in_ok-n.ensures.value
