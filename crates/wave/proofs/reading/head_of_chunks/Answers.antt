use Rattle.std.proofs.Common.{ap, ◌∙◌}
use Rattle.wave.specs.Parts.{chunks_within}
use Rattle.wave.proofs.Known.{known_map2}
use Rattle.wave.proofs.Meanings.{head_is}
use Rattle.wave.proofs.reading.head_of_chunks.Goals as goal

pub returns-clause-value : goal.returns-clause-value
returns-clause-value g c =
    let tags = rw c.in_ok-samples.ensures.stays at c.in_ok-tags.ensures.value in
    known_map2 (g.M.Media.all_bytes c.args.media.now) (λ bytes sound found.
    head_is c.args.everyday c.args.rate bytes (chunks_within bytes 12 c.args.end) c.head_of.result c.in_ok-samples.samples.layout c.in_ok-samples.samples.offset c.in_ok-samples.samples.len _
    sound.0 sound.1 (ap (λ v. v.items) c.head_of.ensures.tags) found c.head_of.ensures.layout c.head_of.ensures.frames c.head_of.ensures.offset) c.in_ok-samples.ensures.value tags
