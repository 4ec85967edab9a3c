use Rattle.std.proofs.Common.{◌∙◌}
use Rattle.wave.specs.Parts.{file_chunks}
use Rattle.wave.proofs.Known.{known_map, known_map2}
use Rattle.wave.proofs.Tags.{base_of, everyday_of}
use Rattle.wave.proofs.reading.read_tags.Goals as goal

pub returns-then-not-everyday-clause-value : goal.returns-then-not-everyday-clause-value
returns-then-not-everyday-clause-value g c =
    known_map (g.M.Media.all_bytes c.args.media.now) (λ bytes texts.
    c.in_ok-into_base_tags.ensures ∙ base_of c.args.everyday (file_chunks bytes c.args.end) c.in_ok-texts.texts c.if-not-everyday.true texts) c.in_ok-texts.ensures.value

pub returns-clause-value : goal.returns-clause-value
returns-clause-value g c =
    let id3 = rw c.in_ok-texts.ensures.stays at c.in_ok-id3.ensures.value in
    known_map2 (g.M.Media.all_bytes c.args.media.now) (λ bytes texts tag.
    c.in_ok-into_everyday_tags.ensures
    ∙ everyday_of c.args.everyday (file_chunks bytes c.args.end) c.in_ok-texts.texts c.in_ok-id3.id3 c.if-not-everyday.false texts tag) c.in_ok-texts.ensures.value id3
