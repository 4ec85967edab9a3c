use Rattle.std.proofs.Common.{arith, ap, sym, ◌∙◌, ◌≡◌, take, length}
use Rattle.std.proofs.lemmas.List.{take_at}
use Rattle.id3_tags.specs.Texts.{id3_texts}
use Rattle.wave.proofs.Known.{known_map2}
use Rattle.wave.proofs.Id3Chunks.{texts_read}
use Rattle.wave.proofs.id3.texts_at.Goals as goal

pub returns-clause-value : goal.returns-clause-value
returns-clause-value g c =
    let read = rw c.in_ok-len.ensures.stays at c.in_ok-n.ensures.value in
    known_map2 (g.M.Media.all_bytes c.args.media.now) (λ bytes len filled.
    let long : length c.read_at.new.buf ≡ c.in_ok-len.len = omega (arith, c.read_at.auto.buf, c.deref_mut.ensures.len, c.in_ok-bytes.ensures.len) in
    let slice : c.as_slice.result.now ≡ c.read_at.new.buf = c.as_slice.ensures.value ∙ take_at c.read_at.new.buf _ _ (omega (arith, c.read_at.auto.buf, c.deref_mut.ensures.len, c.in_ok-bytes.bytes.ok.0)) in
    c.in_ok-texts_of.ensures ∙ ap (λ xs. id3_texts (take c.in_ok-n.n xs)) slice
    ∙ texts_read c.in_ok-n.n c.in_ok-len.len c.args.part.len c.args.part.offset c.read_at.new.buf bytes long len filled) c.in_ok-len.ensures.value read
