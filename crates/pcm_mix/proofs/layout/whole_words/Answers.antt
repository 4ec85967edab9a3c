use Rattle.std.proofs.Common.{ℕ, ◌+◌, ◌*◌, arith, refl}
use mir.Syntax.{w8}
use Rattle.std.proofs.lemmas.List.FromFn.{fill_by_all}
use Rattle.std.proofs.lemmas.Simd.{chunk-fits, below_from_Fits}
use Rattle.std.specs.Simd.Lanes.{chunk, number_l, digits_l}
use Rattle.pcm_mix.specs.Layouts.{word_at}
use Rattle.pcm_mix.proofs.Words.{word_is}
use Rattle.pcm_mix.proofs.layout.whole_words.Goals as goal

pub returns : goal.returns
returns c =
    let bytes = c.args.bytes.now in
    let at = c.args.at in
    let fits = below_from_Fits w8 _ (chunk-fits w8 at 16 bytes c.type_inv.bytes) in
    fill_by_all (λ (j : ℕ). word_at bytes (at + j * 2)) (digits_l 65536 8 (number_l 256 (chunk at 16 bytes))) 8 0 refl (λ j less. word_is bytes at j (omega arith) less fits)
