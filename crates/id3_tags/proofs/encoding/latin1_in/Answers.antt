use Rattle.std.proofs.Common.{◌++◌, List, ℕ, ap, sym, ◌∙◌, arith}
use Rattle.std.specs.Char.{encode_utf8}
use Rattle.id3_tags.proofs.Spelling.{one_more_char}
use Rattle.id3_tags.proofs.encoding.latin1_in.Goals as goal

pub loop-byte-preserved : goal.loop-byte-preserved
loop-byte-preserved c =
    c.in_ok-push.ensures.bytes ∙ ap (λ (xs : List ℕ). xs ++ encode_utf8 c.from.result) c.loop-byte.invariant
    ∙ sym (one_more_char c.args.bytes.now c.loop-byte.byte-index c.from.result (omega arith) cc)
