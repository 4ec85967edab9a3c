use Rattle.std.proofs.Common.{◌∙◌, ◌+◌, ◌≤◌, drop, length, sym, ap, arith}
use Rattle.song_groups.proofs.Leading.{behind, behind_none, digit_more, no_digit, no_more}
use Rattle.song_groups.proofs.numbers.leading_number.Goals as goal

pub loop-byte-init : goal.loop-byte-init
loop-byte-init c = record {
  small = omega arith;
  rest = behind_none c.args.text.now ∙ ap (behind 0) (sym c.as_bytes-byte-items.ensures.value);
}

pub returns-then-not-is_ascii_digit : goal.returns-then-not-is_ascii_digit
returns-then-not-is_ascii_digit c =
    sym
    (c.loop-byte.invariant.rest
    ∙ no_digit c.loop-byte.number c.loop-byte.byte-index c.as_bytes-byte-items.result.now c.loop-byte.invariant.small c.loop-byte-test.true (sym c.is_ascii_digit.ensures.value ∙ c.if-not-is_ascii_digit.true))

pub loop-byte-preserved : goal.loop-byte-preserved
loop-byte-preserved c = record {
  small = omega (arith, c.with_digit-number.type_inv);
  rest =
      c.loop-byte.invariant.rest
      ∙ digit_more c.loop-byte.number c.loop-byte.byte-index c.as_bytes-byte-items.result.now c.loop-byte-test.true (sym c.is_ascii_digit.ensures.value ∙ c.if-not-is_ascii_digit.false)
      ∙ ap (λ n. behind n (drop (c.loop-byte.byte-index + 1) c.as_bytes-byte-items.result.now)) (sym c.with_digit-number.ensures);
}

pub returns : goal.returns
returns c =
    let end : length c.as_bytes-byte-items.result.now ≤ c.loop-byte.byte-index = omega (arith, c.loop-byte-test.false) in
    sym (c.loop-byte.invariant.rest ∙ no_more c.loop-byte.number c.loop-byte.byte-index c.as_bytes-byte-items.result.now c.loop-byte.invariant.small end)
