use Rattle.std.proofs.Common.{rules, ◌∙◌, sym}
use Rattle.mpd_text.specs.Answers.Number.{number_of}
use Rattle.mpd_text.proofs.Digits.{parsed}
use Rattle.mpd_text.proofs.answers.numbers.number.Goals as goal

pub returns-then-is_digits : goal.returns-then-is_digits
returns-then-is_digits c = c.ok.ensures.value ∙ parsed c.args.text.now c.parse.result (sym c.is_digits.ensures ∙ c.if-is_digits.true) c.parse.ensures.value.0

pub returns-else-is_digits : goal.returns-else-is_digits
unfolding number_of
returns-else-is_digits c = search rules
