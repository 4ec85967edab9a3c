use Rattle.std.proofs.Common.{◌∙◌, codes, ap, sym}
use Rattle.std.specs.Prelude.{option_map}
use Rattle.std.specs.Str.Parse.{ParsesUnsigned, ExplainsUnsignedError, HasUnsignedDigitsIfOk}
use Rattle.clap.specs.Words.{found_of, without_minus}
use Rattle.clap.proofs.WalkLemmas.{first_value-rows, one_text-rows}
use Rattle.command_line.proofs.Numbers.{is_read, rate_in, rate_said, some≢none, text_given}
use Rattle.command_line.proofs.line.scan_in.Goals as goal

pub unreachable-requires : goal.unreachable-requires
unreachable-requires c =
    let one = c.get_one.ensures.value (without_minus c.requires.text) (one_text-rows (found_of c.args.matches.now) (codes "rate") ∙ c.requires.rate) in
    let read = is_read _ (λ bs r. ParsesUnsigned 32 10 bs r × ExplainsUnsignedError 10 bs r × HasUnsignedDigitsIfOk bs r) (λ u x g. g.0) c.requires.text c.get_one.result one c.requires.range in
    some≢none c.get_one.result read.number read.is c.in_default.is

pub unreachable-requires-in_default-new : goal.unreachable-requires-in_default-new
unreachable-requires-in_default-new c =
    let one = c.get_one.ensures.value (without_minus c.requires.text) (one_text-rows (found_of c.args.matches.now) (codes "rate") ∙ c.requires.rate) in
    let read = is_read _ (λ bs r. ParsesUnsigned 32 10 bs r × ExplainsUnsignedError 10 bs r × HasUnsignedDigitsIfOk bs r) (λ u x g. g.0) c.requires.text c.get_one.result one c.requires.range in
    some≢none c.new.result c.in-Some.frames (rate_in c.requires.text c.get_one.result c.new.result c.in-Some.frames read c.in-Some.is c.new.ensures) c.in_default-new.is

pub unreachable-requires-in_default-get_str : goal.unreachable-requires-in_default-get_str
unreachable-requires-in_default-get_str c =
    text_given c.get_str.result c.requires.folder (c.get_str.ensures ∙ first_value-rows (found_of c.args.matches.now) (codes "folder") ∙ c.requires.is) c.in_default-get_str.is

pub returns : goal.returns
returns c name is =
    let one = c.get_one.ensures.value (without_minus c.requires.text) (one_text-rows (found_of c.args.matches.now) (codes "rate") ∙ c.requires.rate) in
    let read = is_read _ (λ bs r. ParsesUnsigned 32 10 bs r × ExplainsUnsignedError 10 bs r × HasUnsignedDigitsIfOk bs r) (λ u x g. g.0) c.requires.text c.get_one.result one c.requires.range in
    let flag = one_text-rows (found_of c.args.matches.now) (codes "everyday") in (
      (
        is,
        rate_said c.requires.text c.get_one.result c.new.result c.in-Some.frames c.in-Some-new.rate _ read c.in-Some.is c.new.ensures c.in-Some-new.is c.requires.rate,
        sym (first_value-rows (found_of c.args.matches.now) (codes "folder")) ∙ sym c.get_str.ensures ∙ ap (option_map (λ s. s.now)) c.in-Some-get_str.is,
      ),
      record {
        none = λ e. c.get_flag.ensures.none (flag ∙ e);
        set = λ e. c.get_flag.ensures.value (flag ∙ e);
        left_out = λ e. c.get_flag.ensures.other (flag ∙ e);
      },
    )
