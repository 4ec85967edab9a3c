use Rattle.std.proofs.Common.{◌∙◌, codes, ap, sym}
use Rattle.std.specs.Prelude.{option_map}
use Rattle.clap.specs.Words.{found_of}
use Rattle.clap.proofs.WalkLemmas.{first_value-rows, one_text-rows}
use Rattle.command_line.proofs.Numbers.{text_given}
use Rattle.command_line.proofs.line.serve_in.Goals as goal

pub unreachable-requires : goal.unreachable-requires
unreachable-requires c =
    text_given c.get_str.result c.requires.file (c.get_str.ensures ∙ first_value-rows (found_of c.args.matches.now) (codes "config") ∙ c.requires.is) c.in_default.is

pub returns : goal.returns
returns c name is =
    let read = one_text-rows (found_of c.args.matches.now) (codes "check") in (
      (is, sym (first_value-rows (found_of c.args.matches.now) (codes "config")) ∙ sym c.get_str.ensures ∙ ap (option_map (λ s. s.now)) c.in-Some.is),
      record {
        none = λ e. c.get_flag.ensures.none (read ∙ e);
        set = λ e. c.get_flag.ensures.value (read ∙ e);
        left_out = λ e. c.get_flag.ensures.other (read ∙ e);
      },
    )
