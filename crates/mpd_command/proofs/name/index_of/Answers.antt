use Rattle.std.proofs.Common.{◌+◌, ap, ◌∙◌}
use Rattle.std.specs.Option.{option_map}
use Rattle.mpd_command.proofs.Known.{found-between, found-nowhere}
use Rattle.mpd_command.proofs.name.index_of.Goals as goal

pub returns-in-Some : goal.returns-in-Some
returns-in-Some c =
    ap (option_map (λ index. c.start_of-start.result + index)) c.in-Some.ensures
    ∙ found-between c.names.result.now c.args.word.now c.letter_of-letter.result c.start_of-start.result c.start_of.result c.names.ensures c.letter_of-letter.ensures c.start_of-start.ensures
    c.start_of.ensures c.in_ok-texts.texts.now c.in_ok-texts.ensures.lookup.0.2

pub returns-in-None : goal.returns-in-None
returns-in-None c =
    ap (option_map (λ index. c.start_of-start.result + index)) c.in-None.ensures
    ∙ found-between c.names.result.now c.args.word.now c.letter_of-letter.result c.start_of-start.result c.start_of.result c.names.ensures c.letter_of-letter.ensures c.start_of-start.ensures
    c.start_of.ensures c.in_ok-texts.texts.now c.in_ok-texts.ensures.lookup.0.2

pub returns-in_err-texts : goal.returns-in_err-texts
returns-in_err-texts c =
    let none = found-nowhere c.names.result.now c.args.word.now c.letter_of-letter.result c.start_of-start.result c.start_of.result c.names.ensures c.letter_of-letter.ensures c.start_of-start.ensures
    c.start_of.ensures c.in_err-texts.ensures.lookup.0 in
    cc
