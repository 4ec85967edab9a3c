use Rattle.std.proofs.Common.{codes}
use Rattle.mpd_text.specs.Answers.Answer.{pair_line}
use Rattle.status_commands.specs.Connection.{wave_lines}
use Rattle.status_commands.proofs.Lines.{after_first}
use Rattle.status_commands.proofs.connection.push_decoder.Goals as goal

pub returns : goal.returns
unfolding wave_lines
returns c =
    after_first c.pair-2.result c.args.answer.now (pair_line (codes "plugin") (codes "wave")) (pair_line (codes "suffix") (codes "wav"))
    c.pair.new.self c.pair-2.new.self c.in_ok-pair.ensures.ok c.pair-2.ensures.ok
