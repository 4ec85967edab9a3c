use Rattle.std.proofs.Common.{◌++◌, ◌∷◌, [], ap, take, ◌∙◌}
use Rattle.command_lists.specs.declared.list.ListLine.{ListLine}
use Rattle.mpd_session.specs.Answers.{line_of_list, read_line, read_lines}
use Rattle.mpd_session.proofs.Asks.{take_more}
use Rattle.mpd_session.proofs.asking.read_all.Goals as goal

pub loop-place-preserved : goal.loop-place-preserved
loop-place-preserved c =
    c.in-Ok.ensures.ok
    ∙ ap (λ rs. rs ++ read_line c.args.set (line_of_list c.index-lines-place.result) ∷ []) c.loop-place.invariant
    ∙ ap (λ line. take c.loop-place.place (read_lines c.args.set c.args.lines.now) ++ read_line c.args.set (line_of_list line) ∷ []) c.index-lines-place.is
    ∙ take_more (λ (line : ListLine). read_line c.args.set (line_of_list line)) c.args.lines.now c.loop-place.place c.index-lines-place.result c.loop-place-test.true
