use Rattle.std.proofs.Common.{arith}
use Rattle.daemon_script.proofs.Runs.{no_lines, line_at, all_lines}
use Rattle.daemon_script.proofs.run.show_lines.Goals as goal

pub loop-line-init : goal.loop-line-init
loop-line-init c = no_lines _ _

pub loop-line-preserved : goal.loop-line-preserved
loop-line-preserved c =
    line_at _ _ _ c.args.lines.now c.loop-line.line-index c.line-item.result c.in_ok-show.field-0 _ _ _ (omega arith) c.line-item.is
    c.loop-line.invariant c.in_ok-show.ensures.script c.in_ok-show.ensures.text

pub returns : goal.returns
returns c = all_lines _ _ c.args.lines.now c.loop-line.line-index _ _ c.loop-line-test.false c.loop-line.invariant
