use Rattle.std.proofs.Common.{sym}
use Rattle.mpd_text.proofs.LineLemmas.{line_of_text, line_of_other}
use Rattle.mpd_text.proofs.lines.splitter.line_from.Goals as goal

pub returns-in_ok-from_str-in-Ok : goal.returns-in_ok-from_str-in-Ok
returns-in_ok-from_str-in-Ok c =
    rw (c.in_ok-from_str-in-Ok.ensures.ok, c.in-Ok.ensures.cases.0) (sym (line_of_text c.args.bytes.now c.without_return.result.now c.without_return.ensures c.in-Ok.ensures.cases.1))

pub returns-in-Err : goal.returns-in-Err
returns-in-Err c = sym (line_of_other c.args.bytes.now c.without_return.result.now c.without_return.ensures c.in-Err.ensures.cases.0)
