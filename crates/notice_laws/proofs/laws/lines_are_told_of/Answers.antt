use Rattle.notice_laws.proofs.Lines as lines
use Rattle.notice_laws.proofs.laws.lines_are_told_of.Goals as goal

pub returns-clause-lines : goal.returns-clause-lines
returns-clause-lines c = lines.has_lines

pub returns-clause-told : goal.returns-clause-told
returns-clause-told c = lines.lines_are_told
