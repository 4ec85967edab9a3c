use Rattle.state_laws.proofs.Bytes.{bytes_are_read, lines_end}
use Rattle.state_laws.proofs.Opened.{opened_comes_back, opens_empty}
use Rattle.state_laws.proofs.Within.{opened_stays_within}
use Rattle.state_laws.proofs.laws.texts_come_back.Goals as goal

pub returns-clause-opening : goal.returns-clause-opening
returns-clause-opening c = opens_empty

pub returns-clause-ends : goal.returns-clause-ends
returns-clause-ends c = lines_end

pub returns-clause-bytes : goal.returns-clause-bytes
returns-clause-bytes c = bytes_are_read

pub returns-clause-opened : goal.returns-clause-opened
returns-clause-opened c = opened_comes_back

pub returns-clause-within : goal.returns-clause-within
returns-clause-within c = opened_stays_within
