use Rattle.std.proofs.Common.{length}
use Rattle.std.proofs.lemmas.Bool.{ne_eqb}
use Rattle.scan_report.specs.Found as found
use Rattle.scan_report.proofs.found.refused_text.Goals as goal

pub returns : goal.returns
unfolding found.refused_text
returns c =
    let most = rw c.count_of-most.ensures at c.reason_text.ensures in
    let all = rw c.commonest-refusal.ensures at most in
    rw (ne_eqb (length c.args.refused.now) 0 c.if-files-eq0.false) all
