use Rattle.std.proofs.Common.{arith, rules}
use Rattle.library_scan.proofs.Windows.{stands_on}
use Rattle.library_scan.proofs.window.Windowed.ahead.Goals as goal

pub returns-in-Some-clause-stand : goal.returns-in-Some-clause-stand
returns-in-Some-clause-stand g c =
    stands_on _ c.args.self.now.start c.in-Some.gone c.args.self.now.filled c.args.self.now.offset c.args.self.now.bytes c.args.self.now.stands (search rules) (omega arith) (search rules)
