use Rattle.std.proofs.Common.{◌≡◌, ◌-◌, ◌^◌, Some}
use Rattle.counted_devices.specs.CallCounts.{NoFewer}
use Rattle.library_scan.specs.Faults.{EachFailed}
use Rattle.library_scan.specs.Trees.{Tree}
use Rattle.library_scan.proofs.Listings.{Goes}
use Rattle.library_scan.proofs.walk.list_open.Given as goal

abbrev pub invariant-loop-entry : goal.invariant-loop-entry
invariant-loop-entry g l = record {
  stays : g.D.Disk.known_tree l.disk ≡ g.D.Disk.known_tree l.initial.disk;
  goes : (tree : Tree) → g.D.Disk.known_tree l.initial.disk ≡ Some tree → Goes tree l.everyday l.rate l.uri (g.D.Disk.left l.disk) (g.D.Disk.left l.initial.disk) l.initial.found l.found;
  calm : NoFewer (g.D.Failing.call_counts l.initial.disk) (g.D.Failing.call_counts l.disk);
  unread : EachFailed (g.D.Failing.call_counts l.initial.disk) (g.D.Failing.call_counts l.disk) l.initial.found.refused.items l.found.refused.items;
}

-- how many names may still be looked at
abbrev pub decreases-loop-entry : goal.decreases-loop-entry
decreases-loop-entry g l = 2 ^ 32 - l.found.names
