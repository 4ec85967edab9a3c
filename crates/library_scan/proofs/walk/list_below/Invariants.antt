use Rattle.std.proofs.Common.{◌≡◌, ◌-◌, ◌^◌, take, Some}
use Rattle.counted_devices.specs.CallCounts.{NoFewer}
use Rattle.library_scan.specs.Faults.{EachFailed}
use Rattle.library_scan.specs.Trees.{Tree, RootListed, Holds}
use Rattle.library_scan.proofs.walk.list_below.Given as goal

abbrev pub invariant-loop-uri : goal.invariant-loop-uri
invariant-loop-uri g l = record {
  stays : g.D.Disk.known_tree l.disk ≡ g.D.Disk.known_tree l.initial.disk;
  holds : (tree : Tree) → g.D.Disk.known_tree l.initial.disk ≡ Some tree → RootListed tree l.everyday l.rate l.initial.found → Holds tree l.everyday l.rate (take l.at l.found.folders.items) l.found;
  calm : NoFewer (g.D.Failing.call_counts l.initial.disk) (g.D.Failing.call_counts l.disk);
  unread : EachFailed (g.D.Failing.call_counts l.initial.disk) (g.D.Failing.call_counts l.disk) l.initial.found.refused.items l.found.refused.items;
}

-- how many indices there are still
abbrev pub decreases-loop-uri : goal.decreases-loop-uri
decreases-loop-uri g l = 2 ^ 64 - l.at
