use Rattle.std.specs.Prelude.{is_ok}
use Rattle.library_scan.specs.Scans.{IsFound}
use Rattle.library_scan.proofs.Once.{pushed, is_found}
use Rattle.library_scan.proofs.found.Found.add.Goals as goal

pub invariant_of-self-clause-sound : goal.invariant_of-self-clause-sound
invariant_of-self-clause-sound c =
    pushed IsFound c.args.self.now.songs.items c.push.new.self.items c.in-Some.song (is_ok c.push.result) c.push.ensures.items c.args.self.now.sound
    (is_found c.in-Some.song c.args.uri _ _ c.args.frames c.in-Some.ensures.song c.into_string.ensures c.requires.uri c.requires.frames)
