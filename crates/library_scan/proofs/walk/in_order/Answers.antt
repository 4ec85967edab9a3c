use Rattle.library_scan.specs.Scans.{IsFound}
use Rattle.library_scan.proofs.Once.{All-among}
use Rattle.library_scan.proofs.walk.in_order.Goals as goal

pub returns-clause-found : goal.returns-clause-found
returns-clause-found c = All-among IsFound c.args.found.songs.items c.sort_songs.new.songs.items c.sort_songs.ensures.among c.args.found.sound
