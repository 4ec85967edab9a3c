-- What contracts see of a script's player.
use Rattle.std.specs.Prelude.{length}
use Rattle.partition.specs.Image.{Image}
use Rattle.daemon_script.specs.Contents.{contents_of}
use Rattle.daemon_script.specs.Kinds.{Shelved}
use Rattle.daemon_script.specs.declared.player.Player.TheInside.{Inside}

-- what commands read of the player, the contents of its shelf, and how many events the window of its history has and
-- may have
abbrev pub shelved_of : Inside → Shelved Image
shelved_of p = record { player = p.partition.present; shelf = contents_of p.shelf; window = length p.partition.window; most = p.partition.limit }
