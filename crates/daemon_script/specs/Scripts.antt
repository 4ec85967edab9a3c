-- What contracts see of a script.
use Rattle.partition.specs.Image.{Image}
use Rattle.daemon_script.specs.Kinds.{Shelved}
use Rattle.daemon_script.specs.Script.{ScriptData}
use Rattle.daemon_script.specs.declared.script.Script.TheInside.{Inside}

-- its limits, its commands, the songs that it collected, the list that each client has open, and its player
abbrev pub script_of : Inside → ScriptData (Shelved Image)
script_of s = record { limits = s.limits; commands = s.commands; songs = s.songs.items; lists = s.lists; player = s.player }
