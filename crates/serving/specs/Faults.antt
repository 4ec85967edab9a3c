-- What the daemon says of a fault of the settings, of the sockets and of a scan (this profile's).
use Rattle.std.specs.Prelude.{String}
use Rattle.std.specs.Global.{Global}
use Rattle.settings.specs.declared.values.SettingsFault.{SettingsFault}
use Rattle.settings.specs.declared.values.SettingsFault.TheVariants as settings
use Rattle.mpd_server.specs.declared.sockets.ServeFault.{ServeFault}
use Rattle.mpd_server.specs.declared.sockets.ServeFault.TheVariants as sockets
use Rattle.library_scan.specs.declared.fault.ScanFault.{ScanFault}
use Rattle.library_scan.specs.declared.fault.ScanFault.TheVariants as scan
use Rattle.serving.specs.declared.fault.DaemonFault.{DaemonFault}
use Rattle.serving.specs.declared.fault.DaemonFault.TheVariants as daemon

-- it names the key that the settings' fault names
abbrev pub of_settings : SettingsFault → DaemonFault
of_settings (settings.BadSetting key) = daemon.BadSetting key
of_settings settings.NoMemory = daemon.NoMemory

abbrev pub of_sockets : ServeFault → DaemonFault
of_sockets sockets.ListenFault = daemon.CannotServe
of_sockets sockets.NoMemory = daemon.NoMemory

-- a folder that cannot be scanned is named
abbrev pub of_scan : ScanFault → String Global → DaemonFault
of_scan scan.NoFolder folder = daemon.NoFolder folder
of_scan scan.TooMany folder = daemon.TooManySongs
of_scan scan.NoMemory folder = daemon.NoMemory
