-- What a script prints of what a player tells the decoder, an output or the scans (this profile's script).
use Rattle.std.specs.Prelude.{ℕ, ◌==◌, Bool, true, false, List, [], ◌++◌, Option, Some, None, codes, decimal, if◌then◌else◌}
use Rattle.status_commands.specs.Status.{digit}
use Rattle.player_state.specs.declared.report.Feed.{Feed}
use Rattle.player_state.specs.declared.report.Heard.{Heard}
use Rattle.player_state.specs.declared.report.Report.{Report}
use Rattle.player_state.specs.declared.report.Report.TheVariants.{Nothing, ToScan, ScanEnded, ToDecode, ToFeed, ToPlay, Ended}
use Rattle.player_core.specs.declared.state.FadePart.{FadePart}
use Rattle.player_core.specs.declared.state.Job.{Job}

-- the id of the song that is mixed in, which frame of the fade comes first, and how many it has
unfoldable pub part_text : FadePart → List ℕ
part_text part = codes " fade " ++ decimal part.partner ++ codes " " ++ decimal part.index ++ codes " " ++ decimal part.len

abbrev pub fade_text : Option FadePart → List ℕ
fade_text None = []
fade_text (Some part) = part_text part

-- the number of a job, the id of its song, its first frame, and how many frames it has
unfoldable pub frames_text : Job → List ℕ
frames_text job = decimal job.number ++ codes " " ++ decimal job.id ++ codes " " ++ decimal job.from ++ codes " " ++ decimal job.count

unfoldable pub job_text : Job → List ℕ
job_text job = codes "! job " ++ frames_text job ++ fade_text job.fade ++ codes "\n"

-- the cut and the volume that frames are fed with
unfoldable pub feed_text : Feed → List ℕ
feed_text feed = codes "! feed " ++ decimal feed.cut ++ codes " " ++ decimal feed.volume ++ codes "\n"

-- how often an output was moved, where it was
abbrev pub moves_text : ℕ → List ℕ
moves_text moves = if moves == 0 then [] else codes " moved " ++ decimal moves

-- the cut whose frames are to be heard, whether the output is enabled, whether it keeps its frames, and how
-- often it was moved
unfoldable pub live_text : Heard → List ℕ
live_text heard =
    codes "! live " ++ decimal heard.live.cut ++ codes " " ++ decimal (digit heard.live.enabled) ++ codes " "
    ++ decimal (digit heard.live.paused) ++ moves_text heard.moves ++ codes "\n"

-- how many events the window of the history has, and how many there were in all
unfoldable pub window_text : ℕ → ℕ → List ℕ
window_text window own = codes "! window " ++ decimal window ++ codes " " ++ decimal own ++ codes "\n"

abbrev pub done_text : Bool → List ℕ
done_text done = if done then codes "! ok\n" else codes "! none\n"

abbrev pub due_job_text : Option Job → List ℕ
due_job_text None = done_text false
due_job_text (Some job) = job_text job

-- frames that are not fed are stale
abbrev pub had_text : Option Feed → List ℕ
had_text None = codes "! stale\n"
had_text (Some feed) = feed_text feed

-- an event that tells nothing is done; no step asks for a scan, and none ends the daemon
abbrev pub report_text : Report → List ℕ
report_text Nothing = done_text true
report_text (ToScan number) = []
report_text (ScanEnded ended) = done_text ended
report_text (ToDecode job) = due_job_text job
report_text (ToFeed feed) = had_text feed
report_text (ToPlay heard) = live_text heard
report_text Ended = codes "! ended\n"
