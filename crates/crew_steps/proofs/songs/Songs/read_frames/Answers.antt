use Rattle.std.proofs.Common.{◌≡◌, ◌≤◌, Err, ap, false, length, min, refl, rules, true}
use Rattle.crew_steps.specs.Causes.{EndsReading}
use Rattle.crew_steps.specs.OpenSongs.{opened_in}
use Rattle.crew_steps.specs.Shown.{songs_of}
use Rattle.crew_steps.specs.Sounds.{AreHeard}
use Rattle.crew_steps.specs.declared.songs.NoFrames.{NoFrames}
use Rattle.crew_steps.proofs.Causes.{breaks, by_fault, handed_on, others_fail}
use Rattle.crew_steps.proofs.Heard.{heard}
use Rattle.crew_steps.proofs.songs.Songs.read_frames.Goals as goal

pub returns-in_err-frames-clause-cause : goal.returns-in_err-frames-clause-cause
returns-in_err-frames-clause-cause g c =
    let ends : NoFrames → Type 0 = EndsReading g.M.Media.all_bytes g.M.Failing.call_counts (songs_of c.args.self.now) c.args.job.now in
    handed_on ends c.from_residual.result c.in_err-frames.field-0.0 c.from_residual.ensures.1
    (by_fault ends false c.in_err-frames.field-0.0 tt (λ is. breaks c.args.self.now.current c.frames_in.new.song (c.in_err-frames.ensures.cause (ap Err is))) c.in_err-frames.ensures.fault)

pub returns-in_err-others-clause-cause : goal.returns-in_err-others-clause-cause
returns-in_err-others-clause-cause g c =
    let few : c.len.result ≤ 8192 = search rules in
    let count : c.len.result ≡ length c.in_ok-frames.frames.items = search rules in
    let heard_own : AreHeard c.args.self.now.rate (opened_in c.args.self.now.current) c.args.job.now.from (min c.args.job.now.count 1024) c.in_ok-frames.frames.items = search (rules, heard) in
    let ends : NoFrames → Type 0 = EndsReading g.M.Media.all_bytes g.M.Failing.call_counts (songs_of c.args.self.now) c.args.job.now in
    handed_on ends c.from_residual-in_err-others.result c.in_err-others.field-0.0 c.from_residual-in_err-others.ensures.1
    (by_fault ends true c.in_err-others.field-0.0 tt
    (λ is. others_fail (songs_of c.args.self.now) c.args.self.now.partner c.others_of.new.self.partner c.args.job.now c.in_ok-frames.frames.items c.len.result refl count heard_own (c.in_err-others.ensures.cause few (ap Err is)))
    c.in_err-others.ensures.fault)
