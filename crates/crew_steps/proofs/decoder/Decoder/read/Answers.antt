use Rattle.std.proofs.Common.{◌≡◌, Err, ap, false, inl, rules, true}
use Rattle.crew_steps.specs.Causes.{EndsFor}
use Rattle.crew_steps.specs.Shown.{causes, songs_of}
use Rattle.crew_steps.specs.Sounds.{AreOpenFor}
use Rattle.crew_steps.specs.declared.songs.NoFrames.{NoFrames}
use Rattle.crew_steps.proofs.Causes.{by_fault, ends_read, handed_on, not_opened, of_file, part_not_opened}
use Rattle.crew_steps.proofs.decoder.Decoder.read.Goals as goal

pub returns-in_err-open_current-clause-cause : goal.returns-in_err-open_current-clause-cause
returns-in_err-open_current-clause-cause g c =
    let ends : NoFrames → Type 0 = EndsFor (causes c.args.self.now.songs) c.args.index c.args.job.now in
    handed_on ends c.from_residual-in_err-open_current.result c.in_err-open_current.field-0.0 c.from_residual-in_err-open_current.ensures.1
    (by_fault ends false c.in_err-open_current.field-0.0 tt
    (λ is. inl (not_opened g.S.SongSource.answers g.M.Media.all_bytes g.M.Failing.call_counts c.args.self.now.songs.rate c.turn_to.new.self.rate c.args.index c.args.job.now.id c.turn_to.ensures.rate (c.in_err-open_current.ensures.cause (ap Err is))))
    c.in_err-open_current.ensures.fault)

pub returns-in_err-open_partner-clause-cause : goal.returns-in_err-open_partner-clause-cause
returns-in_err-open_partner-clause-cause g c =
    let rate : c.open_current.new.self.songs.rate ≡ c.args.self.now.songs.rate = search rules in
    let ends : NoFrames → Type 0 = EndsFor (causes c.args.self.now.songs) c.args.index c.args.job.now in
    handed_on ends c.from_residual-in_err-open_partner.result c.in_err-open_partner.field-0.0 c.from_residual-in_err-open_partner.ensures.1
    (by_fault ends true c.in_err-open_partner.field-0.0 tt
    (λ is. inl (part_not_opened g.S.SongSource.answers g.M.Media.all_bytes g.M.Failing.call_counts c.args.self.now.songs.rate c.open_current.new.self.songs.rate c.args.index c.args.job.now.fade rate (c.in_err-open_partner.ensures.cause (ap Err is))))
    c.in_err-open_partner.ensures.fault)

pub returns-clause-cause : goal.returns-clause-cause
returns-clause-cause g c =
    let rate : c.open_partner.new.self.songs.rate ≡ c.args.self.now.songs.rate = search rules in
    let opens : AreOpenFor (songs_of c.open_partner.new.self.songs) c.args.index c.args.job.now = search rules in
    ends_read g.S.SongSource.answers g.M.Media.all_bytes g.M.Failing.call_counts c.args.self.now.songs.rate c.args.index c.args.job.now (songs_of c.open_partner.new.self.songs) c.frames_of.result rate opens
    (of_file c.open_partner.new.self.songs.current) (of_file c.open_partner.new.self.songs.partner) c.frames_of.ensures.cause
