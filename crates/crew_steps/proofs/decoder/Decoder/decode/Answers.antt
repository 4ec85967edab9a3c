use Rattle.crew_steps.specs.Shown.{causes, songs_of}
use Rattle.crew_steps.proofs.Decodings.{does_later, each_finished}
use Rattle.crew_steps.proofs.decoder.Decoder.decode.Goals as goal

pub returns-clause-rings : goal.returns-clause-rings
returns-clause-rings g c =
    each_finished c.read-read.new.self.seat c.read-read.new.self.share.amount c.finish_job.new.self.share.amount c.args.index c.args.job.now c.read-read.result c.finish_job.result c.args.feeders.now.items c.finish_job.new.feeders.items c.finish_job.ensures.finishes

pub returns-clause-decodes : goal.returns-clause-decodes
returns-clause-decodes g c =
    does_later (causes c.args.self.now.songs) c.finish_job.new.self.songs c.read-read.new.self.songs (λ songs. songs_of songs) c.read-read.new.self.seat c.args.self.now.seat c.read-read.new.self.share c.args.self.now.share (λ share. share.amount) c.finish_job.new.self.share.amount
    c.args.index c.args.job.now c.read-read.result c.finish_job.result c.args.feeders.now.items c.finish_job.new.feeders.items c.finish_job.ensures.songs c.read-read.ensures.kept.0 c.read-read.ensures.kept.1
    c.read-read.ensures.open c.read-read.ensures.read c.read-read.ensures.failed c.read-read.ensures.cause c.finish_job.ensures.finishes
