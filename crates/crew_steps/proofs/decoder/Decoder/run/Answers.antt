use Rattle.std.proofs.Common.{rules}
use Rattle.output_ring.specs.Rings.{SameFeeder}
use Rattle.crew_steps.specs.Decoding.{RunsFor}
use Rattle.crew_steps.specs.Shown.{causes}
use Rattle.crew_steps.proofs.Decodings.{runs_anyhow}
use Rattle.crew_steps.proofs.Eaches.{each_ends, each_length}
use Rattle.crew_steps.proofs.decoder.Decoder.run.Goals as goal

pub finish_all-ends-requires : goal.finish_all-ends-requires
finish_all-ends-requires g c = let e = each_length SameFeeder _ _ c.keep_decoding-told.ensures.rings in search rules

pub returns-clause-rings : goal.returns-clause-rings
returns-clause-rings g c = each_ends _ _ _ c.keep_decoding-told.ensures.rings c.finish_all-ends.ensures.rings

pub returns-clause-decodes : goal.returns-clause-decodes
returns-clause-decodes g c = record { last = c.keep_decoding-told.result; rings = c.keep_decoding-told.new.feeders.items; decodes = c.keep_decoding-told.ensures.decodes; left = c.finish_all-ends.ensures.ends }

pub returns-clause-known : goal.returns-clause-known
returns-clause-known g c =
    let cause = causes c.args.self.songs in
    let runs : RunsFor cause c.args.self.songs.rate c.args.feeders.items c.finish_all-ends.result.items = record {
      last = c.keep_decoding-told.result;
      rings = c.keep_decoding-told.new.feeders.items;
      decodes = c.keep_decoding-told.ensures.decodes;
      left = c.finish_all-ends.ensures.ends;
    } in
    runs_anyhow cause c.args.self.songs.rate c.args.feeders.items c.finish_all-ends.result.items runs
