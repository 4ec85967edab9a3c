use Rattle.std.proofs.Common.{◌≡◌, None, refl, rules, ◌∙◌}
use Rattle.output_ring.specs.Rings.{SameFeeder}
use Rattle.crew_steps.specs.Causes.{HasCause}
use Rattle.crew_steps.specs.Decoding.{end_told}
use Rattle.crew_steps.specs.Shown.{causes}
use Rattle.crew_steps.proofs.Decodings.{begun, ends, next}
use Rattle.crew_steps.proofs.Eaches.{each_refl, same_refl, each_same}
use Rattle.crew_steps.proofs.decoder.Decoder.keep_decoding.Goals as goal

pub loop-init : goal.loop-init
loop-init g c = record { rings = each_refl SameFeeder _ same_refl; rate = refl; did = begun (causes c.args.self.now.songs) c.args.self.now.songs.rate c.args.feeders.now.items }

pub loop-preserved : goal.loop-preserved
loop-preserved g c = let goes : end_told c.decode_once.result ≡ None = search rules in record {
  rings = each_same c.args.feeders.now.items c.loop.feeders.items c.decode_once.new.feeders.items c.loop.invariant.rings c.decode_once.ensures.rings;
  rate = c.decode_once.ensures.rate ∙ c.loop.invariant.rate;
  did = next (HasCause g.S.SongSource.answers g.M.Media.all_bytes g.M.Failing.call_counts) c.args.self.now.songs.rate c.loop.self.songs.rate c.decode_once.result c.args.feeders.now.items c.loop.feeders.items c.decode_once.new.feeders.items c.loop.invariant.rate goes c.loop.invariant.did c.decode_once.ensures.decodes;
}

pub loop-preserved-in_default : goal.loop-preserved-in_default
loop-preserved-in_default g c = let goes : end_told c.decode_once.result ≡ None = search rules in record {
  rings = each_same c.args.feeders.now.items c.loop.feeders.items c.decode_once.new.feeders.items c.loop.invariant.rings c.decode_once.ensures.rings;
  rate = c.decode_once.ensures.rate ∙ c.loop.invariant.rate;
  did = next (HasCause g.S.SongSource.answers g.M.Media.all_bytes g.M.Failing.call_counts) c.args.self.now.songs.rate c.loop.self.songs.rate c.decode_once.result c.args.feeders.now.items c.loop.feeders.items c.decode_once.new.feeders.items c.loop.invariant.rate goes c.loop.invariant.did c.decode_once.ensures.decodes;
}

pub loop-preserved-in_default-2 : goal.loop-preserved-in_default-2
loop-preserved-in_default-2 g c = let goes : end_told c.decode_once.result ≡ None = search rules in record {
  rings = each_same c.args.feeders.now.items c.loop.feeders.items c.decode_once.new.feeders.items c.loop.invariant.rings c.decode_once.ensures.rings;
  rate = c.decode_once.ensures.rate ∙ c.loop.invariant.rate;
  did = next (HasCause g.S.SongSource.answers g.M.Media.all_bytes g.M.Failing.call_counts) c.args.self.now.songs.rate c.loop.self.songs.rate c.decode_once.result c.args.feeders.now.items c.loop.feeders.items c.decode_once.new.feeders.items c.loop.invariant.rate goes c.loop.invariant.did c.decode_once.ensures.decodes;
}

pub loop-preserved-in_default-3 : goal.loop-preserved-in_default-3
loop-preserved-in_default-3 g c = let goes : end_told c.decode_once.result ≡ None = search rules in record {
  rings = each_same c.args.feeders.now.items c.loop.feeders.items c.decode_once.new.feeders.items c.loop.invariant.rings c.decode_once.ensures.rings;
  rate = c.decode_once.ensures.rate ∙ c.loop.invariant.rate;
  did = next (HasCause g.S.SongSource.answers g.M.Media.all_bytes g.M.Failing.call_counts) c.args.self.now.songs.rate c.loop.self.songs.rate c.decode_once.result c.args.feeders.now.items c.loop.feeders.items c.decode_once.new.feeders.items c.loop.invariant.rate goes c.loop.invariant.did c.decode_once.ensures.decodes;
}

pub returns-in-Ends-clause-rings : goal.returns-in-Ends-clause-rings
returns-in-Ends-clause-rings g c = each_same c.args.feeders.now.items c.loop.feeders.items c.decode_once.new.feeders.items c.loop.invariant.rings c.decode_once.ensures.rings

pub returns-in-Ends-clause-decodes : goal.returns-in-Ends-clause-decodes
returns-in-Ends-clause-decodes g c = ends (causes c.args.self.now.songs) (causes c.loop.self.songs) c.args.self.now.songs.rate c.loop.self.songs.rate c.args.feeders.now.items c.loop.feeders.items c.decode_once.new.feeders.items c.in-Ends.told c.loop.invariant.did c.in-Ends.ensures.decodes
