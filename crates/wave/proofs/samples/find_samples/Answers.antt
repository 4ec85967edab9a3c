use Rattle.std.proofs.Common.{rules}
use Rattle.wave.proofs.Known.{known_map, known_map2}
use Rattle.wave.proofs.Sounds.{unformed, ends}
use Rattle.wave.proofs.samples.find_samples.Goals as goal

pub loop-part-init : goal.loop-part-init
loop-part-init g c = record {
  goes = known_map (g.M.Media.all_bytes c.args.media.now) (λ bytes h. unformed c.args.rate _) c.requires;
  stays = search rules;
  keeps = λ h. h;
  calm = search rules;
}

pub returns-clause-value : goal.returns-clause-value
returns-clause-value g c =
    let here = rw c.loop-part.invariant.stays at c.in_ok-part.ensures.value in
    known_map2 (g.M.Media.all_bytes c.args.media.now) (λ bytes goes starts.
    rw c.missing.ensures (ends bytes c.args.rate c.loop-part.at c.args.end c.loop-part.layout c.in_ok-part.field-0 _ goes starts c.in_default.is)) c.loop-part.invariant.goes here
