use Rattle.std.proofs.Common.{All, subst, sym}
use Rattle.crew_steps.specs.OpenSongs.{AreMeant}
use Rattle.crew_steps.proofs.Meant.{same_meant}
use Rattle.crew_steps.proofs.songs.Songs.put_aside.Goals as goal

pub invariant_of-self : goal.invariant_of-self
invariant_of-self g c = record {
  current_meant = c.args.self.now.current_meant;
  partner_meant = c.args.self.now.partner_meant;
  others_meant = subst (All (AreMeant c.args.self.now.rate)) (sym c.reserve.ensures.items) c.args.self.now.others_meant;
}

pub invariant_of-self-2 : goal.invariant_of-self-2
invariant_of-self-2 g c =
    let rate = c.args.self.now.rate in
    let exchanged = c.exchange-taken.ensures rate
    (subst (All (AreMeant rate)) (sym c.reserve.ensures.items) c.args.self.now.others_meant)
    (same_meant rate c.args.self.now.current c.take.result c.take.ensures.value c.args.self.now.current_meant, same_meant rate c.args.self.now.partner c.take-2.result c.take-2.ensures.value c.args.self.now.partner_meant) in
    record { current_meant = exchanged.1.0; partner_meant = exchanged.1.1; others_meant = exchanged.0 }
