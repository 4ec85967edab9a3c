use Rattle.crew_steps.proofs.songs.Songs.close_gone.Goals as goal

pub invariant_of-self : goal.invariant_of-self
invariant_of-self g c = record {
  current_meant = c.args.self.now.current_meant;
  partner_meant = c.args.self.now.partner_meant;
  others_meant = c.close_gone.ensures c.args.self.now.rate c.args.self.now.others_meant;
}
