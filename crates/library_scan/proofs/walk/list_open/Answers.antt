use Rattle.std.proofs.Common.{◌∙◌, Some, inl, rules, ap, sym, subst, arith}
use Rattle.library_scan.specs.Causes.{Blames}
use Rattle.library_scan.specs.Faults.{misses, unread_in}
use Rattle.library_scan.specs.declared.disk.Entry.TheVariants.{Name}
use Rattle.library_scan.proofs.Blame.{each_on, failed_after, fewer_on, none_more}
use Rattle.library_scan.proofs.Listings.{Goes, begun, told, told_nothing, named, passed, broken, ended}
use Rattle.library_scan.proofs.walk.list_open.Goals as goal

pub loop-entry-init : goal.loop-entry-init
loop-entry-init g c = record {
  stays = search rules;
  goes = λ tree known. begun tree c.args.everyday c.args.rate.now c.args.uri.now _ _;
  calm = search (rules, arith);
  unread = inl (omega arith);
}

pub returns-in_default-clause-adds : goal.returns-in_default-clause-adds
returns-in_default-clause-adds g c = λ tree known.
    ended tree c.args.everyday c.args.rate.now c.args.uri.now (g.D.Disk.left c.loop-entry.disk) (g.D.Disk.left c.args.disk.now) c.args.found.now c.loop-entry.found (c.loop-entry.invariant.goes tree known)
    (told_nothing _ (g.D.Disk.left c.next_entry.new.self) c.in_ok-entry.field-0 (c.in_ok-entry.ensures.tells tree (c.loop-entry.invariant.stays ∙ known)) c.in_default.is)

pub returns-in_default-clause-unread : goal.returns-in_default-clause-unread
returns-in_default-clause-unread g c =
    each_on _ _ _ _ _ _ c.loop-entry.invariant.calm c.next_entry.ensures.calm c.loop-entry.invariant.unread
    (none_more _ _ (unread_in c.loop-entry.found.refused.items) _ c.next_entry.ensures.calm (search rules))

pub loop-entry-preserved-in-Name : goal.loop-entry-preserved-in-Name
loop-entry-preserved-in-Name g c = record {
  stays = c.look_at.ensures.stays ∙ c.next_entry.ensures.stays ∙ c.loop-entry.invariant.stays;
  goes = λ tree known.
      subst (λ left. Goes tree c.args.everyday c.args.rate.now c.args.uri.now left (g.D.Disk.left c.args.disk.now) c.args.found.now c.look_at.new.found) (sym c.look_at.ensures.left)
      (named tree c.args.everyday c.args.rate.now c.args.uri.now (g.D.Disk.left c.loop-entry.disk) (g.D.Disk.left c.args.disk.now) (g.D.Disk.left c.next_entry.new.self) c.args.found.now c.loop-entry.found c.count_name.new.self c.look_at.new.found
      (c.loop-entry.invariant.goes tree known)
      (record { songs = c.count_name.ensures.songs; refused = c.count_name.ensures.refused; folders = c.count_name.ensures.folders; names = c.in_ok-count_name.ensures.counts })
      c.as_str.result.now
      (told _ _ _ c.in_ok-entry.field-0 (c.in_ok-entry.ensures.tells tree (c.loop-entry.invariant.stays ∙ known)) (c.in-Some.is ∙ ap Some (c.in-Name.is ∙ ap Name (search rules))))
      (c.in_ok-look_at-in-Name.ensures.keeps tree (c.next_entry.ensures.stays ∙ c.loop-entry.invariant.stays ∙ known)));
  calm = fewer_on _ _ _ c.loop-entry.invariant.calm (fewer_on _ _ _ c.next_entry.ensures.calm c.look_at.ensures.calm);
  unread =
      each_on _ _ _ _ _ _ (fewer_on _ _ _ c.loop-entry.invariant.calm c.next_entry.ensures.calm) c.look_at.ensures.calm
      (each_on _ _ _ _ _ _ c.loop-entry.invariant.calm c.next_entry.ensures.calm c.loop-entry.invariant.unread
      (none_more _ _ (unread_in c.loop-entry.found.refused.items) (unread_in c.count_name.new.self.refused.items) c.next_entry.ensures.calm (ap (λ v. unread_in v.items) c.count_name.ensures.refused)))
      c.in_ok-look_at-in-Name.ensures.unread;
}

pub loop-entry-preserved : goal.loop-entry-preserved
loop-entry-preserved g c = record {
  stays = c.next_entry.ensures.stays ∙ c.loop-entry.invariant.stays;
  goes = λ tree known.
      passed tree c.args.everyday c.args.rate.now c.args.uri.now (g.D.Disk.left c.loop-entry.disk) (g.D.Disk.left c.args.disk.now) (g.D.Disk.left c.next_entry.new.self) c.args.found.now c.loop-entry.found c.count_name.new.self c.count_name.new.self
      (c.loop-entry.invariant.goes tree known)
      (record { songs = c.count_name.ensures.songs; refused = c.count_name.ensures.refused; folders = c.count_name.ensures.folders; names = c.in_ok-count_name.ensures.counts })
      (told _ _ _ c.in_ok-entry.field-0 (c.in_ok-entry.ensures.tells tree (c.loop-entry.invariant.stays ∙ known)) (c.in-Some.is ∙ ap Some c.in-NotText.is));
  calm = fewer_on _ _ _ c.loop-entry.invariant.calm c.next_entry.ensures.calm;
  unread =
      each_on _ _ _ _ _ _ c.loop-entry.invariant.calm c.next_entry.ensures.calm c.loop-entry.invariant.unread
      (none_more _ _ (unread_in c.loop-entry.found.refused.items) (unread_in c.count_name.new.self.refused.items) c.next_entry.ensures.calm (ap (λ v. unread_in v.items) c.count_name.ensures.refused));
}

pub returns-in-Broken-clause-adds : goal.returns-in-Broken-clause-adds
returns-in-Broken-clause-adds g c = λ tree known.
    broken tree c.args.everyday c.args.rate.now c.args.uri.now (g.D.Disk.left c.loop-entry.disk) (g.D.Disk.left c.args.disk.now) (g.D.Disk.left c.next_entry.new.self) c.args.found.now c.loop-entry.found c.count_name.new.self c.count_name.new.self
    (c.loop-entry.invariant.goes tree known)
    (record { songs = c.count_name.ensures.songs; refused = c.count_name.ensures.refused; folders = c.count_name.ensures.folders; names = c.in_ok-count_name.ensures.counts })
    (told _ _ _ c.in_ok-entry.field-0 (c.in_ok-entry.ensures.tells tree (c.loop-entry.invariant.stays ∙ known)) (c.in-Some.is ∙ ap Some c.in-Broken.is))

pub returns-in-Broken-clause-short : goal.returns-in-Broken-clause-short
returns-in-Broken-clause-short g c = λ short.
    failed_after (g.D.Failing.call_counts c.args.disk.now) (g.D.Failing.call_counts c.loop-entry.disk) (g.D.Failing.call_counts c.next_entry.new.self) c.loop-entry.invariant.calm
    (subst (λ told. Blames (misses told) (g.D.Failing.call_counts c.loop-entry.disk) (g.D.Failing.call_counts c.next_entry.new.self)) (c.in-Some.is ∙ ap Some c.in-Broken.is) c.in_ok-entry.ensures.cause)

pub returns-in-Broken-clause-unread : goal.returns-in-Broken-clause-unread
returns-in-Broken-clause-unread g c =
    each_on _ _ _ _ _ _ c.loop-entry.invariant.calm c.next_entry.ensures.calm c.loop-entry.invariant.unread
    (none_more _ _ (unread_in c.loop-entry.found.refused.items) (unread_in c.count_name.new.self.refused.items) c.next_entry.ensures.calm (ap (λ v. unread_in v.items) c.count_name.ensures.refused))
