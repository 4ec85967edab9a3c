use Rattle.std.proofs.Common.{◌∙◌, ◌<◌, length, inl, rules, arith}
use Rattle.std.proofs.lemmas.Option.{slice_get_within}
use Rattle.library_scan.proofs.Blame.{each_on, fewer_on}
use Rattle.library_scan.proofs.Listings.{listed, too_large, first_listed}
use Rattle.library_scan.proofs.walk.list_below.Goals as goal

pub returns-in_err-_is_listed-clause-over : goal.returns-in_err-_is_listed-clause-over
returns-in_err-_is_listed-clause-over g c = λ tree known fault root.
    too_large tree c.args.everyday c.args.rate.now c.loop-uri.at c.as_str.result.now c.loop-uri.found (c.loop-uri.invariant.holds tree known root) (search rules)
    (c.in_err-_is_listed.ensures.over tree (c.loop-uri.invariant.stays ∙ known) (search rules))

pub overflow_add-at : goal.overflow_add-at
overflow_add-at g c =
    let within : c.loop-uri.at < length c.loop-uri.found.folders.items = slice_get_within c.loop-uri.found.folders.items c.loop-uri.at c.in-Some.uri (search rules) in
    omega (arith, c.loop-uri.found.folders.small, c.loop-uri.found.folders.ok)

pub loop-uri-preserved : goal.loop-uri-preserved
loop-uri-preserved g c = record {
  stays = c.list.ensures.stays ∙ c.loop-uri.invariant.stays;
  holds = λ tree known root.
      listed tree c.args.everyday c.args.rate.now c.loop-uri.at c.as_str.result.now c.loop-uri.found c.list.new.found (c.loop-uri.invariant.holds tree known root) (search rules)
      (c.in_ok-_is_listed.ensures.adds tree (c.loop-uri.invariant.stays ∙ known));
  calm = fewer_on _ _ _ c.loop-uri.invariant.calm c.list.ensures.calm;
  unread = each_on _ _ _ _ _ _ c.loop-uri.invariant.calm c.list.ensures.calm c.loop-uri.invariant.unread c.in_ok-_is_listed.ensures.unread;
}

pub loop-uri-init : goal.loop-uri-init
loop-uri-init g c = record {
  stays = search rules;
  holds = λ tree known root. first_listed tree c.args.everyday c.args.rate.now c.args.found.now root;
  calm = search (rules, arith);
  unread = inl (omega arith);
}
