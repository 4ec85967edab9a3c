use Rattle.std.proofs.Common.{All, rules, subst, sym, ◌∙◌}
use Rattle.std.proofs.lemmas.List.Elements.{All-push, All-set}
use Rattle.crew_steps.specs.OpenSongs.{AreMeant}
use Rattle.crew_steps.proofs.Meant.{none_meant}
use Rattle.crew_steps.proofs.part_songs.exchange.Goals as goal

pub returns-in-Some : goal.returns-in-Some
returns-in-Some g c = λ rate all meant. (
  All-set (AreMeant rate) c.args.others.now.items c.in-Some.at c.replace.new.dest (subst (AreMeant rate) (sym c.replace.ensures.after) meant) all,
  subst (AreMeant rate) (sym (c.replace.ensures.value ∙ c.index_mut.ensures.value)) (all c.in-Some.at c.index_mut.result.now (search rules)),
)

pub returns-in-None : goal.returns-in-None
returns-in-None g c = λ rate all meant. (
  subst (All (AreMeant rate)) (sym c.push_reserved.ensures.items) (All-push (AreMeant rate) c.args.others.now.items c.args.left all meant),
  none_meant rate c.none.result c.none.ensures,
)
