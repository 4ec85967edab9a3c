use Rattle.std.proofs.Common.{rules, subst, sym}
use Rattle.std.proofs.lemmas.List.Elements.{All-set}
use Rattle.crew_steps.specs.OpenSongs.{AreMeant}
use Rattle.crew_steps.proofs.part_songs.close_gone.Goals as goal

pub loop-i-init : goal.loop-i-init
loop-i-init g c = λ rate all. all

pub loop-i-preserved : goal.loop-i-preserved
loop-i-preserved g c = λ rate all.
    let was = c.loop-i.invariant rate all in
    All-set (AreMeant rate) c.loop-i.others.items c.loop-i.i c.close_one_gone.new.songs
    (c.close_one_gone.ensures.meant rate (subst (AreMeant rate) (sym c.index_mut.ensures.value) (was c.loop-i.i c.index_mut.result.now (search rules)))) was
