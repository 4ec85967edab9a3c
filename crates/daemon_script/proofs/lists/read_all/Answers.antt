use Rattle.std.proofs.Common.{◌++◌, ◌∷◌, [], ap, map, take, ◌∙◌}
use Rattle.daemon_script.specs.Script.{request_in}
use Rattle.daemon_script.proofs.ListRuns.{take_more}
use Rattle.daemon_script.proofs.lists.read_all.Goals as goal

pub loop-place-preserved : goal.loop-place-preserved
loop-place-preserved c =
    c.in-Ok.ensures.ok
    ∙ ap (λ rs. rs ++ request_in c.args.set c.index-lines-place.result ∷ []) c.loop-place.invariant
    ∙ ap (λ line. take c.loop-place.place (map (request_in c.args.set) c.args.lines.now) ++ request_in c.args.set line ∷ []) c.index-lines-place.is
    ∙ take_more (request_in c.args.set) c.args.lines.now c.loop-place.place c.index-lines-place.result c.loop-place-test.true
