use Rattle.daemon_script.proofs.Applied.{if_err, if_ok}
use Rattle.daemon_script.proofs.ListRuns.{runs_whole, stops_whole}
use Rattle.daemon_script.proofs.player.Player.run_list.Goals as goal

pub returns-clause-ok : goal.returns-clause-ok
returns-clause-ok c = rw (← c.self.view_is) (if_ok _ _ _ (λ tolds r. runs_whole _ _ _ _ _ _ _ tolds r) c.run_list.ensures.ok)

pub returns-clause-err : goal.returns-clause-err
returns-clause-err c = rw (← c.self.view_is) (if_err _ _ _ (λ stop r. stops_whole _ _ _ _ _ _ _ stop r) c.run_list.ensures.err)
