use Rattle.daemon_script.proofs.Ranges.{client_below_ten}
use Rattle.daemon_script.proofs.script.Script.show.Goals as goal

pub run_client_line-requires : goal.run_client_line-requires
run_client_line-requires c = client_below_ten _ c.in-Client.number c.in-Client.line.now c.in-Client.ensures
