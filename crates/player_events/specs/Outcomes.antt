-- What an event makes others hear.
use Rattle.std.specs.Prelude.{List}
use Rattle.transitions.specs.Answers.{Answer}
use Rattle.connected_clients.specs.declared.notices.Notice.{Notice}
use Rattle.player_state.specs.declared.report.Report.{Report}

-- what an event makes others hear: the answer to the client that it comes from, the notices to other clients,
-- and what is told to a part of the daemon that is no client
pub record OutcomeData : Type 0 where
  pub answer : Answer
  pub notices : List Notice
  pub report : Report
