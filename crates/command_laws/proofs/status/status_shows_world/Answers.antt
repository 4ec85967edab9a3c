use Rattle.command_laws.proofs.Shown.{status_shows_world}
use Rattle.command_laws.proofs.status.status_shows_world.Goals as goal

pub returns : goal.returns
returns c = status_shows_world
