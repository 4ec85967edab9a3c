use Rattle.std.proofs.Common.{ap}
use Rattle.serving.specs.Restoring.{Speaker}
use Rattle.serving.proofs.restoring.restore_text.Goals as goal

pub returns : goal.returns
returns g c =
    let told = c.in_ok-refused.ensures in
    (told.0, c.tell_lines.new.hearer, told.1, ap (λ (client : Speaker g.row.S.Denot). client.seat) c.restorer.view_is, told.2)
