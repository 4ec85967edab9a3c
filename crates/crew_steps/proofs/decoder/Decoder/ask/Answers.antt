use Rattle.std.proofs.Common.{◌≡◌, Some}
use Rattle.player_state.specs.declared.report.Report.TheVariants.{ToDecode}
use Rattle.crew_steps.proofs.DueJob.{owes_nothing}
use Rattle.crew_steps.proofs.decoder.Decoder.ask.Goals as goal

pub returns-in-ToDecode-Some-clause-asks : goal.returns-in-ToDecode-Some-clause-asks
returns-in-ToDecode-Some-clause-asks g c =
    let told : c.in-Ok.told.report ≡ ToDecode (Some c.in-ToDecode-Some.job) = cc in (
      (c.in-Ok.told, c.in-Ok.ensures.told, told),
      owes_nothing c.args.self.now.seat c.args.index c.args.owes c.in-Ok.told c.in-ToDecode-Some.job c.in-Ok.ensures.told told,
    )
