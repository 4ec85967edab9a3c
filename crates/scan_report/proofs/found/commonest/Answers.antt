use Rattle.std.proofs.Common.{◌∙◌, ap}
use Rattle.library_scan.specs.declared.content.Refusal.{Refusal}
use Rattle.library_scan.specs.declared.content.Refusal.TheVariants.{Unsupported, NoData, ReadFault}
use Rattle.scan_report.specs.Found as found
use Rattle.scan_report.proofs.found.commonest.Goals as goal

pub returns : goal.returns
unfolding found.commonest
returns c =
    let files = c.args.refused.now in
    let second = c.commoner-second.ensures ∙ ap (λ (r : Refusal). found.commoner files r Unsupported) c.commoner-first.ensures in
    let third = c.commoner-third.ensures ∙ ap (λ (r : Refusal). found.commoner files r NoData) second in
    c.commoner.ensures ∙ ap (λ (r : Refusal). found.commoner files r ReadFault) third
