-- Reports that are known before an event's effect.
use Rattle.std.specs.Prelude.{false, None}
use Rattle.player_state.specs.declared.report.Report.{Report}
use Rattle.player_state.specs.declared.report.Report.TheVariants as report
use Rattle.transitions.specs.declared.early_report.EarlyReport.{EarlyReport}
use Rattle.transitions.specs.declared.early_report.EarlyReport.TheVariants as early

-- the report that one stands for
abbrev pub report_of : EarlyReport → Report
report_of early.Nothing = report.Nothing
report_of (early.ToScan scan) = report.ToScan scan
report_of (early.ScanEnded ended) = report.ScanEnded ended
report_of early.NoJob = report.ToDecode None
report_of early.NoFeed = report.ToFeed None
report_of early.NoOutput =
    report.ToPlay (record { moves = 0; live = record { cut = 0; enabled = false; paused = false } })
report_of early.Ended = report.Ended
