use Rattle.std.proofs.Common.{◌≡◌, take}
use Rattle.scan_report.specs.Reports.{all_refused_lines}
use Rattle.scan_report.proofs.report.refused_lines.Given as goal

abbrev pub invariant-loop-file : goal.invariant-loop-file
invariant-loop-file l = l.text ≡ all_refused_lines (take l.file-index l.refused)
