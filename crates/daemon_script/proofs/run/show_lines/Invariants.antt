use Rattle.std.proofs.Common.{take}
use Rattle.mpd_text.specs.Lines.Split.{views}
use Rattle.daemon_script.specs.Pieces.{ShowsLines}
use Rattle.daemon_script.proofs.run.show_lines.Given as goal

abbrev pub invariant-loop-line : goal.invariant-loop-line
invariant-loop-line l = ShowsLines l.initial.script l.script (views (take l.line-index l.lines)) l.initial.shown.items l.shown.items
