use Rattle.std.proofs.Common.{◌≡◌, take}
use Rattle.scan_report.specs.Reports.{all_song_lines}
use Rattle.scan_report.proofs.report.song_lines.Given as goal

abbrev pub invariant-loop-song : goal.invariant-loop-song
invariant-loop-song l = l.text ≡ all_song_lines l.rate (take l.song-index l.songs)
