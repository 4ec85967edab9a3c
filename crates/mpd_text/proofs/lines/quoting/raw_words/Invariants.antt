use Rattle.std.proofs.Common.{◌≡◌, drop}
use Rattle.mpd_text.specs.Lines.Scan.{words_of}
use Rattle.mpd_text.specs.Lines.Words.{outcome}
use Rattle.mpd_text.proofs.lines.quoting.raw_words.Given as goal

abbrev pub invariant-loop-b : goal.invariant-loop-b
invariant-loop-b l = outcome l.reading (drop l.b-index l.line) ≡ words_of l.line
