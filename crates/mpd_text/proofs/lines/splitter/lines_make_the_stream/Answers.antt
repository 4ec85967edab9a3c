use Rattle.std.proofs.Common.{ap, ◌∙◌}
use Rattle.mpd_text.specs.Lines.Cut.{split}
use Rattle.mpd_text.proofs.CutLaws.{open_split, long_split}
use Rattle.mpd_text.proofs.lines.splitter.lines_make_the_stream.Goals as goal

pub returns : goal.returns
returns c = record {
  ends = λ stream lines start h. ap split h.0 ∙ open_split lines start h.1 h.2;
  too_long = λ stream lines h. ap split h.2 ∙ long_split lines h.0 h.1 h.3 h.4 h.5;
}
