use Rattle.std.proofs.Common.{◌≡◌, ◌<◌, ◌≤◌, ◌-◌, ◌++◌, ◌∷◌, map, length, take, drop, get_or}
use Rattle.mpd_text.specs.Lines.Split.{view, views, line_of}
use Rattle.mpd_text.specs.Lines.Cut.{split, HasNoNewline}
use Rattle.mpd_text.proofs.lines.splitter.split_lines.Given as goal

abbrev pub invariant-loop-end : goal.invariant-loop-end
invariant-loop-end l = record {
  lines : views l.lines.items ++ map line_of (split (drop l.start l.stream)).lines ≡ view l.fn.first ∷ map line_of (split l.stream).lines;
  next : (split (drop l.start l.stream)).next ≡ (split l.stream).next;
  after_start : l.start ≤ l.end;
  bound : l.end ≤ length l.stream;
  none : HasNoNewline (take (l.end - l.start) (drop l.start l.stream));
  newline : l.end < length l.stream → get_or l.stream l.end 0 ≡ 10;
}

abbrev pub decreases-loop-end : goal.decreases-loop-end
decreases-loop-end l = length l.stream - l.start
