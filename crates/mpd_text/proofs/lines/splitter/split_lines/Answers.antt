use Rattle.std.proofs.Common.{◌+◌, drop, arith}
use Rattle.mpd_text.specs.Lines.Cut.{split}
use Rattle.mpd_text.proofs.CutLemmas.{stream_line, stream_long, stream_rest}
use Rattle.mpd_text.proofs.LineLemmas.{all_given, all_next, one_given}
use Rattle.mpd_text.proofs.lines.splitter.split_lines.Goals as goal

pub returns-then-end-start-gt-MAX_LINE-clause-lines : goal.returns-then-end-start-gt-MAX_LINE-clause-lines
returns-then-end-start-gt-MAX_LINE-clause-lines c =
    all_given _ _ _ _ (stream_long c.args.stream.now c.loop-end.start c.loop-end.end c.loop-end.invariant.after_start c.loop-end.invariant.bound c.loop-end.invariant.none (omega arith)) c.loop-end.invariant.lines

pub returns-then-end-start-gt-MAX_LINE-clause-next : goal.returns-then-end-start-gt-MAX_LINE-clause-next
returns-then-end-start-gt-MAX_LINE-clause-next c =
    all_next _ _ _ _ (stream_long c.args.stream.now c.loop-end.start c.loop-end.end c.loop-end.invariant.after_start c.loop-end.invariant.bound c.loop-end.invariant.none (omega arith)) c.loop-end.invariant.next

pub returns-then-end-start-gt-MAX_LINE-2-clause-lines : goal.returns-then-end-start-gt-MAX_LINE-2-clause-lines
returns-then-end-start-gt-MAX_LINE-2-clause-lines c =
    all_given _ _ _ _ (stream_long c.args.stream.now c.loop-end.start c.loop-end.end c.loop-end.invariant.after_start c.loop-end.invariant.bound c.loop-end.invariant.none (omega arith)) c.loop-end.invariant.lines

pub returns-then-end-start-gt-MAX_LINE-2-clause-next : goal.returns-then-end-start-gt-MAX_LINE-2-clause-next
returns-then-end-start-gt-MAX_LINE-2-clause-next c =
    all_next _ _ _ _ (stream_long c.args.stream.now c.loop-end.start c.loop-end.end c.loop-end.invariant.after_start c.loop-end.invariant.bound c.loop-end.invariant.none (omega arith)) c.loop-end.invariant.next

pub returns-clause-lines : goal.returns-clause-lines
returns-clause-lines c = all_given _ _ _ _ (stream_rest c.args.stream.now c.loop-end.start c.loop-end.end c.in_ok-from_slice.field-0.items c.loop-end.invariant.after_start (omega arith) c.loop-end.invariant.none (omega arith) c.in_ok-from_slice.ensures.items).0 c.loop-end.invariant.lines

pub returns-clause-next : goal.returns-clause-next
returns-clause-next c = all_next _ _ _ _ (stream_rest c.args.stream.now c.loop-end.start c.loop-end.end c.in_ok-from_slice.field-0.items c.loop-end.invariant.after_start (omega arith) c.loop-end.invariant.none (omega arith) c.in_ok-from_slice.ensures.items).0 c.loop-end.invariant.next

pub returns-clause-start : goal.returns-clause-start
returns-clause-start c = (stream_rest c.args.stream.now c.loop-end.start c.loop-end.end c.in_ok-from_slice.field-0.items c.loop-end.invariant.after_start (omega arith) c.loop-end.invariant.none (omega arith) c.in_ok-from_slice.ensures.items).1

pub loop-end-preserved : goal.loop-end-preserved
loop-end-preserved c =
    let at = c.loop-end.invariant.newline c.loop-end-test.true in
    let line = stream_line c.args.stream.now c.loop-end.start c.loop-end.end c.loop-end.invariant.after_start c.loop-end-test.true c.loop-end.invariant.none (omega arith) at in
    record {
      lines = one_given c.loop-end.lines.items c.push-in-loop-end.new.self.items c.in_ok-line_from.field-0 _ _ (split (drop (c.loop-end.end + 1) c.args.stream.now)) _ c.in_ok-push-2.ensures.items c.in_ok-line_from.ensures line c.loop-end.invariant.lines;
      next = all_next _ _ _ _ line c.loop-end.invariant.next;
      after_start = c.newline_from-end-in-loop-end.ensures.bound.0;
      bound = c.newline_from-end-in-loop-end.ensures.bound.1;
      none = c.newline_from-end-in-loop-end.ensures.none;
      newline = c.newline_from-end-in-loop-end.ensures.newline;
    }
