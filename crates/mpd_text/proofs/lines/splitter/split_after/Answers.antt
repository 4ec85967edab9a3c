use Rattle.std.proofs.Common.{◌≡◌, ◌-◌, ◌+◌, List, ℕ, take, drop, length, arith, refl, Some, None}
use Rattle.mpd_text.specs.Lines.Cut.{HasNoNewline}
use Rattle.mpd_text.proofs.CutLemmas.{line_ends, line_is_long, line_goes_on, starts}
use Rattle.mpd_text.proofs.LineLemmas.{first_given}
use Rattle.std.proofs.lemmas.List.{take_all, length-drop}
use Rattle.mpd_text.proofs.lines.splitter.split_after.Goals as goal

without : (i : ℕ) (bytes : List ℕ) → HasNoNewline (take (i - 0) bytes) → HasNoNewline (take i bytes)
without i bytes none = let e : i - 0 ≡ i = omega arith in rw e at none

pub returns-then-end-len-clause-splits : goal.returns-then-end-len-clause-splits
returns-then-end-len-clause-splits c =
    let long = line_is_long c.args.partial.now.items c.args.piece.now c.newline_from-end.result c.requires.0 (without c.newline_from-end.result c.args.piece.now c.newline_from-end.ensures.none) (omega arith) c.newline_from-end.ensures.bound.1 in
    rw (long, c.new.ensures.items) (refl, refl)

pub returns-then-end-piece-clause-splits : goal.returns-then-end-piece-clause-splits
returns-then-end-piece-clause-splits c =
    let on = line_goes_on c.args.partial.now.items c.args.piece.now c.newline_from-end.result c.requires.0 (without c.newline_from-end.result c.args.piece.now c.newline_from-end.ensures.none) (omega arith) (omega arith) in
    rw (on, c.new-then-end-piece.ensures.items, c.in_ok-extend_from_slice.ensures.items) (refl, refl)

pub returns-then-end-piece-clause-start : goal.returns-then-end-piece-clause-start
returns-then-end-piece-clause-start c =
    let is = starts c.args.partial.now.items c.args.piece.now c.newline_from-end.result c.requires.0 (without c.newline_from-end.result c.args.piece.now c.newline_from-end.ensures.none) (omega arith) (omega arith) in
    rw c.in_ok-extend_from_slice.ensures.items is

pub returns-in-Some-clause-splits : goal.returns-in-Some-clause-splits
returns-in-Some-clause-splits c =
    let ends = line_ends c.args.partial.now.items c.args.piece.now c.newline_from-end.result c.requires.0 (without c.newline_from-end.result c.args.piece.now c.newline_from-end.ensures.none) (omega arith) (omega arith) (c.newline_from-end.ensures.newline (omega arith)) in
    first_given c.args.partial.now.items c.args.piece.now _ c.newline_from-end.result c.in_ok-first.first c.in_ok-lines.field-0.lines.items (Some c.in-Some.next.items) ends (rw c.as_slice.ensures.value at c.in_ok-first.ensures)
    (take_all (length c.args.piece.now - (c.newline_from-end.result + 1)) (drop (c.newline_from-end.result + 1) c.args.piece.now) (let left = length-drop (c.newline_from-end.result + 1) c.args.piece.now in omega arith)) c.in_ok-lines.ensures.lines (rw c.in-Some.is at c.in_ok-lines.ensures.next)

pub returns-in-None-clause-splits : goal.returns-in-None-clause-splits
returns-in-None-clause-splits c =
    let ends = line_ends c.args.partial.now.items c.args.piece.now c.newline_from-end.result c.requires.0 (without c.newline_from-end.result c.args.piece.now c.newline_from-end.ensures.none) (omega arith) (omega arith) (c.newline_from-end.ensures.newline (omega arith)) in
    first_given c.args.partial.now.items c.args.piece.now _ c.newline_from-end.result c.in_ok-first.first c.in_ok-lines.field-0.lines.items None ends (rw c.as_slice.ensures.value at c.in_ok-first.ensures)
    (take_all (length c.args.piece.now - (c.newline_from-end.result + 1)) (drop (c.newline_from-end.result + 1) c.args.piece.now) (let left = length-drop (c.newline_from-end.result + 1) c.args.piece.now in omega arith)) c.in_ok-lines.ensures.lines (rw c.in-None.is at c.in_ok-lines.ensures.next)
