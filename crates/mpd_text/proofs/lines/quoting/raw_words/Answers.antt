use Rattle.std.proofs.Common.{arith, ◌<◌, length}
use Rattle.std.proofs.lemmas.Result.{err_from_is_err_and}
use Rattle.mpd_text.specs.Lines.Scan.{words_of}
use Rattle.mpd_text.specs.Lines.Words.{outcome}
use Rattle.mpd_text.proofs.Scans.{after_nil, refuses_at}
use Rattle.mpd_text.proofs.lines.quoting.raw_words.Goals as goal

pub loop-b-init : goal.loop-b-init
unfolding outcome
loop-b-init c = rw (c.new.ensures.items, c.new-2.ensures.items) (after_nil (words_of c.args.line.now))

pub returns-in_err-take : goal.returns-in_err-take
returns-in_err-take c =
    let p = err_from_is_err_and c.from_residual.result c.from_residual.ensures.1 in
    let inside : c.loop-b.b-index < length c.args.line.now = omega arith in
    let refuses = refuses_at c.loop-b.reading c.args.line.now c.loop-b.b-index c.in_err-take.field-0.0 (words_of c.args.line.now) inside c.in_err-take.ensures.err c.loop-b.invariant in
    rw (p.1, p.2) refuses
