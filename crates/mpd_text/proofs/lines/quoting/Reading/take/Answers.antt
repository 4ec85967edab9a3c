use Rattle.std.proofs.Common.{sym, rules}
use Rattle.mpd_text.proofs.Scans.{word_ends, bare_ends, closed_ends}
use Rattle.mpd_text.proofs.lines.quoting.Reading.take.Goals as goal

pub returns-in_ok-end_word-in-Bare-clause-ok : goal.returns-in_ok-end_word-in-Bare-clause-ok
returns-in_ok-end_word-in-Bare-clause-ok c = λ rest.
    word_ends c.args.self.now c.end_word.new.self c.args.b rest (bare_ends _ _ _ c.args.b rest c.in-Bare.is (sym c.if-is_blank-2.ensures)) c.in_ok-end_word-in-Bare.ensures.words c.in_ok-end_word-in-Bare.ensures.word c.in_ok-end_word-in-Bare.ensures.state

pub returns-in_ok-end_word-in-Closed-clause-ok : goal.returns-in_ok-end_word-in-Closed-clause-ok
returns-in_ok-end_word-in-Closed-clause-ok c = λ rest.
    word_ends c.args.self.now c.end_word-in-Closed.new.self c.args.b rest (closed_ends _ _ _ c.args.b rest c.in-Closed.is (search rules)) c.in_ok-end_word-in-Closed.ensures.words c.in_ok-end_word-in-Closed.ensures.word c.in_ok-end_word-in-Closed.ensures.state
