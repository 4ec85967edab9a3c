use Rattle.std.proofs.Common.{lit<, sym, add-one}
use Rattle.std.proofs.lemmas.Str.Pattern.{rfind_char}
use Rattle.shelf.specs.Lines.{lines_of}
use Rattle.shelf.proofs.LineLemmas.{nothing_whole, whole_taken, lines_taken, lines_none}
use Rattle.shelf.proofs.uri_list.end_of_lines.Goals as goal

pub returns-in-Some-clause-text : goal.returns-in-Some-clause-text
returns-in-Some-clause-text c =
    let at = rw c.in-Some.is at (rfind_char 10 c.args.text.now c.rfind.result c.rfind.ensures.cases (lit< tt)) in
    rw add-one (whole_taken c.args.text.now c.in-Some.offset at.0 at.1)

pub returns-in-Some-clause-lines : goal.returns-in-Some-clause-lines
returns-in-Some-clause-lines c =
    let at = rw c.in-Some.is at (rfind_char 10 c.args.text.now c.rfind.result c.rfind.ensures.cases (lit< tt)) in
    rw add-one (lines_taken c.args.text.now c.in-Some.offset at.0 at.1 at.2)

pub returns-in-None-clause-text : goal.returns-in-None-clause-text
returns-in-None-clause-text c = nothing_whole

pub returns-in-None-clause-lines : goal.returns-in-None-clause-lines
unfolding lines_of
returns-in-None-clause-lines c =
    let lacks = rw c.in-None.is at (rfind_char 10 c.args.text.now c.rfind.result c.rfind.ensures.cases (lit< tt)) in
    sym (lines_none c.args.text.now lacks)
