use Rattle.std.proofs.Common.{◌<◌, ℕ, List, length, take, inr, sym, subst, ◌∙◌, arith, rules}
use Rattle.std.specs.Io.KnownBytes.{Appends}
use Rattle.daemon_script.specs.Output.{AppendsFront}
use Rattle.daemon_script.proofs.Ran.{start_ran, all_here, front_of_all, keeps_same, none_of_piece, front_shown, whole_input, all_closed, one_iteration, some_left, none_left, on_err, few, few_in_all, too_often}
use Rattle.daemon_script.proofs.run.run_pieces.Goals as goal

pub loop-init : goal.loop-init
loop-init g c = start_ran _ _ _ _ _ _ c.requires.splitter c.requires.script

pub returns-in-Err-clause-read : goal.returns-in-Err-clause-read
returns-in-Err-clause-read g c = λ _. all_here _ _ _ _ _ _ _ _ _ _ _ _ c.loop.invariant c.in-Err.ensures.bytes

pub returns-in-Err-clause-front : goal.returns-in-Err-clause-front
returns-in-Err-clause-front g c = front_of_all _ _ _ _ (all_here _ _ _ _ _ _ _ _ _ _ _ _ c.loop.invariant c.in-Err.ensures.bytes)

pub returns-clause-read : goal.returns-clause-read
returns-clause-read g c = λ _. all_here _ _ _ _ _ _ _ _ _ _ _ _ c.loop.invariant (keeps_same _)

pub returns-clause-front : goal.returns-clause-front
returns-clause-front g c = front_of_all _ _ _ _ (all_here _ _ _ _ _ _ _ _ _ _ _ _ c.loop.invariant (keeps_same _))

pub returns-clause-read_fault : goal.returns-clause-read_fault
returns-clause-read_fault g c = λ _. inr (too_often _ _ _ _ _ _ _ _ _ _ _ c.loop.invariant (omega arith))

pub returns-clause-few_calls : goal.returns-clause-few_calls
returns-clause-few_calls g c = few_in_all _ _ _ _ _ _ _ _ _ _ _ c.loop.invariant (omega arith)

pub returns-in-Err-clause-few_calls : goal.returns-in-Err-clause-few_calls
returns-in-Err-clause-few_calls g c = few _ _ _ _ _ _ _ _ _ _ _ _ c.loop.invariant c.read_some.ensures.calls (omega arith)

pub returns-then-count-eq0-clause-few_calls : goal.returns-then-count-eq0-clause-few_calls
returns-then-count-eq0-clause-few_calls g c = few _ _ _ _ _ _ _ _ _ _ _ _ c.loop.invariant c.read_some.ensures.calls (omega arith)

pub returns-in_err-show_piece-clause-few_calls : goal.returns-in_err-show_piece-clause-few_calls
returns-in_err-show_piece-clause-few_calls g c = few _ _ _ _ _ _ _ _ _ _ _ _ c.loop.invariant c.read_some.ensures.calls (omega arith)

pub returns-in_err-write_whole-clause-few_calls : goal.returns-in_err-write_whole-clause-few_calls
returns-in_err-write_whole-clause-few_calls g c = few _ _ _ _ _ _ _ _ _ _ _ _ c.loop.invariant c.read_some.ensures.calls (omega arith)

pub returns-then-is_closed-clause-few_calls : goal.returns-then-is_closed-clause-few_calls
returns-then-is_closed-clause-few_calls g c = few _ _ _ _ _ _ _ _ _ _ _ _ c.loop.invariant c.read_some.ensures.calls (omega arith)

pub returns-then-count-eq0-clause-ok : goal.returns-then-count-eq0-clause-ok
returns-then-count-eq0-clause-ok g c =
    let room : 0 < length c.read_some.new.buf = omega arith in
    whole_input _ _ (g.R.Read.remaining c.read_some.new.self) _ _ _ _ _ _ _ _ _ c.loop.invariant (rw c.if-count-eq0.true at c.in-Ok.ensures.bytes.0) (c.in-Ok.ensures.bytes.1 c.if-count-eq0.true room)

pub returns-in_err-show_piece-clause-front : goal.returns-in_err-show_piece-clause-front
returns-in_err-show_piece-clause-front g c =
    on_err _ _ (none_of_piece c.any_cut.ensures _ _ (g.R.Read.remaining c.read_some.new.self) _ _ _ _ (take c.in-Ok.count c.read_some.new.buf) _ _ _ _ _ c.loop.invariant c.in-Ok.ensures.bytes.0)

pub returns-in_err-write_whole-clause-front : goal.returns-in_err-write_whole-clause-front
returns-in_err-write_whole-clause-front g c =
    on_err _ _
    (front_shown c.any_cut.ensures _ _ (g.R.Read.remaining c.read_some.new.self) _ _ (g.W.Write.contents c.write_whole.new.writer) _ _ _ (take c.in-Ok.count c.read_some.new.buf) _ _ _ _ _ _ _
    c.loop.invariant c.in-Ok.ensures.bytes.0 c.clear.ensures.items c.in_ok-show_piece.ensures.shows
    (subst (λ (l : List ℕ). AppendsFront (g.W.Write.contents c.loop.writer) (g.W.Write.contents c.write_whole.new.writer) l) c.as_slice.ensures.value c.in_err-write_whole.ensures.front))

pub returns-then-is_closed-clause-ok : goal.returns-then-is_closed-clause-ok
returns-then-is_closed-clause-ok g c =
    all_closed c.any_cut.ensures _ _ (g.R.Read.remaining c.read_some.new.self) _ _ (g.W.Write.contents c.write_whole.new.writer) _ _ _ (take c.in-Ok.count c.read_some.new.buf) _ _ _ _ _ _ _
    c.loop.invariant c.in-Ok.ensures.bytes.0 c.clear.ensures.items c.in_ok-show_piece.ensures.shows
    (subst (λ (l : List ℕ). Appends (g.W.Write.contents c.loop.writer) (g.W.Write.contents c.write_whole.new.writer) l) c.as_slice.ensures.value c.in_ok-write_whole.ensures.ok)
    (sym c.in_ok-show_piece.ensures.next ∙ none_left c.show_piece.new.splitter (search rules))

pub loop-preserved : goal.loop-preserved
loop-preserved g c =
    one_iteration c.any_cut.ensures _ _ (g.R.Read.remaining c.read_some.new.self) _ _ (g.W.Write.contents c.write_whole.new.writer) _ c.show_piece.new.splitter _ _ (take c.in-Ok.count c.read_some.new.buf) _ _ _ _ _ _ _ _ _
    c.loop.invariant c.in-Ok.ensures.bytes.0 c.clear.ensures.items c.in_ok-show_piece.ensures.shows
    (subst (λ (l : List ℕ). Appends (g.W.Write.contents c.loop.writer) (g.W.Write.contents c.write_whole.new.writer) l) c.as_slice.ensures.value c.in_ok-write_whole.ensures.ok)
    c.in_ok-show_piece.ensures.next (some_left c.show_piece.new.splitter (search rules)) c.read_some.ensures.calm c.read_some.ensures.calls c.write_whole.ensures.calm
