use Rattle.std.proofs.Common.{◌≡◌, true, false}
use Rattle.kept_state.specs.Telling.{begins, ends, is_empty}
use Rattle.kept_state.proofs.OneLine.{alone_at, begin_told, empty_told, end_told, passed_at, within_at}
use Rattle.kept_state.proofs.telling.tell_line.Goals as goal

pub returns-then-eq : goal.returns-then-eq
returns-then-eq g c =
    let is : begins c.args.line.now ≡ true = cc in
    begin_told g.H.Hearer.hears c.args.line.now c.args.course c.args.hearer.now is

pub returns-then-eq-2 : goal.returns-then-eq-2
returns-then-eq-2 g c =
    let other : begins c.args.line.now ≡ false = cc in
    let is : ends c.args.line.now ≡ true = cc in
    end_told g.H.Hearer.hears c.args.line.now c.args.course c.args.hearer.now other is

pub returns-then-is_empty : goal.returns-then-is_empty
returns-then-is_empty g c =
    let other : begins c.args.line.now ≡ false = cc in
    let more : ends c.args.line.now ≡ false = cc in
    let is : is_empty c.args.line.now ≡ true = cc in
    empty_told g.H.Hearer.hears c.args.line.now c.args.course c.args.hearer.now other more is

pub returns-in-PassedOver : goal.returns-in-PassedOver
returns-in-PassedOver g c =
    let other : begins c.args.line.now ≡ false = cc in
    let more : ends c.args.line.now ≡ false = cc in
    passed_at g.H.Hearer.hears c.args.line.now c.args.course c.args.hearer.now other more c.in-PassedOver.is

pub returns-in-Alone : goal.returns-in-Alone
returns-in-Alone g c =
    let other : begins c.args.line.now ≡ false = cc in
    let more : ends c.args.line.now ≡ false = cc in
    let full : is_empty c.args.line.now ≡ false = cc in
    alone_at g.H.Hearer.hears c.args.line.now c.args.course c.args.hearer.now c.tell_alone.new.hearer c.tell_alone.result other more full c.in-Alone.is c.tell_alone.ensures

pub returns-in-Within : goal.returns-in-Within
returns-in-Within g c =
    let other : begins c.args.line.now ≡ false = cc in
    let more : ends c.args.line.now ≡ false = cc in
    let full : is_empty c.args.line.now ≡ false = cc in
    within_at g.H.Hearer.hears c.args.line.now c.args.course c.args.hearer.now c.tell_within.new.hearer c.tell_within.result other more full c.in-Within.is c.tell_within.ensures
