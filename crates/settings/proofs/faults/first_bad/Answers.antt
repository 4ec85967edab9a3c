use Rattle.std.proofs.Common.{◌≡◌, ◌∷◌, ◌∙◌, arith, false, string_bytes, subst, sym, true}
use Rattle.std.specs.Map.{keys_of}
use Rattle.std.specs.String.{string_cmp}
use Rattle.std.proofs.lemmas.Grind.{common_steps}
use Rattle.std.proofs.lemmas.Map.Keys.{sorted_tail}
use Rattle.toml.specs.View.{table_view, view}
use Rattle.toml.proofs.Views.{Entry}
use Rattle.settings.specs.Keys.{bad, is_good, settings_keys}
use Rattle.settings.specs.Refusals.{IsFirst}
use Rattle.settings.proofs.First.{first_of, good_is_left_out}
use Rattle.settings.proofs.faults.first_bad.Goals as goal

pub returns-then-not-is_good : goal.returns-then-not-is_good
returns-then-not-is_good c =
    let e : Entry = (c.in-Some.name.now, c.in-Some.value.now) in
    let iter : c.members.name-iterator ≡ e ∷ c.next.new.self = grind (arith, common_steps) in
    let not_good : is_good settings_keys (string_bytes e.0) (view e.1) ≡ false =
    subst (λ k. is_good settings_keys k (view e.1) ≡ false) c.as_str.ensures.value (sym c.is_good.ensures ∙ c.if-not-is_good.true) in
    let first = first_of settings_keys e c.next.new.self c.members.name-iterator (bad settings_keys (table_view c.args.table.now)) iter c.members.invariant.1 not_good c.members.invariant.0 in
    subst (IsFirst (bad settings_keys (table_view c.args.table.now))) (sym c.as_str-then-not-is_good.ensures.value) first

pub members-preserved : goal.members-preserved
members-preserved c =
    let e : Entry = (c.in-Some.name.now, c.in-Some.value.now) in
    let iter : c.members.name-iterator ≡ e ∷ c.next.new.self = grind (arith, common_steps) in
    let good : is_good settings_keys (string_bytes e.0) (view e.1) ≡ true =
    subst (λ k. is_good settings_keys k (view e.1) ≡ true) c.as_str.ensures.value (sym c.is_good.ensures ∙ c.if-not-is_good.false) in
    let sorted = rw iter at c.members.invariant.1 in
    (good_is_left_out settings_keys e _ _ _ iter good c.members.invariant.0, sorted_tail string_cmp e.0 (keys_of c.next.new.self) sorted)
