use Rattle.std.proofs.Common.{◌≡◌, true, false, Option, OnOk, IsErrOf, refl, sym, subst, arith}
use Rattle.std.proofs.lemmas.Result.{on_ok_weaker}
use Rattle.player_core.specs.declared.fault.PlayerFault.TheVariants.{CutsAtLimit}
use Rattle.player_state.specs.declared.state.Part.{Part}
use Rattle.player_state.specs.Outcomes.{Reports}
use Rattle.partition_table.specs.Parts.{FitsIn, is_within_in, report_in}
use Rattle.partition_table.proofs.Changes.{changes_at, found_at, missing_at, stays_at}
use Rattle.partition_table.proofs.parts.Parts.apply.Goals as goal

pub apply_effect-requires : goal.apply_effect-requires
apply_effect-requires c =
    let found = found_at c.args.index c.self.inside.items.items c.args.self.now c.deref.result.now c.position_of-position.result c.self.view_is c.deref.ensures.value c.position_of-position.ensures.position c.index_mut.result.now (omega arith) c.index_mut.ensures.value in
    subst (λ (part : Option Part). FitsIn part c.args.effect) found c.requires

pub returns-then-position-len-clause-parts : goal.returns-then-position-len-clause-parts
returns-then-position-len-clause-parts c =
    on_ok_weaker c.apply_effect.result (λ e. changes_at c.args.index c.self.inside.items.items c.args.self.now c.deref.result.now c.position_of-position.result c.self.view_is c.deref.ensures.value c.position_of-position.ensures.position c.args.rate.now c.args.effect c.apply_effect.new.part c.index_mut.result.now (omega arith) c.index_mut.ensures.value e)
    c.apply_effect.ensures.part

pub returns-then-position-len-clause-report : goal.returns-then-position-len-clause-report
returns-then-position-len-clause-report c =
    let found = found_at c.args.index c.self.inside.items.items c.args.self.now c.deref.result.now c.position_of-position.result c.self.view_is c.deref.ensures.value c.position_of-position.ensures.position c.index_mut.result.now (omega arith) c.index_mut.ensures.value in
    subst (λ (part : Option Part). Reports c.apply_effect.result (report_in c.args.rate.now part c.args.effect c.args.report)) (sym found) c.apply_effect.ensures.report

pub returns-then-position-len-clause-within : goal.returns-then-position-len-clause-within
returns-then-position-len-clause-within c =
    let found = found_at c.args.index c.self.inside.items.items c.args.self.now c.deref.result.now c.position_of-position.result c.self.view_is c.deref.ensures.value c.position_of-position.ensures.position c.index_mut.result.now (omega arith) c.index_mut.ensures.value in
    subst (λ (part : Option Part). OnOk c.apply_effect.result (is_within_in c.args.rate.now part c.args.effect ≡ true)) (sym found) c.apply_effect.ensures.within

pub returns-then-position-len-clause-limit : goal.returns-then-position-len-clause-limit
returns-then-position-len-clause-limit c =
    let found = found_at c.args.index c.self.inside.items.items c.args.self.now c.deref.result.now c.position_of-position.result c.self.view_is c.deref.ensures.value c.position_of-position.ensures.position c.index_mut.result.now (omega arith) c.index_mut.ensures.value in
    subst (λ (part : Option Part). IsErrOf c.apply_effect.result CutsAtLimit → is_within_in c.args.rate.now part c.args.effect ≡ false) (sym found) c.apply_effect.ensures.limit

pub returns-clause-parts : goal.returns-clause-parts
returns-clause-parts c = stays_at c.args.index c.self.inside.items.items c.args.self.now c.deref.result.now c.position_of-position.result c.self.view_is c.deref.ensures.value c.position_of-position.ensures.position c.args.rate.now c.args.effect (omega arith)

pub returns-clause-report : goal.returns-clause-report
returns-clause-report c =
    let missing = missing_at c.args.index c.self.inside.items.items c.args.self.now c.deref.result.now c.position_of-position.result c.self.view_is c.deref.ensures.value c.position_of-position.ensures.position (omega arith) in
    subst (λ (part : Option Part). c.args.report ≡ report_in c.args.rate.now part c.args.effect c.args.report) (sym missing) refl

pub returns-clause-within : goal.returns-clause-within
returns-clause-within c =
    let missing = missing_at c.args.index c.self.inside.items.items c.args.self.now c.deref.result.now c.position_of-position.result c.self.view_is c.deref.ensures.value c.position_of-position.ensures.position (omega arith) in
    subst (λ (part : Option Part). is_within_in c.args.rate.now part c.args.effect ≡ true) (sym missing) refl
