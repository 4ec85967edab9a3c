use Rattle.std.proofs.Common.{◌≡◌, ◌∙◌, Bool, true, false, not, ◌&&◌, ◌||◌, ap, sym, subst, refl}
use Rattle.partition_table.specs.declared.crossing.Crossing.TheVariants.{Stays}
use Rattle.player_state.specs.declared.effect.Effect.TheVariants.{ByCommand}
use Rattle.player_state.specs.declared.effect.CommandEffect.TheVariants.{Rests}
use Rattle.player_state.specs.declared.scan.ScanMove.TheVariants.{Stay}
use Rattle.transitions.specs.Transitions.{TransitionData}
use Rattle.partition.specs.Applying.{GoesNowhere}
use Rattle.partition.proofs.Still.{still_by}
use Rattle.partition.proofs.prepare.changes.Goals as goal

neither : (a b : Bool) → (a || b) ≡ false → (a ≡ false) × (b ≡ false)
neither true b e = cc
neither false b e = (refl, e)

holds : (a : Bool) → not a ≡ false → a ≡ true
holds true e = refl
holds false e = cc

both : (a b : Bool) → (a && b) ≡ true → (a ≡ true) × (b ≡ true)
both true b e = (refl, e)
both false b e = cc

pub returns : goal.returns
returns c = λ e.
    let parts = neither _ _ e in
    let all = both _ _ (holds _ parts.0) in
    let inner = both _ _ all.0 in
    let scan : c.args.transition.now.scan ≡ Stay = ap (λ (t : TransitionData). t.scan) (sym c.transition.view_is) ∙ c.stays.ensures inner.0 in
    let effect : c.args.transition.now.effect ≡ (ByCommand Rests) = ap (λ (t : TransitionData). t.effect) (sym c.transition.view_is) ∙ c.rests.ensures inner.1 in
    let crossing : c.args.transition.now.crossing ≡ Stays = ap (λ (t : TransitionData). t.crossing) (sym c.transition.view_is) ∙ c.stays-2.ensures all.1 in
    let move_is : c.client_move.result ≡ c.args.transition.now.response.move = c.client_move.ensures ∙ ap (λ (t : TransitionData). t.response.move) c.transition.view_is in
    still_by c.args.transition.now scan effect crossing (subst GoesNowhere move_is (c.enters.ensures parts.1)) c.requires
