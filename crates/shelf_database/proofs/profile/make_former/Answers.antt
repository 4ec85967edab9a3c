use Rattle.std.proofs.lemmas.Result.{err_from_is_err_and, IfErr-weaker}
use Rattle.sqlite.specs.Held.{state}
use Rattle.shelf_database.specs.Opens.{IsStoppedFor, NoReason, HasNothing, HasProfile, HasLists}
use Rattle.shelf_database.proofs.MakingBlame.{later, later_then, stopped_after}
use Rattle.shelf_database.proofs.profile.make_former.Goals as goal

pub returns-in_err-make_profile-clause-blamed : goal.returns-in_err-make_profile-clause-blamed
returns-in_err-make_profile-clause-blamed g c =
    let how = err_from_is_err_and c.from_residual.result c.from_residual.ensures.1 in
    rw (how.1, how.2) c.in_err-make_profile.ensures.blamed

pub returns-in_err-make_lists-clause-blamed : goal.returns-in_err-make_lists-clause-blamed
returns-in_err-make_lists-clause-blamed g c =
    let how = err_from_is_err_and c.from_residual-in_err-make_lists.result c.from_residual-in_err-make_lists.ensures.1 in
    let old = state g.S.Store c.args.transaction.now.conn.now in
    let profile = state g.S.Store c.make_profile.new.transaction.conn.now in
    let new = state g.S.Store c.make_lists.new.transaction.conn.now in
    rw (how.1, how.2) (stopped_after HasNothing HasProfile (λ was. HasProfile) NoReason NoReason old profile new _ (λ was db first made. made) (λ was db first made why. why) c.in_ok-make_profile.ensures.leads (later profile new _ c.in_err-make_lists.ensures.leads.survives) c.in_err-make_lists.ensures.blamed)

pub returns-clause-blamed : goal.returns-clause-blamed
returns-clause-blamed g c =
    let old = state g.S.Store c.args.transaction.now.conn.now in
    let profile = state g.S.Store c.make_profile.new.transaction.conn.now in
    let lists = state g.S.Store c.make_lists.new.transaction.conn.now in
    let new = state g.S.Store c.make_stickers.new.transaction.conn.now in
    let last = later lists new _ c.make_stickers.ensures.leads.survives in
    let second = later_then profile lists new (later profile lists _ c.in_ok-make_lists.ensures.leads.survives) last in
    IfErr-weaker c.make_stickers.result (IsStoppedFor HasLists NoReason lists new) (IsStoppedFor HasNothing NoReason old new) (λ e stops.
    stopped_after HasNothing HasProfile (λ was. HasProfile) NoReason NoReason old profile new e (λ was db first made. made) (λ was db first made why. why) c.in_ok-make_profile.ensures.leads second
    (stopped_after HasProfile HasLists (λ was. HasLists) NoReason NoReason profile lists new e (λ was db first made. made) (λ was db first made why. why) c.in_ok-make_lists.ensures.leads last stops)) c.make_stickers.ensures.blamed
