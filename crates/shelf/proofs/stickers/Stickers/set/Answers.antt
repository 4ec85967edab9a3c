use Rattle.std.proofs.Common.{◌≡◌, Some, None, rules, false, is_ok, refl}
use Rattle.std.specs.BTreeMap.{get_by_text}
use Rattle.shelf.proofs.StickerLemmas.{set_under, kept_entries, set_first}
use Rattle.shelf.proofs.stickers.Stickers.set.Goals as goal

pub returns-in-Some-clause-changes : goal.returns-in-Some-clause-changes
returns-in-Some-clause-changes c =
    let old = c.args.self.now.targets in
    let known : get_by_text old c.args.target.now ≡ Some c.in-Some.names.now = search rules in
    set_under c.args.target.now old (c.get_mut.follows.lender c.insert.new.self) c.in_ok-name.name c.in_ok-value.value c.args.name.now c.args.value.now c.in-Some.names.now c.insert.new.self known
    ((c.get_mut.follows.holds c.insert.new.self).3 (search rules)) c.in_ok-insert.ensures.updates c.in_ok-name.ensures.ok c.in_ok-value.ensures.ok

pub returns-in_err-insert-clause-changes : goal.returns-in_err-insert-clause-changes
returns-in_err-insert-clause-changes c =
    let old = c.args.self.now.targets in
    let known : get_by_text old c.args.target.now ≡ Some c.in-Some.names.now = search rules in
    let refused : is_ok c.from_residual-in_err-insert.result ≡ false = search rules in
    rw refused (kept_entries c.args.target.now old (c.get_mut.follows.lender c.insert.new.self) c.in-Some.names.now c.insert.new.self known
    ((c.get_mut.follows.holds c.insert.new.self).3 (search rules)) c.in_err-insert.ensures.err)

pub returns-clause-changes : goal.returns-clause-changes
returns-clause-changes c =
    let old = c.args.self.now.targets in
    let known : get_by_text old c.args.target.now ≡ None = search rules in
    let put = rw c.get_mut.follows.holds-at-none at c.in_ok-insert-3.ensures.updates in
    set_first c.args.target.now old c.insert-3.new.self c.in_ok-target.target c.in_ok-name.name c.in_ok-value.value c.args.name.now c.args.value.now c.new-names.result c.insert-2.new.self known
    c.new-names.ensures.empty put c.in_ok-target.ensures.ok c.in_ok-insert-2.ensures.updates c.in_ok-name.ensures.ok c.in_ok-value.ensures.ok

pub returns-in_err-insert-2-clause-changes : goal.returns-in_err-insert-2-clause-changes
returns-in_err-insert-2-clause-changes c =
    let refused : is_ok c.from_residual-in_err-insert-2.result ≡ false = search rules in
    λ other name. rw (refused, c.get_mut.follows.holds-at-none) refl

pub returns-in_err-target-clause-changes : goal.returns-in_err-target-clause-changes
returns-in_err-target-clause-changes c =
    let refused : is_ok c.from_residual-in_err-target.result ≡ false = search rules in
    λ other name. rw (refused, c.get_mut.follows.holds-at-none) refl

pub returns-in_err-insert-3-clause-changes : goal.returns-in_err-insert-3-clause-changes
returns-in_err-insert-3-clause-changes c =
    let refused : is_ok c.from_residual-in_err-insert-3.result ≡ false = search rules in
    let kept = rw c.get_mut.follows.holds-at-none at c.in_err-insert-3.ensures.err in
    λ other name. rw (refused, kept) refl
