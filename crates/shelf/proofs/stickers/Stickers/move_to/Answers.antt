use Rattle.std.proofs.Common.{◌≡◌, Some, None, false, is_ok, rules, refl, sym, ◌∙◌}
use Rattle.std.specs.BTreeMap.{get_by_text}
use Rattle.shelf.proofs.StickerLemmas.{moved_to, none_to_move, has_room}
use Rattle.shelf.proofs.stickers.Stickers.move_to.Goals as goal

pub returns-in_err-key-clause-changes : goal.returns-in_err-key-clause-changes
returns-in_err-key-clause-changes c =
    let refused : is_ok c.from_residual.result ≡ false = search rules in
    λ other name. rw refused refl

pub returns-in_err-insert-clause-changes : goal.returns-in_err-insert-clause-changes
returns-in_err-insert-clause-changes c =
    let refused : is_ok c.from_residual-in_err-insert.result ≡ false = search rules in
    λ other name. rw (refused, c.in_err-insert.ensures.err) refl

pub returns-in_default-clause-changes : goal.returns-in_default-clause-changes
returns-in_default-clause-changes c =
    let known : get_by_text c.insert.new.self c.args.target.now ≡ None = search rules in
    none_to_move c.args.target.now c.args.new_target.now c.in_ok-key.key c.new.result c.args.self.now.targets c.insert.new.self c.in_ok-insert.ensures.updates c.in_ok-key.ensures.ok c.new.ensures.empty c.requires
    c.remove.new.self known c.remove.ensures.updates

pub returns-in-Some-get_mut-clause-changes : goal.returns-in-Some-get_mut-clause-changes
returns-in-Some-get_mut-clause-changes c =
    let known : get_by_text c.insert.new.self c.args.target.now ≡ Some c.in-Some.names = search rules in
    moved_to c.args.target.now c.args.new_target.now c.in_ok-key.key c.new.result c.args.self.now.targets c.insert.new.self c.in_ok-insert.ensures.updates c.in_ok-key.ensures.ok c.new.ensures.empty c.requires
    c.in-Some.names c.remove.new.self (c.get_mut.follows.lender c.in-Some.names) known c.remove.ensures.updates ((c.get_mut.follows.holds c.in-Some.names).3 (search rules))

-- the new target has its empty map
pub returns-in_default-get_mut-clause-changes : goal.returns-in_default-get_mut-clause-changes
returns-in_default-get_mut-clause-changes c =
    let missing : get_by_text c.remove.new.self c.args.new_target.now ≡ None = search rules in
    let room = has_room c.args.target.now c.args.new_target.now c.in_ok-key.key c.new.result c.args.self.now.targets c.insert.new.self c.in_ok-insert.ensures.updates c.in_ok-key.ensures.ok c.new.ensures.empty c.requires
    c.remove.new.self c.remove.ensures.updates in
    let both : None ≡ Some c.new.result = sym missing ∙ room in
    absurd (cc)
