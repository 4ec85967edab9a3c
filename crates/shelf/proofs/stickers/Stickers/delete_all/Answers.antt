use Rattle.std.proofs.Common.{◌≡◌, Some, None, rules, subst, sym, IsSome, refl, ◌∙◌, ap}
use Rattle.std.proofs.lemmas.Bool.{both_ways}
use Rattle.std.specs.BTreeMap.{get_by_text}
use Rattle.shelf.specs.Memory.{text_in}
use Rattle.shelf.proofs.StickerLemmas.{none_left, some_text, empty_shows, as_before}
use Rattle.shelf.proofs.stickers.Stickers.delete_all.Goals as goal

pub returns-in_default-clause-gone : goal.returns-in_default-clause-gone
returns-in_default-clause-gone c = none_left c.args.target.now c.args.self.now.targets c.remove.new.self c.remove.ensures.updates

pub returns-then-is_empty-clause-gone : goal.returns-then-is_empty-clause-gone
returns-then-is_empty-clause-gone c = none_left c.args.target.now c.args.self.now.targets c.remove.new.self c.remove.ensures.updates

pub returns-then-is_empty-clause-changes : goal.returns-then-is_empty-clause-changes
returns-then-is_empty-clause-changes c =
    let known : get_by_text c.args.self.now.targets c.args.target.now ≡ Some c.in-Some.names = search rules in
    as_before c.args.target.now c.args.self.now.targets c.remove.new.self None c.remove.ensures.updates
    (λ name. sym (empty_shows c.in-Some.names (c.is_empty.ensures.0 c.if-is_empty.true) name) ∙ ap (λ names. text_in names name) (sym known))

pub returns-clause-gone : goal.returns-clause-gone
returns-clause-gone c = none_left c.args.target.now c.args.self.now.targets c.remove.new.self c.remove.ensures.updates

pub returns-clause-changes : goal.returns-clause-changes
returns-clause-changes c = none_left c.args.target.now c.args.self.now.targets c.remove.new.self c.remove.ensures.updates

pub returns-clause-answers : goal.returns-clause-answers
returns-clause-answers c =
    let known : get_by_text c.args.self.now.targets c.args.target.now ≡ Some c.in-Some.names = search rules in
    let some = some_text c.in-Some.names (λ none. both_ways c.is_empty.result c.if-is_empty.false (c.is_empty.ensures.1 none)) in
    (refl, (some.0, subst (λ names. IsSome (text_in names some.0)) (sym known) some.1))
