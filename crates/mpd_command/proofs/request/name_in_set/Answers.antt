use Rattle.std.proofs.Common.{ap, sym, ◌∙◌}
use Rattle.std.proofs.lemmas.Bool.{cond-false, cond-true}
use Rattle.mpd_command.specs.Names.{is_there}
use Rattle.mpd_command.proofs.Known.{text-of_word, there-unnamed}
use Rattle.mpd_command.proofs.request.name_in_set.Goals as goal

pub returns-in-Some : goal.returns-in-Some
returns-in-Some c =
    let named = sym c.of_word.ensures ∙ c.in-Some.is in
    let same = text-of_word c.args.word.now c.in-Some.name named in
    sym (cond-true _ _ _ (ap (λ word. is_there word c.args.set) (sym same) ∙ sym c.is_there.ensures ∙ c.if-is_there.true) ∙ named)

pub returns-in_default : goal.returns-in_default
returns-in_default c =
    let same = text-of_word c.args.word.now c.in-Some.name (sym c.of_word.ensures ∙ c.in-Some.is) in
    sym (cond-false _ _ _ (ap (λ word. is_there word c.args.set) (sym same) ∙ sym c.is_there.ensures ∙ c.if-is_there.false))

pub returns-in_default-2 : goal.returns-in_default-2
returns-in_default-2 c =
    let none = sym c.of_word.ensures ∙ c.in_default.is in
    sym (cond-true _ _ _ (there-unnamed c.args.word.now c.args.set none) ∙ none)
