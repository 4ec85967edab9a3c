use Rattle.std.proofs.Common.{ap, sym, ◌∙◌}
use Rattle.mpd_command.specs.Names.{is_there}
use Rattle.mpd_command.proofs.Known.{text-of_word, there-unnamed}
use Rattle.mpd_command.proofs.name.is_there.Goals as goal

pub returns-in-Some : goal.returns-in-Some
returns-in-Some c = c.is_there.ensures ∙ ap (λ word. is_there word c.args.set) (text-of_word c.args.name.now c.in-Some.name (sym c.of_word.ensures ∙ c.in-Some.is))

pub returns-in-None : goal.returns-in-None
returns-in-None c = sym (there-unnamed c.args.name.now c.args.set (sym c.of_word.ensures ∙ c.in-None.is))
