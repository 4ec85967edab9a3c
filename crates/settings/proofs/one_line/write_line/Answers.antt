use Rattle.std.proofs.Common.{flat_map, encode_utf8_all, sym, ap, ◌∙◌, map-id, rules}
use Rattle.std.proofs.Output.{has_written_append, has_written_of_eq}
use Rattle.std.proofs.lemmas.Iterator.{YieldsList-from_chars}
use Rattle.std.proofs.lemmas.Iterator.Consumers.{YieldsList-end}
use Rattle.settings.specs.OneLines.{shown}
use Rattle.settings.proofs.OneLines.{escaped-more}
use Rattle.settings.proofs.one_line.write_line.Goals as goal

pub loop-character-preserved : goal.loop-character-preserved
loop-character-preserved g c =
    λ plain.
    has_written_of_eq _ _ _ _ _ (escaped-more c.loop-character.yielded c.in-Some.character)
    (has_written_append _ _ _ _ _ _ (c.loop-character.invariant plain) (search rules))

pub returns : goal.returns
returns g c =
    let end = YieldsList-end (YieldsList-from_chars c.args.text.now c.utf8.text cc) c.loop-character.yielded _ c.loop-character.yielded_by _ _ c.in-None.is c.next.ensures.steps in
    λ plain passed.
    has_written_of_eq _ _ _ _ _ (ap (λ cs. encode_utf8_all (flat_map shown cs)) (sym (map-id c.loop-character.yielded) ∙ end.0)) (c.loop-character.invariant plain)
