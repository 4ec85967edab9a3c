use Rattle.std.proofs.Common.{◌++◌, encode_utf8, encode_utf8_all, sym, ap, ◌∙◌, append_assoc, rules}
use Rattle.std.proofs.Output.{has_written_append}
use Rattle.settings.proofs.one_line.write_shown.Goals as goal

pub parts-preserved : goal.parts-preserved
parts-preserved g c = (
  search rules,
  λ plain.
      let now = c.parts.invariant.1 plain in
      let part = c.in-Some.part in (
        now.0 ++ encode_utf8 part,
        has_written_append _ _ _ _ _ _ now.1 (search rules),
        append_assoc now.0 (encode_utf8 part) _ ∙ ap (λ l. now.0 ++ encode_utf8_all l) (sym c.in-Some.ensures.steps.1.0) ∙ now.2,
      ),
)
