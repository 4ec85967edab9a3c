use Rattle.std.proofs.Common.{◌++◌, ◌∙◌, ap}
use Rattle.std.proofs.lemmas.Result.{on_ok_weaker}
use Rattle.mpd_text.specs.Songs.Tags.{tag_names}
use Rattle.known_tags.specs.Bits.{members}
use Rattle.known_tags.specs.Lines.{tagtype_line, tagtype_lines}
use Rattle.known_tags.proofs.TenTags.{said-where}
use Rattle.known_tags.proofs.song_lines.push_tagtypes.Goals as goal

pub returns : goal.returns
unfolding members
returns c =
    on_ok_weaker c.push_types_where.result
    (λ e. e ∙ ap (λ lines. c.args.answer.now ++ lines) (said-where c.set.inside.bits tagtype_line tag_names ∙ ap (λ set. tagtype_lines set) c.set.view_is))
    c.push_types_where.ensures
