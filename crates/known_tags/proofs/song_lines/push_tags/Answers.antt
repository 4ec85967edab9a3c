use Rattle.std.proofs.Common.{◌++◌, ◌∙◌, ap}
use Rattle.std.proofs.lemmas.Result.{on_ok_weaker}
use Rattle.mpd_text.specs.Songs.Tags.{tag_names}
use Rattle.known_tags.specs.Bits.{members}
use Rattle.song_db.specs.Lines.{tag_line}
use Rattle.known_tags.specs.Lines.{tag_lines_of}
use Rattle.known_tags.proofs.TenTags.{said-where}
use Rattle.known_tags.proofs.song_lines.push_tags.Goals as goal

pub returns : goal.returns
unfolding members
returns c =
    on_ok_weaker c.push_where.result
    (λ e. e ∙ ap (λ lines. c.args.answer.now ++ lines) (said-where c.set.inside.bits (λ name. tag_line name c.args.tags.now) tag_names ∙ ap (λ set. tag_lines_of set c.args.tags.now) c.set.view_is))
    c.push_where.ensures
