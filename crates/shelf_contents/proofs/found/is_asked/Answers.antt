use Rattle.std.proofs.Common.{ap, ◌∙◌}
use Rattle.std.proofs.lemmas.Str.Pattern.{starts_text}
use Rattle.std.specs.List.{starts_with}
use Rattle.shelf_contents.proofs.found.is_asked.Goals as goal

pub returns-else-is_song : goal.returns-else-is_song
returns-else-is_song c =
    rw c.if-is_song.false (starts_text c.starts_with.result c.args.front.now c.args.uri.now c.starts_with.ensures.cases ∙ ap (starts_with _ c.args.uri.now) c.requires)
