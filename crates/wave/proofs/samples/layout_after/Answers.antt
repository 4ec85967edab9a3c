use Rattle.std.proofs.Common.{◌≡◌, ◌&&◌, true, false, is_none, sym, ◌∙◌}
use Rattle.wave.specs.Parts.{chunk_of}
use Rattle.wave.specs.Waves.{is_format}
use Rattle.wave.proofs.Known.{known_map, known_map2}
use Rattle.wave.proofs.Sounds.{passed_over, first_some, first_none}
use Rattle.wave.proofs.samples.layout_after.Goals as goal

pub returns-then-not-is_first_format-clause-value : goal.returns-then-not-is_first_format-clause-value
returns-then-not-is_first_format-clause-value g c =
    known_map (g.M.Media.all_bytes c.args.media.now) (λ bytes long more.
    let other : (is_none c.args.layout && is_format (chunk_of bytes c.args.part)) ≡ false = rw long (sym c.is_first_format.ensures ∙ c.if-not-is_first_format.true) in
    passed_over _ c.args.layout (chunk_of bytes c.args.part) more c.requires.chunk other) c.requires.known

pub returns-in-Some-clause-value : goal.returns-in-Some-clause-value
returns-in-Some-clause-value g c =
    known_map2 (g.M.Media.all_bytes c.args.media.now) (λ bytes long read more.
    let format : (is_none c.args.layout && is_format (chunk_of bytes c.args.part)) ≡ true = rw long (sym c.is_first_format.ensures ∙ c.if-not-is_first_format.false) in
    first_some _ c.args.layout c.in-Some.found (chunk_of bytes c.args.part) more c.requires.chunk format (sym read ∙ c.in-Some.is)) c.requires.known c.in_ok-found.ensures.value

pub returns-in-None-clause-value : goal.returns-in-None-clause-value
returns-in-None-clause-value g c =
    known_map2 (g.M.Media.all_bytes c.args.media.now) (λ bytes long read more.
    let format : (is_none c.args.layout && is_format (chunk_of bytes c.args.part)) ≡ true = rw long (sym c.is_first_format.ensures ∙ c.if-not-is_first_format.false) in
    first_none _ c.args.layout (chunk_of bytes c.args.part) more c.requires.chunk format (sym read ∙ c.in-None.is)) c.requires.known c.in_ok-found.ensures.value
