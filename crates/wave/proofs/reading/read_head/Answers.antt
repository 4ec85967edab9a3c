use Rattle.std.proofs.Common.{sym, ◌∙◌}
use Rattle.wave.proofs.Known.{known_map, known_map3}
use Rattle.wave.proofs.Meanings.{not_riff, means_wave}
use Rattle.wave.proofs.reading.read_head.Goals as goal

pub returns-then-not-branch-clause-value : goal.returns-then-not-branch-clause-value
returns-then-not-branch-clause-value g c =
    let found = rw c.in_ok-end.ensures.stays at c.in_ok-is_riff_at.ensures.value in
    known_map (g.M.Media.all_bytes c.args.media.now) (λ bytes is. not_riff c.args.everyday c.args.rate bytes (sym is ∙ c.if-not-branch.true)) found

pub returns-clause-value : goal.returns-clause-value
returns-clause-value g c =
    let found = rw c.in_ok-end.ensures.stays at c.in_ok-is_riff_at.ensures.value in
    let chunks = rw (c.in_ok-is_riff_at.ensures.stays, c.in_ok-end.ensures.stays) at c.head_of_chunks.ensures.value in
    known_map3 (g.M.Media.all_bytes c.args.media.now) (λ bytes size is means.
    means_wave c.args.everyday c.args.rate c.in_ok-end.end bytes c.head_of_chunks.result size (sym is ∙ c.if-not-branch.false) means) c.in_ok-end.ensures.value found chunks
