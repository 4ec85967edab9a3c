use Rattle.std.proofs.Common.{◌≡◌, ◌∙◌, ◌-◌, ap, take, Some, arith}
use Rattle.song_search.proofs.Walk.{below_is, ends_before_slash}
use Rattle.song_search.proofs.folders.folder_below.Goals as goal

pub range-requires-clause-end_boundary : goal.range-requires-clause-end_boundary
range-requires-clause-end_boundary c = ends_before_slash c.args.uri.now c.in_ok-start.start c.in_ok-slash.slash c.in_ok-start.ensures.2 c.in_ok-slash.ensures.0 c.in_ok-slash.ensures.1

pub returns : goal.returns
returns c =
    let whole : c.in_ok-slash.slash - 0 ≡ c.in_ok-slash.slash = omega arith in
    ap Some (c.range.ensures.value ∙ ap (λ n. take n c.args.uri.now) whole)
    ∙ below_is c.args.folder.now c.args.uri.now c.in_ok-start.start c.in_ok-slash.slash c.in_ok-start.ensures.0 c.in_ok-start.ensures.1 c.in_ok-slash.ensures.0 c.in_ok-slash.ensures.1
