use Rattle.std.proofs.Common.{◌-◌, arith, refl, vec_len}
use Rattle.kept_state.proofs.Behind.{last_set}
use Rattle.kept_state.specs.Heard.{prioritized}
use Rattle.kept_state.proofs.answers.prioritize_last.Goals as goal

pub returns-in-Some : goal.returns-in-Some
returns-in-Some c =
    let there = c.in-Some.ensures.variant.0 refl in
    last_set (prioritized c.args.priority) c.args.songs.now.items c.in-Some.entry.now (vec_len c.args.songs.now - 1) (omega (arith, there)) c.in-Some.ensures.value
