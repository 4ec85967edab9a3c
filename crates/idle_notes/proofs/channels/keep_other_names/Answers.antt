use Rattle.std.proofs.Common.{ℕ, List, not, ap, rules}
use Rattle.std.specs.Str.{bytes_eq}
use Rattle.std.proofs.lemmas.Fn.{filter_same}
use Rattle.idle_notes.specs.Channels.{MemberData}
use Rattle.idle_notes.proofs.channels.keep_other_names.Goals as goal

pub returns : goal.returns
returns c =
    let m = c.args.member.now in
    ap (λ (names : List (List ℕ)). let made : MemberData = record { client = m.client; names = names; messages = m.messages.items } in made)
    (filter_same _ (λ own. not (bytes_eq c.args.name.now own)) _ (λ x b f h. search rules) _ _ c.retain.ensures.filtered)
