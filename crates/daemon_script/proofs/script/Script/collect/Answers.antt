use Rattle.std.proofs.Common.{◌≡◌, ◌++◌, ◌∷◌, [], arith, rules, length-append, false, refl}
use Rattle.daemon_script.specs.Script.{has_uri}
use Rattle.daemon_script.proofs.Collected.{once_more}
use Rattle.daemon_script.proofs.Refused.{unread_text}
use Rattle.daemon_script.proofs.script.Script.collect.Goals as goal

pub invariant_of-self-2 : goal.invariant_of-self-2
invariant_of-self-2 c =
    let pushed : c.push.new.self.items ≡ c.self.inside.songs.items ++ c.args.song ∷ [] = search rules in
    let new_uri : has_uri c.args.song.uri c.self.inside.songs.items ≡ false = search rules in
    rw pushed
    (record {
      version = c.self.invariant.version;
      cut = c.self.invariant.cut;
      history = c.self.invariant.history;
      few = omega (arith, length-append c.self.inside.songs.items (c.args.song ∷ []));
      distinct = once_more c.self.inside.songs.items c.args.song c.self.invariant.distinct new_uri;
    })

pub returns-then-is_err-clause-text : goal.returns-then-is_err-clause-text
returns-then-is_err-clause-text c = unread_text _ _ _ _ refl c.push_unread.ensures.text c.push_unread.ensures.memory
