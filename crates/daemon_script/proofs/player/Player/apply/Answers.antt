use Rattle.std.proofs.Common.{refl}
use Rattle.partition.specs.History.{Chronicle}
use Rattle.daemon_script.proofs.Applied.{beside, left_after, player_after, refused_after, told_after, within_after}
use Rattle.daemon_script.proofs.player.Player.apply.Goals as goal

pub returns-clause-told : goal.returns-clause-told
returns-clause-told c =
    let p : Chronicle = c.self.inside.partition in
    let q : Chronicle = c.apply.new.self in
    told_after p q c.self.inside.shelf c.apply.new.shelf c.args.event c.args.self.now (beside q c.apply.new.shelf) c.self.view_is refl c.apply.result c.apply.ensures.limit c.apply.ensures.ok

pub returns-clause-player : goal.returns-clause-player
returns-clause-player c =
    let p : Chronicle = c.self.inside.partition in
    let q : Chronicle = c.apply.new.self in
    player_after p q c.self.inside.shelf c.apply.new.shelf c.args.event c.args.self.now (beside q c.apply.new.shelf) c.self.view_is refl c.apply.result c.apply.ensures.limit c.apply.ensures.ok

pub returns-clause-left : goal.returns-clause-left
returns-clause-left c =
    let p : Chronicle = c.self.inside.partition in
    let q : Chronicle = c.apply.new.self in
    left_after p q c.self.inside.shelf c.apply.new.shelf c.args.event c.args.self.now (beside q c.apply.new.shelf) c.self.view_is refl c.apply.result c.apply.ensures.refused

pub returns-clause-within : goal.returns-clause-within
returns-clause-within c =
    let p : Chronicle = c.self.inside.partition in
    let q : Chronicle = c.apply.new.self in
    within_after p q c.self.inside.shelf c.apply.new.shelf c.args.event c.args.self.now (beside q c.apply.new.shelf) c.self.view_is refl c.apply.result c.apply.ensures.limit c.apply.ensures.ok

pub returns-clause-refused : goal.returns-clause-refused
returns-clause-refused c =
    let p : Chronicle = c.self.inside.partition in
    let q : Chronicle = c.apply.new.self in
    refused_after p q c.self.inside.shelf c.apply.new.shelf c.args.event c.args.self.now (beside q c.apply.new.shelf) c.self.view_is refl c.apply.result c.apply.ensures.refused
