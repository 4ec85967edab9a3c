use Rattle.std.proofs.Common.{◌≤◌, List, ap, arith, length, subst}
use Rattle.std.specs.Prelude.{Ok}
use Rattle.connected_clients.specs.declared.notices.Notice.{Notice}
use Rattle.partition.specs.History.{Chronicle}
use Rattle.house.specs.Player.{BooksFollow}
use Rattle.house.proofs.Steps.{few_frames, few_told, follows}
use Rattle.house.proofs.player.Core.take_step.Goals as goal

pub put_all-requires : goal.put_all-requires
put_all-requires g c =
    let before : Chronicle = c.begin.new.self.counted in
    let room = c.in_ok-begin.ensures.room in
    let few : length c.in_ok-outcome.outcome.notices ≤ length before.present.clients = few_told before.present c.args.event c.in_ok-outcome.outcome c.in_ok-outcome.ensures.told in
    let notices = ap (λ (ns : List Notice). length ns) c.notices.ensures in
    let capacity = c.drop_gone.ensures.room.0 in
    let shorter = c.drop_gone.ensures.room.1 in
    omega (arith, room, few, notices, capacity, shorter)

pub returns-clause-books : goal.returns-clause-books
returns-clause-books g c =
    subst (λ (p : Chronicle). BooksFollow c.args.event p c.step.new.self) c.begin.ensures.same.0
    (follows c.begin.new.self.counted c.step.new.self c.begin.new.seat.number c.step.ensures.legal c.args.event c.requires (Ok c.in_ok-outcome.outcome) c.in_ok-outcome.ensures.player tt)

pub returns-clause-few : goal.returns-clause-few
returns-clause-few g c =
    few_frames c.begin.new.self.counted c.step.new.self c.begin.new.seat.number c.args.event (Ok c.in_ok-outcome.outcome) c.in_ok-outcome.ensures.within c.in_ok-outcome.ensures.player
