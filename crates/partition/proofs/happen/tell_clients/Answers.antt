use Rattle.std.proofs.Common.{◌≡◌, ◌≤◌, sym, subst, length, arith, rules}
use Rattle.std.specs.Prelude.{count_by, filter}
use Rattle.connected_clients.specs.Clients.{is_other}
use Rattle.connected_clients.specs.Rooms.{is_waiting, listed, room_in}
use Rattle.connected_clients.specs.UpToDate.{HasRoom}
use Rattle.connected_clients.specs.Fingerprint.{raised_in}
use Rattle.partition.proofs.UpToDate.{fewer_waiting}
use Rattle.connected_clients.proofs.Tells.{fewer_wait}
use Rattle.partition.proofs.happen.tell_clients.Goals.{then-closing, else-closing}
use Rattle.partition.proofs.happen.tell_clients.Goals as goal

pub tell_all-requires-clause-notices : goal.tell_all-requires-clause-notices
tell_all-requires-clause-notices c =
    elim c.if-closing.branch [
      | then-closing w ↦
          let left : c.deref_mut.result.now ≡ filter (is_other c.args.number) c.args.clients.now.items = search rules in
          subst (λ ks. HasRoom (raised_in c.args.raised.now) ks (room_in c.args.notices.now)) (sym left)
          (fewer_waiting (raised_in c.args.raised.now) c.args.number c.args.clients.now.items (room_in c.args.notices.now) c.requires.notices)
      | else-closing w ↦
          let same : c.deref_mut.result.now ≡ c.args.clients.now.items = search rules in
          subst (λ ks. HasRoom (raised_in c.args.raised.now) ks (room_in c.args.notices.now)) (sym same) c.requires.notices
    ]

pub returns-else-not-closing-clause-few : goal.returns-else-not-closing-clause-few
returns-else-not-closing-clause-few c =
    elim c.if-closing.branch [
      | then-closing w ↦
          let left : c.deref_mut.result.now ≡ filter (is_other c.args.number) c.args.clients.now.items = search rules in
          let less : count_by is_waiting (filter (is_other c.args.number) c.args.clients.now.items) ≤ count_by is_waiting c.args.clients.now.items = fewer_wait c.args.number c.args.clients.now.items in
          let few : length (listed c.tell_all.new.notices) ≤ count_by is_waiting (filter (is_other c.args.number) c.args.clients.now.items) =
          subst (λ ks. length (listed c.tell_all.new.notices) ≤ count_by is_waiting ks) left c.tell_all.ensures.few in
          omega (arith, few, less)
      | else-closing w ↦
          let same : c.deref_mut.result.now ≡ c.args.clients.now.items = search rules in
          subst (λ ks. length (listed c.tell_all.new.notices) ≤ count_by is_waiting ks) same c.tell_all.ensures.few
    ]
