use Rattle.std.proofs.Common.{◌≡◌, ◌∙◌, ◌++◌, [], List, ap, sym, append-nil, rules}
use Rattle.std.specs.List.{flat_map}
use Rattle.idle_notes.specs.declared.sets.Subsystems.{Subsystems}
use Rattle.player_state.specs.declared.state.Client.{Client}
use Rattle.connected_clients.specs.Clients.{notice_for}
use Rattle.connected_clients.specs.declared.notices.Notice.{Notice}
use Rattle.connected_clients.specs.Rooms.{listed}
use Rattle.connected_clients.specs.UpToDate.{nothing}
use Rattle.connected_clients.specs.Fingerprint.{raised_in}
use Rattle.partition.proofs.UpToDate.{no_notices}
use Rattle.partition.proofs.happen.tell_all.Goals as goal

pub returns-then-is_nothing-clause-notices : goal.returns-then-is_nothing-clause-notices
returns-then-is_nothing-clause-notices c =
    let none : raised_in c.args.raised.now ≡ nothing = search rules in
    let untold : flat_map (notice_for (raised_in c.args.raised.now)) c.args.clients.now ≡ [] =
    ap (λ (r : Client → Subsystems). flat_map (notice_for r) c.args.clients.now) none ∙ no_notices c.args.clients.now c.requires.up_to_date in
    sym (ap (λ (l : List Notice). listed c.args.notices.now ++ l) untold ∙ append-nil (listed c.args.notices.now))
