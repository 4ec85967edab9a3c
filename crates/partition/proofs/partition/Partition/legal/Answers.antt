use Rattle.std.proofs.Common.{◌++◌, sym, subst}
use Rattle.std.specs.Prelude.{All}
use Rattle.partition.specs.Legal.{HasDistinctIds}
use Rattle.partition.specs.Image.{Image, image_of_state, opening}
use Rattle.partition.specs.Invariant.{Came}
use Rattle.connected_clients.specs.UpToDate.{AllUpToDate}
use Rattle.partition.specs.World.{trace_after}
use Rattle.partition.proofs.Chronicles.{leads_on}
use Rattle.partition.proofs.UpToDate.{replay_up_to_date}
use Rattle.partition.proofs.Since.{since_stands}
use Rattle.partition.proofs.Stands.{stands}
use Rattle.partition.proofs.partition.Partition.legal.Goals as goal

pub returns-clause-legal : goal.returns-clause-legal
returns-clause-legal c =
    let p = c.self.inside in
    let base : Image = image_of_state p.base.value in
    let present : Image = image_of_state p.state in
    let was : Came base = c.self.invariant.came in
    let first : Image = opening was.setup was.library in
    let on = leads_on first base present was.earlier p.history.items was.leads was.told c.self.invariant.present c.self.invariant.told in
    let before = stands was.setup was.library was.earlier base was.above was.leads was.told in
    let since = since_stands base present p.history.items (trace_after first was.earlier).world_transitions before.rising (λ i. (before.world i).shared.books) c.self.invariant.present in
    rw (← c.self.view_is)
    (record {
      setup = was.setup;
      library = was.library;
      earlier = was.earlier;
      base = before;
      present = stands was.setup was.library (was.earlier ++ p.history.items) present was.above on.0 on.1;
      recent = c.self.invariant.present;
      told = c.self.invariant.told;
      since = since.0;
      books = since.1;
      few = c.self.invariant.few;
      room = c.self.invariant.room;
      distinct = subst (All HasDistinctIds) c.items.ensures c.are_distinct.ensures;
    })

pub returns-clause-up_to_date : goal.returns-clause-up_to_date
returns-clause-up_to_date c =
    let p = c.self.inside in
    let was : Came (image_of_state p.base.value) = c.self.invariant.came in
    let first : Image = opening was.setup was.library in
    let on = leads_on first (image_of_state p.base.value) (image_of_state p.state) was.earlier p.history.items was.leads was.told c.self.invariant.present c.self.invariant.told in
    rw (← c.self.view_is)
    (subst (λ (i : Image). AllUpToDate i.clients) (sym on.0) (replay_up_to_date (was.earlier ++ p.history.items) first tt tt))
