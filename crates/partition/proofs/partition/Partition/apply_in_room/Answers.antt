use Rattle.std.proofs.Common.{◌≡◌, ◌<◌, length, inl, inr, true, nat_le, sym, subst, ◌∙◌, rules}
use Rattle.std.specs.Prelude.{slice_index_or}
use Rattle.player_events.specs.declared.event.LogEntry.{LogEntry}
use Rattle.partition.specs.History.{Chronicle}
use Rattle.partition.specs.Image.{image_of_state}
use Rattle.transitions.specs.Shelves.{no_store_reply}
use Rattle.player_events.specs.Events.{with_store_reply}
use Rattle.partition.proofs.Chronicles.{fits, goes_on, more_bytes}
use Rattle.partition.proofs.Lending.{untouched}
use Rattle.partition.proofs.Seats.{own_limit}
use Rattle.partition.proofs.partition.Partition.apply_in_room.Goals as goal

pub invariant_of-self-2 : goal.invariant_of-self-2
invariant_of-self-2 g c =
    let p = c.self.inside in
    let did = c.in_ok-outcome.ensures.ok in
    let h : LogEntry = record { seat = c.args.seat; event = with_store_reply c.args.event did.heard; told = c.in_ok-outcome.outcome } in
    let on = goes_on (image_of_state p.base.value) (image_of_state p.state) (image_of_state c.record_event.new.state) p.history.items c.record_event.new.log.items h
    c.self.invariant.present c.self.invariant.told did.present did.told_is did.window in
    record {
      room = c.self.invariant.room;
      few = fits p.limit p.history.items c.record_event.new.log.items h did.window
          (subst (λ (ch : Chronicle). length ch.window < ch.limit) (sym c.self.view_is) c.requires.room);
      came = c.self.invariant.came;
      present = on.0;
      told = on.1;
      bytes = more_bytes p.history.items c.record_event.new.log.items h p.bytes c.last_bytes.result _ did.window c.self.invariant.bytes
          (c.last_bytes.ensures p.history.items h (c.deref.ensures.value ∙ did.window)) c.saturating_add-self-inside.ensures;
    }

pub returns-then-is_at_limit-clause-refused : goal.returns-then-is_at_limit-clause-refused
returns-then-is_at_limit-clause-refused g c =
    let full : nat_le 9223372036854775807 (slice_index_or c.args.self.now.present.shared.made c.args.seat 0) ≡ true = search rules in
    record {
      heard = no_store_reply;
      refused = own_limit c.args.seat c.args.self.now.present (with_store_reply c.args.event no_store_reply) full;
      cause = inr (inl full);
      unchanged = untouched g.S.Shelf.standing g.S.Shelf.failed c.args.shelf.now;
    }
