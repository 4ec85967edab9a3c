use Rattle.std.proofs.Common.{◌≡◌, ◌∙◌, ap, sym, ℕ, List, Option, Some, None, OnOk, IfOk, subst}
use Rattle.std.specs.Option.{option_copied}
use Rattle.song_queue.specs.declared.entry.Entry.{Entry}
use Rattle.song_queue.specs.State.{queue_of}
use Rattle.play_order.specs.Draws.{RoundState, ids_of, moved_last, renewed, without}
use Rattle.play_order.specs.Order.{begun, first_anew, first_of, left_by, next_of, round_for, unplayed}
use Rattle.play_order.specs.Ends.{id_of}
use Rattle.play_order.proofs.Going.{apart-from, first-kept, from-id, from-no-id, goes-on-without, is-random, is-renewed, next-without}
use Rattle.play_order.proofs.round.Round.go_on.Goals as goal

pub returns-in_ok-play-in-Some-clause-round : goal.returns-in_ok-play-in-Some-clause-round
returns-in_ok-play-in-Some-clause-round c =
    let self : RoundState = c.args.self.now in
    let ids : List ℕ = c.args.ids.now in
    let left : List Entry = left_by (queue_of c.args.queue.now) c.args.from c.args.end in
    let from = from-id (option_copied c.first_entry.result) c.in-Some.id c.in-Some.ensures in
    let found : first_of self.ranks (unplayed self.played left) ≡ Some from.0 =
    ap (λ (x : RoundState). first_of x.ranks (unplayed x.played left)) (sym c.self.view_is) ∙ sym c.first_entry.ensures ∙ from.1 in
    c.removed-in-Some.ensures
    ∙ ap (λ (x : RoundState). without x ids) c.in_ok-play-in-Some.ensures.ok
    ∙ ap (λ (n : ℕ). without (record self { played = moved_last self.played n }) ids) (sym from.2)
    ∙ goes-on-without c.args.modes self ids left c.args.position from.0 (is-random c.args.modes.random c.if-not-modes.false) (apart-from ids left c.requires.apart) found

pub returns-in_ok-play-in-Some-clause-starts : goal.returns-in_ok-play-in-Some-clause-starts
returns-in_ok-play-in-Some-clause-starts c =
    let self : RoundState = c.args.self.now in
    let ids : List ℕ = c.args.ids.now in
    let left : List Entry = left_by (queue_of c.args.queue.now) c.args.from c.args.end in
    let from = from-id (option_copied c.first_entry.result) c.in-Some.id c.in-Some.ensures in
    let found : first_of self.ranks (unplayed self.played left) ≡ Some from.0 =
    ap (λ (x : RoundState). first_of x.ranks (unplayed x.played left)) (sym c.self.view_is) ∙ sym c.first_entry.ensures ∙ from.1 in
    ap Some (sym from.2) ∙ sym (ap id_of (next-without c.args.modes self ids left c.args.position from.0 (is-random c.args.modes.random c.if-not-modes.false) (apart-from ids left c.requires.apart) found))

pub returns-in-None-clause-round : goal.returns-in-None-clause-round
returns-in-None-clause-round c =
    let self : RoundState = c.args.self.now in
    let ids : List ℕ = c.args.ids.now in
    let left : List Entry = left_by (queue_of c.args.queue.now) c.args.from c.args.end in
    let none : first_of self.ranks (unplayed self.played left) ≡ None =
    ap (λ (x : RoundState). first_of x.ranks (unplayed x.played left)) (sym c.self.view_is) ∙ sym c.first_entry.ensures ∙ from-no-id (option_copied c.first_entry.result) c.in-None.ensures in
    let new = is-renewed c.args.modes (without self ids) left c.args.position (is-random c.args.modes.random c.if-not-modes.false) (first-kept self ids left (apart-from ids left c.requires.apart) ∙ none) in
    let same : begun c.args.modes (round_for c.args.modes (without self ids) left) (next_of c.args.modes (without self ids) left c.args.position) ≡ begun c.args.modes (renewed self (ids_of left)) (first_anew c.args.modes.repeat self left) =
    ap (λ (r : RoundState). begun c.args.modes r (next_of c.args.modes (without self ids) left c.args.position)) new.0 ∙ ap (begun c.args.modes (renewed self (ids_of left))) new.1 in
    subst (λ (r : RoundState). OnOk c.begin_anew.result (c.begin_anew.new.self ≡ r)) (sym same) c.begin_anew.ensures.round

pub returns-in-None-clause-starts : goal.returns-in-None-clause-starts
returns-in-None-clause-starts c =
    let self : RoundState = c.args.self.now in
    let ids : List ℕ = c.args.ids.now in
    let left : List Entry = left_by (queue_of c.args.queue.now) c.args.from c.args.end in
    let none : first_of self.ranks (unplayed self.played left) ≡ None =
    ap (λ (x : RoundState). first_of x.ranks (unplayed x.played left)) (sym c.self.view_is) ∙ sym c.first_entry.ensures ∙ from-no-id (option_copied c.first_entry.result) c.in-None.ensures in
    let new = is-renewed c.args.modes (without self ids) left c.args.position (is-random c.args.modes.random c.if-not-modes.false) (first-kept self ids left (apart-from ids left c.requires.apart) ∙ none) in
    subst (λ (o : Option Entry). IfOk c.begin_anew.result (λ (starts : Option ℕ). starts ≡ id_of o)) (sym new.1) c.begin_anew.ensures.starts
