-- What commands read of a player, and its trace, agree.
use Rattle.std.proofs.Common.{◌≡◌, ℕ, ◌≤◌, ◌==◌, Bool, true, false, List, [], ◌∷◌, ◌++◌, map, Option, None, Some, refl, sym, ap, ◌∙◌, arith, append_assoc, append-nil, subst, if◌then◌else◌}
use Rattle.std.specs.Prelude.{bytes_eq, is_some, nat_le, option_map, slice_index_or, ◌+◌, ◌||◌}
use Rattle.std.specs.List.{list_any}
use Rattle.mpd_text.specs.Songs.Song.{SongData}
use Rattle.partition.specs.History.{replay}
use Rattle.partition.specs.Image.{Image, opening}
use Rattle.connected_clients.specs.Clients.{client_of}
use Rattle.partition.specs.Legal.{ReplaysWorlds}
use Rattle.player_events.specs.Events.{with_store_reply}
use Rattle.partition.specs.Step.{limit_of, next_image, told}
use Rattle.partition_table.specs.Parts.{known, named}
use Rattle.partition.specs.World.{PartWorld, Trace, Listener, WorldTransition, part_in, client_in, image_of, trace_after_event, trace_from, trace_after, opening_trace}
use Rattle.player_events.specs.declared.event.Event.{Event}
use Rattle.partition.specs.declared.partition.PartitionFault.{PartitionFault}
use Rattle.partition.specs.declared.partition.PartitionFault.TheVariants.{HistoryFull, CutsAtLimit, AtLimit, NoMemory}
use Rattle.partition.proofs.Counts.{made_of-at}
use Rattle.player_events.specs.declared.event.LogEntry.{LogEntry}
use Rattle.player_state.specs.declared.state.Client.{Client}
use Rattle.player_state.specs.declared.state.Library.{Library}
use Rattle.partition.specs.declared.state.Limits.{Limits}
use Rattle.partition.specs.declared.state.Setup.{Setup}
use Rattle.daemon_script.specs.Kinds.{library_of, left_by, setup_of, window_in_room, world_named, EventKind, Traced, Shelved, heard, image_kind, images, trace_kind, traces, traced_after, told_at, seen}
use Rattle.daemon_script.specs.Output.{RunsAreTraced, seen_beside, seen_script}
use Rattle.daemon_script.specs.Script.{ScriptData, opening_script}
use Rattle.daemon_script.specs.Shelf.{heard_by, shelf_after}
use Rattle.daemon_script.proofs.Alike.{Agree, SamePlayer, SameScript, runs_same}

-- two kinds of player agree of events: a relation of their players holds at the opening and is kept by
-- events, and related players answer alike
record AgreeOfEvents {P Q : Type 0} (m : EventKind P) (n : EventKind Q) (R : P → Q → Type 0) : Type 0 where
  opens : (limits : Limits) (songs : List SongData) → 1 ≤ limits.max_version → R (m.opens limits songs) (n.opens limits songs)
  there : (p : P) (q : Q) (number : ℕ) → R p q → m.is_there number p ≡ n.is_there number q
  index : (p : P) (q : Q) (name : List ℕ) → R p q → m.index_named name p ≡ n.index_named name q
  limit : (p : P) (q : Q) (event : Event) → R p q → m.limit p event ≡ n.limit q event
  after : (p : P) (q : Q) (event : Event) → R p q → R (m.after p event) (n.after q event)
  told : (p : P) (q : Q) (event : Event) → R p q → m.told p event ≡ n.told q event
  own : (p : P) (q : Q) → R p q → m.own p ≡ n.own q

-- a trace from an opening
pub record FromOpening (traced : Traced) : Type 0 where
  pub setup : Setup
  pub library : Library
  pub above : 1 ≤ setup.limits.max_version
  pub is : traced.trace ≡ trace_after (opening setup library) traced.history

-- an image is what is seen of a trace from an opening
abbrev pub Shows : Image → Traced → Type 0
Shows i traced = (i ≡ seen traced) × FromOpening traced

replay-append : (i : Image) (hs : List LogEntry) (h : LogEntry) → replay i (hs ++ h ∷ []) ≡ next_image h.seat (replay i hs) h.event
replay-append i [] h = refl
replay-append i (x ∷ xs) h = replay-append (next_image x.seat i x.event) xs h

trace_from-append : (done : List LogEntry) (trace : Trace) (hs : List LogEntry) (h : LogEntry)
    → trace_from done trace (hs ++ h ∷ []) ≡ trace_after_event (done ++ hs) (trace_from done trace hs) h.event
trace_from-append done trace [] h = ap (λ (d : List LogEntry). trace_after_event d trace h.event) (sym (append-nil done))
trace_from-append done trace (x ∷ xs) h =
    trace_from-append (done ++ x ∷ []) (trace_after_event done trace x.event) xs h
    ∙ ap (λ (d : List LogEntry). trace_after_event d (trace_from (done ++ x ∷ []) (trace_after_event done trace x.event) xs) h.event) (append_assoc done (x ∷ []) xs)

among : (world_transitions : List WorldTransition) (number : ℕ) (listeners : List Listener)
    → is_some (client_of number (map (client_in world_transitions) listeners)) ≡ list_any (λ (k : Listener). k.number == number) listeners
among world_transitions number [] = refl
among world_transitions number (k ∷ ks) =
    let rest : Option Client = client_of number (map (client_in world_transitions) ks) in
    let cases : (b : Bool) → is_some (if b then Some (client_in world_transitions k) else rest) ≡ (b || list_any (λ (l : Listener). l.number == number) ks) =
    λ b. elim b as (λ b. is_some (if b then Some (client_in world_transitions k) else rest) ≡ (b || list_any (λ (l : Listener). l.number == number) ks)) [
      | true ↦ refl
      | false ↦ among world_transitions number ks
    ] in
    cases (k.number == number)

placed : (name : List ℕ) (worlds : List PartWorld) → named name (map known (map part_in worlds)) ≡ world_named name worlds
placed name [] = refl
placed name (p ∷ ps) = ap (λ (rest : Option ℕ). if bytes_eq p.name name then Some p.index else rest) (placed name ps)

module _ (law : ReplaysWorlds) where
  opens : (limits : Limits) (songs : List SongData) → 1 ≤ limits.max_version → Shows (opening (setup_of limits) (library_of songs)) (record { trace = opening_trace (opening (setup_of limits) (library_of songs)); history = [] })
  opens limits songs above = ((law (setup_of limits) (library_of songs) [] above).0, record { setup = setup_of limits; library = library_of songs; above = above; is = refl })

  -- the event that a trace keeps
  abbrev last : Traced → Event → LogEntry
  last traced event = record { seat = 0; event = event; told = told_at (trace_after_event traced.history traced.trace event).world_transitions }

  after_is : (traced : Traced) (event : Event) (from : FromOpening traced) → (traced_after traced event).trace ≡ trace_after (opening from.setup from.library) (traced_after traced event).history
  after_is traced event from =
      ap (λ (trace : Trace). trace_after_event traced.history trace event) from.is
      ∙ sym (trace_from-append [] (opening_trace (opening from.setup from.library)) traced.history (last traced event))

  seen_is : (traced : Traced) (from : FromOpening traced) → seen traced ≡ replay (opening from.setup from.library) traced.history
  seen_is traced from = ap (λ (trace : Trace). image_of trace traced.history) from.is ∙ sym (law from.setup from.library traced.history from.above).0

  from_after : (traced : Traced) (event : Event) → FromOpening traced → FromOpening (traced_after traced event)
  from_after traced event from = record { setup = from.setup; library = from.library; above = from.above; is = after_is traced event from }

  after_seen : (traced : Traced) (event : Event) → FromOpening traced → next_image 0 (seen traced) event ≡ seen (traced_after traced event)
  unfolding from_after
  after_seen traced event from =
      ap (λ (i : Image). next_image 0 i event) (seen_is traced from)
      ∙ sym (replay-append (opening from.setup from.library) traced.history (last traced event))
      ∙ sym (seen_is (traced_after traced event) (from_after traced event from))

  told_seen : (traced : Traced) (event : Event) → told (seen traced) event ≡ told_at (traced_after traced event).trace.world_transitions
  unfolding told
  told_seen traced event = refl

  agree : AgreeOfEvents image_kind trace_kind Shows
  agree = record {
    opens = opens;
    there = λ i traced number shows. ap (λ (x : Image). is_some (client_of number x.clients)) shows.0 ∙ among traced.trace.world_transitions number traced.trace.world.clients;
    index = λ i traced name shows. ap (λ (x : Image). named name (map known x.parts)) shows.0 ∙ placed name traced.trace.world.parts;
    limit = λ i traced event shows. ap (λ (x : Image). limit_of 0 x event) shows.0;
    after = λ i traced event shows. (ap (λ (x : Image). next_image 0 x event) shows.0 ∙ after_seen traced event shows.1, from_after traced event shows.1);
    told = λ i traced event shows. ap (λ (x : Image). told x event) shows.0 ∙ told_seen traced event;
    own = λ i traced shows. ap (λ (x : Image). slice_index_or x.shared.made 0 0) shows.0 ∙ made_of-at traced.history 0 (omega arith);
  }

  -- beside the same shelf, with as many events in the window
  pub record ShowsBeside (p : Shelved Image) (q : Shelved Traced) : Type 0 where
    pub shows : Shows p.player q.player
    pub shelf : p.shelf ≡ q.shelf
    pub window : p.window ≡ q.window
    pub most : p.most ≡ q.most

  heard_same : (p : Shelved Image) (q : Shelved Traced) (event : Event) → ShowsBeside p q → heard image_kind (λ i. i) p event ≡ heard trace_kind seen q event
  heard_same p q event same = λ j. with_store_reply event (heard_by (same.shelf j) (same.shows.0 j) event)

  room_same : (p : Shelved Image) (q : Shelved Traced) → ShowsBeside p q → window_in_room p ≡ window_in_room q
  room_same p q same = λ j. if nat_le (same.most j) (same.window j) then 0 else same.window j

  folded_same : (p : Shelved Image) (q : Shelved Traced) → ShowsBeside p q → ShowsBeside (record p { window = window_in_room p }) (record q { window = window_in_room q })
  folded_same p q same = record { shows = same.shows; shelf = same.shelf; window = room_same p q same; most = same.most }

  left_same : (p : Shelved Image) (q : Shelved Traced) (fault : PartitionFault) → ShowsBeside p q → ShowsBeside (left_by fault p) (left_by fault q)
  left_same p q HistoryFull same = same
  left_same p q CutsAtLimit same = folded_same p q same
  left_same p q AtLimit same = folded_same p q same
  left_same p q NoMemory same = folded_same p q same

  agree_beside : Agree images traces ShowsBeside
  agree_beside = record {
    opens = λ limits songs above. record { shows = agree.opens limits songs above; shelf = refl; window = refl; most = refl };
    there = λ p q number same. agree.there p.player q.player number same.shows;
    index = λ p q name same. agree.index p.player q.player name same.shows;
    full = λ p q same j. nat_le (same.most j) (same.window j);
    limit = λ p q event same. ap (λ (e : Event). limit_of 0 p.player e) (heard_same p q event same) ∙ agree.limit p.player q.player (heard trace_kind seen q event) same.shows;
    after = λ p q event same. record {
      shows = subst (λ (e : Event). Shows (next_image 0 p.player e) (traced_after q.player (heard trace_kind seen q event))) (sym (heard_same p q event same))
          (agree.after p.player q.player (heard trace_kind seen q event) same.shows);
      shelf = λ j. shelf_after (same.shelf j) (same.shows.0 j) event (heard_by (same.shelf j) (same.shows.0 j) event);
      window = ap (λ (n : ℕ). n + 1) (room_same p q same);
      most = same.most;
    };
    left = left_same;
    told = λ p q event same. ap (λ (e : Event). told p.player e) (heard_same p q event same) ∙ agree.told p.player q.player (heard trace_kind seen q event) same.shows;
    window = λ p q same. same.window;
    own = λ p q same. agree.own p.player q.player same.shows;
  }

  player_seen : (p : Option (Shelved Image)) (q : Option (Shelved Traced)) → SamePlayer ShowsBeside p q → p ≡ option_map seen_beside q
  player_seen None None same = refl
  player_seen None (Some q) same = absurd same
  player_seen (Some p) None same = absurd same
  player_seen (Some p) (Some q) same = λ i. Some (record { player = same.shows.0 i; shelf = same.shelf i; window = same.window i; most = same.most i })

  script_seen : (s : ScriptData (Shelved Image)) (t : ScriptData (Shelved Traced)) → SameScript ShowsBeside s t → s ≡ seen_script t
  script_seen s t same = λ i. record { limits = same.limits i; commands = same.commands i; songs = same.songs i; lists = same.lists i; player = player_seen s.player t.player same.player i }

  pub runs_are_traced : RunsAreTraced
  runs_are_traced run =
      let both = runs_same images traces ShowsBeside agree_beside opening_script opening_script run (record { limits = refl; commands = refl; songs = refl; lists = refl; above = omega arith; player = tt }) in
      (both.0, script_seen _ _ both.1)
