-- What the transitions of a trace raise, and whom they tell.
use Rattle.std.proofs.Common.{◌≡◌, ◌≢◌, ◌↔◌, ◌⊎◌, inl, inr, ℕ, ◌≤◌, ◌==◌, Bool, true, false, not, ◌&&◌, ◌||◌, List, [], ◌∷◌, ◌++◌, map, Option, Some, None, refl, ap, sym, subst, ◌∙◌, codes, if◌then◌else◌}
use Rattle.std.specs.List.{list_any}
use Rattle.std.proofs.lemmas.Bool.{eq-eqb, eqb-true}
use Rattle.idle_notes.specs.declared.sets.Subsystems.{Subsystems}
use Rattle.idle_notes.specs.declared.subsystem.Subsystem.{Subsystem}
use Rattle.idle_notes.specs.declared.subsystem.Subsystem.TheVariants.{Database, Update, StoredPlaylist, Playlist, Player, Mixer, Output, Options, Sticker, Subscription, Message, Partition}
use Rattle.idle_notes.specs.Names.{changed_lines}
use Rattle.mpd_text.specs.declared.songs.song.TagName.{TagName}
use Rattle.idle_notes.specs.Notes.{waits, notice_of}
use Rattle.idle_notes.specs.Sets.{union, meet, has, is_nonempty}
use Rattle.transitions.specs.Shelves.{changes_lists, changes_stickers}
use Rattle.mpd_command.specs.declared.command.Command.{Command}
use Rattle.mpd_command.specs.declared.command.Command.TheVariants as command_group
use Rattle.mpd_command.specs.declared.status.StatusCommand.TheVariants as status_command
use Rattle.mpd_command.specs.declared.request.Request.TheVariants.{Run}
use Rattle.player_events.specs.declared.event.Event.TheVariants.{Line}
use Rattle.transitions.specs.declared.asked.ListPlace.TheVariants.{Alone}
use Rattle.player_events.specs.declared.event.Event.{Event}
use Rattle.player_events.specs.declared.event.LogEntry.{LogEntry}
use Rattle.transitions.specs.declared.reply.Move.{Move}
use Rattle.transitions.specs.declared.reply.Move.TheVariants.{Wait, Learn}
use Rattle.transitions.specs.declared.reply.Next.TheVariants.{Goes, Waits}
use Rattle.connected_clients.specs.declared.notices.Notice.{Notice}
use Rattle.player_state.specs.declared.state.Client.{Client}
use Rattle.transitions.specs.Answers.{ResponseData, closes}
use Rattle.connected_clients.specs.Clients.{is_this, notified, move_of, Rising}
use Rattle.status_commands.specs.Status.{idles}
use Rattle.partition.specs.Image.{Image}
use Rattle.transitions.specs.Transitions.{TransitionData}
use Rattle.connected_clients.specs.Clients.{client_of}
use Rattle.player_state.specs.Libraries.{library_after}
use Rattle.partition.specs.Image.{overview}
use Rattle.partition.specs.Step.{moved_client, transition, transition_of, transition_line, written_transition, index_at, raised_of, report_at, sender, sender_in, sender_number, after_transition, told_by}
use Rattle.partition_table.specs.Parts.{part_at}
use Rattle.player_state.specs.declared.effect.CommandEffect.TheVariants.{Rests}
use Rattle.player_state.specs.declared.effect.Effect.TheVariants.{ByCommand}
use Rattle.player_state.specs.declared.state.Part.{Part}
use Rattle.mpd_command.specs.declared.request.Request.{Request}
use Rattle.partition.specs.World.{Listener, PartWorld, WorldTransition, Trace, Differs, DiffersBetween, DiffersForAll, DiffersWithin, IsPending, raised_at, is_there, is_learning, is_told, begins_anew, part_in, part_world_after, parts_changed, pending_for, index_of, client_in, listener_of, image_of, world_at, worlds_moved, world_after_transition}
use Rattle.partition.specs.Notices.{Raises, IsIn, Listens, WaitsFor, HasChanged, Meets, HasNews, IsSent, IsClear, Asks, IsToldNews, Tells}
use Rattle.partition.proofs.Asking.{wish_is, transition_idle, Quiet, quiet_unheard, quiet_unwaiting, IsAsking, kind_of, is_found, of_any, notified_some, does_some, of_moved}
use Rattle.partition.proofs.Members.{in_map, of_map, any_in, same_sets, has_meet, has_some, is_some}
use Rattle.partition.proofs.Parts.{raised_differ, agree}
use Rattle.partition.proofs.Pending.{has_union, has_none, pending_more, reads_pending}
use Rattle.connected_clients.proofs.Rises.{rising_staying}
use Rattle.partition.proofs.Sends.{found, news, rests_unwaiting, speaks, waiter_rests, notices_rise, does, does_keeps, does_other, does_none, does_wait, notified_none, told_none, untold_waits, is_other_sender, of_sent, is_sent, kept, kept_was, others_kept, open_kept, lands, there_kept}
use Rattle.partition.proofs.Worlds.{AllBegun, raised_by_number}

both : (a b : Bool) → a ≡ true → b ≡ true → (a && b) ≡ true
both true b e f = f
both false b e f = e

parts : (a b : Bool) → (a && b) ≡ true → (a ≡ true) × (b ≡ true)
parts true b e = (refl, e)
parts false b e = cc

either : (a b : Bool) → (a || b) ≡ true → (a ≡ true) ⊎ (b ≡ true)
either true b e = inl refl
either false b e = inr e

one_of : (a b : Bool) → (a ≡ true) ⊎ (b ≡ true) → (a || b) ≡ true
one_of true b e = refl
one_of false b (inl e) = cc
one_of false b (inr e) = e

-- a client whose set began anew has nothing pending
nothing_pending : (number : ℕ) (m : WorldTransition) (ms : List WorldTransition) → begins_anew number m ≡ true → (x : Subsystem) → IsPending number x (m ∷ ms) → ⊥
nothing_pending number m ms e x p =
    let has_it : has (pending_for number (m ∷ ms)) x ≡ true = (reads_pending number x (m ∷ ms)).1 p in
    let clash : false ≡ true = sym (has_none x) ∙ sym (ap (λ s. has s x) (pending_more number m ms true e)) ∙ has_it in
    cc

anew : (there : Bool) (a b : Bool) → (a ≡ true) ⊎ (b ≡ true) → (not there || (a || b)) ≡ true
anew false a b e = refl
anew true a b e = one_of a b e

-- what nothing happens to is as it was
rests_one : (rate : ℕ) (p : PartWorld) → part_world_after rate (part_in p) p (ByCommand Rests) ≡ p
rests_one rate p = refl

rests_same : (rate index : ℕ) (ps : List PartWorld) → parts_changed rate index (ByCommand Rests) ps ≡ ps
rests_same rate index [] = refl
rests_same rate index (p ∷ ps) =
    elim (p.index == index) as (λ b. (if b then part_world_after rate (part_in p) p (ByCommand Rests) ∷ ps else p ∷ parts_changed rate index (ByCommand Rests) ps) ≡ p ∷ ps)
    [ true ↦ ap (λ (q : PartWorld). q ∷ ps) (rests_one rate p) | false ↦ ap (λ (l : List PartWorld). p ∷ l) (rests_same rate index ps) ]

none_within : (number : ℕ) (x : Subsystem) (p : PartWorld) → DiffersWithin number x p p → ⊥
none_within number Playlist p e = e refl
none_within number Player p e = e refl
none_within number Mixer p e = e refl
none_within number Output p e = e refl
none_within number Options p e = e refl
none_within number Subscription p e = e refl
none_within number Message p e = e.1 e.0
none_within number Database p e = e
none_within number Update p e = e
none_within number StoredPlaylist p e = e
none_within number Sticker p e = e
none_within number Partition p e = e

none_between : (number : ℕ) (x : Subsystem) (o : Option PartWorld) → DiffersBetween number x o o → ⊥
none_between number x None e = e
none_between number x (Some p) e = none_within number x p e

-- the transition of an event in a trace
abbrev pub world_transition_of : Trace → List LogEntry → Event → WorldTransition
world_transition_of trace done event =
    let i : Image = image_of trace done in
    let t : TransitionData = transition i event in
    record { before = trace.world; event = event; transition = t; notices = (told_by i event t).notices; report = report_at i event t; after = world_after_transition trace.world i event t }

module _ (trace : Trace) (done : List LogEntry) (event : Event) (above : 1 ≤ trace.world.openings.greatest.max_version) (begun : AllBegun trace.world.parts)
    (rising : Rising (image_of trace done).clients) where
  abbrev i : Image
  i = image_of trace done

  abbrev t : TransitionData
  t = transition i event

  abbrev r : Client → Subsystems
  r = raised_of i event t

  abbrev ms : List WorldTransition
  ms = trace.world_transitions

  abbrev n : ℕ
  n = sender_number event

  abbrev m : WorldTransition
  m = world_transition_of trace done event

  abbrev part : Option Part
  part = part_at (index_at i event) i.parts

  -- what is raised for a client is what is raised for the one of its number
  by_number : (k : Client) → IsIn k i.clients → r k ≡ raised_at k.number m
  by_number k among_them = raised_by_number trace done event above begun rising k among_them

  pub raises : Raises m
  raises = record { each = λ number x. raised_differ number m x; all = λ none none_within. agree trace.world i event t m.notices m.report none none_within }

  differs : (number : ℕ) (x : Subsystem) → (has (raised_at number m) x ≡ true) ↔ Differs number x m
  differs number x = raised_differ number m x

  -- what of a named set changed, by the flags
  abbrev news_of : ℕ → Subsystems → Subsystems
  news_of number named = meet (union (pending_for number ms) (raised_at number m)) named

  changes : (number : ℕ) (named : Subsystems) (x : Subsystem) → (has (news_of number named) x ≡ true) ↔ ((has named x ≡ true) × HasChanged number x m ms)
  changes number named x =
      let pending : Subsystems = pending_for number ms in
      let own : Subsystems = raised_at number m in
      let meets : has (news_of number named) x ≡ (has (union pending own) x && has named x) = has_meet (union pending own) named x in
      let joins : has (union pending own) x ≡ (has pending x || has own x) = has_union pending own x in (
        λ e. (let p = parts _ _ (sym meets ∙ e) in (
          p.1,
          elim (either _ _ (sym joins ∙ p.0)) [ inl q ↦ inl ((reads_pending number x ms).0 q) | inr q ↦ inr ((differs number x).0 q) ],
        )),
        λ p. meets ∙ both _ _ (joins ∙ one_of _ _ (elim p.1 as (λ _. (has pending x ≡ true) ⊎ (has own x ≡ true))
            [ inl q ↦ inl ((reads_pending number x ms).1 q) | inr q ↦ inr ((differs number x).1 q) ])) p.0,
      )

  meets_of : (number : ℕ) (named : Subsystems) → is_nonempty (news_of number named) ≡ true → Meets number named (news_of number named) m ms
  meets_of number named e = record { each = changes number named; some = has_some (news_of number named) e }

  meets_is : (number : ℕ) (named names : Subsystems) → Meets number named names m ms → (names ≡ news_of number named) × (is_nonempty (news_of number named) ≡ true)
  meets_is number named names meets =
      let same : names ≡ news_of number named =
      same_sets names (news_of number named)
      (λ x. (λ e. (changes number named x).1 ((meets.each x).0 e), λ e. (meets.each x).1 ((changes number named x).0 e))) in (
        same,
        ap is_nonempty (sym same) ∙ is_some names meets.some.0 meets.some.1,
      )

  -- a client of the world, and of its image
  abbrev client : ℕ → ℕ → List TagName → Option Subsystems → Client
  client number index tags waiting = client_in ms (record { number = number; index = index; tags = tags; waiting = waiting })

  abbrev client_of_this : (number : ℕ) (waiting : Option Subsystems) → Listens number waiting trace.world → Client
  client_of_this number waiting e = client number e.0 e.1 waiting

  listed : (number : ℕ) (waiting : Option Subsystems) (e : Listens number waiting trace.world) → IsIn (client_of_this number waiting e) i.clients
  listed number waiting e = in_map (client_in ms) (record { number = number; index = e.0; tags = e.1; waiting = waiting }) trace.world.clients e.2

  -- what a client that waits is told, by its number
  news_is : (number index : ℕ) (tags : List TagName) (named : Subsystems) → IsIn (client number index tags (Some named)) i.clients
      → news n r (client number index tags (Some named)) ≡ news_of number named
  news_is number index tags named among_them =
      ap (λ (s : Subsystems). meet (union (pending_for number ms) s) named) (by_number (client number index tags (Some named)) among_them)

  -- where a client is after the event
  after_of : (k : Client) (number : ℕ) (waiting : Option Subsystems) → IsIn k (kept n r t.response i.clients) → k.number ≡ number
      → (does n r (move_of t.response) (notified r k)).pending.waiting ≡ waiting → Listens number waiting m.after
  after_of k number waiting e same w =
      let after : Client = does n r (move_of t.response) (notified r k) in
      let is : listener_of after ≡ record { number = number; index = after.index; tags = after.tags; waiting = waiting } =
      λ j. record { number = (does_keeps n r (move_of t.response) (notified r k) ∙ same) j; index = after.index; tags = after.tags; waiting = w j } in (
        after.index,
        after.tags,
        subst (λ (l : Listener). IsIn l m.after.clients) is (in_map listener_of after (after_transition i event t).clients (lands n r t.response i.clients k e)),
      )

  -- what is sent is news
  from_listener : (number index : ℕ) (tags : List TagName) (waiting : Option Subsystems)
      → IsIn (record { number = number; index = index; tags = tags; waiting = waiting }) trace.world.clients
      → IsIn (client number index tags waiting) (kept n r t.response i.clients) → is_nonempty (news n r (client number index tags waiting)) ≡ true
      → HasNews number (news n r (client number index tags waiting)) m ms
  from_listener number index tags None e k full = (let clash : false ≡ true = full in cc)
  from_listener number index tags (Some named) e k full =
      let own : Client = client number index tags (Some named) in
      let is : news n r own ≡ news_of number named = news_is number index tags named (listed number (Some named) (index, tags, e)) in
      record {
        named = named;
        waited = (index, tags, e);
        stays = ((does n r (move_of t.response) (notified r own)).pending.waiting, after_of own number _ k refl refl);
        meets = subst (λ (s : Subsystems). Meets number named s m ms) (sym is) (meets_of number named (ap is_nonempty (sym is) ∙ full));
      }

  sent_news : (number : ℕ) (names : Subsystems) → IsSent number names m → HasNews number names m ms
  sent_news number names e =
      let s = of_sent n r t.response i.clients number names e in
      let was = of_map (client_in ms) s.0 trace.world.clients (kept_was n r t.response i.clients s.0 s.1) in
      let l : Listener = was.0 in
      let back : s.0 ≡ client_in ms l = sym was.2 in
      let has_news : HasNews l.number (news n r (client_in ms l)) m ms =
      from_listener l.number l.index l.tags l.waiting was.1 (rw back at s.1) (rw back at s.2) in
      let number_is : l.number ≡ number = ap (λ (c : Client). c.number) was.2 ∙ s.3 in
      let names_are : news n r (client_in ms l) ≡ names = ap (news n r) was.2 ∙ s.4 in
      subst (λ (s : Subsystems). HasNews number s m ms) names_are (subst (λ (x : ℕ). HasNews x (news n r (client_in ms l)) m ms) number_is has_news)

  news_sent : (number : ℕ) (names : Subsystems) → HasNews number names m ms → IsSent number names m
  news_sent number names told =
      let k : Client = client_of_this number (Some told.named) told.waited in
      let was : IsIn k i.clients = listed number (Some told.named) told.waited in
      let there = told.stays.1 in
      let after = of_map listener_of (record { number = number; index = there.0; tags = there.1; waiting = told.stays.0 }) (after_transition i event t).clients there.2 in
      let stays : IsIn k (kept n r t.response i.clients) =
      there_kept n r t.response i.clients k after.0 was after.1 (ap (λ (l : Listener). l.number) after.2) in
      let is = meets_is number told.named names told.meets in
      let news_are : news n r k ≡ news_of number told.named = news_is number told.waited.0 told.waited.1 told.named was in
      subst (λ (s : Subsystems). IsSent number s m) (news_are ∙ sym is.0) (is_sent n r t.response i.clients k stays (ap is_nonempty news_are ∙ is.1))

  -- a client that waits does not begin to wait by its own event, nor by one that comes from no client
  unwaiting : (own : Client) (named more : Subsystems) → client_of n i.clients ≡ Some own → own.pending.waiting ≡ Some named → move_of t.response ≡ Wait more → ⊥
  unwaiting own named more found_it waits_named moves =
      let spoken : sender_in i.clients event ≡ Some own = speaks i.clients event own (Wait more) (λ e. cc) found_it (overview i) part i.shared.library moves in
      rests_unwaiting (move_of t.response) more (waiter_rests (overview i) part i.shared.library own named waits_named event (sender_in i.clients event) spoken) moves

  sent_clear : (number : ℕ) (names : Subsystems) → IsSent number names m → IsClear number m ms
  sent_clear number names e =
      let s = of_sent n r t.response i.clients number names e in
      let k : Client = s.0 in
      let told : HasNews number names m ms = sent_news number names e in
      let own : Client = client_of_this number (Some told.named) told.waited in
      let was : IsIn own i.clients = listed number (Some told.named) told.waited in
      let waited : client_of number i.clients ≡ Some own = found own i.clients rising was in
      let free : (more : Subsystems) → move_of t.response ≡ Wait more → k.number ≡ n → ⊥ =
      λ more moves same.
      unwaiting own told.named more (ap (λ (x : ℕ). client_of x i.clients) (sym same ∙ s.3) ∙ waited) refl moves in
      record {
        waits = after_of k number None s.1 s.3 (does_none n r (move_of t.response) (notified r k) (told_none n r k s.2) free);
        pending = nothing_pending number m ms
            (anew (is_there number trace.world) (list_any (λ (x : Notice). x.client == number) m.notices) ((number == n) && is_learning (move_of t.response))
            (inl (any_in (λ (x : Notice). x.client == number) (record { client = number; names = names }) m.notices e (eq-eqb number number refl))));
      }

  -- a client that waits, stays and makes no move waits on, if it is sent nothing
  still : (number index : ℕ) (tags : List TagName) (named : Subsystems) → ((names : Subsystems) → IsSent number names m → ⊥)
      → IsIn (client number index tags (Some named)) (kept n r t.response i.clients)
      → does n r (move_of t.response) (notified r (client number index tags (Some named))) ≡ notified r (client number index tags (Some named)) → WaitsFor number named m.after
  still number index tags named unsent stays unmoved =
      let k : Client = client number index tags (Some named) in
      let cases : (b : Bool) → is_nonempty (news n r k) ≡ b → WaitsFor number named m.after =
      λ b. elim b as (λ b. is_nonempty (news n r k) ≡ b → WaitsFor number named m.after) [
        | true ↦ λ e. absurd (unsent (news n r k) (is_sent n r t.response i.clients k stays e))
        | false ↦ λ e.
            after_of k number (Some named) stays refl
            (ap (λ (c : Client). c.pending.waiting) unmoved ∙ untold_waits n r k e)
      ] in
      cases (is_nonempty (news n r k)) refl

  on : (number : ℕ) (named : Subsystems) → sender m.event ≢ Some number → WaitsFor number named m.before → ((names : Subsystems) → IsSent number names m → ⊥)
      → WaitsFor number named m.after
  on number named other waited unsent =
      let k : Client = client_of_this number (Some named) waited in
      elim (is_other_sender (overview i) part i.shared.library (sender_in i.clients event) event number other) [
        | inl apart ↦ still number waited.0 waited.1 named unsent (others_kept n r t.response i.clients k (listed number (Some named) waited) apart)
            (does_other n r (move_of t.response) (notified r k) apart)
        | inr unsaid ↦ still number waited.0 waited.1 named unsent (open_kept n r t.response i.clients k (listed number (Some named) waited) (ap (λ (s : ResponseData). closes s.answer.next) unsaid))
            (ap (λ (s : ResponseData). does n r (move_of s) (notified r k)) unsaid)
      ]

  -- what a client that asks is told
  module _ (number : ℕ) (named : Subsystems) (asks : Asks number named m) where
    abbrev k : Client
    k = client_of_this number None asks.free

    abbrev d : Subsystems
    d = meet (pending_for number ms) named

    abbrev request : Request
    request = Run asks.name (command_group.Status (status_command.Idle named))

    there : client_of number i.clients ≡ Some k
    there = found k i.clients rising (listed number None asks.free)

    spoken : sender_in i.clients event ≡ Some k
    spoken = ap (sender_in i.clients) asks.event ∙ there

    transition_is : t ≡ transition_idle k named
    transition_is =
        ap (transition_of (overview i) part i.shared.library (sender_in i.clients event)) asks.event
        ∙ ap (λ (o : Option Client). written_transition Alone request asks.heard.refused (transition_line (overview i) part i.shared.library o Alone request asks.heard.read)) spoken

    pub speaks_for : n ≡ number
    speaks_for = ap sender_number asks.event

    -- it goes nowhere, and no partition changes
    goes_nowhere : (o : Option Subsystems) → notice_of (waits named k.pending) ≡ o → moved_client n t.response ≡ None
    goes_nowhere None e = ap (λ (u : TransitionData). moved_client n u.response) transition_is ∙ ap (λ (o : Option Subsystems). moved_client n (idles named o)) e
    goes_nowhere (Some more) e = ap (λ (u : TransitionData). moved_client n u.response) transition_is ∙ ap (λ (o : Option Subsystems). moved_client n (idles named o)) e

    parts_stay : m.after.parts ≡ trace.world.parts
    parts_stay =
        ap (λ (u : TransitionData). worlds_moved u.crossing (parts_changed trace.world.library.rate (index_at i event) u.effect trace.world.parts)) transition_is
        ∙ rests_same trace.world.library.rate (index_at i event) trace.world.parts

    none_for_all : (x : Subsystem) → DiffersForAll x m → ⊥
    none_for_all Database e = e (ap (λ (u : TransitionData). (library_after trace.world.library u.scan).songs) (sym transition_is))
    none_for_all Update e = e (ap (λ (u : TransitionData). (library_after trace.world.library u.scan).scan.runs) (sym transition_is))
    none_for_all StoredPlaylist e = (let clash : true ≡ false = sym e ∙ ap (λ (u : TransitionData). changes_lists u.written) transition_is in cc)
    none_for_all Sticker e = (let clash : true ≡ false = sym e ∙ ap (λ (u : TransitionData). changes_stickers u.written) transition_is in cc)
    none_for_all Partition e = e (ap (λ (ps : List PartWorld). map (λ (p : PartWorld). p.name) ps) (sym parts_stay))
    none_for_all Playlist e = e
    none_for_all Player e = e
    none_for_all Mixer e = e
    none_for_all Output e = e
    none_for_all Options e = e
    none_for_all Subscription e = e
    none_for_all Message e = e

    same_parts : (x : Subsystem) → Differs number x m → ⊥
    same_parts x (inl goes) =
        (let clash : false ≡ true = sym (ap (λ (g : Option ℕ). is_this g number) (goes_nowhere (notice_of (waits named k.pending)) refl)) ∙ goes in cc)
    same_parts x (inr (inl e)) = none_for_all x e
    same_parts x (inr (inr e)) =
        let index : ℕ = index_of number trace.world.clients in
        none_between number x (world_at index trace.world.parts)
        (subst (λ (ps : List PartWorld). DiffersBetween number x (world_at index trace.world.parts) (world_at index ps)) parts_stay e)

    asked : (x : Subsystem) → (has d x ≡ true) ↔ ((has named x ≡ true) × HasChanged number x m ms)
    asked x =
        let pending : Subsystems = pending_for number ms in
        let meets : has d x ≡ (has pending x && has named x) = has_meet pending named x in (
          λ e. (let p = parts _ _ (sym meets ∙ e) in (p.1, inl ((reads_pending number x ms).0 p.0))),
          λ p. meets ∙ both _ _ (elim p.1 as (λ _. has pending x ≡ true) [ inl q ↦ (reads_pending number x ms).1 q | inr q ↦ absurd (same_parts x q) ]) p.0,
        )

    said_is : (o : Option Subsystems) → notice_of (waits named k.pending) ≡ o → t.response ≡ idles named o
    said_is o e = ap (λ (u : TransitionData). u.response) transition_is ∙ ap (idles named) e

    stays : closes t.response.answer.next ≡ false → IsIn k (kept n r t.response i.clients)
    stays e = open_kept n r t.response i.clients k (listed number None asks.free) e

    heard_none : (notified r k).pending.waiting ≡ None
    heard_none = notified_none n r k refl

    pub at_once : (names : Subsystems) → Meets number named names m ms
        → (t.response.answer ≡ record { text = changed_lines names ++ codes "OK\n"; next = Goes; refused = false }) × IsClear number m ms
    at_once names meets =
        let same : names ≡ d =
        same_sets names d (λ x. (λ e. (asked x).1 ((meets.each x).0 e), λ e. (meets.each x).1 ((asked x).0 e))) in
        let full : is_nonempty d ≡ true = ap is_nonempty (sym same) ∙ is_some names meets.some.0 meets.some.1 in
        let response : t.response ≡ idles named (Some d) = said_is (Some d) (rw full refl) in
        let moves : move_of t.response ≡ Learn = ap move_of response in
        let goes : closes t.response.answer.next ≡ false = ap (λ (s : ResponseData). closes s.answer.next) response in
        let free : (more : Subsystems) → move_of t.response ≡ Wait more → (notified r k).number ≡ n → ⊥ =
        λ more waits_more same_number. (let clash : Learn ≡ Wait more = sym moves ∙ waits_more in cc) in (
          ap (λ (s : ResponseData). s.answer) response ∙ ap (λ (s : Subsystems). record { text = changed_lines s ++ codes "OK\n"; next = Goes; refused = false }) (sym same),
          record {
            waits = after_of k number None (stays goes) refl (does_none n r (move_of t.response) (notified r k) heard_none free);
            pending = nothing_pending number m ms
                (anew (is_there number trace.world) (list_any (λ (x : Notice). x.client == number) m.notices) ((number == n) && is_learning (move_of t.response))
                (inr (both _ _ (eq-eqb number n (sym speaks_for)) (ap is_learning moves))));
          },
        )

    pub waits_for : ((x : Subsystem) → has named x ≡ true → HasChanged number x m ms → ⊥)
        → (t.response.answer ≡ record { text = []; next = Waits; refused = false }) × WaitsFor number named m.after
    waits_for nothing =
        let cases : (b : Bool) → is_nonempty d ≡ b → is_nonempty d ≡ false =
        λ b. elim b as (λ b. is_nonempty d ≡ b → is_nonempty d ≡ false) [
          | true ↦ λ e. (let one = has_some d e in let p = (asked one.0).0 one.1 in absurd (nothing one.0 p.0 p.1))
          | false ↦ λ e. e
        ] in
        let empty : is_nonempty d ≡ false = cases (is_nonempty d) refl in
        let response : t.response ≡ idles named None = said_is None (rw empty refl) in
        let moves : move_of t.response ≡ Wait named = ap move_of response in
        let goes : closes t.response.answer.next ≡ false = ap (λ (s : ResponseData). closes s.answer.next) response in (
          ap (λ (s : ResponseData). s.answer) response,
          after_of k number (Some named) (stays goes) refl
              (ap (λ (v : Move). (does n r v (notified r k)).pending.waiting) moves ∙ does_wait n r named (notified r k) (sym speaks_for)),
        )

    pub is_full : (move_of t.response ≡ Wait named → ⊥) → Meets number named d m ms
    is_full not_waiting =
        let cases : (b : Bool) → is_nonempty d ≡ b → Meets number named d m ms =
        λ b. elim b as (λ b. is_nonempty d ≡ b → Meets number named d m ms) [
          | true ↦ λ e. record { each = asked; some = has_some d e }
          | false ↦ λ e. absurd (not_waiting (ap move_of (said_is None (rw e refl))))
        ] in
        cases (is_nonempty d) refl

    pub wait_names : (more : Subsystems) → move_of t.response ≡ Wait more → named ≡ more
    wait_names more w =
        let cases : (b : Bool) → is_nonempty d ≡ b → named ≡ more =
        λ b. elim b as (λ b. is_nonempty d ≡ b → named ≡ more) [
          | true ↦ λ e. (let clash : Learn ≡ Wait more = sym (ap move_of (said_is (Some d) (rw e refl))) ∙ w in cc)
          | false ↦ λ e. (let same : Wait named ≡ Wait more = sym (ap move_of (said_is None (rw e refl))) ∙ w in cc)
        ] in
        cases (is_nonempty d) refl

  kind : Quiet (move_of t.response) ⊎ IsAsking i.clients event
  kind = kind_of (overview i) part i.shared.library i.clients event

  asks_of : (a : IsAsking i.clients event) → Asks a.number a.named m
  asks_of a =
      let is = is_found a.number a.client i.clients a.found in
      let was = of_map (client_in ms) a.client trace.world.clients is.0 in
      let number : was.0.number ≡ a.number = ap (λ (c : Client). c.number) was.2 ∙ is.1 in
      let free : was.0.waiting ≡ None = ap (λ (c : Client). c.pending.waiting) was.2 ∙ a.free in
      let same : was.0 ≡ record { number = a.number; index = was.0.index; tags = was.0.tags; waiting = None } =
      λ j. record { number = number j; index = was.0.index; tags = was.0.tags; waiting = free j } in
      record { name = a.name; heard = a.heard; event = a.is ∙ ap (λ (c : Command). Line a.number Alone (Run a.name c) a.heard) (wish_is a.command a.named a.wish); free = (was.0.index, was.0.tags, subst (λ (l : Listener). IsIn l trace.world.clients) same was.1) }

  told_news : (number : ℕ) → is_told number m ≡ true → IsToldNews number m ms
  told_news number e =
      elim (either (list_any (λ (x : Notice). x.client == number) m.notices) ((number == n) && is_learning (move_of t.response)) e) [
        | inl sent ↦
            (let x = of_any (λ (x : Notice). x.client == number) m.notices sent in
            let same : x.0 ≡ record { client = number; names = x.0.names } = λ j. record { client = eqb-true x.0.client number x.2 j; names = x.0.names } in
            inl (x.0.names, subst (λ (y : Notice). IsIn y m.notices) same x.1))
        | inr own ↦
            (let p = parts (number == n) (is_learning (move_of t.response)) own in
            elim kind [
              | inl quiet ↦ absurd (quiet_unheard (move_of t.response) quiet p.1)
              | inr a ↦
                  (let asks : Asks a.number a.named m = asks_of a in
                  let same : a.number ≡ number = sym (speaks_for a.number a.named asks) ∙ sym (eqb-true number n p.0) in
                  let not_waiting : move_of t.response ≡ Wait a.named → ⊥ = λ w. (let clash : true ≡ false = sym p.1 ∙ ap is_learning w in cc) in
                  subst (λ (x : ℕ). IsToldNews x m ms) same
                  (inr (a.named, meet (pending_for a.number ms) a.named, asks, is_full a.number a.named asks not_waiting)))
            ])
      ]

  begins : (number : ℕ) (named : Subsystems) → WaitsFor number named m.after → WaitsFor number named m.before ⊎ Asks number named m
  begins number named e =
      let from = of_map listener_of (record { number = number; index = e.0; tags = e.1; waiting = Some named }) (after_transition i event t).clients e.2 in
      let waits_after : from.0.pending.waiting ≡ Some named = ap (λ (l : Listener). l.waiting) from.2 in
      let c = of_moved n r (move_of t.response) from.0 (map (notified r) (kept n r t.response i.clients)) named from.1 waits_after in
      let k = of_map (notified r) c.0 (kept n r t.response i.clients) c.1 in
      let l = of_map (client_in ms) k.0 trace.world.clients (kept_was n r t.response i.clients k.0 k.1) in
      let c_number : c.0.number ≡ number =
      sym (does_keeps n r (move_of t.response) c.0) ∙ ap (λ (x : Client). x.number) c.2 ∙ ap (λ (x : Listener). x.number) from.2 in
      let l_number : l.0.number ≡ number = ap (λ (x : Client). x.number) l.2 ∙ ap (λ (x : Client). x.number) k.2 ∙ c_number in
      elim (does_some n r (move_of t.response) c.0 named (ap (λ (x : Client). x.pending.waiting) c.2 ∙ waits_after)) [
        | inl w ↦
            (let waited : l.0.waiting ≡ Some named =
            ap (λ (x : Client). x.pending.waiting) l.2 ∙ notified_some n r k.0 named (ap (λ (x : Client). x.pending.waiting) k.2 ∙ w) in
            let same : l.0 ≡ record { number = number; index = l.0.index; tags = l.0.tags; waiting = Some named } =
            λ j. record { number = l_number j; index = l.0.index; tags = l.0.tags; waiting = waited j } in
            inl (l.0.index, l.0.tags, subst (λ (x : Listener). IsIn x trace.world.clients) same l.1))
        | inr w ↦ elim kind [
          | inl quiet ↦ absurd (quiet_unwaiting (move_of t.response) named quiet w.0)
          | inr a ↦
              (let asks : Asks a.number a.named m = asks_of a in
              let names : a.named ≡ named = wait_names a.number a.named asks named w.0 in
              let same : a.number ≡ number = sym (speaks_for a.number a.named asks) ∙ sym w.1 ∙ c_number in
              inr (subst (λ (x : ℕ). Asks x named m) same (subst (λ (s : Subsystems). Asks a.number s m) names asks)))
        ]
      ]

  pub tells : Tells m ms
  tells =
      record {
        sent = λ number names. (sent_news number names, news_sent number names);
        clear = sent_clear;
        rising = notices_rise n r (kept n r t.response i.clients) (rising_staying n t.response i.clients rising);
        waits_on = on;
        answered = λ number named names asks meets. at_once number named asks names meets;
        waits = λ number named asks nothing. waits_for number named asks nothing;
        begins = begins;
        told = told_news;
      }
