-- Command lists that run request by request.
use Rattle.std.proofs.Common.{◌≡◌, ◌⊎◌, inl, inr, ℕ, suc, ◌+◌, ◌≤◌, true, false, Option, Some, None, List, [], ◌∷◌, ◌++◌, length, map, take, refl, ap, sym, subst, ◌∙◌, append_assoc, append-nil, arith, if◌then◌else◌}
use Rattle.std.specs.Prelude.{slice_get, slice_index_or}
use Rattle.std.specs.Option.{ForSome}
use Rattle.std.proofs.lemmas.List.{map-append, length-append}
use Rattle.std.proofs.Math.Seq.{take-append_seam}
use Rattle.command_lists.specs.declared.word.ListForm.{ListForm}
use Rattle.mpd_command.specs.Requests.{name_in}
use Rattle.mpd_command.specs.declared.request.Request.{Request}
use Rattle.shelf.specs.Calls.{Call}
use Rattle.shelf.specs.Maps.{Standing}
use Rattle.player_events.specs.declared.event.Event.{Event}
use Rattle.player_events.specs.declared.event.Event.TheVariants.{Line}
use Rattle.player_events.specs.declared.event.LogEntry.{LogEntry}
use Rattle.transitions.specs.declared.asked.ListPlace.TheVariants.{InList}
use Rattle.partition.specs.declared.partition.PartitionFault.{PartitionFault}
use Rattle.partition.specs.declared.partition.PartitionFault.TheVariants.{HistoryFull, NoMemory}
use Rattle.transitions.specs.declared.shelf_calls.StoreReply.{StoreReply}
use Rattle.player_events.specs.Outcomes.{OutcomeData}
use Rattle.partition.specs.History.{Chronicle, is_full, joined_by, replay, with_room}
use Rattle.partition.specs.Image.{Image}
use Rattle.partition.specs.Lent.{IsRefused, Records, Refuses, ServesAll, question, writing}
use Rattle.partition.specs.Lists.{Answered, entries_of, AllWithin, Joins, RunsList, StopsList}
use Rattle.player_events.specs.Events.{ends_list}
use Rattle.transitions.specs.Shelves.{Serves, no_store_reply}
use Rattle.player_events.specs.Events.{store_reply_at}
use Rattle.partition.specs.Step.{limit_of, next_image, told}
use Rattle.partition.proofs.Chronicles.{joined-append, replay-append}
use Rattle.partition.proofs.Lending.{wanting}

pub nothing_left : {X : Type 0} (l : List X) → length l ≡ 0 → l ≡ []
nothing_left [] h = refl
nothing_left (x ∷ xs) h = absurd (omega arith)

length-more : {X : Type 0} (xs : List X) (x : X) → length (xs ++ x ∷ []) ≡ length xs + 1
length-more xs x = length-append xs (x ∷ [])

length-map : (done : List LogEntry) → length (map (λ (h : LogEntry). h.told) done) ≡ length done
length-map [] = refl
length-map (h ∷ done) = ap suc (length-map done)

-- the place of the next request is the number of those that ran
place_is : (tolds : List OutcomeData) (done : List LogEntry) → tolds ≡ map (λ (h : LogEntry). h.told) done → length tolds ≡ length done
place_is tolds done e = ap length e ∙ length-map done

told_more : (tolds tolds' : List OutcomeData) (t : OutcomeData) (done : List LogEntry) (h : LogEntry) → tolds ≡ map (λ (g : LogEntry). g.told) done → h.told ≡ t
    → tolds' ≡ tolds ++ t ∷ [] → tolds' ≡ map (λ (g : LogEntry). g.told) (done ++ h ∷ [])
told_more tolds tolds' t done h were is more =
    more ∙ ap (λ (ts : List OutcomeData). ts ++ t ∷ []) were ∙ ap (λ (u : OutcomeData). map (λ (g : LogEntry). g.told) done ++ u ∷ []) (sym is)
    ∙ sym (map-append (λ (g : LogEntry). g.told) done (h ∷ []))

within_more : (i : Image) (hs : List LogEntry) (h : LogEntry) → AllWithin i hs → limit_of h.seat (replay i hs) h.event ≡ None → AllWithin i (hs ++ h ∷ [])
within_more i [] h all e = (e, tt)
within_more i (g ∷ gs) h all e = (all.0, within_more (next_image g.seat i g.event) gs h all.1 e)

-- one entry more joins
joins_more : (before mid now : Chronicle) (done : List LogEntry) (h : LogEntry)
    → Joins before mid done → limit_of h.seat mid.present h.event ≡ None
    → now.base ≡ (with_room mid).base → now.window ≡ (with_room mid).window ++ h ∷ [] → now.present ≡ next_image h.seat mid.present h.event → now.limit ≡ mid.limit
    → Joins before now (done ++ h ∷ [])
joins_more before mid now done h joins within base window present limit = record {
  chronicle = (λ i. record { base = base i; window = window i; present = present i; limit = limit i })
      ∙ ap (λ (c : Chronicle). joined_by c h) joins.chronicle ∙ sym (joined-append before done h);
  present = present ∙ ap (λ (i : Image). next_image h.seat i h.event) joins.present ∙ sym (replay-append before.present done h);
  within = within_more before.present done h joins.within (ap (λ (i : Image). limit_of h.seat i h.event) (sym joins.present) ∙ within);
}

-- the requests, each before the shelf heard of it
abbrev unheard : List Request → List Answered
unheard requests = map (λ (r : Request). (r, no_store_reply)) requests

asked_unheard : (requests : List Request) → map (λ (a : Answered). a.0) (unheard requests) ≡ requests
asked_unheard [] = refl
asked_unheard (r ∷ rs) = ap (λ l. r ∷ l) (asked_unheard rs)

module _ {S : Type 0} (standing : S → Standing) (failed : S → S → Call → Type 0) (seat client : ℕ) (form : ListForm) where
  -- the entries of requests, from a place on
  abbrev entries : Image → ℕ → List Answered → List LogEntry
  entries i place answered = entries_of seat i client form place answered

  abbrev event_at : ℕ → Request → StoreReply → Event
  event_at place request heard = Line client (InList form place) request heard

  entries_more : (i : Image) (place : ℕ) (request : Request) (heard : StoreReply) (more : List Answered) (t : OutcomeData)
      → t ≡ told i (event_at place request heard) → ends_list t ≡ false
      → entries i place ((request, heard) ∷ more)
      ≡ record { seat = seat; event = event_at place request heard; told = t } ∷ entries (next_image seat i (event_at place request heard)) (place + 1) more
  unfolding entries_of
  entries_more i place request heard more t is goes =
      let goes' : ends_list (told i (event_at place request heard)) ≡ false = rw is at goes in
      rw goes' (ap (λ (u : OutcomeData). record { seat = seat; event = event_at place request heard; told = u } ∷ entries (next_image seat i (event_at place request heard)) (place + 1) more) (sym is))

  entries_last : (i : Image) (place : ℕ) (request : Request) (heard : StoreReply) (more : List Answered) (t : OutcomeData)
      → t ≡ told i (event_at place request heard) → ends_list t ≡ true
      → entries i place ((request, heard) ∷ more) ≡ record { seat = seat; event = event_at place request heard; told = t } ∷ []
  unfolding entries_of
  entries_last i place request heard more t is ends =
      let ends' : ends_list (told i (event_at place request heard)) ≡ true = rw is at ends in
      rw ends' (ap (λ (u : OutcomeData). record { seat = seat; event = event_at place request heard; told = u } ∷ []) (sym is))

  entries_some : (i : Image) (place : ℕ) (a : Answered) (more : List Answered) → 1 ≤ length (entries i place (a ∷ more))
  unfolding entries_of
  entries_some i place a more = omega arith

  -- one entry more is served
  serves_more : (i : Image) (hs : List LogEntry) (h : LogEntry) (old mid new : S) → ServesAll standing failed old mid i hs
      → Serves standing failed mid new (question (replay i hs) h.event) (writing (replay i hs) h.event (store_reply_at h.event)) (store_reply_at h.event)
      → ServesAll standing failed old new i (hs ++ h ∷ [])
  serves_more i [] h old mid new all one =
      (new, subst (λ (s : S). Serves standing failed s new (question i h.event) (writing i h.event (store_reply_at h.event)) (store_reply_at h.event)) all one, refl)
  serves_more i (g ∷ gs) h old mid new all one = (all.0, all.1, serves_more (next_image g.seat i g.event) gs h all.0 mid new all.2 one)

  -- some requests of a list ran, none ended it, and the rest are to come
  pub record Ran (before now : Chronicle) (old new : S) (requests rest : List Request) (tolds : List OutcomeData) : Type 0 where
    pub done : List LogEntry
    pub front : List Answered
    pub joins : Joins before now done
    pub told_are : tolds ≡ map (λ (h : LogEntry). h.told) done
    pub all : (more : List Answered) → entries before.present 0 (front ++ more) ≡ done ++ entries now.present (length done) more
    pub cut : requests ≡ map (λ (a : Answered). a.0) front ++ rest
    pub as_many : length front ≡ length done
    pub shelf : ServesAll standing failed old new before.present done

  -- what an event of a list did
  pub record Does (before now : Chronicle) (old new : S) (place : ℕ) (request : Request) (t : OutcomeData) : Type 0 where
    pub base : now.base ≡ (with_room before).base
    pub limit : now.limit ≡ before.limit
    pub records : Records standing failed before.present now.present (with_room before).window now.window old new seat (event_at place request no_store_reply) t

  -- an event that was applied
  pub does_so : (before now : Chronicle) (old new : S) (place place' : ℕ) (request : Request) (t : OutcomeData) → place ≡ place' → now.base ≡ (with_room before).base → now.limit ≡ before.limit
      → Records standing failed before.present now.present (with_room before).window now.window old new seat (event_at place request no_store_reply) t
      → Does before now old new place' request t
  does_so before now old new place place' request t e base limit records =
      subst (λ (n : ℕ). Does before now old new n request t) e (record { base = base; limit = limit; records = records })

  pub none_ran : (before : Chronicle) (old : S) (requests : List Request) (tolds : List OutcomeData) → tolds ≡ [] → Ran before before old old requests requests tolds
  none_ran before old requests tolds none = record {
    done = [];
    front = [];
    joins = record { chronicle = refl; present = refl; within = tt };
    told_are = none;
    all = λ more. refl;
    cut = refl;
    as_many = refl;
    shelf = refl;
  }

  front_more : (front : List Answered) (request : Request) (heard : StoreReply) (requests rest rest' : List Request)
      → requests ≡ map (λ (a : Answered). a.0) front ++ rest → rest ≡ request ∷ rest'
      → requests ≡ map (λ (a : Answered). a.0) (front ++ (request, heard) ∷ []) ++ rest'
  front_more front request heard requests rest rest' cut first =
      cut ∙ ap (λ (rs : List Request). map (λ (a : Answered). a.0) front ++ rs) first
      ∙ sym (append_assoc (map (λ (a : Answered). a.0) front) (request ∷ []) rest')
      ∙ ap (λ (rs : List Request). rs ++ rest') (sym (map-append (λ (a : Answered). a.0) front ((request, heard) ∷ [])))

  module _ (before mid now : Chronicle) (old between new : S) (requests rest rest' : List Request) (request : Request) (tolds tolds' : List OutcomeData) (t : OutcomeData)
      (ran : Ran before mid old between requests rest tolds) (first : rest ≡ request ∷ rest') (does : Does mid now between new (length tolds) request t)
      (more_told : tolds' ≡ tolds ++ t ∷ []) where
    abbrev heard : StoreReply
    heard = does.records.heard

    abbrev event : Event
    event = event_at (length tolds) request heard

    abbrev h : LogEntry
    h = record { seat = seat; event = event; told = t }

    place : length tolds ≡ length ran.done
    place = place_is tolds ran.done ran.told_are

    longer : length (ran.done ++ h ∷ []) ≡ length ran.done + 1
    longer = length-more ran.done h

    joins : Joins before now (ran.done ++ h ∷ [])
    joins = joins_more before mid now ran.done h ran.joins does.records.within does.base does.records.window does.records.present does.limit

    served : ServesAll standing failed old new before.present (ran.done ++ h ∷ [])
    served =
        serves_more before.present ran.done h old between new ran.shelf
        (subst (λ (i : Image). Serves standing failed between new (question i event) (writing i event heard) heard) ran.joins.present does.records.shelf)

    tolds_are : tolds' ≡ map (λ (g : LogEntry). g.told) (ran.done ++ h ∷ [])
    tolds_are = told_more tolds tolds' t ran.done h ran.told_are refl more_told

    pub ran_more : ends_list t ≡ false → Ran before now old new requests rest' tolds'
    ran_more goes =
        record {
          done = ran.done ++ h ∷ [];
          front = ran.front ++ (request, heard) ∷ [];
          joins = joins;
          told_are = tolds_are;
          all = λ more.
              ap (entries before.present 0) (append_assoc ran.front ((request, heard) ∷ []) more)
              ∙ ran.all ((request, heard) ∷ more)
              ∙ ap (λ (n : ℕ). ran.done ++ entries mid.present n ((request, heard) ∷ more)) (sym place)
              ∙ ap (λ (hs : List LogEntry). ran.done ++ hs) (entries_more mid.present (length tolds) request heard more t does.records.told_is goes)
              ∙ sym (append_assoc ran.done (h ∷ []) (entries (next_image seat mid.present event) (length tolds + 1) more))
              ∙ ap (λ (i : Image). (ran.done ++ h ∷ []) ++ entries i (length tolds + 1) more) (sym does.records.present)
              ∙ ap (λ (n : ℕ). (ran.done ++ h ∷ []) ++ entries now.present n more) (ap (λ n. n + 1) place ∙ sym longer);
          cut = front_more ran.front request heard requests rest rest' ran.cut first;
          as_many = length-more ran.front (request, heard) ∙ ap (λ n. n + 1) ran.as_many ∙ sym longer;
          shelf = served;
        }

    pub ran_last : ends_list t ≡ true → RunsList standing failed before now old new seat client form requests tolds'
    ran_last ends =
        let answered : List Answered = (ran.front ++ (request, heard) ∷ []) ++ unheard rest' in
        let all : entries before.present 0 answered ≡ ran.done ++ h ∷ [] =
        ap (entries before.present 0) (append_assoc ran.front ((request, heard) ∷ []) (unheard rest'))
        ∙ ran.all ((request, heard) ∷ unheard rest')
        ∙ ap (λ (n : ℕ). ran.done ++ entries mid.present n ((request, heard) ∷ unheard rest')) (sym place)
        ∙ ap (λ (hs : List LogEntry). ran.done ++ hs) (entries_last mid.present (length tolds) request heard (unheard rest') t does.records.told_is ends) in
        record {
          answered = answered;
          asked = map-append (λ (a : Answered). a.0) (ran.front ++ (request, heard) ∷ []) (unheard rest')
              ∙ ap (λ (rs : List Request). map (λ (a : Answered). a.0) (ran.front ++ (request, heard) ∷ []) ++ rs) (asked_unheard rest')
              ∙ sym (front_more ran.front request heard requests rest rest' ran.cut first);
          joins = subst (Joins before now) (sym all) joins;
          told = tolds_are ∙ ap (map (λ (g : LogEntry). g.told)) (sym all);
          shelf = subst (ServesAll standing failed old new before.present) (sym all) served;
        }

  pub ran_all : (before now : Chronicle) (old new : S) (requests rest : List Request) (tolds : List OutcomeData)
      → Ran before now old new requests rest tolds → rest ≡ [] → RunsList standing failed before now old new seat client form requests tolds
  unfolding entries_of
  ran_all before now old new requests rest tolds ran none =
      let all : entries before.present 0 ran.front ≡ ran.done =
      ap (entries before.present 0) (sym (append-nil ran.front)) ∙ ran.all [] ∙ append-nil ran.done in
      record {
        answered = ran.front;
        asked = sym (ran.cut ∙ ap (λ (rs : List Request). map (λ (a : Answered). a.0) ran.front ++ rs) none ∙ append-nil (map (λ (a : Answered). a.0) ran.front));
        joins = subst (Joins before now) (sym all) ran.joins;
        told = ran.told_are ∙ ap (map (λ (g : LogEntry). g.told)) (sym all);
        shelf = subst (ServesAll standing failed old new before.present) (sym all) ran.shelf;
      }

  -- the name of the first request that did not run
  name_at : (front rest : List Request) (request : Request) → slice_index_or (map name_in (front ++ request ∷ rest)) (length front) [] ≡ name_in request
  name_at [] rest request = refl
  name_at (r ∷ front) rest request = name_at front rest request

  -- the entry after those that ran
  behind : (done : List LogEntry) (entry : LogEntry) (more : List LogEntry) → slice_get (done ++ entry ∷ more) (length done) ≡ Some entry
  behind [] entry more = refl
  behind (h ∷ done) entry more = behind done entry more

  of_first : (entry : LogEntry) (P : LogEntry → Type 0) (found : Option LogEntry) → found ≡ Some entry → P entry → ForSome found P
  of_first entry P found e p = λ x is. (let both : Some entry ≡ Some x = sym e ∙ is in let same : entry ≡ x = cc in subst P same p)

  length-asked : (front : List Answered) → length (map (λ (a : Answered). a.0) front) ≡ length front
  length-asked [] = refl
  length-asked (a ∷ front) = ap suc (length-asked front)

  pub ran_stop : (before now after : Chronicle) (old between new : S) (requests rest rest' : List Request) (request : Request) (tolds : List OutcomeData) (command : List ℕ) (cause : PartitionFault)
      → Ran before now old between requests rest tolds → rest ≡ request ∷ rest' → command ≡ name_in request
      → Refuses standing failed now after between new seat (event_at (length tolds) request no_store_reply) cause
      → StopsList standing failed before after old new seat client form requests (record { done = length tolds; tolds = tolds; command = command; cause = cause })
  unfolding entries_of
  ran_stop before now after old between new requests rest rest' request tolds command cause ran first named refused =
      let place : length tolds ≡ length ran.done = place_is tolds ran.done ran.told_are in
      let more : List Answered = (request, no_store_reply) ∷ unheard rest' in
      let answered : List Answered = ran.front ++ more in
      let others : List LogEntry = entries now.present (length ran.done) more in
      let all : entries before.present 0 answered ≡ ran.done ++ others = ran.all more in
      let some = entries_some now.present (length ran.done) (request, no_store_reply) (unheard rest') in
      let long = length-append ran.done others in
      let same = ap length all in
      let front : take (length tolds) (entries before.present 0 answered) ≡ ran.done =
      ap (take (length tolds)) all ∙ ap (λ (n : ℕ). take n (ran.done ++ others)) place ∙ take-append_seam ran.done others in
      let entry : LogEntry = record { seat = seat; event = event_at (length ran.done) request no_store_reply; told = told now.present (event_at (length ran.done) request no_store_reply) } in
      let later : List LogEntry = if ends_list entry.told then [] else entries (next_image seat now.present entry.event) (length ran.done + 1) (unheard rest') in
      let cut : requests ≡ map (λ (a : Answered). a.0) ran.front ++ request ∷ rest' = ran.cut ∙ ap (λ (rs : List Request). map (λ (a : Answered). a.0) ran.front ++ rs) first in
      record {
        answered = answered;
        asked = map-append (λ (a : Answered). a.0) ran.front more
            ∙ ap (λ (rs : List Request). map (λ (a : Answered). a.0) ran.front ++ request ∷ rs) (asked_unheard rest') ∙ sym cut;
        middle = now;
        joins = subst (Joins before now) (sym front) ran.joins;
        told = ran.told_are ∙ ap (map (λ (g : LogEntry). g.told)) (sym front);
        more = omega (arith, place, some, long, same);
        command = named ∙ sym (ap (λ (rs : List Request). slice_index_or (map name_in rs) (length tolds) []) cut
            ∙ ap (λ (n : ℕ). slice_index_or (map name_in (map (λ (a : Answered). a.0) ran.front ++ request ∷ rest')) n []) (place ∙ sym ran.as_many ∙ sym (length-asked ran.front))
            ∙ name_at (map (λ (a : Answered). a.0) ran.front) rest' request);
        between = between;
        shelf = subst (ServesAll standing failed old between before.present) (sym front) ran.shelf;
        cause = of_first entry (λ (h : LogEntry). Refuses standing failed now after between new h.seat h.event cause) (slice_get (entries before.present 0 answered) (length tolds))
            (ap (λ (hs : List LogEntry). slice_get hs (length tolds)) all ∙ ap (slice_get (ran.done ++ others)) place ∙ behind ran.done entry later)
            (subst (λ (n : ℕ). Refuses standing failed now after between new seat (event_at n request no_store_reply) cause) place refused);
      }

  -- a list without requests
  pub empty_ran : (c : Chronicle) (old : S) (requests : List Request) → length requests ≡ 0 → RunsList standing failed c c old old seat client form requests []
  unfolding entries_of
  empty_ran c old requests none =
      record {
        answered = [];
        asked = sym (nothing_left requests none);
        joins = record { chronicle = refl; present = refl; within = tt };
        told = refl;
        shelf = refl;
      }

  -- a list whose first request found no memory
  pub first_stop : (c after : Chronicle) (old : S) (requests : List Request) (tolds : List OutcomeData) (command : List ℕ) (cause : PartitionFault)
      → 1 ≤ length requests → tolds ≡ [] → command ≡ slice_index_or (map name_in requests) 0 []
      → ((cause ≡ HistoryFull) × ((is_full c ≡ true) × (after ≡ c))) ⊎ ((cause ≡ NoMemory) × (after ≡ with_room c))
      → StopsList standing failed c after old old seat client form requests (record { done = 0; tolds = tolds; command = command; cause = cause })
  first_stop c after old [] tolds command cause some none named wants = absurd (omega (arith, some))
  first_stop c after old (request ∷ requests) tolds command cause some none named wants =
      let event : Event = event_at (length tolds) request no_store_reply in
      let refuses : Refuses standing failed c after old old seat event cause =
      elim wants [
        | inl w ↦ inl (w.0, (w.1.0, (w.1.1, refl)))
        | inr w ↦ inr (w.1, subst (λ (f : PartitionFault). IsRefused standing failed c.present old old seat event f) (sym w.0) (wanting standing failed seat c.present old event))
      ] in
      subst (λ (n : ℕ). StopsList standing failed c after old old seat client form (request ∷ requests) (record { done = n; tolds = tolds; command = command; cause = cause })) (ap length none)
      (ran_stop c c after old old old (request ∷ requests) (request ∷ requests) requests request tolds command cause
      (none_ran c old (request ∷ requests) tolds none) refl named refuses)
