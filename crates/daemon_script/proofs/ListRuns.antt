-- What a list's commands make of the player and its shelf, by the entries that join its history.
use Rattle.std.proofs.Common.{◌≡◌, ℕ, zero, suc, ◌+◌, ◌<◌, Bool, true, false, List, [], ◌∷◌, ◌++◌, length, map, take, drop, Option, Some, None, refl, ap, sym, ◌∙◌, append-nil, take-append-drop, arith, if◌then◌else◌}
use Rattle.std.specs.Prelude.{◌||◌, ◌==◌, ◌-◌, slice_get, slice_index_or, codes}
use Rattle.std.specs.List.{list_any}
use Rattle.std.specs.Option.{ForSome}
use Rattle.std.proofs.lemmas.Bool.{eq-eqb, ne_eqb}
use Rattle.command_lists.specs.declared.word.ListForm.{ListForm}
use Rattle.mpd_command.specs.Requests.{name_in}
use Rattle.mpd_command.specs.declared.request.Request.{Request}
use Rattle.mpd_text.specs.Answers.Answer.{ack_line}
use Rattle.shelf.specs.declared.memory.MemShelf.{MemShelf}
use Rattle.player_events.specs.Outcomes.{OutcomeData}
use Rattle.transitions.specs.Answers.{closes}
use Rattle.partition.specs.History.{Chronicle, is_full, joined, joined_by}
use Rattle.partition.specs.Image.{Image}
use Rattle.partition.specs.Lent.{ServesAll}
use Rattle.partition.specs.Lists.{Answered, entries_of, fault_text, next_after, next_in, AllWithin, RunsList, Stop, StopsList}
use Rattle.player_events.specs.Events.{ends_list}
use Rattle.transitions.specs.Shelves.{no_store_reply}
use Rattle.player_events.specs.Events.{with_store_reply}
use Rattle.partition.specs.Step.{limit_of, told}
use Rattle.player_events.specs.declared.event.Event.{Event}
use Rattle.player_events.specs.declared.event.Event.TheVariants.{Line}
use Rattle.player_events.specs.declared.event.LogEntry.{LogEntry}
use Rattle.transitions.specs.declared.reply.Next.{Next}
use Rattle.transitions.specs.declared.reply.Next.TheVariants.{Goes, Waits, Closes, Kills}
use Rattle.transitions.specs.declared.asked.ListPlace.TheVariants.{InList}
use Rattle.partition.specs.declared.partition.PartitionFault.{PartitionFault}
use Rattle.partition.specs.declared.partition.PartitionFault.TheVariants.{HistoryFull, CutsAtLimit, AtLimit, NoMemory}
use Rattle.daemon_script.specs.Kinds.{Shelved, images}
use Rattle.daemon_script.specs.declared.memory.Memory.{Memory}
use Rattle.daemon_script.specs.declared.memory.Memory.TheVariants.{Ample, NoneToConnect, NoneToFoldFirst, NoneToRead, NoneToRun, NoneToFold}
use Rattle.daemon_script.specs.Pieces.{RunsWhole, StopsWhole, found_by, stopped_at}
use Rattle.daemon_script.specs.Script.{Found, Enough, NoneFold, NoneRun, read_of, closed_line, end_of, ending_of, fault_of, found_at, list_run, list_step, ListRun}
use Rattle.daemon_script.specs.Shelf.{heard_by}
use Rattle.daemon_script.proofs.Applied.{Gone, beside, goes, joined_beside, left_is, refused, said_so, served_so}
use Rattle.daemon_script.proofs.Served.{contents, never_failed, standing_of}

-- what clients were told at some entries
abbrev tolds_of : List LogEntry → List OutcomeData
tolds_of hs = map (λ (h : LogEntry). h.told) hs

-- what requests asked, before the shelf heard of them
abbrev asked_of : List Answered → List Request
asked_of answered = map (λ (a : Answered). a.0) answered

-- what a list makes of a player, as far as these entries go, with the shelf after them
abbrev ran_to : Chronicle → MemShelf → List LogEntry → List ℕ → ListRun (Shelved Image)
ran_to c s entries ending = record { player = beside (joined c entries) s; tolds = tolds_of entries; ending = ending }

-- one entry before others
before : (c : Chronicle) (s : MemShelf) (h : LogEntry) (entries : List LogEntry) (ending : List ℕ) (rest : ListRun (Shelved Image))
    → rest ≡ ran_to (joined_by c h) s entries ending
    → record rest { tolds = h.told ∷ rest.tolds } ≡ ran_to c s (h ∷ entries) ending
before c s h entries ending rest e = ap (λ (r : ListRun (Shelved Image)). record r { tolds = h.told ∷ r.tolds }) e

-- the same where the list was stopped, which left this
abbrev stopped_to : Shelved Image → List LogEntry → List ℕ → ListRun (Shelved Image)
stopped_to left entries ending = record { player = left; tolds = tolds_of entries; ending = ending }

goes_no_further : (next : Next) (refused : Bool) (end : List ℕ) → (refused || closes next) ≡ true
    → closed_line next ≡ (if closes next then codes "closed\n" else (if (refused || closes next) || false then [] else end))
goes_no_further Goes true end e = refl
goes_no_further Waits true end e = refl
goes_no_further Closes true end e = refl
goes_no_further Kills true end e = refl
goes_no_further Goes false end e = cc
goes_no_further Waits false end e = cc
goes_no_further Closes false end e = refl
goes_no_further Kills false end e = refl

not_closed : (next : Next) (refused : Bool) → (refused || closes next) ≡ false → closes next ≡ false
not_closed Goes refused e = refl
not_closed Waits refused e = refl
not_closed Closes true e = cc
not_closed Closes false e = cc
not_closed Kills true e = cc
not_closed Kills false e = cc

goes_to_end : (closed ended : Bool) (end : List ℕ) → closed ≡ false → ended ≡ false
    → end ≡ (if closed then codes "closed\n" else (if ended || false then [] else end))
goes_to_end true ended end c e = cc
goes_to_end false true end c e = cc
goes_to_end false false end c e = refl

goes_past : (closed ended any_ended : Bool) (end : List ℕ) → ended ≡ false
    → (if closed then codes "closed\n" else (if any_ended then [] else end))
    ≡ (if closed then codes "closed\n" else (if ended || any_ended then [] else end))
goes_past closed true any_ended end e = cc
goes_past true false any_ended end e = refl
goes_past false false any_ended end e = refl

-- the last answer of several is that of all but the first
last_of_more : (t u : OutcomeData) (us : List OutcomeData) → next_after (t ∷ u ∷ us) ≡ next_after (u ∷ us)
last_of_more t u us =
    let places : length (t ∷ u ∷ us) - 1 ≡ suc (length (u ∷ us) - 1) = omega arith in
    ap (λ (k : ℕ). next_in (slice_get (t ∷ u ∷ us) k)) places

-- a command that does not end its list leaves to those after it what follows the answers
ending_after : (t : OutcomeData) (ts : List OutcomeData) (end : List ℕ) → ends_list t ≡ false → ending_of end ts ≡ ending_of end (t ∷ ts)
ending_after t [] end e = goes_to_end (closes t.answer.next) (ends_list t) end (not_closed t.answer.next t.answer.refused e) e
ending_after t (u ∷ us) end e =
    goes_past (closes (next_after (u ∷ us))) (ends_list t) (list_any ends_list (u ∷ us)) end e
    ∙ ap (λ (next : Next). if closes next then codes "closed\n" else (if ends_list t || list_any ends_list (u ∷ us) then [] else end)) (sym (last_of_more t u us))

-- the event of a request of a list
abbrev event_at : ℕ → ListForm → ℕ → Answered → Event
event_at number form place a = Line number (InList form place) a.0 a.1

-- the entry of a request of a list
abbrev entry_at : Image → ℕ → ListForm → ℕ → Answered → LogEntry
entry_at i number form place a = record { seat = 0; event = event_at number form place a; told = told i (event_at number form place a) }

-- one request of a list that the shelf served
one : (c : Chronicle) (old new : MemShelf) (number : ℕ) (form : ListForm) (place : ℕ) (a : Answered) (requests : List Request) (found : ℕ → Found) (end : List ℕ)
    → served_so c (event_at number form place a) new a.1 ≡ said_so c (event_at number form place a) old
    → list_run images (beside c old) number form place (a.0 ∷ requests) found end
    ≡ list_step images (beside c old) place a.0 (fault_of (found place) (is_full c) (limit_of 0 c.present (event_at number form place a)))
    (beside (joined_by c (entry_at c.present number form place a)) new) (told c.present (event_at number form place a))
    (list_run images (beside (joined_by c (entry_at c.present number form place a)) new) number form (place + 1) requests found end)
unfolding list_run
one c old new number form place a requests found end same =
    let step : Gone → ListRun (Shelved Image) =
    λ x. list_step images (beside c old) place a.0 (fault_of (found place) (is_full c) x.0) x.1.0 x.1.1 (list_run images x.1.0 number form (place + 1) requests found end) in
    let e : Event = event_at number form place a in
    ap step (sym same)
    ∙ ap (λ (p : Shelved Image). list_step images (beside c old) place a.0 (fault_of (found place) (is_full c) (limit_of 0 c.present e)) p (told c.present e) (list_run images p number form (place + 1) requests found end))
    (sym (joined_beside c (entry_at c.present number form place a) new))

-- nothing but limits is looked at where there is memory
abbrev ample : ℕ → Found
ample place = Enough

-- a list whose commands all pass no limit and find memory
pub whole : (old new : MemShelf) (c : Chronicle) (number : ℕ) (form : ListForm) (place : ℕ) (answered : List Answered) (end : List ℕ)
    → AllWithin c.present (entries_of 0 c.present number form place answered) → ServesAll standing_of never_failed old new c.present (entries_of 0 c.present number form place answered)
    → list_run images (beside c old) number form place (asked_of answered) ample end
    ≡ ran_to c new (entries_of 0 c.present number form place answered) (ending_of end (tolds_of (entries_of 0 c.present number form place answered)))
unfolding entries_of list_run
whole old new c number form place [] end within serves = ap (λ (s : MemShelf). ran_to c s [] end) (sym serves)
whole old new c number form place (a ∷ more) end within serves =
    let event : Event = event_at number form place a in
    let t : OutcomeData = told c.present event in
    let first : LogEntry = entry_at c.present number form place a in
    let d : Chronicle = joined_by c first in
    let mid : MemShelf = serves.0 in
    let rest : ListRun (Shelved Image) = list_run images (beside d mid) number form (place + 1) (asked_of more) ample end in
    let others : List LogEntry = entries_of 0 d.present number form (place + 1) more in
    let cases : (ends : Bool) → ends_list t ≡ ends → AllWithin d.present (if ends then [] else others) → ServesAll standing_of never_failed mid new d.present (if ends then [] else others)
    → (if ends then record { player = beside d mid; tolds = t ∷ []; ending = closed_line t.answer.next } else record rest { tolds = t ∷ rest.tolds })
    ≡ ran_to c new (first ∷ (if ends then [] else others)) (ending_of end (tolds_of (first ∷ (if ends then [] else others)))) =
    λ ends. elim ends as (λ ends. ends_list t ≡ ends → AllWithin d.present (if ends then [] else others) → ServesAll standing_of never_failed mid new d.present (if ends then [] else others)
    → (if ends then record { player = beside d mid; tolds = t ∷ []; ending = closed_line t.answer.next } else record rest { tolds = t ∷ rest.tolds })
    ≡ ran_to c new (first ∷ (if ends then [] else others)) (ending_of end (tolds_of (first ∷ (if ends then [] else others))))) [
      | true ↦ λ e fits last.
          ap (λ (s : MemShelf). record { player = beside d s; tolds = t ∷ []; ending = closed_line t.answer.next }) (sym last)
          ∙ ap (λ (ending : List ℕ). record { player = beside d new; tolds = t ∷ []; ending = ending }) (goes_no_further t.answer.next t.answer.refused end e)
      | false ↦ λ e fits last.
          before c new first others (ending_of end (tolds_of others)) rest
          (whole mid new d number form (place + 1) more end fits last)
          ∙ ap (λ (ending : List ℕ). ran_to c new (first ∷ others) ending)
          (ending_after t (tolds_of others) end e)
    ] in
    one c old mid number form place a (asked_of more) ample end (goes c (Line number (InList form place) a.0 no_store_reply) old mid a.1 serves.1)
    ∙ ap (λ (fault : Option PartitionFault). list_step images (beside c old) place a.0 fault (beside d mid) t rest) within.0
    ∙ cases (ends_list t) refl within.1 serves.2

-- the entry after so many is refused for this cause, by what its place found of memory
abbrev IsRefusedAt : Chronicle → MemShelf → List LogEntry → ℕ → Found → PartitionFault → Type 0
IsRefusedAt c s entries done found cause =
    (entry : LogEntry) → slice_get entries done ≡ Some entry
    → fault_of found (is_full (joined c (take done entries)))
    (limit_of entry.seat (joined c (take done entries)).present (with_store_reply entry.event (heard_by (contents s) (joined c (take done entries)).present entry.event))) ≡ Some cause

-- a list whose command at some place is refused; other requests may follow those that were read
pub stops : (old new : MemShelf) (c : Chronicle) (number : ℕ) (form : ListForm) (place : ℕ) (answered : List Answered) (others : List Request) (found : ℕ → Found) (end : List ℕ) (done : ℕ) (cause : PartitionFault)
    → ((k : ℕ) → k < done → found (place + k) ≡ Enough) → done < length (entries_of 0 c.present number form place answered)
    → AllWithin c.present (take done (entries_of 0 c.present number form place answered))
    → ServesAll standing_of never_failed old new c.present (take done (entries_of 0 c.present number form place answered))
    → IsRefusedAt c new (entries_of 0 c.present number form place answered) done (found (place + done)) cause
    → list_run images (beside c old) number form place (asked_of answered ++ others) found end
    ≡ stopped_to (images.left (beside (joined c (take done (entries_of 0 c.present number form place answered))) new) cause)
    (take done (entries_of 0 c.present number form place answered)) (ack_line 52 (place + done) (slice_index_or (map name_in (asked_of answered)) done []) (fault_text cause))
unfolding entries_of list_run
stops old new c number form place [] others found end done cause elsewhere more within serves refusal = absurd (omega (arith, more))
stops old new c number form place (a ∷ rest_of) others found end zero cause elsewhere more within serves refusal =
    let event : Event = Line number (InList form place) a.0 no_store_reply in
    let here : place + 0 ≡ place = omega arith in
    let first : LogEntry = entry_at c.present number form place a in
    let after : Shelved Image = images.after (beside c old) event in
    let t : OutcomeData = images.told (beside c old) event in
    let rest : ListRun (Shelved Image) = list_run images after number form (place + 1) (asked_of rest_of ++ others) found end in
    let limit : MemShelf → Option PartitionFault = λ s. limit_of 0 c.present (with_store_reply event (heard_by (contents s) c.present event)) in
    let fault : fault_of (found (place + 0)) (is_full c) (limit old) ≡ Some cause =
    ap (λ (s : MemShelf). fault_of (found (place + 0)) (is_full c) (limit s)) (sym serves) ∙ refusal first refl in
    ap (λ (p : ℕ). list_step images (beside c old) place a.0 (fault_of (found p) (is_full c) (limit old)) after t rest) (sym here)
    ∙ ap (λ (f : Option PartitionFault). list_step images (beside c old) place a.0 f after t rest) fault
    ∙ ap (λ (p : ℕ). stopped_to (images.left (beside c old) cause) [] (ack_line 52 p (name_in a.0) (fault_text cause))) (sym here)
    ∙ ap (λ (s : MemShelf). stopped_to (images.left (beside c s) cause) [] (ack_line 52 (place + 0) (name_in a.0) (fault_text cause))) (sym serves)
stops old new c number form place (a ∷ rest_of) others found end (suc done) cause elsewhere more within serves refusal =
    let event : Event = event_at number form place a in
    let t : OutcomeData = told c.present event in
    let first : LogEntry = entry_at c.present number form place a in
    let d : Chronicle = joined_by c first in
    let mid : MemShelf = serves.0 in
    let rest : ListRun (Shelved Image) = list_run images (beside d mid) number form (place + 1) (asked_of rest_of ++ others) found end in
    let entries : List LogEntry = entries_of 0 d.present number form (place + 1) rest_of in
    let ending : List ℕ = ack_line 52 (place + suc done) (slice_index_or (map name_in (asked_of rest_of)) done []) (fault_text cause) in
    let from_here : place + 0 ≡ place = omega arith in
    let here : found place ≡ Enough = ap found (sym from_here) ∙ elsewhere 0 (omega arith) in
    let same : (k : ℕ) → place + suc k ≡ place + 1 + k = λ k. omega arith in
    let cases : (ends : Bool) → ends_list t ≡ ends → suc done < length (first ∷ (if ends then [] else entries))
    → AllWithin c.present (take (suc done) (first ∷ (if ends then [] else entries)))
    → ServesAll standing_of never_failed mid new d.present (take done (if ends then [] else entries))
    → IsRefusedAt c new (first ∷ (if ends then [] else entries)) (suc done) (found (place + suc done)) cause
    → (if ends then record { player = beside d mid; tolds = t ∷ []; ending = closed_line t.answer.next } else record rest { tolds = t ∷ rest.tolds })
    ≡ stopped_to (images.left (beside (joined c (take (suc done) (first ∷ (if ends then [] else entries)))) new) cause) (take (suc done) (first ∷ (if ends then [] else entries))) ending =
    λ ends. elim ends as (λ ends. ends_list t ≡ ends → suc done < length (first ∷ (if ends then [] else entries))
    → AllWithin c.present (take (suc done) (first ∷ (if ends then [] else entries)))
    → ServesAll standing_of never_failed mid new d.present (take done (if ends then [] else entries))
    → IsRefusedAt c new (first ∷ (if ends then [] else entries)) (suc done) (found (place + suc done)) cause
    → (if ends then record { player = beside d mid; tolds = t ∷ []; ending = closed_line t.answer.next } else record rest { tolds = t ∷ rest.tolds })
    ≡ stopped_to (images.left (beside (joined c (take (suc done) (first ∷ (if ends then [] else entries)))) new) cause) (take (suc done) (first ∷ (if ends then [] else entries))) ending) [
      | true ↦ λ e few all last refusal. absurd (omega (arith, few))
      | false ↦ λ e few all last refusal.
          let go = stops mid new d number form (place + 1) rest_of others found end done cause
          (λ k less. ap found (sym (same k)) ∙ elsewhere (suc k) (omega (arith, less)))
          (omega (arith, few)) all.1 last
          (λ entry is. ap (λ (p : ℕ). fault_of (found p) (is_full (joined d (take done entries)))
          (limit_of entry.seat (joined d (take done entries)).present (with_store_reply entry.event (heard_by (contents new) (joined d (take done entries)).present entry.event)))) (sym (same done)) ∙ refusal entry is) in
          ap (λ (r : ListRun (Shelved Image)). record r { tolds = t ∷ r.tolds })
          (go ∙ ap (λ (p : ℕ). stopped_to (images.left (beside (joined d (take done entries)) new) cause) (take done entries) (ack_line 52 p (slice_index_or (map name_in (asked_of rest_of)) done []) (fault_text cause))) (sym (same done)))
    ] in
    one c old mid number form place a (asked_of rest_of ++ others) found end (goes c (Line number (InList form place) a.0 no_store_reply) old mid a.1 serves.1)
    ∙ ap (λ (f : Found). list_step images (beside c old) place a.0 (fault_of f (is_full c) (limit_of 0 c.present event)) (beside d mid) t rest) here
    ∙ ap (λ (fault : Option PartitionFault). list_step images (beside c old) place a.0 fault (beside d mid) t rest) within.0
    ∙ cases (ends_list t) refl more within serves.2 refusal

take_suc : {X Y : Type 0} (f : X → Y) (xs : List X) (i : ℕ) (d : X) → i < length xs → take (suc i) (map f xs) ≡ take i (map f xs) ++ f (slice_index_or xs i d) ∷ []
take_suc f [] i d h = absurd (omega (arith, h))
take_suc f (x ∷ xs) zero d h = refl
take_suc f (x ∷ xs) (suc i) d h = ap (λ ys. f x ∷ ys) (take_suc f xs i d (omega (arith, h)))

one_more : (i : ℕ) → suc i ≡ i + 1
one_more i = omega arith

-- one more of a list's requests is read
pub take_more : {X Y : Type 0} (f : X → Y) (xs : List X) (i : ℕ) (d : X) → i < length xs → take i (map f xs) ++ f (slice_index_or xs i d) ∷ [] ≡ take (i + 1) (map f xs)
take_more f xs i d h = sym (take_suc f xs i d h) ∙ ap (λ (n : ℕ). take n (map f xs)) (one_more i)

-- a list that ran
pub runs_whole : (c d : Chronicle) (old new : MemShelf) (number : ℕ) (form : ListForm) (requests : List Request) (tolds : List OutcomeData)
    → RunsList standing_of never_failed c d old new 0 number form requests tolds
    → RunsWhole (beside c old) (beside d new) number form requests tolds
runs_whole c d old new number form requests tolds ran end =
    ap (λ (rs : List Request). list_run images (beside c old) number form 0 rs ample end) (sym ran.asked)
    ∙ whole old new c number form 0 ran.answered end ran.joins.within ran.shelf
    ∙ (λ i. record { player = beside (sym ran.joins.chronicle i) new; tolds = sym ran.told i; ending = ending_of end (sym ran.told i) })

from_zero : (n : ℕ) → 0 + n ≡ n
from_zero n = omega arith

for_some : {X : Type 0} (P : X → Type 0) (o : Option X) (x : X) → ForSome o P → o ≡ Some x → P x
for_some P o x all is = all x is

none_there : {X : Type 0} (xs : List X) (n : ℕ) → n < length xs → slice_get xs n ≡ None → ⊥
none_there [] n less is = absurd (omega (arith, less))
none_there (x ∷ xs) zero less is = cc
none_there (x ∷ xs) (suc n) less is = none_there xs n (omega (arith, less)) is

-- a list that could not be run to its end
pub stops_whole : (c d : Chronicle) (old new : MemShelf) (number : ℕ) (form : ListForm) (requests : List Request) (stop : Stop)
    → StopsList standing_of never_failed c d old new 0 number form requests stop
    → StopsWhole (beside c old) (beside d new) number form requests stop
stops_whole c d old new number form requests stop ran others found end elsewhere by =
    let entries : List LogEntry = entries_of 0 c.present number form 0 ran.answered in
    let m : Chronicle = joined c (take stop.done entries) in
    let no_entry : IsRefusedAt c ran.between entries stop.done (found (0 + stop.done)) stop.cause =
    λ entry is.
    let why = for_some _ (slice_get entries stop.done) entry ran.cause is in
    ap (λ (f : Found). fault_of f (is_full m) (limit_of entry.seat m.present (with_store_reply entry.event (heard_by (contents ran.between) m.present entry.event)))) by
    ∙ ap (λ (x : Chronicle). fault_of (found_by stop.cause) (is_full x) (limit_of entry.seat x.present (with_store_reply entry.event (heard_by (contents ran.between) x.present entry.event)))) (sym ran.joins.chronicle)
    ∙ refused entry.seat ran.middle d ran.between new entry.event stop.cause why in
    let last : beside d new ≡ images.left (beside ran.middle ran.between) stop.cause =
    elim (slice_get entries stop.done) as (λ (o : Option LogEntry). slice_get entries stop.done ≡ o → beside d new ≡ images.left (beside ran.middle ran.between) stop.cause) [
      | Some entry ↦ λ is. left_is entry.seat ran.middle d ran.between new entry.event stop.cause (for_some _ (slice_get entries stop.done) entry ran.cause is)
      | None ↦ λ is. absurd (none_there entries stop.done ran.more is)
    ] refl in
    ap (λ (rs : List Request). list_run images (beside c old) number form 0 (rs ++ others) found end) (sym ran.asked)
    ∙ stops old ran.between c number form 0 ran.answered others found end stop.done stop.cause elsewhere ran.more ran.joins.within ran.shelf no_entry
    ∙ ap (λ (n : ℕ). stopped_to (images.left (beside m ran.between) stop.cause) (take stop.done entries) (ack_line 52 n (slice_index_or (map name_in (asked_of ran.answered)) stop.done []) (fault_text stop.cause))) (from_zero stop.done)
    ∙ ap (λ (rs : List Request). stopped_to (images.left (beside m ran.between) stop.cause) (take stop.done entries) (ack_line 52 stop.done (slice_index_or (map name_in rs) stop.done []) (fault_text stop.cause))) ran.asked
    ∙ (λ i. record {
      player = (ap (λ (x : Chronicle). images.left (beside x ran.between) stop.cause) (sym ran.joins.chronicle) ∙ sym last) i;
      tolds = sym ran.told i;
      ending = ack_line 52 stop.done (sym ran.command i) (fault_text stop.cause);
    })

-- the requests that were read are the first of all
read_first : (memory : Memory) (all : List Request) → (others : List Request) × (all ≡ read_of memory all ++ others)
read_first Ample all = ([], sym (append-nil all))
read_first NoneToConnect all = ([], sym (append-nil all))
read_first NoneToFoldFirst all = ([], sym (append-nil all))
read_first (NoneToFold place) all = ([], sym (append-nil all))
read_first (NoneToRun place) all = ([], sym (append-nil all))
read_first (NoneToRead place) all = (drop place all, sym (take-append-drop place all))

-- a list that ran, of requests that were read
pub list_ran : (before after : Shelved Image) (number : ℕ) (form : ListForm) (read requests : List Request) (found : ℕ → Found) (end : List ℕ) (tolds : List OutcomeData)
    → requests ≡ read → ((place : ℕ) → found place ≡ Enough) → RunsWhole before after number form requests tolds
    → list_run images before number form 0 read found end ≡ record { player = after; tolds = tolds; ending = ending_of end tolds }
list_ran before after number form read requests found end tolds same all ran =
    ap (λ (f : ℕ → Found). list_run images before number form 0 read f end) (λ i place. all place i)
    ∙ ap (λ (rs : List Request). list_run images before number form 0 rs ample end) (sym same)
    ∙ ran end

abbrev stopped_run : Shelved Image → Stop → ListRun (Shelved Image)
stopped_run after stop = record { player = after; tolds = stop.tolds; ending = ack_line 52 stop.done stop.command (fault_text stop.cause) }

-- a list that was stopped by a limit
at_limit : (before after : Shelved Image) (number : ℕ) (form : ListForm) (all requests : List Request) (memory : Memory) (end : List ℕ) (stop : Stop)
    → requests ≡ read_of memory all → ((place : ℕ) → found_at memory place ≡ Enough) → Enough ≡ found_by stop.cause
    → StopsWhole before after number form requests stop
    → list_run images before number form 0 (read_of memory all) (found_at memory) end ≡ stopped_run after stop
at_limit before after number form all requests memory end stop read none has stopped =
    ap (λ (rs : List Request). list_run images before number form 0 rs (found_at memory) end) (sym read ∙ sym (append-nil requests))
    ∙ stopped [] (found_at memory) end (λ k less. none (0 + k)) (none (0 + stop.done) ∙ has)

-- what is found at one place, and enough at all others
abbrev at_place : Found → ℕ → ℕ → Found
at_place f other place = if other == place then f else Enough

-- a list whose command after these found no memory
without_memory : (before after : Shelved Image) (number : ℕ) (form : ListForm) (all requests : List Request) (memory : Memory) (end : List ℕ) (stop : Stop) (f : Found)
    → requests ≡ read_of memory all → f ≡ found_by stop.cause → StopsWhole before after number form requests stop
    → list_run images before number form 0 all (at_place f stop.done) end ≡ stopped_run after stop
without_memory before after number form all requests memory end stop f read wanting stopped =
    let first = read_first memory all in
    let here : (stop.done == 0 + stop.done) ≡ true = eq-eqb stop.done (0 + stop.done) (omega arith) in
    ap (λ (rs : List Request). list_run images before number form 0 rs (at_place f stop.done) end) (first.1 ∙ ap (λ (rs : List Request). rs ++ first.0) (sym read))
    ∙ stopped first.0 (at_place f stop.done) end
    (λ k less. ap (λ (b : Bool). if b then f else Enough) (ne_eqb stop.done (0 + k) (λ e. absurd (omega (arith, e, less)))))
    (ap (λ (b : Bool). if b then f else Enough) here ∙ wanting)

-- a list that could not be run to its end, by the memory that it found in all
pub list_stopped : (before after : Shelved Image) (number : ℕ) (form : ListForm) (all requests : List Request) (memory : Memory) (count : ℕ) (stop : Stop)
    → requests ≡ read_of memory all → ((place : ℕ) → found_at memory place ≡ Enough) → StopsWhole before after number form requests stop
    → list_run images before number form 0 (read_of (stopped_at memory stop.done stop.cause) all) (found_at (stopped_at memory stop.done stop.cause)) (end_of (stopped_at memory stop.done stop.cause) count)
    ≡ stopped_run after stop
list_stopped before after number form all requests memory count stop read none stopped =
    let by_cause : (cause : PartitionFault) → stop.cause ≡ cause
    → list_run images before number form 0 (read_of (stopped_at memory stop.done cause) all) (found_at (stopped_at memory stop.done cause)) (end_of (stopped_at memory stop.done cause) count)
    ≡ stopped_run after stop =
    λ cause. elim cause as (λ cause. stop.cause ≡ cause
    → list_run images before number form 0 (read_of (stopped_at memory stop.done cause) all) (found_at (stopped_at memory stop.done cause)) (end_of (stopped_at memory stop.done cause) count)
    ≡ stopped_run after stop) [
      | HistoryFull ↦ λ e. without_memory before after number form all requests memory (codes "OK\n") stop NoneFold read (sym (ap found_by e)) stopped
      | CutsAtLimit ↦ λ e. at_limit before after number form all requests memory (end_of memory count) stop read none (sym (ap found_by e)) stopped
      | AtLimit ↦ λ e. at_limit before after number form all requests memory (end_of memory count) stop read none (sym (ap found_by e)) stopped
      | NoMemory ↦ λ e. without_memory before after number form all requests memory (codes "OK\n") stop NoneRun read (sym (ap found_by e)) stopped
    ] in
    by_cause stop.cause refl
