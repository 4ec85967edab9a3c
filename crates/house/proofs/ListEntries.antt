-- What the entries of command lists leave of counts and books, and how many notices they give.
use Rattle.std.proofs.Common.{◌≡◌, inl, inr, ℕ, zero, suc, ◌+◌, ◌<◌, ◌≤◌, ◌^◌, true, false, List, [], ◌∷◌, length, map, take, Some, refl, ap, sym, subst, ◌∙◌, arith, if◌then◌else◌}
use Rattle.std.specs.Prelude.{IfErr, IfOk, Result, Ok, Err, slice_get, slice_index_or}
use Rattle.command_lists.specs.declared.word.ListForm.{ListForm}
use Rattle.mpd_command.specs.declared.request.Request.{Request}
use Rattle.shelf.specs.Calls.{Call}
use Rattle.shelf.specs.Maps.{Standing}
use Rattle.player_events.specs.declared.event.Event.{Event}
use Rattle.player_events.specs.declared.event.Event.TheVariants.{Line}
use Rattle.player_events.specs.declared.event.LogEntry.{LogEntry}
use Rattle.transitions.specs.declared.asked.ListPlace.TheVariants.{InList}
use Rattle.partition.specs.declared.partition.PartitionFault.{PartitionFault}
use Rattle.transitions.specs.declared.shelf_calls.StoreReply.{StoreReply}
use Rattle.player_events.specs.Outcomes.{OutcomeData}
use Rattle.partition.specs.History.{Chronicle, folded, is_full, replay, with_room}
use Rattle.partition_table.specs.Parts.{part_at}
use Rattle.partition.specs.Image.{Image, overview}
use Rattle.partition.specs.Lent.{Refuses}
use Rattle.partition.specs.Lists.{AllWithin, Answered, RunsList, Stop, StopsList, entries_of}
use Rattle.player_events.specs.Events.{ends_list}
use Rattle.partition.specs.Step.{next_image, index_at, sender_in, told}
use Rattle.house.specs.Counts.{done_in}
use Rattle.house.proofs.Booked.{HasEight, all_stay, own_below}
use Rattle.house.proofs.Frameless.{line_frameless}
use Rattle.house.proofs.Owns.{Grows, grows_none, grows_on, next_grows}

-- an entry of a seat, made by a line of a list
pub record IsOf (seat client : ℕ) (form : ListForm) (h : LogEntry) : Type 0 where
  pub mine : h.seat ≡ seat
  pub place : ℕ
  pub request : Request
  pub heard : StoreReply
  pub event : h.event ≡ Line client (InList form place) request heard

abbrev pub AreOf : ℕ → ℕ → ListForm → List LogEntry → Type 0
AreOf seat client form [] = Unit {0}
AreOf seat client form (h ∷ hs) = IsOf seat client form h × AreOf seat client form hs

pub entries_are_of : (seat : ℕ) (i : Image) (client : ℕ) (form : ListForm) (place : ℕ) (answered : List Answered) → AreOf seat client form (entries_of seat i client form place answered)
unfolding entries_of
entries_are_of seat i client form place [] = tt
entries_are_of seat i client form place (a ∷ more) =
    let event : Event = Line client (InList form place) a.0 a.1 in (
      record { mine = refl; place = place; request = a.0; heard = a.1; event = refl },
      elim (ends_list (told i event)) as (λ b. AreOf seat client form (if b then [] else entries_of seat (next_image seat i event) client form (place + 1) more))
          [ true ↦ tt | false ↦ entries_are_of seat (next_image seat i event) client form (place + 1) more ],
    )

pub some_are_of : (seat client : ℕ) (form : ListForm) (n : ℕ) (hs : List LogEntry) → AreOf seat client form hs → AreOf seat client form (take n hs)
some_are_of seat client form zero hs all = tt
some_are_of seat client form (suc n) [] all = tt
some_are_of seat client form (suc n) (h ∷ hs) all = (all.0, some_are_of seat client form n hs all.1)

module _ (seat client : ℕ) (form : ListForm) where
  -- the counts after such entries
  pub replay_grows : (i : Image) (hs : List LogEntry) → seat < 16 → length i.shared.made ≡ 16 → AreOf seat client form hs
      → Grows seat (length hs) i.shared.made (replay i hs).shared.made
  replay_grows i [] low many all = grows_none seat i.shared.made
  replay_grows i (h ∷ hs) low many all =
      let next : Image = next_image h.seat i h.event in
      let one : Grows seat 1 i.shared.made next.shared.made =
      subst (λ (s : ℕ). Grows seat 1 i.shared.made (next_image s i h.event).shared.made) (sym all.0.mine) (next_grows seat i h.event low many) in
      let more : Grows seat (length hs) next.shared.made (replay next hs).shared.made = replay_grows next hs low (one.long ∙ many) all.1 in
      let longer : length hs + 1 ≡ length (h ∷ hs) = omega arith in
      subst (λ (n : ℕ). Grows seat n i.shared.made (replay next hs).shared.made) longer (grows_on seat (length hs) i.shared.made next.shared.made (replay next hs).shared.made one more)

  -- they can be counted, where they pass no limit
  pub replay_below : (i : Image) (hs : List LogEntry) → seat < 16 → length i.shared.made ≡ 16 → AreOf seat client form hs → AllWithin i hs
      → slice_index_or i.shared.made seat 0 < 2 ^ 63 → slice_index_or i.shared.made seat 0 + length hs < 2 ^ 63
  replay_below i [] low many all within few = omega (arith, few)
  replay_below i (h ∷ hs) low many all within few =
      let next : Image = next_image h.seat i h.event in
      let one : Grows seat 1 i.shared.made next.shared.made =
      subst (λ (s : ℕ). Grows seat 1 i.shared.made (next_image s i h.event).shared.made) (sym all.0.mine) (next_grows seat i h.event low many) in
      let here : slice_index_or i.shared.made seat 0 + 1 < 2 ^ 63 = subst (λ (s : ℕ). slice_index_or i.shared.made s 0 + 1 < 2 ^ 63) all.0.mine (own_below h.seat i h.event within.0) in
      let own = one.own_is in
      let rest : slice_index_or next.shared.made seat 0 + length hs < 2 ^ 63 = replay_below next hs low (one.long ∙ many) all.1 within.1 (omega (arith, own, here)) in
      omega (arith, own, rest)

  -- they bring no frames
  pub replay_books : (i : Image) (hs : List LogEntry) → HasEight i.shared.books → AreOf seat client form hs → (replay i hs).shared.books ≡ i.shared.books
  replay_books i [] eight all = refl
  replay_books i (h ∷ hs) eight all =
      let line : Event = Line client (InList form all.0.place) all.0.request all.0.heard in
      let next : Image = next_image h.seat i h.event in
      let same : next.shared.books ≡ i.shared.books =
      all_stay h.seat i next line eight (ap (next_image h.seat i) all.0.event) (line_frameless (overview i) (part_at (index_at i line) i.parts) i.shared.library (sender_in i.clients line) client (InList form all.0.place) all.0.request all.0.heard) in
      replay_books next hs (subst HasEight (sym same) eight) all.1 ∙ same

get_some : (hs : List LogEntry) (n : ℕ) → n < length hs → (h : LogEntry) × (slice_get hs n ≡ Some h)
get_some [] n low = absurd (omega arith)
get_some (h ∷ hs) zero low = (h, refl)
get_some (h ∷ hs) (suc n) low = get_some hs n (omega arith)

take_long : (hs : List LogEntry) (n : ℕ) → n ≤ length hs → length (take n hs) ≡ n
take_long hs zero low = refl
take_long [] (suc n) low = absurd (omega arith)
take_long (h ∷ hs) (suc n) low = ap suc (take_long hs n (omega arith))

length-map : (hs : List LogEntry) → length (map (λ (h : LogEntry). h.told) hs) ≡ length hs
length-map [] = refl
length-map (h ∷ hs) = ap suc (length-map hs)

pub room_keeps : (c : Chronicle) → (with_room c).present ≡ c.present
room_keeps c = elim (is_full c) as (λ b. (if b then folded c else c).present ≡ c.present) [ true ↦ refl | false ↦ refl ]

-- what a list leaves: so many events more of a seat, and the books as they were
pub record Leaves (seat n : ℕ) (before after : Image) : Type 0 where
  pub grows : Grows seat n before.shared.made after.shared.made
  pub books : after.shared.books ≡ before.shared.books
  pub below : slice_index_or before.shared.made seat 0 < 2 ^ 63 → slice_index_or before.shared.made seat 0 + n < 2 ^ 63

module _ {S : Type 0} (standing : S → Standing) (failed : S → S → Call → Type 0) (before after : Chronicle) (old new : S) (seat client : ℕ) (form : ListForm) (requests : List Request)
    (low : seat < 16) (many : length before.present.shared.made ≡ 16) (eight : HasEight before.present.shared.books) where
  leaves : (hs : List LogEntry) (i : Image) (n : ℕ) → AreOf seat client form hs → AllWithin before.present hs → length hs ≡ n → i ≡ replay before.present hs → Leaves seat n before.present i
  leaves hs i n all within long is =
      subst (λ (k : ℕ). Leaves seat k before.present i) long (subst (Leaves seat (length hs) before.present) (sym is) (record {
        grows = replay_grows seat client form before.present hs low many all;
        books = replay_books seat client form before.present hs eight all;
        below = replay_below seat client form before.present hs low many all within;
      }))

  pub leaves_run : (tolds : List OutcomeData) → RunsList standing failed before after old new seat client form requests tolds → Leaves seat (length tolds) before.present after.present
  leaves_run tolds runs =
      let entries : List LogEntry = entries_of seat before.present client form 0 runs.answered in
      leaves entries after.present (length tolds) (entries_are_of seat before.present client form 0 runs.answered) runs.joins.within
      (sym (ap length runs.told ∙ length-map entries)) runs.joins.present

  stopped_at : (middle : Chronicle) (between : S) (h : LogEntry) (cause : PartitionFault) → Refuses standing failed middle after between new h.seat h.event cause → after.present ≡ middle.present
  stopped_at middle between h cause (inl full) = ap (λ (c : Chronicle). c.present) full.1.1.0
  stopped_at middle between h cause (inr roomy) = ap (λ (c : Chronicle). c.present) roomy.0 ∙ room_keeps middle

  pub leaves_stop : (stop : Stop) → StopsList standing failed before after old new seat client form requests stop → Leaves seat stop.done before.present after.present
  leaves_stop stop stops =
      let entries : List LogEntry = entries_of seat before.present client form 0 stops.answered in
      let at = get_some entries stop.done stops.more in
      leaves (take stop.done entries) after.present stop.done
      (some_are_of seat client form stop.done entries (entries_are_of seat before.present client form 0 stops.answered)) stops.joins.within
      (take_long entries stop.done (let more = stops.more in omega (arith, more)))
      (stopped_at stops.middle stops.between at.0 stop.cause (stops.cause at.0 at.1) ∙ stops.joins.present)

  pub leaves_any : (r : Result (List OutcomeData) Stop) → IfOk r (λ tolds. RunsList standing failed before after old new seat client form requests tolds)
      → IfErr r (λ stop. StopsList standing failed before after old new seat client form requests stop) → Leaves seat (done_in r) before.present after.present
  leaves_any (Ok tolds) runs stops = leaves_run tolds runs
  leaves_any (Err stop) runs stops = leaves_stop stop stops
