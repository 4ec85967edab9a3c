-- What happens in other partitions is not seen in one.
use Rattle.std.proofs.Common.{◌≡◌, ◌≢◌, ℕ, ◌==◌, Bool, true, false, not, ◌&&◌, ◌||◌, List, [], ◌∷◌, ◌++◌, map, Option, Some, None, refl, ap, sym, ◌∙◌, subst, if◌then◌else◌}
use Rattle.std.specs.Prelude.{option_map}
use Rattle.std.proofs.lemmas.Bool.{eq-eqb, eqb-true}
use Rattle.idle_notes.specs.Sets.{none}
use Rattle.idle_notes.specs.declared.sets.Subsystems.{Subsystems}
use Rattle.player_state.specs.Libraries.{library_after}
use Rattle.player_state.specs.declared.effect.Effect.{Effect}
use Rattle.player_state.specs.declared.state.Client.{Client}
use Rattle.partition_table.specs.Openings.{OpeningsData}
use Rattle.partition_table.specs.Parts.{Known, changed, known, known_at, part_at}
use Rattle.partition_table.specs.declared.crossing.Crossing.{Crossing}
use Rattle.partition_table.specs.declared.crossing.Crossing.TheVariants.{Stays, Opens, Closes, Brings}
use Rattle.partition_table.proofs.Looks.{at_known, other_changed}
use Rattle.transitions.specs.Answers.{ResponseData, closes}
use Rattle.transitions.specs.Transitions.{TransitionData, no_response}
use Rattle.connected_clients.specs.Clients.{client_of, is_this, move_of, notified}
use Rattle.connected_clients.specs.declared.notices.Notice.{Notice}
use Rattle.player_events.specs.declared.event.Event.{Event}
use Rattle.partition.specs.Image.{Image, overview}
use Rattle.partition.specs.Step.{moved_client, sender_number, next_image, index_at, report_at, sender, sender_in, told, transition}
use Rattle.partition_laws.specs.Apart.{Agree, Common, EqualViewsHearTheSame, IsIn, Keeps, LeavesOut, Legal, Choice, MayGo, MayLeaveOut, MayStay, Notifies, OthersMayBeLeftOut, Says, Word, after_events, all_heard, common, happens_in, is_of_none, is_seat, left, noticed, notices_to, reaches, said, seat_of, shelf_changes, whole}
use Rattle.partition_laws.proofs.Agreeing.{after, agree_after, belonging, clients_next, happening, happens_same, nobody_speaks, notices_next, notices_same, other_moved_client, parts_next, index_from, index_of_client, raised_next, same_common, same_part, unspoken_response, within}
use Rattle.partition_laws.proofs.Clients.{at_seat, does, found_number, notices_in, other_after, other_notices, own_after, own_notices}
use Rattle.partition_laws.proofs.Legal.{up_to_date_at, silent, stays_legal, still}
use Rattle.partition_laws.proofs.Raised.{raised_is, spoken, unspoken}
use Rattle.partition_laws.proofs.Rebuilt.{IsForeign, foreign_part, found_index, rebuilt, rebuilt_same, rests}
use Rattle.partition_laws.proofs.Transitions.{IsProper, free, proper}

-- the seat of an event counts for nothing here
next_agree : (index seat : ℕ) (i j : Image) (event : Event) → Agree index (after i event) (after j event) → Agree index (next_image seat i event) (next_image seat j event)
unfolding next_image
next_agree index seat i j event a = record { common = a.common; part = a.part; clients = a.clients }

next_agree_left : (index seat : ℕ) (i j : Image) (event : Event) → Agree index (after i event) j → Agree index (next_image seat i event) j
unfolding next_image
next_agree_left index seat i j event a = record { common = a.common; part = a.part; clients = a.clients }

next_common : (seat : ℕ) (i : Image) (event : Event) → common (next_image seat i event) ≡ common (after i event)
unfolding next_image
next_common seat i event = refl

answer_is : (i : Image) (event : Event) → (told i event).answer ≡ (transition i event).response.answer
unfolding told
answer_is i event = refl

report_is : (i : Image) (event : Event) → (told i event).report ≡ report_at i event (transition i event)
unfolding told
report_is i event = refl

notices_are : (i : Image) (event : Event) → (told i event).notices ≡ notices_next i event
unfolding told
notices_are i event = refl

pub equal_views_hear_the_same : EqualViewsHearTheSame
equal_views_hear_the_same index seat i j event legal_i legal_j a both =
    let one = belonging index i j a event both.one both.other in
    let same : transition i event ≡ transition j event = one.0 in
    let commons : common (after i event) ≡ common (after j event) = same_common index i j event a same in
    let part : part_at index (parts_next i event) ≡ part_at index (parts_next j event) = same_part index i j event a same in
    let shelf : shelf_changes (transition i event).written ≡ shelf_changes (transition j event).written = ap (λ (t : TransitionData). shelf_changes t.written) same in
    record {
      answer = answer_is i event ∙ ap (λ (t : TransitionData). t.response.answer) same ∙ sym (answer_is j event);
      report = report_is i event ∙ one.1 ∙ sym (report_is j event);
      notices = λ number is.
          ap (notices_to number) (notices_are i event)
          ∙ notices_same index i j event a commons part shelf both.tags legal_i.rising legal_j.rising number is
          ∙ ap (notices_to number) (sym (notices_are j event));
      agree = next_agree index seat i j event (agree_after index i j event a commons part shelf both.tags);
      limits = within index i j a event;
    }

-- a crossing of an event of another partition
foreign_of : (openings : OpeningsData) (index own : ℕ) (c : Crossing) → (own == index) ≡ false → IsProper openings own c → IsForeign openings index c
foreign_of openings index own Stays other is = tt
foreign_of openings index own (Opens new) other is = is
foreign_of openings index own (Closes gone) other is = tt
foreign_of openings index own (Brings output to) other is = ap (λ n. n == index) is ∙ other

-- an event that happens elsewhere, or in no partition, leaves of a partition what all know, and what it was
module _ (index : ℕ) (i : Image) (event : Event) where
  abbrev t : TransitionData
  t = transition i event

  abbrev IsRebuilt : Type 0
  IsRebuilt = part_at index (parts_next i event) ≡ rebuilt i.shared.openings (known_at index (map known (parts_next i event))) (part_at index i.parts)

  elsewhere : (index_at i event == index) ≡ false → IsRebuilt
  elsewhere e =
      let apart : index_at i event ≢ index = λ same. (let clash : true ≡ false = sym (eq-eqb (index_at i event) index same) ∙ e in cc) in
      let is : IsProper i.shared.openings (index_at i event) t.crossing =
      proper (overview i) (part_at (index_at i event) i.parts) i.shared.library (sender_in i.clients event) (index_at i event) event
      (λ p f. found_index i.shared.openings (index_at i event) i.parts p f) in
      foreign_part i.shared.openings index i.shared.library.rate (index_at i event) t i.parts (foreign_of i.shared.openings index (index_at i event) t.crossing e is)
      (other_changed index i.shared.library.rate (index_at i event) t.effect i.parts apart)

  nowhere : is_of_none event ≡ true → IsRebuilt
  nowhere e =
      let is = free (overview i) (part_at (index_at i event) i.parts) i.shared.library (sender_in i.clients event) event e in
      let foreign : IsForeign i.shared.openings index t.crossing = subst (IsForeign i.shared.openings index) (sym is.0) tt in
      let still_there : part_at index (changed i.shared.library.rate (index_at i event) t.effect i.parts) ≡ part_at index i.parts =
      ap (λ (effect : Effect). part_at index (changed i.shared.library.rate (index_at i event) effect i.parts)) is.1
      ∙ ap (part_at index) (rests i.shared.library.rate (index_at i event) i.parts) in
      foreign_part i.shared.openings index i.shared.library.rate (index_at i event) t i.parts foreign still_there

  foreign : happens_in index i event ≡ false → IsRebuilt
  foreign e =
      let cases : (b : Bool) → is_of_none event ≡ b → (not b && (index_at i event == index)) ≡ false → IsRebuilt =
      λ b. elim b as (λ b. is_of_none event ≡ b → (not b && (index_at i event == index)) ≡ false → IsRebuilt)
      [ true ↦ λ f g. nowhere f | false ↦ λ f g. elsewhere g ] in
      cases (is_of_none event) refl e

-- an event that stays in the list
module _ (index seat : ℕ) (i j : Image) (event : Event) (a : Agree index i j) (may : MayStay index seat i j event) where
  abbrev commons : common (after i event) ≡ common (after j event)
  commons = sym (next_common seat i event) ∙ may.common ∙ next_common seat j event

  kept_part : part_at index (parts_next i event) ≡ part_at index (parts_next j event)
  kept_part =
      let cases : (b : Bool) → happens_in index i event ≡ b → part_at index (parts_next i event) ≡ part_at index (parts_next j event) =
      λ b. elim b as (λ b. happens_in index i event ≡ b → part_at index (parts_next i event) ≡ part_at index (parts_next j event)) [
        | true ↦ λ e. same_part index i j event a (happening index i j a event e).0
        | false ↦ λ e.
            foreign index i event e
            ∙ (λ x. rebuilt (a.common x).overview.openings (known_at index (commons x).overview.parts) (a.part x))
            ∙ sym (foreign index j event (sym (happens_same index i j a event) ∙ e))
      ] in
      cases (happens_in index i event) refl

  kept_agree : Agree index (next_image seat i event) (next_image seat j event)
  kept_agree = next_agree index seat i j event (agree_after index i j event a commons kept_part may.shelf may.tags)

  kept_notices : Legal i → Legal j → (number : ℕ) → IsIn index number i → notices_to number (told i event).notices ≡ notices_to number (told j event).notices
  kept_notices legal_i legal_j number is =
      ap (notices_to number) (notices_are i event)
      ∙ notices_same index i j event a commons kept_part may.shelf may.tags legal_i.rising legal_j.rising number is
      ∙ ap (notices_to number) (sym (notices_are j event))

  kept_said : said index i event ≡ said index j event
  kept_said =
      let words : Image → List Word = λ x. Says (told x event).answer (told x event).report ∷ [] in
      let cases : (b : Bool) → happens_in index i event ≡ b → (if b then words i else []) ≡ (if b then words j else []) =
      λ b. elim b as (λ b. happens_in index i event ≡ b → (if b then words i else []) ≡ (if b then words j else [])) [
        | true ↦ λ e.
            let one = happening index i j a event e in
            let answers : (told i event).answer ≡ (told j event).answer = answer_is i event ∙ ap (λ (t : TransitionData). t.response.answer) one.0 ∙ sym (answer_is j event) in
            let reports : (told i event).report ≡ (told j event).report = report_is i event ∙ one.1 ∙ sym (report_is j event) in
            λ x. Says (answers x) (reports x) ∷ []
        | false ↦ λ e. refl
      ] in
      cases (happens_in index i event) refl ∙ ap (λ b. if b then words j else []) (happens_same index i j a event)

-- an event that is left out
module _ (index seat : ℕ) (i j : Image) (event : Event) (legal : Legal i) (a : Agree index i j) (may : MayGo index seat i event) where
  abbrev m : ℕ
  m = sender_number event

  abbrev r : Client → Subsystems
  r = raised_next i event

  abbrev answer : ResponseData
  answer = (transition i event).response

  no_first : (x y : Bool) → (x || y) ≡ false → x ≡ false
  no_first true y e = e
  no_first false y e = refl

  outside : happens_in index i event ≡ false
  outside = no_first (happens_in index i event) (reaches index (overview i).parts (transition i event)) may.foreign

  commons_stay : common (after i event) ≡ common i
  commons_stay = sym (next_common seat i event) ∙ may.common

  knowns_stay : map known (parts_next i event) ≡ map known i.parts
  knowns_stay = ap (λ (c : Common). c.overview.parts) commons_stay

  part_stays : part_at index (parts_next i event) ≡ part_at index i.parts
  part_stays =
      foreign index i event outside
      ∙ ap (λ (fs : List Known). rebuilt i.shared.openings (known_at index fs) (part_at index i.parts)) knowns_stay
      ∙ ap (λ (f : Option Known). rebuilt i.shared.openings f (part_at index i.parts)) (at_known index i.parts)
      ∙ rebuilt_same i.shared.openings (part_at index i.parts)

  -- nobody goes by it who is in the partition; a client of it stays, and hears what is raised for it
  pub record IsApart (n : ℕ) : Type 0 where
    pub moved_client : is_this (moved_client m answer) n ≡ false
    pub client : client_of n (clients_next i event) ≡ option_map (notified r) (client_of n i.clients)
    pub notices : notices_to n (notices_next i event) ≡ notices_in r (client_of n i.clients)

  apart : (n : ℕ) → IsIn index n i → IsApart n
  apart n is =
      let cases : (b : Bool) → (m == n) ≡ b → IsApart n =
      λ b. elim b as (λ b. (m == n) ≡ b → IsApart n) [
        | true ↦ λ e.
            let name : m ≡ n = eqb-true m n e in
            let nobody : sender event ≡ None = nobody_speaks index i j a event outside (subst (λ x. IsIn index x i) (sym name) is) in
            let silence : answer ≡ no_response = unspoken_response i event nobody in
            let own : IsApart m = record {
              moved_client = ap (λ (x : ResponseData). is_this (moved_client m x) m) silence;
              client = own_after m r answer i.clients ∙ ap (λ (x : ResponseData). does m (move_of x) (option_map (notified r) (if closes x.answer.next then None else client_of m i.clients))) silence;
              notices = own_notices m r answer i.clients legal.rising ∙ ap (λ (x : ResponseData). notices_in r (if closes x.answer.next then None else client_of m i.clients)) silence;
            } in
            subst IsApart name own
        | false ↦ λ e. record {
          moved_client = other_moved_client m n answer e;
          client = other_after m r answer i.clients n e;
          notices = other_notices m r answer i.clients n e legal.rising;
        }
      ] in
      cases (m == n) refl

  unraised : (k : Client) → k.index ≡ index → is_this (moved_client m answer) k.number ≡ false → r k ≡ none
  unraised k p test =
      let library : library_after i.shared.library (transition i event).scan ≡ i.shared.library = ap (λ (c : Common). c.library) commons_stay in
      raised_is index m (index_at i event) i.parts i.shared.library (transition i event) k p
      ∙ (λ x. spoken (test x) k.number (part_at index i.parts) (part_stays x) (may.shelf x) i.shared.library (library x) (map known i.parts) (knowns_stay x))
      ∙ unspoken k.number (part_at index i.parts) i.shared.library (map known i.parts)

  some_in : (n : ℕ) → IsIn index n i → (k : Client) × (client_of n i.clients ≡ Some k)
  some_in n is =
      let there : index_of_client (client_of n i.clients) ≡ Some index = sym (at_seat n i.clients) ∙ is in
      elim (client_of n i.clients) as (λ o. index_of_client o ≡ Some index → (k : Client) × (o ≡ Some k)) [ None ↦ λ e. cc | Some k ↦ λ e. (k, refl) ] there

  -- a client of the partition hears nothing, and stays as it was
  quiet : (n : ℕ) → IsIn index n i → (notices_to n (notices_next i event) ≡ []) × (client_of n (clients_next i event) ≡ client_of n i.clients)
  quiet n is =
      let found = some_in n is in
      let k : Client = found.0 in
      let is_there : client_of n i.clients ≡ Some k = found.1 in
      let own : IsApart n = apart n is in
      let p : k.index ≡ index = ap index_from (ap index_of_client (sym is_there) ∙ sym (at_seat n i.clients) ∙ is) in
      let nothing : r k ≡ none = unraised k p (ap (λ x. is_this (moved_client m answer) x) (found_number n i.clients k is_there) ∙ own.moved_client) in
      let one = up_to_date_at n k i.clients legal.up_to_date is_there in (
        own.notices ∙ ap (notices_in r) is_there ∙ silent r k nothing one,
        own.client ∙ ap (option_map (notified r)) is_there ∙ ap (λ (x : Client). Some x) (still r k nothing one) ∙ sym is_there,
      )

  gone_agree : Agree index (next_image seat i event) j
  gone_agree = next_agree_left index seat i j event (record {
    common = commons_stay ∙ a.common;
    part = part_stays ∙ a.part;
    clients = λ n is_after.
        let is : IsIn index n i = ap (λ (c : Common). seat_of n c.overview.clients) (sym commons_stay) ∙ is_after in
        (quiet n is).1 ∙ a.clients n is;
  })

  gone_notices : (n : ℕ) → IsIn index n i → notices_to n (told i event).notices ≡ []
  gone_notices n is = ap (notices_to n) (notices_are i event) ∙ (quiet n is).0

  gone_said : said index i event ≡ []
  gone_said = ap (λ b. if b then Says (told i event).answer (told i event).report ∷ [] else []) outside

seat_cases : (index : ℕ) (o : Option ℕ) (xs ys : List Word) → (o ≡ Some index → xs ≡ ys) → (if is_seat index o then xs else []) ≡ (if is_seat index o then ys else [])
seat_cases index None xs ys e = refl
seat_cases index (Some own) xs ys e =
    let cases : (b : Bool) → (own == index) ≡ b → (if b then xs else []) ≡ (if b then ys else []) =
    λ b. elim b as (λ b. (own == index) ≡ b → (if b then xs else []) ≡ (if b then ys else [])) [ true ↦ λ f. e (ap (λ n. Some n) (eqb-true own index f)) | false ↦ λ f. refl ] in
    cases (own == index) refl

none_either : (b : Bool) → (if◌then◌else◌ {A = List Word} b [] []) ≡ []
none_either true = refl
none_either false = refl

all_the_same : (index : ℕ) (i j : Image) (choices : List Choice) → Legal i → Legal j → Agree index i j → MayLeaveOut index i j choices
    → (number : ℕ) → all_heard index number i (whole choices) ≡ all_heard index number j (left choices)
all_the_same index i j [] legal_i legal_j a may number = refl
all_the_same index i j (Keeps seat event ∷ choices) legal_i legal_j a may number =
    let words : Image → List Word = λ x. map Notifies (notices_to number (told x event).notices) in
    let heard : noticed index number i event ≡ noticed index number j event =
    seat_cases index (seat_of number (overview i).clients) (words i) (words j) (λ is. ap (λ (xs : List Notice). map Notifies xs) (kept_notices index seat i j event a may.0 legal_i legal_j number is))
    ∙ ap (λ (c : Common). if is_seat index (seat_of number c.overview.clients) then words j else []) a.common in
    let rest : all_heard index number (next_image seat i event) (whole choices) ≡ all_heard index number (next_image seat j event) (left choices) =
    all_the_same index (next_image seat i event) (next_image seat j event) choices (stays_legal seat i event legal_i) (stays_legal seat j event legal_j)
    (kept_agree index seat i j event a may.0) may.1 number in
    λ x. kept_said index seat i j event a may.0 x ++ heard x ++ rest x
all_the_same index i j (LeavesOut seat event ∷ choices) legal_i legal_j a may number =
    let words : List Word = map Notifies (notices_to number (told i event).notices) in
    let heard : noticed index number i event ≡ [] =
    seat_cases index (seat_of number (overview i).clients) words [] (λ is. ap (λ (xs : List Notice). map Notifies xs) (gone_notices index seat i j event legal_i a may.0 number is))
    ∙ none_either (is_seat index (seat_of number (overview i).clients)) in
    (λ x. gone_said index seat i j event legal_i a may.0 x ++ heard x ++ all_heard index number (next_image seat i event) (whole choices))
    ∙ all_the_same index (next_image seat i event) j choices (stays_legal seat i event legal_i) legal_j (gone_agree index seat i j event legal_i a may.0) may.1 number

all_agree : (index : ℕ) (i j : Image) (choices : List Choice) → Legal i → Legal j → Agree index i j → MayLeaveOut index i j choices
    → Agree index (after_events i (whole choices)) (after_events j (left choices))
all_agree index i j [] legal_i legal_j a may = a
all_agree index i j (Keeps seat event ∷ choices) legal_i legal_j a may =
    all_agree index (next_image seat i event) (next_image seat j event) choices (stays_legal seat i event legal_i) (stays_legal seat j event legal_j)
    (kept_agree index seat i j event a may.0) may.1
all_agree index i j (LeavesOut seat event ∷ choices) legal_i legal_j a may =
    all_agree index (next_image seat i event) j choices (stays_legal seat i event legal_i) legal_j (gone_agree index seat i j event legal_i a may.0) may.1

pub others_may_be_left_out : OthersMayBeLeftOut
others_may_be_left_out index i j choices legal_i legal_j a may =
    record { heard = all_the_same index i j choices legal_i legal_j a may; agree = all_agree index i j choices legal_i legal_j a may }
