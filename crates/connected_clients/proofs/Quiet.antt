-- Events that raise nothing for any client.
use Rattle.std.proofs.Common.{◌≡◌, ◌⊎◌, ◌↔◌, inl, inr, ℕ, suc, ◌==◌, Bool, true, false, not, ◌&&◌, ◌||◌, List, [], ◌∷◌, Option, Some, None, is_some, refl, ap, sym, ◌∙◌, arith, if◌then◌else◌}
use Rattle.std.specs.Prelude.{IsTrue}
use Rattle.std.specs.List.{list_any}
use Rattle.std.proofs.lemmas.Bool.{eq-eqb, eqb-true}
use Rattle.idle_notes.specs.declared.sets.Subsystems.{Subsystems}
use Rattle.idle_notes.specs.Channels.{clients_with_messages, has_messages_beyond}
use Rattle.idle_notes.specs.Sets.{all, is_nonempty, none}
use Rattle.partition_table.specs.Parts.{part_at}
use Rattle.player_state.specs.declared.state.Client.{Client}
use Rattle.player_state.specs.declared.state.Part.{Part}
use Rattle.connected_clients.specs.declared.fingerprint.OutputsAt.{OutputsAt}
use Rattle.connected_clients.specs.Clients.{has_messages, is_this, newcomer}
use Rattle.connected_clients.specs.UpToDate.{nothing}
use Rattle.connected_clients.specs.Fingerprint.{PartReadings, RaisedData, begins_beyond, begins_between, begins_in, outputs_at, has_beyond, has_messages_in, is_among, is_quiet, messages_begin, outputs_differ, outputs_differ_elsewhere, outputs_differ_from, raised_in}
use Rattle.connected_clients.proofs.Listeners.{among_waiting}
use Rattle.connected_clients.proofs.Empty.{is_none}

first_false : (a b : Bool) → (a || b) ≡ false → a ≡ false
first_false true b e = e
first_false false b e = refl

second_false : (a b : Bool) → (a || b) ≡ false → b ≡ false
second_false true b e = cc
second_false false b e = e

right_false : (a : Bool) → (a && false) ≡ false
right_false true = refl
right_false false = refl

both : (a b : Bool) → (a && b) ≡ true → (a ≡ true) × (b ≡ true)
both true b e = (refl, e)
both false b e = cc

is_not : (a : Bool) → not a ≡ true → a ≡ false
is_not true e = cc
is_not false e = refl

-- what is true of none of some numbers is not true of one of them
none_at : (p : ℕ → Bool) (number : ℕ) (ns : List ℕ) → is_among number ns ≡ true → list_any p ns ≡ false → p number ≡ false
none_at p number [] e h = cc
none_at p number (n ∷ ns) e h =
    let cases : (b : Bool) → (n == number) ≡ b → (b || is_among number ns) ≡ true → p number ≡ false =
    λ b. elim b as (λ b. (n == number) ≡ b → (b || is_among number ns) ≡ true → p number ≡ false) [
      | true ↦ λ t more. (let first = first_false (p n) (list_any p ns) h in ap p (sym (eqb-true n number t)) ∙ first)
      | false ↦ λ t more. none_at p number ns more (second_false (p n) (list_any p ns) h)
    ] in
    cases (n == number) refl e

-- a client for which no message waits that did not before hears of none
unheard_in : (number : ℕ) (having : List ℕ) (part : Option Part) → has_beyond having part ≡ false → (not (is_among number having) && has_messages_in number part) ≡ false
unheard_in number having None e = right_false (not (is_among number having))
unheard_in number having (Some part) none_beyond =
    let cases : (b : Bool) → has_messages number part.channels ≡ b → (not (is_among number having) && b) ≡ false =
    λ b. elim b as (λ b. has_messages number part.channels ≡ b → (not (is_among number having) && b) ≡ false) [
      | true ↦ λ e.
          let there : is_among number (clients_with_messages part.channels) ≡ true = among_waiting number part.channels ∙ e in
          ap (λ x. x && true) (none_at (λ n. not (is_among n having)) number (clients_with_messages part.channels) there none_beyond)
      | false ↦ λ e. right_false (not (is_among number having))
    ] in
    cases (has_messages number part.channels) refl

unheard : (number : ℕ) (before : Option PartReadings) (part : Option Part) → begins_beyond before part ≡ false → begins_between number before part ≡ false
unheard number None part e = refl
unheard number (Some before) part e = unheard_in number before.having part e

-- where no output went or came in a partition of a number other than this, none did in the first one of another
module _ (index own : ℕ) (apart : (index == own) ≡ false) (before : List OutputsAt) (parts : List Part) where
  stands : (es : List OutputsAt) → list_any (λ (e : OutputsAt). not (e.index == own) && outputs_differ e.index before parts) es ≡ false
      → (outputs_at index es ≡ None) ⊎ (outputs_differ index before parts ≡ false)
  stands [] h = inl refl
  stands (e ∷ es) h =
      let first = first_false (not (e.index == own) && outputs_differ e.index before parts) (list_any (λ (x : OutputsAt). not (x.index == own) && outputs_differ x.index before parts) es) h in
      let rest = second_false (not (e.index == own) && outputs_differ e.index before parts) (list_any (λ (x : OutputsAt). not (x.index == own) && outputs_differ x.index before parts) es) h in
      let cases : (b : Bool) → (e.index == index) ≡ b → ((if b then Some e.flags else outputs_at index es) ≡ None) ⊎ (outputs_differ index before parts ≡ false) =
      λ b. elim b as (λ b. (e.index == index) ≡ b → ((if b then Some e.flags else outputs_at index es) ≡ None) ⊎ (outputs_differ index before parts ≡ false)) [
        | true ↦ λ t.
            let is : e.index ≡ index = eqb-true e.index index t in
            let same : (not (index == own) && outputs_differ index before parts) ≡ false = ap (λ n. not (n == own) && outputs_differ n before parts) (sym is) ∙ first in
            inr (sym (ap (λ c. not c && outputs_differ index before parts) apart) ∙ same)
        | false ↦ λ t. stands es rest
      ] in
      cases (e.index == index) refl

  none_differ : list_any (λ (e : OutputsAt). not (e.index == own) && outputs_differ e.index before parts) before ≡ false → outputs_differ index before parts ≡ false
  none_differ h = elim (stands before h) [ inl e ↦ ap (λ o. outputs_differ_from o (part_at index parts)) e | inr e ↦ e ]

no_one : (moved_client : Option ℕ) (number : ℕ) → is_some moved_client ≡ false → is_this moved_client number ≡ false
no_one None number e = refl
no_one (Some this) number e = cc

module _ (r : RaisedData) (quiet : is_quiet r ≡ true) where
  goes : (not (is_some r.moved_client) ≡ true) × ((((not (is_nonempty (record r.own { message = false })) && not (messages_begin r)) && not (is_nonempty (record r.common { output = false }))) && not (outputs_differ_elsewhere r)) ≡ true)
  goes = both _ _ quiet

  still : (((not (is_nonempty (record r.own { message = false })) && not (messages_begin r)) && not (is_nonempty (record r.common { output = false }))) ≡ true) × (not (outputs_differ_elsewhere r) ≡ true)
  still = both _ _ goes.1

  inner : ((not (is_nonempty (record r.own { message = false })) && not (messages_begin r)) ≡ true) × (not (is_nonempty (record r.common { output = false })) ≡ true)
  inner = both _ _ still.0

  own_is : (not (is_nonempty (record r.own { message = false })) ≡ true) × (not (messages_begin r) ≡ true)
  own_is = both _ _ inner.0

  here : (number : ℕ) → record r.own { message = begins_in r number } ≡ none
  here number =
      ap (λ (b : Bool). record r.own { message = b }) (unheard number r.before.own (part_at r.before.index r.parts) (is_not _ own_is.1))
      ∙ is_none (record r.own { message = false }) (is_not _ own_is.0)

  elsewhere : (index : ℕ) → (index == r.before.index) ≡ false → record r.common { output = outputs_differ index r.before.outputs r.parts } ≡ none
  elsewhere index apart =
      ap (λ (b : Bool). record r.common { output = b }) (none_differ index r.before.index apart r.before.outputs r.parts (is_not _ still.1))
      ∙ is_none (record r.common { output = false }) (is_not _ inner.1)

  one : (client : Client) → raised_in r client ≡ none
  one client =
      let there : Bool → Subsystems = λ b.
      if b then record r.own { message = begins_in r client.number } else record r.common { output = outputs_differ client.index r.before.outputs r.parts } in
      let cases : (b : Bool) → (client.index == r.before.index) ≡ b → there b ≡ none =
      λ b. elim b as (λ b. (client.index == r.before.index) ≡ b → there b ≡ none) [ true ↦ λ e. here client.number | false ↦ λ e. elsewhere client.index e ] in
      ap (λ b. if b then all else there (client.index == r.before.index)) (no_one r.moved_client client.number (is_not _ goes.0)) ∙ cases (client.index == r.before.index) refl

true_is : (b : Bool) → IsTrue b → b ≡ true
true_is true t = refl
true_is false t = cc

later : (a b : Bool) → b ≡ true → (a || b) ≡ true
later true b e = refl
later false b e = e

-- what is true of one of some numbers
some_at : (p : ℕ → Bool) (ns : List ℕ) → list_any p ns ≡ true → (n : ℕ) × (is_among n ns ≡ true) × (p n ≡ true)
some_at p [] e = cc
some_at p (n ∷ ns) e =
    let cases : (b : Bool) → p n ≡ b → (b || list_any p ns) ≡ true → (k : ℕ) × (is_among k (n ∷ ns) ≡ true) × (p k ≡ true) =
    λ b. elim b as (λ b. p n ≡ b → (b || list_any p ns) ≡ true → (k : ℕ) × (is_among k (n ∷ ns) ≡ true) × (p k ≡ true)) [
      | true ↦ λ t more. (n, ap (λ c. c || is_among n ns) (eq-eqb n n refl), t)
      | false ↦ λ t more. (let rest = some_at p ns more in (rest.0, later (n == rest.0) (is_among rest.0 ns) rest.1, rest.2))
    ] in
    cases (p n) refl e

-- where no client hears of a first message, none waits for others than those for which one waited
none_beyond : (having : List ℕ) (part : Option Part) → ((number : ℕ) → (not (is_among number having) && has_messages_in number part) ≡ false) → has_beyond having part ≡ false
none_beyond having None h = refl
none_beyond having (Some part) h =
    let cases : (b : Bool) → has_messages_beyond having part.channels ≡ b → b ≡ false =
    λ b. elim b as (λ b. has_messages_beyond having part.channels ≡ b → b ≡ false) [
      | true ↦ λ e.
          let one = some_at (λ n. not (is_among n having)) (clients_with_messages part.channels) e in
          let has : has_messages one.0 part.channels ≡ true = sym (among_waiting one.0 part.channels) ∙ one.1 in
          let heard : (not (is_among one.0 having) && has_messages one.0 part.channels) ≡ true = ap (λ x. x && has_messages one.0 part.channels) one.2 ∙ has in
          let clash : true ≡ false = sym heard ∙ h one.0 in
          cc
      | false ↦ λ e. refl
    ] in
    cases (has_messages_beyond having part.channels) refl

none_begin : (before : Option PartReadings) (part : Option Part) → ((number : ℕ) → begins_between number before part ≡ false) → begins_beyond before part ≡ false
none_begin None part h = refl
none_begin (Some before) part h = none_beyond before.having part h

none_of : {A : Type 0} (p : A → Bool) (l : List A) → ((x : A) → p x ≡ false) → list_any p l ≡ false
none_of p [] h = refl
none_of p (x ∷ xs) h = ap (λ b. b || list_any p xs) (h x) ∙ none_of p xs h

goes_nowhere : (moved_client : Option ℕ) → ((number : ℕ) → is_this moved_client number ≡ false) → is_some moved_client ≡ false
goes_nowhere None h = refl
goes_nowhere (Some this) h = let clash : true ≡ false = sym (eq-eqb this this refl) ∙ h this in cc

next_apart : (index : ℕ) → (suc index == index) ≡ false
next_apart index =
    let cases : (b : Bool) → (suc index == index) ≡ b → b ≡ false =
    λ b. elim b as (λ b. (suc index == index) ≡ b → b ≡ false)
    [ true ↦ λ e. (let same = eqb-true (suc index) index e in absurd (omega (arith, same))) | false ↦ λ e. refl ] in
    cases (suc index == index) refl

-- where nothing is raised for any client, the test is true: each of its parts is seen by some client
module _ (r : RaisedData) (none_raised : raised_in r ≡ nothing) where
  abbrev there : Client → Subsystems
  there client =
      if client.index == r.before.index then record r.own { message = begins_in r client.number }
      else record r.common { output = outputs_differ client.index r.before.outputs r.parts }

  told : (client : Client) → raised_in r client ≡ none
  told client = ap (λ (f : Client → Subsystems). f client) none_raised

  not_this : (number : ℕ) → is_this r.moved_client number ≡ false
  not_this number =
      let cases : (b : Bool) → is_this r.moved_client number ≡ b → b ≡ false =
      λ b. elim b as (λ b. is_this r.moved_client number ≡ b → b ≡ false) [
        | true ↦ λ e. (let clash : true ≡ false = sym (ap (λ c. (if c then all else there (newcomer number)).message) e) ∙ ap (λ (s : Subsystems). s.message) (told (newcomer number)) in cc)
        | false ↦ λ e. refl
      ] in
      cases (is_this r.moved_client number) refl

  within : (client : Client) → there client ≡ none
  within client = sym (ap (λ b. if b then all else there client) (not_this client.number)) ∙ told client

  own_at : (number : ℕ) → record r.own { message = begins_in r number } ≡ none
  own_at number =
      sym (ap (λ b. if b then record r.own { message = begins_in r number } else record r.common { output = outputs_differ r.before.index r.before.outputs r.parts }) (eq-eqb r.before.index r.before.index refl))
      ∙ within (record (newcomer number) { index = r.before.index })

  common_at : (index : ℕ) → (index == r.before.index) ≡ false → record r.common { output = outputs_differ index r.before.outputs r.parts } ≡ none
  common_at index apart =
      sym (ap (λ b. if b then record r.own { message = begins_in r 0 } else record r.common { output = outputs_differ index r.before.outputs r.parts }) apart)
      ∙ within (record (newcomer 0) { index = index })

  none_own : is_nonempty (record r.own { message = false }) ≡ false
  none_own = ap (λ (s : Subsystems). is_nonempty (record s { message = false })) (own_at 0)

  none_messages : messages_begin r ≡ false
  none_messages = none_begin r.before.own (part_at r.before.index r.parts) (λ number. ap (λ (s : Subsystems). s.message) (own_at number))

  none_common : is_nonempty (record r.common { output = false }) ≡ false
  none_common = ap (λ (s : Subsystems). is_nonempty (record s { output = false })) (common_at (suc r.before.index) (next_apart r.before.index))

  one_alike : (e : OutputsAt) → (not (e.index == r.before.index) && outputs_differ e.index r.before.outputs r.parts) ≡ false
  one_alike e =
      let cases : (b : Bool) → (e.index == r.before.index) ≡ b → (not b && outputs_differ e.index r.before.outputs r.parts) ≡ false =
      λ b. elim b as (λ b. (e.index == r.before.index) ≡ b → (not b && outputs_differ e.index r.before.outputs r.parts) ≡ false)
      [ true ↦ λ t. refl | false ↦ λ t. ap (λ (s : Subsystems). s.output) (common_at e.index t) ] in
      cases (e.index == r.before.index) refl

  is_still : is_quiet r ≡ true
  is_still =
      rw (
        goes_nowhere r.moved_client not_this,
        none_own,
        none_messages,
        none_common,
        none_of (λ (e : OutputsAt). not (e.index == r.before.index) && outputs_differ e.index r.before.outputs r.parts) r.before.outputs one_alike,
      )
      refl

-- the test is true exactly where nothing is raised for any client
pub quiet_nothing : (r : RaisedData) → IsTrue (is_quiet r) ↔ (raised_in r ≡ nothing)
quiet_nothing r = (λ quiet. λ i client. one r (true_is (is_quiet r) quiet) client i, λ none_raised. rw (is_still r none_raised) refl)
