-- No client is there twice.
use Rattle.std.proofs.Common.{◌≡◌, ◌∙◌, ℕ, ◌==◌, Bool, true, false, cond, ◌||◌, List, [], ◌∷◌, ◌++◌, map, filter, Option, Some, None, is_some, refl, sym, ap, subst, eq-eqb, arith}
use Rattle.std.specs.Prelude.{◌↔◌}
use Rattle.std.proofs.lemmas.Bool.{false≢true}
use Rattle.std.proofs.lemmas.Bool.Decides.{nat_tests}
use Rattle.idle_notes.specs.declared.channels.Message.{Message}
use Rattle.idle_notes.specs.Channels.{MemberData, member_of, names_in, has_name, listens, hears, receives, changed, with_name, without_name, without_messages, given, subscribed, unsubscribed, sent, emptied, left, ClientsDiffer}

none-cond : (b : Bool) (x y : MemberData) (r s : Option MemberData) → (r ≡ None → s ≡ None) → cond b (Some x) r ≡ None → cond b (Some y) s ≡ None
none-cond true x y r s g h = cc
none-cond false x y r s g h = g h

test-false : (b : Bool) (x : MemberData) (r : Option MemberData) → cond b (Some x) r ≡ None → b ≡ false
test-false true x r h = cc
test-false false x r h = refl

rest-none : (b : Bool) (x : MemberData) (r : Option MemberData) → cond b (Some x) r ≡ None → r ≡ None
rest-none true x r h = cc
rest-none false x r h = h

absent-changed : (f : MemberData → MemberData) → ((m : MemberData) → (f m).client ≡ m.client) → (q client : ℕ) (ms : List MemberData) → member_of q ms ≡ None → member_of q (changed client f ms) ≡ None
absent-changed f k q client [] h = h
absent-changed f k q client (m ∷ ms) h =
    elim (m.client == client) as (λ b. member_of q (cond b (f m ∷ ms) (m ∷ changed client f ms)) ≡ None) [
      | true ↦ (let P : ℕ → Type 0 = λ n. cond (n == q) (Some (f m)) (member_of q ms) ≡ None in subst P (sym (k m)) (none-cond (m.client == q) m (f m) (member_of q ms) (member_of q ms) (λ e. e) h))
      | false ↦ none-cond (m.client == q) m m (member_of q ms) (member_of q (changed client f ms)) (absent-changed f k q client ms) h
    ]

differ-changed : (f : MemberData → MemberData) → ((m : MemberData) → (f m).client ≡ m.client) → (client : ℕ) (ms : List MemberData) → ClientsDiffer ms → ClientsDiffer (changed client f ms)
differ-changed f k client [] d = d
differ-changed f k client (m ∷ ms) d =
    elim (m.client == client) as (λ b. ClientsDiffer (cond b (f m ∷ ms) (m ∷ changed client f ms))) [
      | true ↦ ((let P : ℕ → Type 0 = λ n. member_of n ms ≡ None in subst P (sym (k m)) d.0), d.1)
      | false ↦ (absent-changed f k m.client client ms d.0, differ-changed f k client ms d.1)
    ]

absent-map : (f : MemberData → MemberData) → ((m : MemberData) → (f m).client ≡ m.client) → (q : ℕ) (ms : List MemberData) → member_of q ms ≡ None → member_of q (map f ms) ≡ None
absent-map f k q [] h = h
absent-map f k q (m ∷ ms) h =
    let P : ℕ → Type 0 = λ n. cond (n == q) (Some (f m)) (member_of q (map f ms)) ≡ None in
    subst P (sym (k m)) (none-cond (m.client == q) m (f m) (member_of q ms) (member_of q (map f ms)) (absent-map f k q ms) h)

differ-map : (f : MemberData → MemberData) → ((m : MemberData) → (f m).client ≡ m.client) → (ms : List MemberData) → ClientsDiffer ms → ClientsDiffer (map f ms)
differ-map f k [] d = d
differ-map f k (m ∷ ms) d = ((let P : ℕ → Type 0 = λ n. member_of n (map f ms) ≡ None in subst P (sym (k m)) (absent-map f k m.client ms d.0)), differ-map f k ms d.1)

absent-filter : (p : MemberData → Bool) (q : ℕ) (ms : List MemberData) → member_of q ms ≡ None → member_of q (filter p ms) ≡ None
absent-filter p q [] h = h
absent-filter p q (m ∷ ms) h =
    elim (p m) as (λ b. member_of q (cond b (m ∷ filter p ms) (filter p ms)) ≡ None) [
      | true ↦ none-cond (m.client == q) m m (member_of q ms) (member_of q (filter p ms)) (absent-filter p q ms) h
      | false ↦ absent-filter p q ms (rest-none (m.client == q) m (member_of q ms) h)
    ]

differ-filter : (p : MemberData → Bool) (ms : List MemberData) → ClientsDiffer ms → ClientsDiffer (filter p ms)
differ-filter p [] d = d
differ-filter p (m ∷ ms) d =
    elim (p m) as (λ b. ClientsDiffer (cond b (m ∷ filter p ms) (filter p ms))) [
      | true ↦ (absent-filter p m.client ms d.0, differ-filter p ms d.1)
      | false ↦ differ-filter p ms d.1
    ]

other-way : (a b : ℕ) → (a == b) ≡ false → (b == a) ≡ false
other-way a b h = grind (arith, nat_tests)

absent-append : (q : ℕ) (ms : List MemberData) (n : MemberData) → (n.client == q) ≡ false → member_of q ms ≡ None → member_of q (ms ++ n ∷ []) ≡ None
absent-append q [] n e h = ap (λ b. cond b (Some n) None) e
absent-append q (m ∷ ms) n e h = none-cond (m.client == q) m m (member_of q ms) (member_of q (ms ++ n ∷ [])) (absent-append q ms n e) h

differ-append : (ms : List MemberData) (n : MemberData) → member_of n.client ms ≡ None → ClientsDiffer ms → ClientsDiffer (ms ++ n ∷ [])
differ-append [] n h d = (refl, tt)
differ-append (m ∷ ms) n h d =
    (absent-append m.client ms n (other-way m.client n.client (test-false (m.client == n.client) m (member_of n.client ms) h)) d.0, differ-append ms n (rest-none (m.client == n.client) m (member_of n.client ms) h) d.1)

pub differ-subscribed : (client : ℕ) (name : List ℕ) (members : List MemberData) → ClientsDiffer members → ClientsDiffer (subscribed client name members)
unfolding subscribed
differ-subscribed client name members d =
    let new : MemberData = record { client = client; names = name ∷ []; messages = [] } in
    let goes : (o : Option MemberData) → member_of client members ≡ o → ClientsDiffer (cond (is_some o) (changed client (with_name name) members) (members ++ new ∷ []))
    = λ o. elim o as (λ o. member_of client members ≡ o → ClientsDiffer (cond (is_some o) (changed client (with_name name) members) (members ++ new ∷ []))) [ None ↦ λ e. differ-append members new e d | Some m ↦ λ e. differ-changed (with_name name) (λ m. refl) client members d ] in
    goes (member_of client members) refl

pub differ-unsubscribed : (client : ℕ) (name : List ℕ) (members : List MemberData) → ClientsDiffer members → ClientsDiffer (unsubscribed client name members)
unfolding unsubscribed
differ-unsubscribed client name members d = differ-changed (without_name name) (λ m. refl) client members d

given-client : (message : Message) (m : MemberData) → (given message m).client ≡ m.client
given-client message m =
    let more : MemberData = record { client = m.client; names = m.names; messages = m.messages ++ message ∷ [] } in
    elim (receives message.channel m) as (λ b. (cond b more m).client ≡ m.client) [ true ↦ refl | false ↦ refl ]

pub differ-sent : (name text : List ℕ) (members : List MemberData) → ClientsDiffer members → ClientsDiffer (sent name text members)
unfolding sent
differ-sent name text members d =
    let message : Message = record { channel = name; text = text } in
    differ-map (given message) (given-client message) members d

pub differ-emptied : (client : ℕ) (members : List MemberData) → ClientsDiffer members → ClientsDiffer (emptied client members)
unfolding emptied
differ-emptied client members d = differ-changed without_messages (λ m. refl) client members d

pub differ-left : (client : ℕ) (members : List MemberData) → ClientsDiffer members → ClientsDiffer (left client members)
unfolding left
differ-left client members d = differ-filter _ members d

same-number : (a b : ℕ) → (a == b) ≡ true → a ≡ b
same-number a b h = grind (arith, nat_tests)

-- some client listens
abbrev Heard : List ℕ → List MemberData → Type 0
Heard name members = (client : ℕ) × (listens client name members ≡ true)

or-second : (a b : Bool) → b ≡ true → (a || b) ≡ true
or-second true b h = refl
or-second false b h = h

listens-heard : (name : List ℕ) (ms : List MemberData) (q : ℕ) → listens q name ms ≡ true → hears name ms ≡ true
listens-heard name [] q h = h
listens-heard name (m ∷ ms) q h =
    let goes : (b : Bool) → has_name name (names_in (cond b (Some m) (member_of q ms))) ≡ true → hears name (m ∷ ms) ≡ true
    = λ b. elim b as (λ b. has_name name (names_in (cond b (Some m) (member_of q ms))) ≡ true → hears name (m ∷ ms) ≡ true) [ true ↦ λ k. ap (λ a. a || hears name ms) k | false ↦ λ k. or-second (has_name name m.names) (hears name ms) (listens-heard name ms q k) ] in
    goes (m.client == q) h

still : (name : List ℕ) (m : MemberData) (ms : List MemberData) → member_of m.client ms ≡ None → (q : ℕ) → listens q name ms ≡ true → listens q name (m ∷ ms) ≡ true
still name m ms d q h =
    let goes : (b : Bool) → (m.client == q) ≡ b → has_name name (names_in (cond b (Some m) (member_of q ms))) ≡ true
    = λ b. elim b as (λ b. (m.client == q) ≡ b → has_name name (names_in (cond b (Some m) (member_of q ms))) ≡ true) [
      | true ↦ λ e. absurd (false≢true (sym (ap (λ o. has_name name (names_in o)) (ap (λ n. member_of n ms) (sym (same-number m.client q e)) ∙ d)) ∙ h))
      | false ↦ λ e. h
    ] in
    goes (m.client == q) refl

heard-listens : (name : List ℕ) (ms : List MemberData) → ClientsDiffer ms → hears name ms ≡ true → Heard name ms
heard-listens name [] d h = absurd (false≢true h)
heard-listens name (m ∷ ms) d h =
    let goes : (b : Bool) → has_name name m.names ≡ b → (b || hears name ms) ≡ true → Heard name (m ∷ ms)
    = λ b. elim b as (λ b. has_name name m.names ≡ b → (b || hears name ms) ≡ true → Heard name (m ∷ ms)) [
      | true ↦ λ e k. (m.client, ap (λ t. has_name name (names_in (cond t (Some m) (member_of m.client ms)))) (eq-eqb m.client m.client refl) ∙ e)
      | false ↦ λ e k. (let w : Heard name ms = heard-listens name ms d.1 k in (w.0, still name m ms d.0 w.0 w.1))
    ] in
    goes (has_name name m.names) refl h

pub hears-is : (name : List ℕ) (members : List MemberData) → ClientsDiffer members → (hears name members ≡ true) ↔ ((client : ℕ) × (listens client name members ≡ true))
hears-is name members d = ((λ h. heard-listens name members d h), (λ w. listens-heard name members w.0 w.1))
