-- Whether an event changes who listens to which channel, and for whom messages wait.
use Rattle.std.proofs.Common.{◌≡◌, ℕ, suc, ◌+◌, ◌<◌, ◌≤◌, ◌==◌, Bool, true, false, not, ◌&&◌, ◌||◌, List, [], ◌∷◌, ◌++◌, length, Option, Some, None, is_some, map, refl, ap, sym, subst, ◌∙◌, append_assoc, arith, if◌then◌else◌}
use Rattle.std.specs.Prelude.{filter}
use Rattle.std.specs.List.{list_any}
use Rattle.std.specs.Str.{bytes_eq}
use Rattle.std.proofs.lemmas.Bool.{eqb-true}
use Rattle.std.proofs.lemmas.List.{length-append}
use Rattle.idle_notes.specs.declared.channels.Message.{Message}
use Rattle.idle_notes.specs.Channels.{MemberData, messages_in, names_in, changed, clients_with_messages, emptied, given, has_name, is_listening, left, listens, member_of, pairs, receives, sent, subscribed, unsubscribed, with_name, without_messages, without_name}
use Rattle.player_state.specs.declared.effect.Effect.{Effect}
use Rattle.player_state.specs.declared.effect.Effect.TheVariants.{ByCommand}
use Rattle.player_state.specs.declared.effect.CommandEffect.TheVariants.{Subscribes, Unsubscribes, Sends, ReadsMessages, Leaves}
use Rattle.connected_clients.specs.Clients.{has_messages, same_pairs}
use Rattle.player_state.specs.Effects.{channels_after}
use Rattle.connected_clients.specs.Fingerprint.{changes_subscriptions, is_among}
use Rattle.connected_clients.proofs.Alike.{more_than_none, same_pairs-refl, same_pairs-true}

both_false : (b : Bool) → (b && false) ≡ false
both_false true = refl
both_false false = refl

both_true : (b : Bool) → (b && true) ≡ b
both_true true = refl
both_true false = refl

-- of the clients that a test keeps, a number is one where it is one of all, and is kept
among_kept : (keep : ℕ → Bool) (number : ℕ) (ms : List MemberData)
    → is_among number (map (λ (m : MemberData). m.client) (filter (λ (m : MemberData). keep m.client) ms)) ≡ (keep number && list_any (λ (m : MemberData). m.client == number) ms)
among_kept keep number [] = sym (both_false (keep number))
among_kept keep number (m ∷ ms) =
    let rest = among_kept keep number ms in
    let found : Bool = list_any (λ (x : MemberData). x.client == number) ms in
    let more : List MemberData = filter (λ (x : MemberData). keep x.client) ms in
    let Goal : Bool → Bool → Bool → Type 0 = λ b k h.
    is_among number (map (λ (x : MemberData). x.client) (if k then m ∷ more else more)) ≡ (h && (b || found)) in
    let same : (m.client == number) ≡ true → keep m.client ≡ keep number = λ e. ap keep (eqb-true m.client number e) in
    let apart : (k : Bool) → (m.client == number) ≡ false → Goal false k (keep number) =
    λ k. elim k as (λ k. (m.client == number) ≡ false → Goal false k (keep number)) [ true ↦ λ e. ap (λ b. b || is_among number (map (λ (x : MemberData). x.client) more)) e ∙ rest | false ↦ λ e. rest ] in
    let one : (h : Bool) → keep number ≡ h → (m.client == number) ≡ true → Goal true h h =
    λ h. elim h as (λ h. keep number ≡ h → (m.client == number) ≡ true → Goal true h h) [
      | true ↦ λ k e. ap (λ b. b || is_among number (map (λ (x : MemberData). x.client) more)) e
      | false ↦ λ k e. rest ∙ ap (λ b. b && found) k
    ] in
    let cases : (b : Bool) → (m.client == number) ≡ b → Goal b (keep m.client) (keep number) =
    λ b. elim b as (λ b. (m.client == number) ≡ b → Goal b (keep m.client) (keep number)) [
      | true ↦ λ e. subst (λ (k : Bool). Goal true k (keep number)) (sym (same e)) (one (keep number) refl e)
      | false ↦ λ e. apart (keep m.client) e
    ] in
    subst (λ (b : Bool). Goal b (keep m.client) (keep number)) refl (cases (m.client == number) refl)

-- nothing is known of a client that is not there
none_found : (number : ℕ) (ms : List MemberData) → list_any (λ (m : MemberData). m.client == number) ms ≡ false → member_of number ms ≡ None
none_found number [] e = refl
none_found number (m ∷ ms) e =
    let cases : (b : Bool) → (m.client == number) ≡ b → (if b then Some m else member_of number ms) ≡ None =
    λ b. elim b as (λ b. (m.client == number) ≡ b → (if b then Some m else member_of number ms) ≡ None) [
      | true ↦ λ t. (let clash : true ≡ false = sym (ap (λ c. c || list_any (λ (x : MemberData). x.client == number) ms) t) ∙ e in cc)
      | false ↦ λ t. none_found number ms (sym (ap (λ c. c || list_any (λ (x : MemberData). x.client == number) ms) t) ∙ e)
    ] in
    cases (m.client == number) refl

-- a client is among those for which messages wait where they do
pub among_waiting : (number : ℕ) (ms : List MemberData) → is_among number (clients_with_messages ms) ≡ has_messages number ms
among_waiting number ms =
    let there : Bool = list_any (λ (m : MemberData). m.client == number) ms in
    let cases : (b : Bool) → there ≡ b → (has_messages number ms && b) ≡ has_messages number ms =
    λ b. elim b as (λ b. there ≡ b → (has_messages number ms && b) ≡ has_messages number ms) [
      | true ↦ λ e. both_true (has_messages number ms)
      | false ↦ λ e. both_false (has_messages number ms) ∙ sym (ap (λ (o : Option MemberData). not (length (messages_in o) == 0)) (none_found number ms e))
    ] in
    among_kept (λ n. has_messages n ms) number ms ∙ cases there refl

length-map : {X Y : Type 0} (f : X → Y) (xs : List X) → length (map f xs) ≡ length xs
length-map f [] = refl
length-map f (x ∷ xs) = ap suc (length-map f xs)

-- the pairs of one client
abbrev of_one : MemberData → List (ℕ × List ℕ)
of_one m = map (λ name. (m.client, name)) m.names

-- two lists are as one where a test is false, and of other lengths where it is true
abbrev Tells : {X : Type 0} → Bool → List X → List X → Type 0
Tells true p q = length p < length q
Tells false p q = p ≡ q

-- joined before a list, or after it, they stay so
before_all : {X : Type 0} (b : Bool) (p q r : List X) → Tells b p q → Tells b (r ++ p) (r ++ q)
before_all true p q r less =
    let a = length-append r p in
    let b = length-append r q in
    omega (arith, less, a, b)
before_all false p q r e = ap (λ l. r ++ l) e

after_all : {X : Type 0} (b : Bool) (p q r : List X) → Tells b p q → Tells b (p ++ r) (q ++ r)
after_all true p q r less =
    let a = length-append p r in
    let b = length-append q r in
    omega (arith, less, a, b)
after_all false p q r e = ap (λ l. l ++ r) e

mapped : {X Y : Type 0} (b : Bool) (f : X → Y) (p q : List X) → Tells b p q → Tells b (map f p) (map f q)
mapped true f p q less =
    let a = length-map f p in
    let b = length-map f q in
    omega (arith, less, a, b)
mapped false f p q e = ap (map f) e

at_most : {X : Type 0} (keep : X → Bool) (xs : List X) → length (filter keep xs) ≤ length xs
at_most keep [] = omega arith
at_most keep (x ∷ xs) =
    let rest = at_most keep xs in
    elim (keep x) as (λ b. length (if b then x ∷ filter keep xs else filter keep xs) ≤ length (x ∷ xs)) [ true ↦ omega (arith, rest) | false ↦ omega (arith, rest) ]

-- what a test does not keep is gone
fewer : {X : Type 0} (gone : X → Bool) (xs : List X) → Tells (list_any gone xs) (filter (λ x. not (gone x)) xs) xs
fewer gone [] = refl
fewer gone (x ∷ xs) =
    let rest = fewer gone xs in
    let most = at_most (λ y. not (gone y)) xs in
    elim (gone x) as (λ b. Tells (b || list_any gone xs) (if not b then x ∷ filter (λ y. not (gone y)) xs else filter (λ y. not (gone y)) xs) (x ∷ xs))
    [ true ↦ omega (arith, most) | false ↦ before_all (list_any gone xs) (filter (λ y. not (gone y)) xs) xs (x ∷ []) rest ]

unnamed : (client : ℕ) (name : List ℕ) (ms : List MemberData) → Tells (listens client name ms) (pairs (changed client (without_name name) ms)) (pairs ms)
unnamed client name [] = refl
unnamed client name (m ∷ ms) =
    elim (m.client == client) as (λ b. Tells (has_name name (names_in (if b then Some m else member_of client ms))) (pairs (if b then without_name name m ∷ ms else m ∷ changed client (without_name name) ms)) (of_one m ++ pairs ms)) [
      | true ↦ after_all (has_name name m.names) (of_one (without_name name m)) (of_one m) (pairs ms)
          (mapped (has_name name m.names) (λ own. (m.client, own)) (filter (λ own. not (bytes_eq name own)) m.names) m.names (fewer (λ own. bytes_eq name own) m.names))
      | false ↦ before_all (listens client name ms) (pairs (changed client (without_name name) ms)) (pairs ms) (of_one m) (unnamed client name ms)
    ]

fewest : (client : ℕ) (ms : List MemberData) → length (pairs (filter (λ (m : MemberData). not (m.client == client)) ms)) ≤ length (pairs ms)
fewest client [] = omega arith
fewest client (m ∷ ms) =
    let rest = fewest client ms in
    let others : List MemberData = filter (λ (x : MemberData). not (x.client == client)) ms in
    let a = length-append (of_one m) (pairs others) in
    let b = length-append (of_one m) (pairs ms) in
    elim (m.client == client) as (λ b. length (pairs (if not b then m ∷ others else others)) ≤ length (of_one m ++ pairs ms)) [ true ↦ omega (arith, rest, b) | false ↦ omega (arith, rest, a, b) ]

named_or_not : (client own : ℕ) (names : List (List ℕ)) (ms others : List MemberData) → Tells (is_listening client ms) (pairs others) (pairs ms) → length (pairs others) ≤ length (pairs ms)
    → Tells (not (length names == 0) || is_listening client ms) (pairs others) (map (λ name. (own, name)) names ++ pairs ms)
named_or_not client own [] ms others rest most = rest
named_or_not client own (name ∷ names) ms others rest most =
    let a = length-append (map (λ n. (own, n)) (name ∷ names)) (pairs ms) in
    let some : (length (name ∷ names) == 0) ≡ false = ap (λ n. n == 0) (let is : length (name ∷ names) ≡ 1 + length names = omega arith in is) ∙ more_than_none (length names) in
    let less : length (pairs others) < length (map (λ n. (own, n)) (name ∷ names) ++ pairs ms) = omega (arith, most, a) in
    subst (λ (b : Bool). Tells (not b || is_listening client ms) (pairs others) (map (λ n. (own, n)) (name ∷ names) ++ pairs ms)) (sym some) less

-- a client that goes takes its subscriptions along
gone : (client : ℕ) (ms : List MemberData) → Tells (is_listening client ms) (pairs (filter (λ (m : MemberData). not (m.client == client)) ms)) (pairs ms)
gone client [] = refl
gone client (m ∷ ms) =
    let rest = gone client ms in
    let most = fewest client ms in
    let others : List MemberData = filter (λ (x : MemberData). not (x.client == client)) ms in
    elim (m.client == client) as (λ b. Tells ((b && not (length m.names == 0)) || is_listening client ms) (pairs (if not b then m ∷ others else others)) (of_one m ++ pairs ms)) [
      | true ↦ named_or_not client m.client m.names ms others rest most
      | false ↦ before_all (is_listening client ms) (pairs others) (pairs ms) (of_one m) rest
    ]

-- a message changes no subscription
one_given : (message : Message) (m : MemberData) → of_one (given message m) ≡ of_one m
one_given message m =
    elim (receives message.channel m) as (λ b. of_one (if b then record m { messages = m.messages ++ message ∷ [] } else m) ≡ of_one m) [ true ↦ refl | false ↦ refl ]

given_same : (message : Message) (ms : List MemberData) → pairs (map (given message) ms) ≡ pairs ms
given_same message [] = refl
given_same message (m ∷ ms) = λ i. one_given message m i ++ given_same message ms i

read_same : (client : ℕ) (ms : List MemberData) → pairs (changed client without_messages ms) ≡ pairs ms
read_same client [] = refl
read_same client (m ∷ ms) =
    elim (m.client == client) as (λ b. pairs (if b then without_messages m ∷ ms else m ∷ changed client without_messages ms) ≡ of_one m ++ pairs ms)
    [ true ↦ refl | false ↦ ap (λ l. of_one m ++ l) (read_same client ms) ]

one_more : (client : ℕ) (name : List ℕ) (m : MemberData) → length (of_one (with_name name m)) ≡ length (of_one m) + 1
one_more client name m =
    length-map (λ own. (m.client, own)) (m.names ++ name ∷ []) ∙ length-append m.names (name ∷ []) ∙ ap (λ n. n + 1) (sym (length-map (λ own. (m.client, own)) m.names))

named_more : (client : ℕ) (name : List ℕ) (ms : List MemberData) → is_some (member_of client ms) ≡ true
    → length (pairs (changed client (with_name name) ms)) ≡ length (pairs ms) + 1
named_more client name [] e = cc
named_more client name (m ∷ ms) e =
    let Goal : Bool → Type 0 = λ b. length (pairs (if b then with_name name m ∷ ms else m ∷ changed client (with_name name) ms)) ≡ length (of_one m ++ pairs ms) + 1 in
    let cases : (b : Bool) → (m.client == client) ≡ b → is_some (if b then Some m else member_of client ms) ≡ true → Goal b =
    λ b. elim b as (λ b. (m.client == client) ≡ b → is_some (if b then Some m else member_of client ms) ≡ true → Goal b) [
      | true ↦ λ t h.
          let first = one_more client name m in
          let a = length-append (of_one (with_name name m)) (pairs ms) in
          let b = length-append (of_one m) (pairs ms) in
          omega (arith, first, a, b)
      | false ↦ λ t h.
          let rest = named_more client name ms h in
          let a = length-append (of_one m) (pairs (changed client (with_name name) ms)) in
          let b = length-append (of_one m) (pairs ms) in
          omega (arith, rest, a, b)
    ] in
    cases (m.client == client) refl e

pairs-append : (ms ns : List MemberData) → pairs (ms ++ ns) ≡ pairs ms ++ pairs ns
pairs-append [] ns = refl
pairs-append (m ∷ ms) ns = ap (λ l. of_one m ++ l) (pairs-append ms ns) ∙ sym (append_assoc (of_one m) (pairs ms) (pairs ns))

subscribed_more : (client : ℕ) (name : List ℕ) (ms : List MemberData) → length (pairs ms) < length (pairs (subscribed client name ms))
unfolding subscribed
subscribed_more client name ms =
    let new : MemberData = record { client = client; names = name ∷ []; messages = [] } in
    let cases : (b : Bool) → is_some (member_of client ms) ≡ b → length (pairs ms) < length (pairs (if b then changed client (with_name name) ms else ms ++ new ∷ [])) =
    λ b. elim b as (λ b. is_some (member_of client ms) ≡ b → length (pairs ms) < length (pairs (if b then changed client (with_name name) ms else ms ++ new ∷ []))) [
      | true ↦ λ e. (let more = named_more client name ms e in omega (arith, more))
      | false ↦ λ e.
          let all = ap length (pairs-append ms (new ∷ [])) in
          let long = length-append (pairs ms) (pairs (new ∷ [])) in
          omega (arith, all, long)
    ] in
    cases (is_some (member_of client ms)) refl

same_sent : (name text : List ℕ) (ms : List MemberData) → pairs (sent name text ms) ≡ pairs ms
unfolding sent
same_sent name text ms = given_same (record { channel = name; text = text }) ms

same_emptied : (client : ℕ) (ms : List MemberData) → pairs (emptied client ms) ≡ pairs ms
unfolding emptied
same_emptied client ms = read_same client ms

tells_unsubscribed : (client : ℕ) (name : List ℕ) (ms : List MemberData) → Tells (listens client name ms) (pairs (unsubscribed client name ms)) (pairs ms)
unfolding unsubscribed
tells_unsubscribed client name ms = unnamed client name ms

tells_left : (client : ℕ) (ms : List MemberData) → Tells (is_listening client ms) (pairs (left client ms)) (pairs ms)
unfolding left
tells_left client ms = gone client ms

same_known : (p q : List (ℕ × List ℕ)) → q ≡ p → not (same_pairs p q) ≡ false
same_known p q e = ap not (ap (same_pairs p) e ∙ same_pairs-refl p)

other_known : (p q : List (ℕ × List ℕ)) → (length p ≡ length q → ⊥) → not (same_pairs p q) ≡ true
other_known p q apart =
    let cases : (b : Bool) → same_pairs p q ≡ b → not b ≡ true =
    λ b. elim b as (λ b. same_pairs p q ≡ b → not b ≡ true) [ true ↦ λ e. absurd (apart (ap length (same_pairs-true p q e))) | false ↦ λ e. refl ] in
    cases (same_pairs p q) refl

by_test : (b : Bool) (p q : List (ℕ × List ℕ)) → Tells b q p → not (same_pairs p q) ≡ b
by_test true p q less = other_known p q (λ same. absurd (omega (arith, less, same)))
by_test false p q e = same_known p q e

-- what an event does tells whether the subscriptions are others
pub changes : (channels : List MemberData) (effect : Effect) → not (same_pairs (pairs channels) (pairs (channels_after channels effect))) ≡ changes_subscriptions channels effect
changes channels (ByCommand (Subscribes client name)) =
    let more = subscribed_more client name channels in
    other_known (pairs channels) (pairs (subscribed client name channels)) (λ same. absurd (omega (arith, more, same)))
changes channels (ByCommand (Unsubscribes client name)) = by_test (listens client name channels) (pairs channels) (pairs (unsubscribed client name channels)) (tells_unsubscribed client name channels)
changes channels (ByCommand (Sends name text)) = same_known (pairs channels) (pairs (sent name text channels)) (same_sent name text channels)
changes channels (ByCommand (ReadsMessages client)) = same_known (pairs channels) (pairs (emptied client channels)) (same_emptied client channels)
changes channels (ByCommand (Leaves client)) = by_test (is_listening client channels) (pairs channels) (pairs (left client channels)) (tells_left client channels)
changes channels _ = same_known (pairs channels) (pairs channels) refl
