-- What waits for clients, and what they listen to, where messages are sent and read and where clients come and go.
use Rattle.std.proofs.Common.{◌≡◌, ◌≢◌, ◌∙◌, ℕ, ◌==◌, Bool, true, false, cond, ◌&&◌, ◌||◌, List, [], ◌∷◌, ◌++◌, map, length, Option, Some, None, is_some, option_map, refl, sym, ap, eq-eqb}
use Rattle.std.specs.Prelude.{nat_lt}
use Rattle.std.specs.List.{list_any}
use Rattle.std.proofs.lemmas.Bool.Decides.{Decides-eqb}
use Rattle.idle_notes.specs.declared.channels.Message.{Message}
use Rattle.idle_notes.specs.Channels.{MemberData, changed, emptied, given, has_name, has_room, hears, listens, member_of, messages_in, messages_of, names_in, names_of, receives, sent, subscribed, unsubscribed, with_name, without_messages, without_name}

-- a change of all that leaves each client's number changes what is known of a client just so
member-map : (f : MemberData → MemberData) → ((m : MemberData) → (f m).client ≡ m.client) → (client : ℕ) (ms : List MemberData) → member_of client (map f ms) ≡ option_map f (member_of client ms)
member-map f keeps client [] = refl
member-map f keeps client (m ∷ ms) =
    ap (λ n. cond (n == client) (Some (f m)) (member_of client (map f ms))) (keeps m)
    ∙ elim (m.client == client) as (λ b. cond b (Some (f m)) (member_of client (map f ms)) ≡ option_map f (cond b (Some m) (member_of client ms))) [
      | true ↦ refl
      | false ↦ member-map f keeps client ms
    ]

same-number : (a b : ℕ) → (a == b) ≡ true → a ≡ b
same-number a b h = (Decides-eqb a b).0 h

-- a change of one client, where it is known
member-changed : (f : MemberData → MemberData) → ((m : MemberData) → (f m).client ≡ m.client) → (client : ℕ) (ms : List MemberData) → member_of client (changed client f ms) ≡ option_map f (member_of client ms)
member-changed f keeps client [] = refl
member-changed f keeps client (m ∷ ms) =
    let goes : (b : Bool) → (m.client == client) ≡ b → member_of client (cond b (f m ∷ ms) (m ∷ changed client f ms)) ≡ option_map f (cond b (Some m) (member_of client ms))
    = λ b. elim b as (λ b. (m.client == client) ≡ b → member_of client (cond b (f m ∷ ms) (m ∷ changed client f ms)) ≡ option_map f (cond b (Some m) (member_of client ms))) [
      | true ↦ λ e. ap (λ t. cond t (Some (f m)) (member_of client ms)) (ap (λ n. n == client) (keeps m) ∙ e)
      | false ↦ λ e. ap (λ t. cond t (Some m) (member_of client (changed client f ms))) e ∙ member-changed f keeps client ms
    ] in
    goes (m.client == client) refl

-- and what is known of another
member-other : (f : MemberData → MemberData) → ((m : MemberData) → (f m).client ≡ m.client) → (client other : ℕ) (ms : List MemberData) → (other ≢ client) → member_of other (changed client f ms) ≡ member_of other ms
member-other f keeps client other [] apart = refl
member-other f keeps client other (m ∷ ms) apart =
    let goes : (b c : Bool) → (m.client == client) ≡ b → (m.client == other) ≡ c → member_of other (cond b (f m ∷ ms) (m ∷ changed client f ms)) ≡ cond c (Some m) (member_of other ms)
    = λ b c. elim b as (λ b. (m.client == client) ≡ b → (m.client == other) ≡ c → member_of other (cond b (f m ∷ ms) (m ∷ changed client f ms)) ≡ cond c (Some m) (member_of other ms)) [
      | true ↦ elim c as (λ c. (m.client == client) ≡ true → (m.client == other) ≡ c → member_of other (f m ∷ ms) ≡ cond c (Some m) (member_of other ms)) [
        | true ↦ λ e k. absurd (apart (sym (same-number m.client other k) ∙ same-number m.client client e))
        | false ↦ λ e k. ap (λ t. cond t (Some (f m)) (member_of other ms)) (ap (λ n. n == other) (keeps m) ∙ k)
      ]
      | false ↦ λ e k. ap (λ t. cond t (Some m) (member_of other (changed client f ms))) k ∙ ap (λ (o : Option MemberData). cond c (Some m) o) (member-other f keeps client other ms apart)
    ] in
    goes (m.client == client) (m.client == other) refl refl

-- a message that is sent
given-client : (message : Message) (m : MemberData) → (given message m).client ≡ m.client
given-client message m =
    let more : MemberData = record { client = m.client; names = m.names; messages = m.messages ++ message ∷ [] } in
    elim (receives message.channel m) as (λ b. (cond b more m).client ≡ m.client) [ true ↦ refl | false ↦ refl ]

given-names : (message : Message) (m : MemberData) → (given message m).names ≡ m.names
given-names message m =
    let more : MemberData = record { client = m.client; names = m.names; messages = m.messages ++ message ∷ [] } in
    elim (receives message.channel m) as (λ b. (cond b more m).names ≡ m.names) [ true ↦ refl | false ↦ refl ]

given-messages : (message : Message) (m : MemberData) → (given message m).messages ≡ cond (receives message.channel m) (m.messages ++ message ∷ []) m.messages
given-messages message m =
    let more : MemberData = record { client = m.client; names = m.names; messages = m.messages ++ message ∷ [] } in
    elim (receives message.channel m) as (λ b. (cond b more m).messages ≡ cond b (m.messages ++ message ∷ []) m.messages) [ true ↦ refl | false ↦ refl ]

-- whether a client receives a message to a channel
abbrev pub is_receiver : ℕ → List ℕ → List MemberData → Bool
is_receiver client channel ms = listens client channel ms && nat_lt (length (messages_of client ms)) 64

given-in : (message : Message) (o : Option MemberData) → messages_in (option_map (given message) o) ≡ cond (has_name message.channel (names_in o) && nat_lt (length (messages_in o)) 64) (messages_in o ++ message ∷ []) (messages_in o)
given-in message None = refl
given-in message (Some m) = given-messages message m

names-in : (message : Message) (o : Option MemberData) → names_in (option_map (given message) o) ≡ names_in o
names-in message None = refl
names-in message (Some m) = given-names message m

pub sent-messages : (client : ℕ) (channel text : List ℕ) (ms : List MemberData) → messages_of client (sent channel text ms) ≡ cond (is_receiver client channel ms) (messages_of client ms ++ record { channel = channel; text = text } ∷ []) (messages_of client ms)
unfolding sent
sent-messages client channel text ms =
    let message : Message = record { channel = channel; text = text } in
    ap messages_in (member-map (given message) (given-client message) client ms) ∙ given-in message (member_of client ms)

pub sent-names : (client : ℕ) (channel text : List ℕ) (ms : List MemberData) → names_of client (sent channel text ms) ≡ names_of client ms
unfolding sent
sent-names client channel text ms =
    let message : Message = record { channel = channel; text = text } in
    ap names_in (member-map (given message) (given-client message) client ms) ∙ names-in message (member_of client ms)

-- who receives a message hears its channel, and there is room for it
or-second : (a b : Bool) → b ≡ true → (a || b) ≡ true
or-second true b h = refl
or-second false b h = h

and-first : (a b : Bool) → (a && b) ≡ true → a ≡ true
and-first true b h = refl
and-first false b h = h

any-member : (p : MemberData → Bool) → (client : ℕ) (ms : List MemberData) (m : MemberData) → member_of client ms ≡ Some m → p m ≡ true → list_any p ms ≡ true
any-member p client [] m e h = absurd (cc)
any-member p client (x ∷ xs) m e h =
    let goes : (b : Bool) → cond b (Some x) (member_of client xs) ≡ Some m → (p x || list_any p xs) ≡ true
    = λ b. elim b as (λ b. cond b (Some x) (member_of client xs) ≡ Some m → (p x || list_any p xs) ≡ true) [
      | true ↦ λ k. (let is : x ≡ m = cc in ap (λ t. t || list_any p xs) (ap p is ∙ h))
      | false ↦ λ k. or-second (p x) (list_any p xs) (any-member p client xs m k h)
    ] in
    goes (x.client == client) e

pub receiver-room : (client : ℕ) (channel : List ℕ) (ms : List MemberData) → is_receiver client channel ms ≡ true → has_room channel ms ≡ true
receiver-room client channel ms h =
    let goes : (o : Option MemberData) → member_of client ms ≡ o → (has_name channel (names_in o) && nat_lt (length (messages_in o)) 64) ≡ true → has_room channel ms ≡ true
    = λ o. elim o as (λ o. member_of client ms ≡ o → (has_name channel (names_in o) && nat_lt (length (messages_in o)) 64) ≡ true → has_room channel ms ≡ true) [
      | None ↦ λ e k. absurd (cc)
      | Some m ↦ λ e k. any-member (receives channel) client ms m e k
    ] in
    goes (member_of client ms) refl h

pub receiver-hears : (client : ℕ) (channel : List ℕ) (ms : List MemberData) → is_receiver client channel ms ≡ true → hears channel ms ≡ true
receiver-hears client channel ms h =
    let goes : (o : Option MemberData) → member_of client ms ≡ o → (has_name channel (names_in o) && nat_lt (length (messages_in o)) 64) ≡ true → hears channel ms ≡ true
    = λ o. elim o as (λ o. member_of client ms ≡ o → (has_name channel (names_in o) && nat_lt (length (messages_in o)) 64) ≡ true → hears channel ms ≡ true) [
      | None ↦ λ e k. absurd (cc)
      | Some m ↦ λ e k. any-member (λ (n : MemberData). has_name channel n.names) client ms m e (and-first _ _ k)
    ] in
    goes (member_of client ms) refl h

-- messages that are read
no-messages : (o : Option MemberData) → messages_in (option_map without_messages o) ≡ []
no-messages None = refl
no-messages (Some m) = refl

same-names : (o : Option MemberData) → names_in (option_map without_messages o) ≡ names_in o
same-names None = refl
same-names (Some m) = refl

pub emptied-own : (client : ℕ) (ms : List MemberData) → messages_of client (emptied client ms) ≡ []
unfolding emptied
emptied-own client ms = ap messages_in (member-changed without_messages (λ m. refl) client ms) ∙ no-messages (member_of client ms)

pub emptied-other : (client other : ℕ) (ms : List MemberData) → (other ≢ client) → member_of other (emptied client ms) ≡ member_of other ms
unfolding emptied
emptied-other client other ms apart = member-other without_messages (λ m. refl) client other ms apart

-- what is seen of each client that no change of one client makes another
apart : (a b : ℕ) → (a == b) ≡ false → a ≢ b
apart a b h e = absurd (cc (eq-eqb a b e))

changed-alike : {X : Type 0} (view : Option MemberData → X) (f : MemberData → MemberData) → ((m : MemberData) → (f m).client ≡ m.client) → ((o : Option MemberData) → view (option_map f o) ≡ view o) → (client other : ℕ) (ms : List MemberData) → view (member_of other (changed client f ms)) ≡ view (member_of other ms)
changed-alike view f keeps same client other ms =
    let goes : (b : Bool) → (other == client) ≡ b → view (member_of other (changed client f ms)) ≡ view (member_of other ms)
    = λ b. elim b as (λ b. (other == client) ≡ b → view (member_of other (changed client f ms)) ≡ view (member_of other ms)) [
      | true ↦ λ e. (let is : other ≡ client = same-number other client e in ap (λ n. view (member_of n (changed client f ms))) is ∙ ap view (member-changed f keeps client ms) ∙ same (member_of client ms) ∙ ap (λ n. view (member_of n ms)) (sym is))
      | false ↦ λ e. ap view (member-other f keeps client other ms (apart other client e))
    ] in
    goes (other == client) refl

pub emptied-names : (client other : ℕ) (ms : List MemberData) → names_of other (emptied client ms) ≡ names_of other ms
unfolding emptied
emptied-names client other ms = changed-alike names_in without_messages (λ m. refl) same-names client other ms

-- a client comes to listen, or listens no more: what waits for each stays
same-messages : (f : MemberData → MemberData) → ((m : MemberData) → (f m).messages ≡ m.messages) → (o : Option MemberData) → messages_in (option_map f o) ≡ messages_in o
same-messages f keeps None = refl
same-messages f keeps (Some m) = keeps m

changed-messages : (f : MemberData → MemberData) → ((m : MemberData) → (f m).client ≡ m.client) → ((m : MemberData) → (f m).messages ≡ m.messages) → (client other : ℕ) (ms : List MemberData) → messages_of other (changed client f ms) ≡ messages_of other ms
changed-messages f keeps same client other ms = changed-alike messages_in f keeps (same-messages f same) client other ms

-- one more without messages, at the end
appended-messages : (other : ℕ) (ms : List MemberData) (new : MemberData) → new.messages ≡ [] → messages_of other (ms ++ new ∷ []) ≡ messages_of other ms
appended-messages other [] new none =
    elim (new.client == other) as (λ b. messages_in (cond b (Some new) None) ≡ []) [ true ↦ none | false ↦ refl ]
appended-messages other (m ∷ ms) new none =
    elim (m.client == other) as (λ b. messages_in (cond b (Some m) (member_of other (ms ++ new ∷ []))) ≡ messages_in (cond b (Some m) (member_of other ms))) [
      | true ↦ refl
      | false ↦ appended-messages other ms new none
    ]

pub subscribed-messages : (client : ℕ) (channel : List ℕ) (other : ℕ) (ms : List MemberData) → messages_of other (subscribed client channel ms) ≡ messages_of other ms
unfolding subscribed
subscribed-messages client channel other ms =
    let new : MemberData = record { client = client; names = channel ∷ []; messages = [] } in
    elim (is_some (member_of client ms)) as (λ b. messages_of other (cond b (changed client (with_name channel) ms) (ms ++ new ∷ [])) ≡ messages_of other ms) [
      | true ↦ changed-messages (with_name channel) (λ m. refl) (λ m. refl) client other ms
      | false ↦ appended-messages other ms new refl
    ]

pub unsubscribed-messages : (client : ℕ) (channel : List ℕ) (other : ℕ) (ms : List MemberData) → messages_of other (unsubscribed client channel ms) ≡ messages_of other ms
unfolding unsubscribed
unsubscribed-messages client channel other ms = changed-messages (without_name channel) (λ m. refl) (λ m. refl) client other ms
