-- The channels by which clients send one another messages (MPD protocol reference, Client to client; that a
-- client listens to at most 16 channels, that at most 64 messages wait for it, and that a listener with so
-- many misses the further ones is this profile's).
use Rattle.std.specs.Prelude.{◌≡◌, ◌↔◌, ℕ, ◌<◌, ◌==◌, nat_lt, nat_le, Bool, true, not, ◌&&◌, ◌||◌, List, [], ◌∷◌, ◌++◌, Option, Some, None, Result, IfErr, is_some, unwrap_or, find, filter, map, length, count_by, Contains, vec_len, vec_capacity, if◌then◌else◌}
use Rattle.std.specs.List.{flat_map, list_any, list_all}
use Rattle.std.specs.Str.{bytes_eq}
use Rattle.idle_notes.specs.declared.channels.Message.{Message}
use Rattle.idle_notes.specs.declared.channels.Member.{Member}
use Rattle.idle_notes.specs.declared.channels.ChannelFault.{ChannelFault}
use Rattle.idle_notes.specs.declared.channels.ChannelFault.TheVariants.{Already, TooMany, NotSubscribed, Nobody, NoRoom, NoMemory}
use Rattle.mpd_text.specs.Texts.{ascending}

-- a client that came to listen: the channels that it listens to, in the order in which it subscribed, and the
-- messages that wait for it, the oldest first
pub record MemberData : Type 0 where
  pub client : ℕ
  pub names : List (List ℕ)
  pub messages : List Message

abbrev pub data_of : Member → MemberData
data_of m = record { client = m.client; names = m.names.items; messages = m.messages.items }

-- a byte of a channel's name: an ASCII letter, a digit, `_`, `-`, `.` or `:`
abbrev pub is_name_byte : ℕ → Bool
is_name_byte b =
    (nat_le 97 b && nat_le b 122) || ((nat_le 65 b && nat_le b 90) || ((nat_le 48 b && nat_le b 57) || ((b == 95) || ((b == 45) || ((b == 46) || (b == 58))))))

-- whether a text is the name of a channel: one or more such bytes
abbrev pub is_channel_name : List ℕ → Bool
is_channel_name name = not (length name == 0) && list_all is_name_byte name

-- whether a name is among names
abbrev pub has_name : List ℕ → List (List ℕ) → Bool
has_name name names = list_any (λ own. bytes_eq name own) names

-- what is known of a client
abbrev pub member_of : ℕ → List MemberData → Option MemberData
member_of client members = find (λ (m : MemberData). m.client == client) members

abbrev pub names_in : Option MemberData → List (List ℕ)
names_in None = []
names_in (Some m) = m.names

abbrev pub messages_in : Option MemberData → List Message
messages_in None = []
messages_in (Some m) = m.messages

-- the channels that a client listens to, in the order in which it subscribed
abbrev pub names_of : ℕ → List MemberData → List (List ℕ)
names_of client members = names_in (member_of client members)

-- the messages that wait for a client, the oldest first
abbrev pub messages_of : ℕ → List MemberData → List Message
messages_of client members = messages_in (member_of client members)

-- whether a client listens to a channel
abbrev pub listens : ℕ → List ℕ → List MemberData → Bool
listens client name members = has_name name (names_of client members)

-- who listens to what: each client with each channel that it listens to
abbrev pub pairs : List MemberData → List (ℕ × List ℕ)
pairs members = flat_map (λ (m : MemberData). map (λ name. (m.client, name)) m.names) members

-- whether a client listens to any channel
abbrev pub is_listening : ℕ → List MemberData → Bool
is_listening client members = list_any (λ (m : MemberData). (m.client == client) && not (length m.names == 0)) members

-- the clients for which messages wait
abbrev pub clients_with_messages : List MemberData → List ℕ
clients_with_messages members = map (λ (m : MemberData). m.client) (filter (λ (m : MemberData). not (length (messages_of m.client members) == 0)) members)

-- whether messages wait for a client that is none of these
abbrev pub has_messages_beyond : List ℕ → List MemberData → Bool
has_messages_beyond clients members = list_any (λ client. not (list_any (λ known. known == client) clients)) (clients_with_messages members)

-- whether somebody listens to a channel
abbrev pub hears : List ℕ → List MemberData → Bool
hears name members = list_any (λ (m : MemberData). has_name name m.names) members

-- whether a message to a channel joins the messages of a client: it listens, and fewer than 64 wait for it
abbrev pub receives : List ℕ → MemberData → Bool
receives name m = has_name name m.names && nat_lt (length m.messages) 64

-- where a member receives a message to a channel, its messages have room for one more
abbrev pub IsReady : List ℕ → Member → Type 0
IsReady name m = receives name (data_of m) ≡ true → vec_len m.messages < vec_capacity m.messages

-- whether somebody who listens to a channel has room for a message
abbrev pub has_room : List ℕ → List MemberData → Bool
has_room name members = list_any (receives name) members

-- the names of the channels that somebody listens to, in byte order and each once
unfoldable pub channel_names : List MemberData → List (List ℕ)
channel_names members = ascending (flat_map (λ (m : MemberData). m.names) members)

-- what is known of one client changes
abbrev pub changed : ℕ → (MemberData → MemberData) → List MemberData → List MemberData
changed client change [] = []
changed client change (m ∷ members) = if m.client == client then change m ∷ members else m ∷ changed client change members

abbrev pub with_name : List ℕ → MemberData → MemberData
with_name name m = record m { names = m.names ++ name ∷ [] }

abbrev pub without_name : List ℕ → MemberData → MemberData
without_name name m = record m { names = filter (λ own. not (bytes_eq name own)) m.names }

abbrev pub without_messages : MemberData → MemberData
without_messages m = record m { messages = [] }

-- a client listens to one more channel; one that is not known comes last
unfoldable pub subscribed : ℕ → List ℕ → List MemberData → List MemberData
subscribed client name members =
    if is_some (member_of client members) then changed client (with_name name) members
    else members ++ record { client = client; names = name ∷ []; messages = [] } ∷ []

-- a client listens to a channel no more; the messages that wait for it stay
unfoldable pub unsubscribed : ℕ → List ℕ → List MemberData → List MemberData
unsubscribed client name members = changed client (without_name name) members

-- a message joins the messages of each client that receives it, as the last
abbrev pub given : Message → MemberData → MemberData
given message m = if receives message.channel m then record m { messages = m.messages ++ message ∷ [] } else m

unfoldable pub sent : List ℕ → List ℕ → List MemberData → List MemberData
sent name text members = map (given (record { channel = name; text = text })) members

-- the messages of a client are read, and wait no more
unfoldable pub emptied : ℕ → List MemberData → List MemberData
emptied client members = changed client without_messages members

-- a client goes, with its channels and its messages
unfoldable pub left : ℕ → List MemberData → List MemberData
left client members = filter (λ (m : MemberData). not (m.client == client)) members

-- why a client may not listen to a channel
abbrev pub subscribe_refusal : ℕ → List ℕ → List MemberData → Option ChannelFault
subscribe_refusal client name members =
    if listens client name members then Some Already
    else (if nat_le 16 (length (names_of client members)) then Some TooMany else None)

abbrev pub unsubscribe_refusal : ℕ → List ℕ → List MemberData → Option ChannelFault
unsubscribe_refusal client name members = if listens client name members then None else Some NotSubscribed

-- why a message may not be sent to a channel
abbrev pub send_refusal : List ℕ → List MemberData → Option ChannelFault
send_refusal name members =
    if hears name members then (if has_room name members then None else Some NoRoom)
    else Some Nobody

-- no client is there twice
abbrev pub ClientsDiffer : List MemberData → Type 0
ClientsDiffer [] = Unit {0}
ClientsDiffer (m ∷ members) = (member_of m.client members ≡ None) × ClientsDiffer members

-- where it is refused, it is for this; where there is no such refusal, for lack of memory
abbrev pub AnyFaultIs : {X : Type 0} → Option ChannelFault → Result X ChannelFault → Type 0
AnyFaultIs refusal r = IfErr r (λ fault. fault ≡ unwrap_or refusal NoMemory)

-- the change makes no client be there twice
abbrev pub KeepsClientsApart : (List MemberData → List MemberData) → Type 0
KeepsClientsApart change = (members : List MemberData) → ClientsDiffer members → ClientsDiffer (change members)

-- a channel is named just where somebody listens to it
abbrev pub IsNamedWhereHeard : List ℕ → List MemberData → Type 0
IsNamedWhereHeard name members = Contains (channel_names members) name ↔ (hears name members ≡ true)

-- somebody listens to a channel just where a client does
abbrev pub HearsWhereOneListens : List ℕ → List MemberData → Type 0
HearsWhereOneListens name members = (hears name members ≡ true) ↔ ((client : ℕ) × (listens client name members ≡ true))

-- a client listens to one more channel
abbrev pub Subscribes : List Member → List Member → ℕ → List ℕ → Type 0
Subscribes old new client name = map data_of new ≡ subscribed client name (map data_of old)

-- how many clients receive a message to a channel
abbrev pub receiver_count : List ℕ → List Member → ℕ
receiver_count name members = count_by (λ member. receives name (data_of member)) members

-- how many copies of a message to a channel a client takes: one where it receives it
abbrev pub copies_taken : List ℕ → Member → ℕ
copies_taken name member = if receives name (data_of member) then 1 else 0
