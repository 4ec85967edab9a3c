-- Messages that are sent and read.
use Rattle.std.proofs.Common.{◌≡◌, ◌∙◌, ℕ, ◌==◌, Bool, true, false, cond, ◌&&◌, List, [], ◌∷◌, ◌++◌, refl, sym, ap, codes, append_assoc, eq-eqb}
use Rattle.std.specs.Prelude.{nat_le, length}
use Rattle.std.proofs.lemmas.Bool.Decides.{Decides-eqb}
use Rattle.std.proofs.lemmas.List.{append-nil}
use Rattle.idle_notes.specs.Channels.{has_room, hears, is_channel_name, listens, messages_in, names_of}
use Rattle.idle_notes.specs.declared.channels.Message.{Message}
use Rattle.mpd_text.specs.declared.answers.answer.ErrorNumber.TheVariants.{Exist, NoExist, System}
use Rattle.player_state.specs.declared.effect.CommandEffect.TheVariants.{Sends, Subscribes, Unsubscribes}
use Rattle.player_state.specs.declared.state.Part.{Part}
use Rattle.transitions.specs.Answers.{succeeds}
use Rattle.transitions.specs.CommandResults.{bad_name, does, refusal}
use Rattle.transitions.specs.Transitions.{CommandResult}
use Rattle.transitions.specs.declared.asked.Asked.{Asked}
use Rattle.mpd_command.specs.declared.messages.MessageCommand.{MessageCommand}
use Rattle.mpd_command.specs.declared.messages.MessageCommand.TheVariants.{Channels, ReadMessages, SendMessage, Subscribe, Unsubscribe}
use Rattle.status_commands.specs.Messages.{lines_of_messages, result_of}
use Rattle.library_laws.specs.Messages.{MessagesAreRead, MessagesAreReadOnce, MessagesAreSent, after, after_all, after_step, all_read, all_received, is_receiver, read_if, received_if, waiting, with_message}
use Rattle.library_laws.proofs.Inboxes.{emptied-names, emptied-other, emptied-own, receiver-hears, receiver-room, sent-messages, sent-names, subscribed-messages, unsubscribed-messages}

-- `sendmessage` by whether the channel has a name, is heard and has room
abbrev sending : Asked → List ℕ → List ℕ → Bool → Bool → Bool → CommandResult
sending asked channel text named heard room =
    cond named (cond heard (cond room (does asked (Sends channel text)) (refusal asked NoExist (codes "no subscriber has room"))) (refusal asked NoExist (codes "nobody is subscribed"))) (bad_name asked channel)

waits : (asked : Asked) (part : Part) (channel text : List ℕ) (named heard room : Bool) → (sending asked channel text named heard room).answer.refused ≡ false → (client : ℕ)
    → waiting client (after part (sending asked channel text named heard room)) ≡ with_message (is_receiver client channel part) channel text (waiting client part)
waits asked part channel text true true true e client = sent-messages client channel text part.channels
waits asked part channel text true true false e client = absurd (cc)
waits asked part channel text true false room e client = absurd (cc)
waits asked part channel text false heard room e client = absurd (cc)

kept : (asked : Asked) (part : Part) (channel text : List ℕ) (named heard room : Bool) → (sending asked channel text named heard room).answer.refused ≡ true → (client : ℕ)
    → waiting client (after part (sending asked channel text named heard room)) ≡ waiting client part
kept asked part channel text true true true e client = absurd (cc)
kept asked part channel text true true false e client = refl
kept asked part channel text true false room e client = refl
kept asked part channel text false heard room e client = refl

names : (asked : Asked) (part : Part) (channel text : List ℕ) (named heard room : Bool) (client : ℕ)
    → names_of client (after part (sending asked channel text named heard room)).channels ≡ names_of client part.channels
names asked part channel text true true true client = sent-names client channel text part.channels
names asked part channel text true true false client = refl
names asked part channel text true false room client = refl
names asked part channel text false heard room client = refl

sent-to : (asked : Asked) (part : Part) (channel text : List ℕ) (client : ℕ) → is_channel_name channel ≡ true → is_receiver client channel part ≡ true
    → (sending asked channel text (is_channel_name channel) (hears channel part.channels) (has_room channel part.channels)).answer ≡ succeeds asked.list_place (codes "")
sent-to asked part channel text client named received =
    λ i. (sending asked channel text (named i) (receiver-hears client channel part.channels received i) (receiver-room client channel part.channels received i)).answer

pub messages_are_sent : MessagesAreSent
unfolding result_of
messages_are_sent asked part channel text = record {
  sent = λ client named received. sent-to asked part channel text client named received;
  waits = λ granted client. waits asked part channel text (is_channel_name channel) (hears channel part.channels) (has_room channel part.channels) granted client;
  kept = λ refused client. kept asked part channel text (is_channel_name channel) (hears channel part.channels) (has_room channel part.channels) refused client;
  names = λ client. names asked part channel text (is_channel_name channel) (hears channel part.channels) (has_room channel part.channels) client;
}

pub messages_are_read : MessagesAreRead
unfolding result_of lines_of_messages
messages_are_read asked part = record {
  told = refl;
  gone = emptied-own asked.client part.channels;
  kept = λ client apart. ap messages_in (emptied-other asked.client client part.channels apart);
  names = λ client. emptied-names asked.client client part.channels;
}

-- one command: what is read and waits then is what waited and came
abbrev Balances : ℕ → Part → List Message → CommandResult → List Message → Type 0
Balances client part read result received = read ++ waiting client (after part result) ≡ waiting client part ++ received

unless : (a b : Bool) → (a ≡ true → b ≡ true) → b ≡ false → a ≡ false
unless true b h e = absurd (cc (h refl))
unless false b h e = refl

-- nothing comes to a client that does not receive it
none-came : (waits : List Message) (message : Message) (received : Bool) → received ≡ false → waits ≡ waits ++ cond received (message ∷ []) []
none-came waits message received e = sym (append-nil waits) ∙ ap (λ b. waits ++ cond b (message ∷ []) []) (sym e)

one-came : (waits : List Message) (message : Message) (received : Bool) → cond received (waits ++ message ∷ []) waits ≡ waits ++ cond received (message ∷ []) []
one-came waits message true = refl
one-came waits message false = sym (append-nil waits)

sends : (client : ℕ) (asked : Asked) (part : Part) (channel text : List ℕ) (named heard room : Bool) → (is_receiver client channel part ≡ true → heard ≡ true) → (is_receiver client channel part ≡ true → room ≡ true)
    → Balances client part [] (sending asked channel text named heard room) (with_message (named && is_receiver client channel part) channel text [])
sends client asked part channel text true true true h r = sent-messages client channel text part.channels ∙ one-came (waiting client part) (record { channel = channel; text = text }) (is_receiver client channel part)
sends client asked part channel text true true false h r = none-came (waiting client part) (record { channel = channel; text = text }) (is_receiver client channel part) (unless (is_receiver client channel part) false r refl)
sends client asked part channel text true false room h r = none-came (waiting client part) (record { channel = channel; text = text }) (is_receiver client channel part) (unless (is_receiver client channel part) false h refl)
sends client asked part channel text false heard room h r = sym (append-nil (waiting client part))

subscribes : (client : ℕ) (asked : Asked) (part : Part) (channel : List ℕ) (named there many : Bool)
    → Balances client part [] (cond named (cond there (refusal asked Exist (codes "already subscribed")) (cond many (refusal asked System (codes "too many subscriptions")) (does asked (Subscribes asked.client channel)))) (bad_name asked channel)) []
subscribes client asked part channel true true many = sym (append-nil (waiting client part))
subscribes client asked part channel true false true = sym (append-nil (waiting client part))
subscribes client asked part channel true false false = subscribed-messages asked.client channel client part.channels ∙ sym (append-nil (waiting client part))
subscribes client asked part channel false there many = sym (append-nil (waiting client part))

unsubscribes : (client : ℕ) (asked : Asked) (part : Part) (channel : List ℕ) (named there : Bool)
    → Balances client part [] (cond named (cond there (does asked (Unsubscribes asked.client channel)) (refusal asked NoExist (codes "not subscribed"))) (bad_name asked channel)) []
unsubscribes client asked part channel true true = unsubscribed-messages asked.client channel client part.channels ∙ sym (append-nil (waiting client part))
unsubscribes client asked part channel true false = sym (append-nil (waiting client part))
unsubscribes client asked part channel false there = sym (append-nil (waiting client part))

reads : (client : ℕ) (asked : Asked) (part : Part) (own : Bool) → (asked.client == client) ≡ own
    → Balances client part (cond own (waiting client part) []) (result_of asked part ReadMessages) []
reads client asked part true e =
    let is : asked.client ≡ client = (Decides-eqb asked.client client).0 e in
    ap (λ n. waiting client part ++ waiting n (after part (result_of asked part ReadMessages))) (sym is)
    ∙ ap (λ rest. waiting client part ++ rest) ((messages_are_read asked part).gone)
reads client asked part false e =
    (messages_are_read asked part).kept client (λ is. absurd (cc (eq-eqb asked.client client (sym is)))) ∙ sym (append-nil (waiting client part))

step-balances : (client : ℕ) (part : Part) (asked : Asked) (command : MessageCommand) → Balances client part (read_if client part asked command) (result_of asked part command) (received_if client part command)
unfolding result_of
step-balances client part asked Channels = sym (append-nil (waiting client part))
step-balances client part asked ReadMessages = reads client asked part (asked.client == client) refl
step-balances client part asked (SendMessage channel text) =
    sends client asked part channel text (is_channel_name channel) (hears channel part.channels) (has_room channel part.channels)
    (receiver-hears client channel part.channels) (receiver-room client channel part.channels)
step-balances client part asked (Subscribe channel) =
    subscribes client asked part channel (is_channel_name channel) (listens asked.client channel part.channels) (nat_le 16 (length (names_of asked.client part.channels)))
step-balances client part asked (Unsubscribe channel) =
    unsubscribes client asked part channel (is_channel_name channel) (listens asked.client channel part.channels)

pub messages_are_read_once : MessagesAreReadOnce
messages_are_read_once client part [] = sym (append-nil (waiting client part))
messages_are_read_once client part (step ∷ steps) =
    let next : Part = after_step part step in
    let one : List Message = read_if client part step.asked step.command in
    let came : List Message = received_if client part step.command in
    append_assoc one (all_read client next steps) (waiting client (after_all next steps))
    ∙ ap (λ rest. one ++ rest) (messages_are_read_once client next steps)
    ∙ sym (append_assoc one (waiting client next) (all_received client next steps))
    ∙ ap (λ rest. rest ++ all_received client next steps) (step-balances client part step.asked step.command)
    ∙ append_assoc (waiting client part) came (all_received client next steps)
