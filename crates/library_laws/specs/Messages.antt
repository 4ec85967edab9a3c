-- Messages between clients: each is read once by each client that listens to its channel and has room for it
-- (MPD protocol reference, Client to client; that 64 messages may wait for a client is this profile's).
use Rattle.std.specs.Prelude.{◌≡◌, ◌≢◌, ℕ, ◌==◌, nat_lt, Bool, true, false, ◌&&◌, List, [], ◌∷◌, ◌++◌, length, if◌then◌else◌, codes}
use Rattle.std.specs.List.{flat_map}
use Rattle.mpd_text.specs.Answers.Answer.{pair_line}
use Rattle.idle_notes.specs.Channels.{is_channel_name, listens, messages_of, names_of}
use Rattle.idle_notes.specs.declared.channels.Message.{Message}
use Rattle.player_state.specs.Effects.{part_after}
use Rattle.player_state.specs.declared.effect.Effect.TheVariants.{ByCommand}
use Rattle.player_state.specs.declared.state.Part.{Part}
use Rattle.transitions.specs.Answers.{succeeds}
use Rattle.transitions.specs.Transitions.{CommandResult}
use Rattle.transitions.specs.declared.asked.Asked.{Asked}
use Rattle.mpd_command.specs.declared.messages.MessageCommand.{MessageCommand}
use Rattle.mpd_command.specs.declared.messages.MessageCommand.TheVariants.{ReadMessages, SendMessage}
use Rattle.status_commands.specs.Messages.{result_of}

-- what waits for a client, the oldest first
abbrev pub waiting : ℕ → Part → List Message
waiting client part = messages_of client part.channels

-- the partition of a client once its command was done
abbrev pub after : Part → CommandResult → Part
after part result = part_after 0 part (ByCommand result.effect)

-- a client listens to a channel, and fewer than 64 messages wait for it
abbrev pub is_receiver : ℕ → List ℕ → Part → Bool
is_receiver client channel part = listens client channel part.channels && nat_lt (length (waiting client part)) 64

-- a message joins those that wait, as the last, where it is received
abbrev pub with_message : Bool → List ℕ → List ℕ → List Message → List Message
with_message received channel text messages =
    if received then messages ++ record { channel = channel; text = text } ∷ [] else messages

-- what `sendmessage` makes of the partition, and what it answers
pub record IsSent (asked : Asked) (part : Part) (channel text : List ℕ) (result : CommandResult) : Type 0 where
  -- where somebody receives it, it is sent
  pub sent : (client : ℕ) → is_channel_name channel ≡ true → is_receiver client channel part ≡ true
      → result.answer ≡ succeeds asked.list_place (codes "")
  -- each client that receives it has it once more, as the last, and what waits for each other is as it was
  pub waits : result.answer.refused ≡ false → (client : ℕ)
      → waiting client (after part result)
      ≡ with_message (is_receiver client channel part) channel text (waiting client part)
  -- where it is refused, what waits for each client is as it was
  pub kept : result.answer.refused ≡ true → (client : ℕ) → waiting client (after part result) ≡ waiting client part
  -- each client listens to what it listened to
  pub names : (client : ℕ) → names_of client (after part result).channels ≡ names_of client part.channels

-- the lines of messages, in the order in which they came
abbrev pub message_lines : List Message → List ℕ
message_lines messages =
    flat_map
    (λ (message : Message). pair_line (codes "channel") message.channel ++ pair_line (codes "message") message.text) messages

-- what `readmessages` answers, and what it makes of the partition
pub record IsRead (asked : Asked) (part : Part) (result : CommandResult) : Type 0 where
  -- all that waits is told
  pub told : result.answer ≡ succeeds asked.list_place (message_lines (waiting asked.client part))
  -- and waits no more
  pub gone : waiting asked.client (after part result) ≡ []
  -- what waits for each other client is as it was
  pub kept : (client : ℕ) → client ≢ asked.client → waiting client (after part result) ≡ waiting client part
  -- each client listens to what it listened to
  pub names : (client : ℕ) → names_of client (after part result).channels ≡ names_of client part.channels

abbrev pub MessagesAreSent : Type 0
MessagesAreSent =
    (asked : Asked) (part : Part) (channel text : List ℕ)
    → IsSent asked part channel text (result_of asked part (SendMessage channel text))

abbrev pub MessagesAreRead : Type 0
MessagesAreRead = (asked : Asked) (part : Part) → IsRead asked part (result_of asked part ReadMessages)

-- a command of messages, and what its answer is made for
pub record Step : Type 0 where
  pub asked : Asked
  pub command : MessageCommand

-- the partition after it
abbrev pub after_step : Part → Step → Part
after_step part step = after part (result_of step.asked part step.command)

-- the partition after commands, one after the other
abbrev pub after_all : Part → List Step → Part
after_all part [] = part
after_all part (step ∷ steps) = after_all (after_step part step) steps

-- what a client reads by a command: all that waits for it, where it asks for that
abbrev pub read_if : ℕ → Part → Asked → MessageCommand → List Message
read_if client part asked ReadMessages = if asked.client == client then waiting client part else []
read_if client part asked _ = []

-- what it receives: a message to a channel to which it listens, where it has room
abbrev pub received_if : ℕ → Part → MessageCommand → List Message
received_if client part (SendMessage channel text) =
    with_message (is_channel_name channel && is_receiver client channel part) channel text []
received_if client part _ = []

-- all that a client reads by commands, one after the other
abbrev pub all_read : ℕ → Part → List Step → List Message
all_read client part [] = []
all_read client part (step ∷ steps) =
    read_if client part step.asked step.command ++ all_read client (after_step part step) steps

-- and all that it receives
abbrev pub all_received : ℕ → Part → List Step → List Message
all_received client part [] = []
all_received client part (step ∷ steps) =
    received_if client part step.command ++ all_received client (after_step part step) steps

-- what a client has read, and what waits for it still, is what waited for it and what it received: each message
-- once, in the order in which they came
abbrev pub MessagesAreReadOnce : Type 0
MessagesAreReadOnce =
    (client : ℕ) (part : Part) (steps : List Step)
    → all_read client part steps ++ waiting client (after_all part steps)
    ≡ waiting client part ++ all_received client part steps
