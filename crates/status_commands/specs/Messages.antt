-- The commands by which clients send one another messages (MPD protocol reference, Client to client).
use Rattle.std.specs.Prelude.{nat_le, List, ℕ, ◌++◌, length, if◌then◌else◌, codes}
use Rattle.std.specs.List.{flat_map}
use Rattle.idle_notes.specs.declared.channels.Message.{Message}
use Rattle.idle_notes.specs.Channels.{channel_names, has_room, hears, is_channel_name, listens, messages_of, names_of}
use Rattle.mpd_text.specs.Answers.Answer.{pair_line}
use Rattle.mpd_text.specs.declared.answers.answer.ErrorNumber.TheVariants.{Exist, NoExist, System}
use Rattle.transitions.specs.Answers.{succeeds}
use Rattle.transitions.specs.CommandResults.{bad_name, does, only, refusal, shows}
use Rattle.player_state.specs.declared.effect.CommandEffect.TheVariants.{ReadsMessages, Sends, Subscribes, Unsubscribes}
use Rattle.transitions.specs.declared.asked.Asked.{Asked}
use Rattle.player_state.specs.declared.state.Part.{Part}
use Rattle.transitions.specs.Transitions.{CommandResult}
use Rattle.mpd_command.specs.declared.messages.MessageCommand.{MessageCommand}
use Rattle.mpd_command.specs.declared.messages.MessageCommand.TheVariants as messages

-- the client listens to a channel to which it does not listen yet, if it may listen to one more
abbrev pub subscribe_named : Asked → Part → List ℕ → CommandResult
subscribe_named asked part channel =
    if listens asked.client channel part.channels then refusal asked Exist (codes "already subscribed")
    else (if nat_le 16 (length (names_of asked.client part.channels)) then refusal asked System (codes "too many subscriptions")
    else does asked (Subscribes asked.client channel))

abbrev pub subscribe : Asked → Part → List ℕ → CommandResult
subscribe asked part channel = if is_channel_name channel then subscribe_named asked part channel else bad_name asked channel

abbrev pub unsubscribe_named : Asked → Part → List ℕ → CommandResult
unsubscribe_named asked part channel =
    if listens asked.client channel part.channels then does asked (Unsubscribes asked.client channel)
    else refusal asked NoExist (codes "not subscribed")

abbrev pub unsubscribe : Asked → Part → List ℕ → CommandResult
unsubscribe asked part channel = if is_channel_name channel then unsubscribe_named asked part channel else bad_name asked channel

-- the names of channels, a line each
unfoldable pub lines_of_channels : List (List ℕ) → List ℕ
lines_of_channels names = flat_map (pair_line (codes "channel")) names

-- the channels that somebody listens to
abbrev pub channels : Asked → Part → CommandResult
channels asked part = shows asked (lines_of_channels (channel_names part.channels))

-- a message goes to each client that listens to the channel and has room for it
abbrev pub send_named : Asked → Part → List ℕ → List ℕ → CommandResult
send_named asked part channel text =
    if hears channel part.channels
    then (if has_room channel part.channels then does asked (Sends channel text) else refusal asked NoExist (codes "no subscriber has room"))
    else refusal asked NoExist (codes "nobody is subscribed")

abbrev pub send_message : Asked → Part → List ℕ → List ℕ → CommandResult
send_message asked part channel text = if is_channel_name channel then send_named asked part channel text else bad_name asked channel

abbrev pub message_lines : Message → List ℕ
message_lines message = pair_line (codes "channel") message.channel ++ pair_line (codes "message") message.text

unfoldable pub lines_of_messages : List Message → List ℕ
lines_of_messages messages = flat_map message_lines messages

-- the messages that wait for the client, the oldest first; they are then gone
abbrev pub read_messages : Asked → Part → CommandResult
read_messages asked part =
    record (only (succeeds asked.list_place (lines_of_messages (messages_of asked.client part.channels)))) { effect = ReadsMessages asked.client }

-- what each command makes of the player
unfoldable pub result_of : Asked → Part → MessageCommand → CommandResult
result_of asked part messages.Channels = channels asked part
result_of asked part messages.ReadMessages = read_messages asked part
result_of asked part (messages.SendMessage channel text) = send_message asked part channel text
result_of asked part (messages.Subscribe channel) = subscribe asked part channel
result_of asked part (messages.Unsubscribe channel) = unsubscribe asked part channel
