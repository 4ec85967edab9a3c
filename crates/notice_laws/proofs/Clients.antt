-- What is asked of the volume, the outputs, the channels, the messages and the partitions is the same where the
-- client hears of none of them.
use Rattle.std.proofs.Common.{◌≡◌, ℕ, ◌==◌, true, false, not, List, [], ◌∷◌, ◌++◌, length, map, refl, ap, sym, ◌∙◌, arith}
use Rattle.std.specs.List.{flat_map}
use Rattle.idle_notes.specs.declared.channels.Message.{Message}
use Rattle.idle_notes.specs.Channels.{MemberData, channel_names, messages_of, pairs}
use Rattle.mpd_text.specs.Texts.{ascending}
use Rattle.player_state.specs.declared.effect.CommandEffect.TheVariants.{ReadsMessages}
use Rattle.player_state.specs.declared.state.Part.{Part}
use Rattle.partition_table.specs.Parts.{Known, known}
use Rattle.transitions.specs.Answers.{succeeds}
use Rattle.transitions.specs.CommandResults.{only, shows}
use Rattle.transitions.specs.Transitions.{transition_by}
use Rattle.mpd_command.specs.declared.messages.MessageCommand.TheVariants as messages
use Rattle.mpd_command.specs.declared.options.OptionCommand.TheVariants as options
use Rattle.mpd_command.specs.declared.outputs.OutputCommand.TheVariants as outputs
use Rattle.mpd_command.specs.declared.partitions.PartitionCommand.TheVariants as partitions
use Rattle.partition_commands.specs.Partitions.{lines_of_names, planned}
use Rattle.status_commands.specs.Messages.{lines_of_channels, lines_of_messages, result_of as messages_result}
use Rattle.status_commands.specs.Options.{result_of as options_result}
use Rattle.status_commands.specs.Outputs.{result_of as outputs_result}
use Rattle.connected_clients.specs.Clients.{has_messages, names_of, output_flags, watched_of}
use Rattle.notice_laws.specs.Told.{ChannelsAreTold, MessagesAreTold, OptionsAreTold, OutputsAreTold, PartitionsAreTold}
use Rattle.notice_laws.proofs.Unheard.{names_kept, none_begins, outputs_kept, pairs_kept, volume_kept}

pub options_are_told : OptionsAreTold
unfolding options_result
options_are_told p asked options.GetVol stays h =
    let volume : p.own.volume ≡ p.later.volume = volume_kept p stays h.0 in
    λ i. options_result asked (record p.own { volume = volume i }) options.GetVol
options_are_told p asked options.ReplayGainStatus stays h = refl
options_are_told p asked _ stays h = absurd h

pub outputs_are_told : OutputsAreTold
unfolding outputs_result
outputs_are_told p asked outputs.Outputs stays h =
    let flags : output_flags p.own.outputs ≡ output_flags p.later.outputs = outputs_kept p stays h.0 in
    let names : p.own.outputs.names ≡ p.later.outputs.names = sym stays.outputs in
    λ i. outputs_result asked (record p.own { outputs = record p.own.outputs { names = names i; here = (flags i).here; enabled = (flags i).enabled } }) outputs.Outputs
outputs_are_told p asked _ stays h = absurd h

-- the channels of the pairs
seconds-of : (client : ℕ) (names : List (List ℕ)) → map (λ (q : ℕ × List ℕ). q.1) (map (λ name. (client, name)) names) ≡ names
seconds-of client [] = refl
seconds-of client (name ∷ names) = ap (λ l. name ∷ l) (seconds-of client names)

seconds-append : (a b : List (ℕ × List ℕ)) → map (λ (q : ℕ × List ℕ). q.1) (a ++ b) ≡ map (λ (q : ℕ × List ℕ). q.1) a ++ map (λ (q : ℕ × List ℕ). q.1) b
seconds-append [] b = refl
seconds-append (x ∷ a) b = ap (λ l. x.1 ∷ l) (seconds-append a b)

names-by-pairs : (ms : List MemberData) → flat_map (λ (m : MemberData). m.names) ms ≡ map (λ (q : ℕ × List ℕ). q.1) (pairs ms)
names-by-pairs [] = refl
names-by-pairs (m ∷ ms) =
    (λ i. sym (seconds-of m.client m.names) i ++ names-by-pairs ms i)
    ∙ sym (seconds-append (map (λ name. (m.client, name)) m.names) (pairs ms))

channels-by-pairs : (ms : List MemberData) → channel_names ms ≡ ascending (map (λ (q : ℕ × List ℕ). q.1) (pairs ms))
unfolding channel_names
channels-by-pairs ms = ap ascending (names-by-pairs ms)

pub channels_are_told : ChannelsAreTold
unfolding messages_result
channels_are_told p asked messages.Channels stays h =
    let same : channel_names p.own.channels ≡ channel_names p.later.channels =
    channels-by-pairs p.own.channels ∙ ap (λ (q : List (ℕ × List ℕ)). ascending (map (λ (x : ℕ × List ℕ). x.1) q)) (pairs_kept p stays h.0) ∙ sym (channels-by-pairs p.later.channels) in
    ap (λ names. shows asked (lines_of_channels names)) same
channels_are_told p asked _ stays h = absurd h

none-wait : (ms : List Message) → not (length ms == 0) ≡ false → ms ≡ []
none-wait [] e = refl
none-wait (m ∷ ms) e =
    let some : (length (m ∷ ms) == 0) ≡ false = grind arith in
    let clash : true ≡ false = sym (ap not some) ∙ e in cc

pub messages_are_told : MessagesAreTold
unfolding messages_result
messages_are_told p asked stays own none h =
    let before : has_messages p.client.number p.own.channels ≡ false = ap (λ (l : List Message). not (length l == 0)) none in
    let after : messages_of p.client.number p.later.channels ≡ [] = none-wait _ (none_begins p stays h.0 before) in
    let same : messages_of asked.client p.own.channels ≡ messages_of asked.client p.later.channels =
    ap (λ n. messages_of n p.own.channels) own ∙ none ∙ sym after ∙ ap (λ n. messages_of n p.later.channels) (sym own) in
    ap (λ (l : List Message). record (only (succeeds asked.list_place (lines_of_messages l))) { effect = ReadsMessages asked.client }) same

names-known : (ps : List Part) → map (λ (f : Known). f.name) (map known ps) ≡ names_of (map watched_of ps)
names-known [] = refl
names-known (p ∷ ps) = ap (λ l. p.name ∷ l) (names-known ps)

pub partitions_are_told : PartitionsAreTold
unfolding planned
partitions_are_told p asked ks openings partitions.ListPartitions stays h =
    ap (λ (names : List (List ℕ)). transition_by (shows asked (lines_of_names (ascending names))))
    (names-known p.before ∙ names_kept p stays h.0 ∙ sym (names-known p.after))
partitions_are_told p asked ks openings _ stays h = absurd h
