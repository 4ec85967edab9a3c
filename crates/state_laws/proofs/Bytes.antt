-- What the daemon reads of the bytes of a line of a state.
use Rattle.std.proofs.Common.{◌≡◌, ℕ, zero, suc, ◌<◌, ◌≤◌, Bool, true, false, List, [], ◌∷◌, ◌++◌, length, get_or, Option, Some, None, is_some, codes, decimal, Ok, refl, ap, sym, ◌∙◌, subst, arith, append_assoc}
use Rattle.std.specs.Cmp.{first_so, second_so}
use Rattle.std.specs.List.{list_all}
use Rattle.command_arguments.specs.Forms.{byte_of, fade_of, song_mode_of, switch_of, uri_of, volume_of}
use Rattle.command_arguments.specs.Readers.{both, map_ok, read_or}
use Rattle.command_arguments.specs.declared.forms.Position.{Position}
use Rattle.command_arguments.specs.declared.forms.Position.TheVariants.{At}
use Rattle.command_arguments.specs.declared.forms.SongMode.{SongMode}
use Rattle.command_arguments.specs.declared.forms.Uri.{Uri}
use Rattle.mpd_command.specs.Commands.{command_of}
use Rattle.mpd_command.specs.Connection.{rows as connection_rows, rows_from_notcommands}
use Rattle.mpd_command.specs.Database.{rows as database_rows, rows_from_listall, rows_from_rescan}
use Rattle.mpd_command.specs.Messages.{rows as messages_rows}
use Rattle.mpd_command.specs.Names.{all_names, fewest, name_of}
use Rattle.mpd_command.specs.Options.{rows as options_rows, rows_from_replay_gain_mode}
use Rattle.mpd_command.specs.Outputs.{rows as outputs_rows}
use Rattle.mpd_command.specs.Partitions.{rows as partitions_rows}
use Rattle.mpd_command.specs.Playback.{rows as playback_rows, rows_from_seek}
use Rattle.mpd_command.specs.Playlists.{rows as playlists_rows, rows_from_playlistadd}
use Rattle.mpd_command.specs.Queue.{rows as queue_rows, rows_from_playlist, rows_from_prio}
use Rattle.mpd_command.specs.Requests.{name_in_set, of_name, read_as, request_from, request_of, request_with}
use Rattle.mpd_command.specs.Status.{rows as status_rows}
use Rattle.mpd_command.specs.Stickers.{rows as stickers_rows}
use Rattle.mpd_command.specs.Tables.{or_else, under}
use Rattle.mpd_command.specs.declared.command.Command.{Command}
use Rattle.mpd_command.specs.declared.command.Command.TheVariants as command
use Rattle.mpd_command.specs.declared.name.Name.{Name}
use Rattle.mpd_command.specs.declared.options.OptionCommand.TheVariants as options
use Rattle.mpd_command.specs.declared.outputs.OutputCommand.TheVariants as outputs
use Rattle.mpd_command.specs.declared.partitions.PartitionCommand.TheVariants as partitions
use Rattle.mpd_command.specs.declared.playback.PlaybackCommand.TheVariants as playback
use Rattle.mpd_command.specs.declared.queue.QueueCommand.TheVariants as queue
use Rattle.mpd_command.specs.declared.request.Request.TheVariants.{Run}
use Rattle.mpd_text.specs.Answers.Millis.{millis, millis_of}
use Rattle.mpd_text.specs.Answers.Number.{number_of}
use Rattle.mpd_text.specs.Answers.Range.{range_of}
use Rattle.mpd_text.specs.Lines.Scan.{scan, words_of}
use Rattle.mpd_text.specs.Lines.Quoted.{quoted_text}
use Rattle.mpd_text.specs.declared.answers.ranges.Range.{Range}
use Rattle.mpd_text.specs.declared.answers.ranges.Range.TheVariants.{Lone}
use Rattle.mpd_text.specs.declared.answers.times.Millis.{Millis}
use Rattle.kept_state.specs.Lines.{Line}
use Rattle.kept_state.specs.Lines.{Line as lines}
use Rattle.kept_state.specs.Texts.{line, switch_name}
use Rattle.state_laws.specs.Bytes.{BytesAreRead, LinesEnd, bytes_of}
use Rattle.state_laws.specs.Saying.{Asks, switch_to}
use Rattle.state_laws.proofs.Words.{IsWord, byte_decimal, decimal_word, millis_word, mode_word, number_decimal, number_up_to, quoted_last, quoted_words, switch_word, three_words, two_words, word_is}

-- the names of the commands of a state
abbrev names : List (List ℕ)
names =
    codes "setvol" ∷ codes "repeat" ∷ codes "random" ∷ codes "single" ∷ codes "consume" ∷ codes "crossfade" ∷ codes "enableoutput" ∷ codes "disableoutput"
    ∷ codes "addid" ∷ codes "prio" ∷ codes "seek" ∷ codes "play" ∷ codes "pause" ∷ codes "stop" ∷ codes "newpartition"
    ∷ codes "partition" ∷ codes "moveoutput" ∷ []

all_named : list_all (λ word. is_some (name_in_set word fewest)) names ≡ true
unfolding all_names name_of connection_rows rows_from_notcommands database_rows rows_from_listall rows_from_rescan messages_rows options_rows rows_from_replay_gain_mode outputs_rows partitions_rows playback_rows rows_from_seek playlists_rows rows_from_playlistadd queue_rows rows_from_playlist rows_from_prio status_rows stickers_rows
all_named = refl

at_all : (test : List ℕ → Bool) (xs : List (List ℕ)) (i : ℕ) → list_all test xs ≡ true → i < length xs → test (get_or xs i []) ≡ true
at_all test [] i all low = absurd (omega arith)
at_all test (x ∷ xs) zero all low = first_so _ _ all
at_all test (x ∷ xs) (suc i) all low = at_all test xs i (second_so _ _ all) (omega arith)

some_name : (o : Option Name) → is_some o ≡ true → (name : Name) × (o ≡ Some name)
some_name None e = cc
some_name (Some name) e = (name, refl)

named : (i : ℕ) → i < 17 → (name : Name) × (name_in_set (get_or names i []) fewest ≡ Some name)
named i low = some_name (name_in_set (get_or names i []) fewest) (at_all (λ word. is_some (name_in_set word fewest)) names i all_named (omega arith))

-- a line whose words are those of a command is read as its request
abbrev pub IsRead : List ℕ → Command → Type 0
IsRead bytes it = (name : Name) × (request_of bytes fewest ≡ Run name it)

by_words : (i : ℕ) (bytes : List ℕ) (words : List (List ℕ)) (it : Command) → i < 17 → words_of bytes ≡ Ok (get_or names i [] ∷ words)
    → ((name : Name) → of_name (Some name) (get_or names i []) words fewest ≡ read_as name (get_or names i []) (command_of fewest (get_or names i []) words))
    → command_of fewest (get_or names i []) words ≡ Ok (Some it) → IsRead bytes it
unfolding request_of
by_words i bytes words it low spelled allowed found =
    let name = named i low in (
      name.0,
      ap (λ r. request_with r fewest) spelled
          ∙ ap (λ (o : Option Name). request_from (of_name o (get_or names i []) words fewest)) name.1
          ∙ ap request_from (allowed name.0)
          ∙ ap (λ r. request_from (read_as name.0 (get_or names i []) r)) found,
    )

-- what the tables say of the words of each line, by computation
volume_found : (text : List ℕ) (it : ℕ) → volume_of text ≡ Some it → command_of fewest (codes "setvol") (text ∷ []) ≡ Ok (Some (command.Options (options.SetVol it)))
unfolding connection_rows rows_from_notcommands database_rows rows_from_listall rows_from_rescan messages_rows options_rows rows_from_replay_gain_mode outputs_rows partitions_rows playback_rows rows_from_seek playlists_rows rows_from_playlistadd queue_rows rows_from_playlist rows_from_prio status_rows stickers_rows
volume_found text it is = ap (λ (o : Option ℕ). or_else (under command.Options (map_ok Some (map_ok options.SetVol (read_or o text)))) (Ok None)) is

repeat_found : (text : List ℕ) (it : Bool) → switch_of text ≡ Some it → command_of fewest (codes "repeat") (text ∷ []) ≡ Ok (Some (command.Options (options.Repeat it)))
unfolding connection_rows rows_from_notcommands database_rows rows_from_listall rows_from_rescan messages_rows options_rows rows_from_replay_gain_mode outputs_rows partitions_rows playback_rows rows_from_seek playlists_rows rows_from_playlistadd queue_rows rows_from_playlist rows_from_prio status_rows stickers_rows
repeat_found text it is = ap (λ (o : Option Bool). or_else (under command.Options (map_ok Some (map_ok options.Repeat (read_or o text)))) (Ok None)) is

random_found : (text : List ℕ) (it : Bool) → switch_of text ≡ Some it → command_of fewest (codes "random") (text ∷ []) ≡ Ok (Some (command.Options (options.Random it)))
unfolding connection_rows rows_from_notcommands database_rows rows_from_listall rows_from_rescan messages_rows options_rows rows_from_replay_gain_mode outputs_rows partitions_rows playback_rows rows_from_seek playlists_rows rows_from_playlistadd queue_rows rows_from_playlist rows_from_prio status_rows stickers_rows
random_found text it is = ap (λ (o : Option Bool). or_else (under command.Options (map_ok Some (map_ok options.Random (read_or o text)))) (Ok None)) is

single_found : (text : List ℕ) (it : SongMode) → song_mode_of text ≡ Some it → command_of fewest (codes "single") (text ∷ []) ≡ Ok (Some (command.Options (options.Single it)))
unfolding connection_rows rows_from_notcommands database_rows rows_from_listall rows_from_rescan messages_rows options_rows rows_from_replay_gain_mode outputs_rows partitions_rows playback_rows rows_from_seek playlists_rows rows_from_playlistadd queue_rows rows_from_playlist rows_from_prio status_rows stickers_rows
single_found text it is = ap (λ (o : Option SongMode). or_else (under command.Options (map_ok Some (map_ok options.Single (read_or o text)))) (Ok None)) is

consume_found : (text : List ℕ) (it : SongMode) → song_mode_of text ≡ Some it → command_of fewest (codes "consume") (text ∷ []) ≡ Ok (Some (command.Options (options.Consume it)))
unfolding connection_rows rows_from_notcommands database_rows rows_from_listall rows_from_rescan messages_rows options_rows rows_from_replay_gain_mode outputs_rows partitions_rows playback_rows rows_from_seek playlists_rows rows_from_playlistadd queue_rows rows_from_playlist rows_from_prio status_rows stickers_rows
consume_found text it is = ap (λ (o : Option SongMode). or_else (under command.Options (map_ok Some (map_ok options.Consume (read_or o text)))) (Ok None)) is

crossfade_found : (text : List ℕ) (it : ℕ) → fade_of text ≡ Some it → command_of fewest (codes "crossfade") (text ∷ []) ≡ Ok (Some (command.Options (options.Crossfade it)))
unfolding connection_rows rows_from_notcommands database_rows rows_from_listall rows_from_rescan messages_rows options_rows rows_from_replay_gain_mode outputs_rows partitions_rows playback_rows rows_from_seek playlists_rows rows_from_playlistadd queue_rows rows_from_playlist rows_from_prio status_rows stickers_rows
crossfade_found text it is = ap (λ (o : Option ℕ). or_else (under command.Options (map_ok Some (map_ok options.Crossfade (read_or o text)))) (Ok None)) is

enable_found : (text : List ℕ) (it : ℕ) → number_of text ≡ Some it → command_of fewest (codes "enableoutput") (text ∷ []) ≡ Ok (Some (command.Outputs (outputs.EnableOutput it)))
unfolding connection_rows rows_from_notcommands database_rows rows_from_listall rows_from_rescan messages_rows options_rows rows_from_replay_gain_mode outputs_rows partitions_rows playback_rows rows_from_seek playlists_rows rows_from_playlistadd queue_rows rows_from_playlist rows_from_prio status_rows stickers_rows
enable_found text it is = ap (λ (o : Option ℕ). or_else (under command.Outputs (map_ok Some (map_ok outputs.EnableOutput (read_or o text)))) (Ok None)) is

disable_found : (text : List ℕ) (it : ℕ) → number_of text ≡ Some it → command_of fewest (codes "disableoutput") (text ∷ []) ≡ Ok (Some (command.Outputs (outputs.DisableOutput it)))
unfolding connection_rows rows_from_notcommands database_rows rows_from_listall rows_from_rescan messages_rows options_rows rows_from_replay_gain_mode outputs_rows partitions_rows playback_rows rows_from_seek playlists_rows rows_from_playlistadd queue_rows rows_from_playlist rows_from_prio status_rows stickers_rows
disable_found text it is = ap (λ (o : Option ℕ). or_else (under command.Outputs (map_ok Some (map_ok outputs.DisableOutput (read_or o text)))) (Ok None)) is

put_found : (uri : List ℕ) → uri_of uri ≡ Some (record { 0 = uri })
    → command_of fewest (codes "addid") (uri ∷ codes "0" ∷ []) ≡ Ok (Some (command.Queue (queue.AddId (record { 0 = uri }) (Some (At 0)))))
unfolding connection_rows rows_from_notcommands database_rows rows_from_listall rows_from_rescan messages_rows options_rows rows_from_replay_gain_mode outputs_rows partitions_rows playback_rows rows_from_seek playlists_rows rows_from_playlistadd queue_rows rows_from_playlist rows_from_prio status_rows stickers_rows number_of
put_found uri is =
    ap (λ (o : Option Uri). or_else (under command.Queue (map_ok Some (map_ok (λ (p : Uri × Option Position). queue.AddId p.0 p.1) (both (read_or o uri) (Ok (Some (At 0))))))) (Ok None)) is

priority_found : (text : List ℕ) (priority : ℕ) → byte_of text ≡ Some priority
    → command_of fewest (codes "prio") (text ∷ codes "0" ∷ []) ≡ Ok (Some (command.Queue (queue.Prio priority (Lone 0 ∷ []))))
unfolding connection_rows rows_from_notcommands database_rows rows_from_listall rows_from_rescan messages_rows options_rows rows_from_replay_gain_mode outputs_rows partitions_rows playback_rows rows_from_seek playlists_rows rows_from_playlistadd queue_rows rows_from_playlist rows_from_prio status_rows stickers_rows number_of range_of
priority_found text priority is =
    ap (λ (o : Option ℕ). or_else (under command.Queue (map_ok Some (map_ok (λ (p : ℕ × List Range). queue.Prio p.0 p.1) (both (read_or o text) (Ok (Lone 0 ∷ [])))))) (Ok None)) is

seek_found : (text : List ℕ) (time : ℕ) → millis_of text ≡ millis time
    → command_of fewest (codes "seek") (codes "0" ∷ text ∷ []) ≡ Ok (Some (command.Playback (playback.Seek 0 (record { 0 = time }))))
unfolding connection_rows rows_from_notcommands database_rows rows_from_listall rows_from_rescan messages_rows options_rows rows_from_replay_gain_mode outputs_rows partitions_rows playback_rows rows_from_seek playlists_rows rows_from_playlistadd queue_rows rows_from_playlist rows_from_prio status_rows stickers_rows number_of
seek_found text time is =
    ap (λ (o : Option Millis). or_else (under command.Playback (map_ok Some (map_ok (λ (p : ℕ × Millis). playback.Seek p.0 p.1) (both (Ok 0) (read_or o text))))) (Ok None)) is

play_found : command_of fewest (codes "play") (codes "0" ∷ []) ≡ Ok (Some (command.Playback (playback.Play (Some 0))))
unfolding connection_rows rows_from_notcommands database_rows rows_from_listall rows_from_rescan messages_rows options_rows rows_from_replay_gain_mode outputs_rows partitions_rows playback_rows rows_from_seek playlists_rows rows_from_playlistadd queue_rows rows_from_playlist rows_from_prio status_rows stickers_rows number_of
play_found = refl

pause_found : command_of fewest (codes "pause") (codes "1" ∷ []) ≡ Ok (Some (command.Playback (playback.Pause (Some true))))
unfolding connection_rows rows_from_notcommands database_rows rows_from_listall rows_from_rescan messages_rows options_rows rows_from_replay_gain_mode outputs_rows partitions_rows playback_rows rows_from_seek playlists_rows rows_from_playlistadd queue_rows rows_from_playlist rows_from_prio status_rows stickers_rows
pause_found = refl

stop_found : command_of fewest (codes "stop") [] ≡ Ok (Some (command.Playback playback.Stop))
unfolding connection_rows rows_from_notcommands database_rows rows_from_listall rows_from_rescan messages_rows options_rows rows_from_replay_gain_mode outputs_rows partitions_rows playback_rows rows_from_seek playlists_rows rows_from_playlistadd queue_rows rows_from_playlist rows_from_prio status_rows stickers_rows
stop_found = refl

new_found : (name : List ℕ) → command_of fewest (codes "newpartition") (name ∷ []) ≡ Ok (Some (command.Partitions (partitions.NewPartition name)))
unfolding connection_rows rows_from_notcommands database_rows rows_from_listall rows_from_rescan messages_rows options_rows rows_from_replay_gain_mode outputs_rows partitions_rows playback_rows rows_from_seek playlists_rows rows_from_playlistadd queue_rows rows_from_playlist rows_from_prio status_rows stickers_rows
new_found name = refl

going_found : (name : List ℕ) → command_of fewest (codes "partition") (name ∷ []) ≡ Ok (Some (command.Partitions (partitions.Partition name)))
unfolding connection_rows rows_from_notcommands database_rows rows_from_listall rows_from_rescan messages_rows options_rows rows_from_replay_gain_mode outputs_rows partitions_rows playback_rows rows_from_seek playlists_rows rows_from_playlistadd queue_rows rows_from_playlist rows_from_prio status_rows stickers_rows
going_found name = refl

moving_found : (name : List ℕ) → command_of fewest (codes "moveoutput") (name ∷ []) ≡ Ok (Some (command.Partitions (partitions.MoveOutput name)))
unfolding connection_rows rows_from_notcommands database_rows rows_from_listall rows_from_rescan messages_rows options_rows rows_from_replay_gain_mode outputs_rows partitions_rows playback_rows rows_from_seek playlists_rows rows_from_playlistadd queue_rows rows_from_playlist rows_from_prio status_rows stickers_rows
moving_found name = refl

stop_spelled : words_of (codes "stop") ≡ Ok (codes "stop" ∷ [])
unfolding scan
stop_spelled = refl

zero_word : IsWord (codes "0")
zero_word = word_is (codes "0") refl

switch_read : (number : ℕ) (on : Bool) → number ≤ 4294967295 → IsRead (switch_name on ++ (codes " " ++ decimal number)) (command.Outputs (switch_to number on))
switch_read number true low =
    by_words 6 (codes "enableoutput" ++ (codes " " ++ decimal number)) (decimal number ∷ []) (command.Outputs (outputs.EnableOutput number)) (omega arith)
    (two_words (codes "enableoutput") (decimal number) (word_is (codes "enableoutput") refl) (decimal_word number low)) (λ name. refl) (enable_found (decimal number) number (number_decimal number low))
switch_read number false low =
    by_words 7 (codes "disableoutput" ++ (codes " " ++ decimal number)) (decimal number ∷ []) (command.Outputs (outputs.DisableOutput number)) (omega arith)
    (two_words (codes "disableoutput") (decimal number) (word_is (codes "disableoutput") refl) (decimal_word number low)) (λ name. refl) (disable_found (decimal number) number (number_decimal number low))

-- each line
line_read : (line : Line) (it : Command) → Asks line it → IsRead (bytes_of line) it
line_read (lines.Volume text) it asks =
    subst (IsRead (codes "setvol " ++ text)) (sym asks.2)
    (by_words 0 (codes "setvol" ++ (codes " " ++ text)) (text ∷ []) (command.Options (options.SetVol asks.0)) (omega arith)
    (two_words (codes "setvol") text (word_is (codes "setvol") refl) (number_up_to 100 text asks.0 asks.1)) (λ name. refl) (volume_found text asks.0 asks.1))
line_read (lines.Repeat text) it asks =
    subst (IsRead (codes "repeat " ++ text)) (sym asks.2)
    (by_words 1 (codes "repeat" ++ (codes " " ++ text)) (text ∷ []) (command.Options (options.Repeat asks.0)) (omega arith)
    (two_words (codes "repeat") text (word_is (codes "repeat") refl) (switch_word text asks.0 asks.1)) (λ name. refl) (repeat_found text asks.0 asks.1))
line_read (lines.Random text) it asks =
    subst (IsRead (codes "random " ++ text)) (sym asks.2)
    (by_words 2 (codes "random" ++ (codes " " ++ text)) (text ∷ []) (command.Options (options.Random asks.0)) (omega arith)
    (two_words (codes "random") text (word_is (codes "random") refl) (switch_word text asks.0 asks.1)) (λ name. refl) (random_found text asks.0 asks.1))
line_read (lines.Single text) it asks =
    subst (IsRead (codes "single " ++ text)) (sym asks.2)
    (by_words 3 (codes "single" ++ (codes " " ++ text)) (text ∷ []) (command.Options (options.Single asks.0)) (omega arith)
    (two_words (codes "single") text (word_is (codes "single") refl) (mode_word text asks.0 asks.1)) (λ name. refl) (single_found text asks.0 asks.1))
line_read (lines.Consume text) it asks =
    subst (IsRead (codes "consume " ++ text)) (sym asks.2)
    (by_words 4 (codes "consume" ++ (codes " " ++ text)) (text ∷ []) (command.Options (options.Consume asks.0)) (omega arith)
    (two_words (codes "consume") text (word_is (codes "consume") refl) (mode_word text asks.0 asks.1)) (λ name. refl) (consume_found text asks.0 asks.1))
line_read (lines.Crossfade text) it asks =
    subst (IsRead (codes "crossfade " ++ text)) (sym asks.2)
    (by_words 5 (codes "crossfade" ++ (codes " " ++ text)) (text ∷ []) (command.Options (options.Crossfade asks.0)) (omega arith)
    (two_words (codes "crossfade") text (word_is (codes "crossfade") refl) (number_up_to 3600 text asks.0 asks.1)) (λ name. refl) (crossfade_found text asks.0 asks.1))
line_read (lines.Switch output) it asks = subst (IsRead (bytes_of (lines.Switch output))) (sym asks.1) (switch_read output.number output.is_on asks.0)
line_read (lines.Put uri) it asks =
    subst (IsRead (bytes_of (lines.Put uri))) (sym asks.1)
    (by_words 8 (bytes_of (lines.Put uri)) (uri ∷ codes "0" ∷ []) (command.Queue (queue.AddId (record { 0 = uri }) (Some (At 0)))) (omega arith)
    (quoted_words (codes "addid") uri (codes "0") (word_is (codes "addid") refl) zero_word) (λ name. refl) (put_found uri asks.0))
line_read (lines.Prioritize priority) it asks =
    subst (IsRead (bytes_of (lines.Prioritize priority))) (sym asks.1)
    (by_words 9 (bytes_of (lines.Prioritize priority)) (decimal priority ∷ codes "0" ∷ []) (command.Queue (queue.Prio priority (Lone 0 ∷ []))) (omega arith)
    (three_words (codes "prio") (decimal priority) (codes "0") (word_is (codes "prio") refl) (decimal_word priority (omega (arith, asks.0))) zero_word) (λ name. refl)
    (priority_found (decimal priority) priority (byte_decimal priority asks.0)))
line_read (lines.Seek text) it asks =
    subst (IsRead (bytes_of (lines.Seek text))) (sym asks.2)
    (by_words 10 (bytes_of (lines.Seek text)) (codes "0" ∷ text ∷ []) (command.Playback (playback.Seek 0 (record { 0 = asks.0 }))) (omega arith)
    (three_words (codes "seek") (codes "0") text (word_is (codes "seek") refl) zero_word (millis_word text asks.0 asks.1)) (λ name. refl) (seek_found text asks.0 asks.1))
line_read lines.Play it asks =
    subst (IsRead (bytes_of lines.Play)) (sym asks)
    (by_words 11 (bytes_of lines.Play) (codes "0" ∷ []) (command.Playback (playback.Play (Some 0))) (omega arith)
    (two_words (codes "play") (codes "0") (word_is (codes "play") refl) zero_word) (λ name. refl) play_found)
line_read lines.Pause it asks =
    subst (IsRead (bytes_of lines.Pause)) (sym asks)
    (by_words 12 (bytes_of lines.Pause) (codes "1" ∷ []) (command.Playback (playback.Pause (Some true))) (omega arith)
    (two_words (codes "pause") (codes "1") (word_is (codes "pause") refl) (word_is (codes "1") refl)) (λ name. refl) pause_found)
line_read lines.Stop it asks =
    subst (IsRead (bytes_of lines.Stop)) (sym asks) (by_words 13 (bytes_of lines.Stop) [] (command.Playback playback.Stop) (omega arith) stop_spelled (λ name. refl) stop_found)

-- lines of partitions
pub new_read : (name : List ℕ) → IsRead (codes "newpartition " ++ quoted_text name) (command.Partitions (partitions.NewPartition name))
new_read name =
    by_words 14 (codes "newpartition" ++ (codes " " ++ quoted_text name)) (name ∷ []) (command.Partitions (partitions.NewPartition name)) (omega arith)
    (quoted_last (codes "newpartition") name (word_is (codes "newpartition") refl)) (λ name. refl) (new_found name)

pub going_read : (name : List ℕ) → IsRead (codes "partition " ++ quoted_text name) (command.Partitions (partitions.Partition name))
going_read name =
    by_words 15 (codes "partition" ++ (codes " " ++ quoted_text name)) (name ∷ []) (command.Partitions (partitions.Partition name)) (omega arith)
    (quoted_last (codes "partition") name (word_is (codes "partition") refl)) (λ name. refl) (going_found name)

pub moving_read : (name : List ℕ) → IsRead (codes "moveoutput " ++ quoted_text name) (command.Partitions (partitions.MoveOutput name))
moving_read name =
    by_words 16 (codes "moveoutput" ++ (codes " " ++ quoted_text name)) (name ∷ []) (command.Partitions (partitions.MoveOutput name)) (omega arith)
    (quoted_last (codes "moveoutput") name (word_is (codes "moveoutput") refl)) (λ name. refl) (moving_found name)

pub bytes_are_read : BytesAreRead
bytes_are_read line it asks = line_read line it asks

-- a line ends with a line feed
ends_after : (name rest : List ℕ) → name ++ (rest ++ codes "\n") ≡ (name ++ rest) ++ codes "\n"
ends_after name rest = sym (append_assoc name rest (codes "\n"))

pub lines_end : LinesEnd
lines_end (lines.Volume text) = refl
lines_end (lines.Repeat text) = refl
lines_end (lines.Random text) = refl
lines_end (lines.Single text) = refl
lines_end (lines.Consume text) = refl
lines_end (lines.Crossfade text) = refl
lines_end (lines.Switch output) = ends_after (switch_name output.is_on) (codes " " ++ decimal output.number)
lines_end (lines.Put uri) = ap (λ (t : List ℕ). codes "addid " ++ t) (sym (append_assoc (quoted_text uri) (codes " 0") (codes "\n")))
lines_end (lines.Prioritize priority) = ap (λ (t : List ℕ). codes "prio " ++ t) (sym (append_assoc (decimal priority) (codes " 0") (codes "\n")))
lines_end (lines.Seek text) = refl
lines_end lines.Play = refl
lines_end lines.Pause = refl
lines_end lines.Stop = refl
