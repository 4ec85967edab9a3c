-- Settings with two outputs, and two partitions: all holds of them that the laws assume.
use denote.RawPtr.{null_ptr}
use Rattle.std.proofs.Common.{◌≡◌, ◌≢◌, ℕ, ◌<◌, ◌≤◌, ◌^◌, true, false, nat_lt, List, [], ◌∷◌, ◌++◌, length, map, codes, Option, Some, None, String, refl, ap, arith, string_bytes}
use Rattle.std.specs.Global.{Global, Vec}
use Rattle.std.specs.List.{list_all}
use Rattle.std.specs.Str.{IsAscii, bytes_eq}
use Rattle.std.proofs.lemmas.Bool.{and_parts, false≢true, ltb-true}
use Rattle.std.proofs.lemmas.List.Elements.{All-from_recursion}
use Rattle.std.proofs.lemmas.List.Kept.{AllPairs-cons}
use Rattle.std.proofs.lemmas.Str.{IsUtf8-from_ascii}
use Rattle.std.proofs.lemmas.Str.Ascii.{IsAscii-cons, IsAscii-nil}
use Rattle.command_arguments.specs.declared.forms.Position.TheVariants.{At}
use Rattle.command_arguments.specs.declared.forms.SongMode.TheVariants.{Off}
use Rattle.kept_state.specs.Lines.{Line, alone, option_lines, song_steps, state_steps}
use Rattle.kept_state.specs.Lines.{Line as lines}
use Rattle.kept_state.specs.declared.kept.Kept.{Kept}
use Rattle.kept_state.specs.declared.kept.KeptPlayback.TheVariants as playback
use Rattle.kept_state.specs.declared.kept.KeptSong.{KeptSong}
use Rattle.kept_state.specs.declared.partitions.KeptPartition.{KeptPartition}
use Rattle.mpd_command.specs.declared.command.Command.TheVariants as command
use Rattle.mpd_command.specs.declared.options.OptionCommand.TheVariants as options
use Rattle.mpd_command.specs.declared.outputs.OutputCommand.TheVariants as outputs
use Rattle.mpd_command.specs.declared.playback.PlaybackCommand.TheVariants as playback_command
use Rattle.mpd_command.specs.declared.queue.QueueCommand.TheVariants as queue
use Rattle.mpd_text.specs.Answers.Millis.{fraction_of, millis_of, seconds_of}
use Rattle.mpd_text.specs.Answers.Number.{number_of}
use Rattle.opened_player.specs.Opened.{setup_for}
use Rattle.settings.specs.Values.{AreWithin, HaveOwnNames}
use Rattle.settings.specs.declared.values.OutputSettings.{OutputSettings}
use Rattle.settings.specs.declared.values.Settings.{Settings}
use Rattle.state_laws.specs.Assumed.{AreAssumed, AreTwoPartitions, AssumptionsAreMet, HaveTwoOutputs}
use Rattle.state_laws.specs.Limits.{count_lines}
use Rattle.state_laws.specs.Partitions.{ArePartitions, CanBeTold, Each, lines_of_player}
use Rattle.state_laws.specs.Saying.{CanAsk, EachAsks, HasRoom, first_options}
use Rattle.state_laws.specs.Telling.{EachHasPlainUris, IsPlainPartition}
use Rattle.state_laws.proofs.SetUp.{settings_are_set_up, settings_leave_room}

-- ---- lists and texts in memory

abbrev vec_of : {X : Type 0} → (items : List X) → length items < 2 ^ 63 → Vec X
vec_of items small = record {
  ptr = null_ptr;
  len = length items;
  cap = length items;
  alloc = record { memory = record { seal = tt } };
  items = items;
  ok = (refl, omega arith);
  small = small;
}

are_ascii : (bytes : List ℕ) → list_all (λ byte. nat_lt byte 128) bytes ≡ true → IsAscii bytes
are_ascii [] low = IsAscii-nil
are_ascii (byte ∷ bytes) low =
    let both = and_parts (nat_lt byte 128) (list_all (λ byte. nat_lt byte 128) bytes) low in
    IsAscii-cons byte bytes (ltb-true byte 128 both.0) (are_ascii bytes both.1)

abbrev text_of : (bytes : List ℕ) → length bytes < 2 ^ 63 → list_all (λ byte. nat_lt byte 128) bytes ≡ true → String Global
text_of bytes small low = record { bytes = vec_of bytes small; ok = ∣ IsUtf8-from_ascii bytes (are_ascii bytes low) ∣₁ }

-- ---- the settings

abbrev some_path : String Global
some_path = text_of (codes "/p") (omega arith) refl

abbrev kitchen : OutputSettings
kitchen = record { name = text_of (codes "kitchen") (omega arith) refl; path = some_path; enabled = true; patience = None }

abbrev study : OutputSettings
study = record { name = text_of (codes "study") (omega arith) refl; path = some_path; enabled = true; patience = None }

abbrev settings : Settings
settings = record {
  music = some_path;
  listen = text_of (codes "127.0.0.1:6600") (omega arith) refl;
  shelf = None;
  state = Some some_path;
  rate = 44100;
  random_start = 0;
  history = 4096;
  ring = 8192;
  kill = false;
  everyday = false;
  outputs = vec_of (kitchen ∷ study ∷ []) (omega arith);
}

within : AreWithin settings
within = record { history = (omega arith, omega arith); ring = (omega arith, omega arith); outputs = omega arith }

abbrev HasAnotherName : OutputSettings → OutputSettings → Type 0
HasAnotherName one other = string_bytes one.name ≢ string_bytes other.name

own_names : HaveOwnNames settings.outputs.items
own_names =
    let apart : HasAnotherName kitchen study = λ e. absurd (false≢true (ap (bytes_eq (codes "study")) e)) in
    AllPairs-cons HasAnotherName kitchen (study ∷ []) (All-from_recursion (HasAnotherName kitchen) (study ∷ []) (apart, tt))
    (λ i j d before inside. absurd (omega (arith, before, inside)))

-- ---- the partitions

-- a queue with one song, which is played
abbrev a_song : Option KeptSong
a_song = Some (record { entry = record { uri = codes "a.flac"; priority = 0 }; playback = playback.Play (codes "1.500") })

abbrev kept_with : ℕ → Option KeptSong → Kept
kept_with number song = record {
  options = first_options;
  outputs = vec_of (record { number = number; is_on = true } ∷ []) (omega arith);
  before = vec_of [] (omega arith);
  song = song;
  after = vec_of [] (omega arith);
}

abbrev default : KeptPartition
default = record { name = codes "default"; outputs = vec_of (codes "kitchen" ∷ []) (omega arith); kept = kept_with 0 a_song }

abbrev guests : KeptPartition
guests = record { name = codes "guests"; outputs = vec_of (codes "study" ∷ []) (omega arith); kept = kept_with 1 None }

abbrev both : List KeptPartition
both = default ∷ guests ∷ []

are_partitions : ArePartitions both
are_partitions = record { few = omega arith; named = (refl, (refl, tt)); apart = (refl, (refl, tt)); first = default; default = refl }

-- ---- their lines

-- the lines that say the modes and the outputs, before others
own_steps : (number : ℕ) (more : List (List Line)) → number ≤ 4294967295 → EachAsks more
    → EachAsks (map alone (option_lines first_options) ++ alone (lines.Switch (record { number = number; is_on = true })) ∷ more)
unfolding number_of
own_steps number more low ask =
    let volume : CanAsk (lines.Volume (codes "100")) = (command.Options (options.SetVol 100), (100, refl, refl)) in
    let repeat : CanAsk (lines.Repeat (codes "0")) = (command.Options (options.Repeat false), (false, refl, refl)) in
    let random : CanAsk (lines.Random (codes "0")) = (command.Options (options.Random false), (false, refl, refl)) in
    let single : CanAsk (lines.Single (codes "0")) = (command.Options (options.Single Off), (Off, refl, refl)) in
    let consume : CanAsk (lines.Consume (codes "0")) = (command.Options (options.Consume Off), (Off, refl, refl)) in
    let crossfade : CanAsk (lines.Crossfade (codes "0")) = (command.Options (options.Crossfade 0), (0, refl, refl)) in
    let switch : CanAsk (lines.Switch (record { number = number; is_on = true })) =
    (command.Outputs (outputs.EnableOutput number), (low, refl)) in
    ((volume, tt), ((repeat, tt), ((random, tt), ((single, tt), ((consume, tt), ((crossfade, tt), ((switch, tt), ask)))))))

-- the lines that put the song into the queue, and play it
song_step : EachAsks (song_steps a_song)
unfolding number_of seconds_of fraction_of millis_of
song_step =
    let put : CanAsk (lines.Put (codes "a.flac")) =
    (command.Queue (queue.AddId (record { 0 = codes "a.flac" }) (Some (At 0))), (refl, refl)) in
    let seek : CanAsk (lines.Seek (codes "1.500")) =
    (command.Playback (playback_command.Seek 0 (record { 0 = 1500 })), (1500, refl, refl)) in
    ((put, (seek, tt)), tt)

can_tell : Each (CanBeTold (setup_for settings)) both
can_tell =
    let first : EachAsks (state_steps default.kept) = own_steps 0 (song_steps a_song) (omega arith) song_step in
    let second : EachAsks (state_steps guests.kept) = own_steps 1 [] (omega arith) tt in
    let room : (songs : ℕ) → songs ≤ 1 → HasRoom (setup_for settings) songs =
    λ songs few. (settings_leave_room settings songs 0 (omega (arith, few)) (omega arith)).0 in
    ((first, room 1 (omega arith)), ((second, room 0 (omega arith)), tt))

plain_steps : (number : ℕ) (more : List (List Line)) → EachHasPlainUris more
    → EachHasPlainUris (map alone (option_lines first_options) ++ alone (lines.Switch (record { number = number; is_on = true })) ∷ more)
plain_steps number more plain = ((tt, tt), ((tt, tt), ((tt, tt), ((tt, tt), ((tt, tt), ((tt, tt), ((tt, tt), plain)))))))

are_plain : Each IsPlainPartition both
are_plain =
    (((refl, tt), plain_steps 0 (song_steps a_song) ((refl, (tt, tt)), tt)), (((refl, tt), plain_steps 1 [] tt), tt))

count : count_lines (lines_of_player both) ≡ 19
count = refl

are_assumed : AreAssumed (setup_for settings) both
are_assumed =
    let up = settings_are_set_up settings within own_names in
    record {
      outputs = up.0;
      unmoved = up.1;
      fine = are_partitions;
      told = can_tell;
      plain = are_plain;
      cuts = omega (arith, count);
      events = omega (arith, count);
    }

pub assumptions_are_met : AssumptionsAreMet
assumptions_are_met =
    let two : HaveTwoOutputs settings = record { within = within; own_names = own_names; named = refl } in
    let partitions : AreTwoPartitions both = record { named = refl; outputs = refl; songs = refl } in
    (settings, both, two, partitions, are_assumed)
