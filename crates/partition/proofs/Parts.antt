-- What an event raises is what differs between the worlds.
use Rattle.std.proofs.Common.{arith, ◌≡◌, ◌≢◌, ◌↔◌, ◌⊎◌, inl, inr, ◌≤◌, ◌+◌, ◌==◌, if◌then◌else◌, ◌&&◌, ◌||◌, ℕ, suc, nat_lt, Bool, true, false, not, nat_eq, List, [], ◌∷◌, ◌++◌, length, map, filter, Option, Some, None, option_map, refl, ap, sym, subst, ◌∙◌}
use Rattle.std.specs.Prelude.{slice_get}
use Rattle.std.proofs.lemmas.Bool.{eq-eqb, eqb-true}
use Rattle.idle_notes.specs.declared.subsystem.Subsystem.{Subsystem}
use Rattle.idle_notes.specs.declared.subsystem.Subsystem.TheVariants.{Database, Update, StoredPlaylist, Playlist, Player, Mixer, Output, Options, Sticker, Subscription, Message, Partition}
use Rattle.idle_notes.specs.Sets.{all, has}
use Rattle.idle_notes.specs.declared.sets.Subsystems.{Subsystems}
use Rattle.song_queue.specs.declared.entry.Entry.{Entry}
use Rattle.song_queue.specs.Entries.{same_queue}
use Rattle.song_queue.specs.declared.edit.Edit.{Edit}
use Rattle.song_queue.specs.declared.edit.Edit.TheVariants.{Insert, Remove, Move, Prioritize, Swap, Shuffle}
use Rattle.song_queue.specs.Laws as queues
use Rattle.song_queue.specs.Past.{after_event, present}
use Rattle.song_queue.specs.State.{QueueState, differ, queue_of}
use Rattle.player_core.specs.Laws.{Next, Previous, Play, PlayEntry, Seek, Stop, Pause, TogglePause, SetRandom, Insert as InsertSongs, Remove as RemoveSongs, Want, Have, Failed}
use Rattle.player_core.specs.Player.{PlayerState}
use Rattle.player_core.proofs.Rising.{numbers_rise}
use Rattle.song_queue.proofs.Ids.{present-after_event}
use Rattle.song_queue.proofs.Same.{same_queue-refl, same_queue-true}
use Rattle.idle_notes.specs.Channels.{messages_of, pairs}
use Rattle.idle_notes.specs.declared.channels.Message.{Message as Waiting}
use Rattle.player_state.specs.declared.scan.ScanMove.{ScanMove}
use Rattle.player_state.specs.declared.scan.ScanMove.TheVariants.{Stay, Begin, End}
use Rattle.player_state.specs.declared.state.Library.{Library}
use Rattle.player_state.specs.declared.effect.Effect.{Effect}
use Rattle.player_state.specs.declared.effect.Effect.TheVariants.{ByCommand, ByAudio}
use Rattle.player_state.specs.declared.effect.CommandEffect.TheVariants.{Rests, Edits, Shuffles, SetsVolume, SetsRepeat, SetsRandom, SetsSingle, SetsConsume, SetsCrossfade, ClearsError, Plays, PlaysPosition, Pauses, TogglesPause, Stops, GoesOn, GoesBack, Seeks, Switches, Subscribes, Unsubscribes, Sends, ReadsMessages, Leaves}
use Rattle.player_state.specs.declared.effect.AudioStep.TheVariants.{Wants, Accepts, Fails, Settles}
use Rattle.player_events.specs.declared.event.Event.{Event}
use Rattle.connected_clients.specs.declared.notices.Notice.{Notice}
use Rattle.player_state.specs.declared.report.Report.{Report}
use Rattle.player_state.specs.declared.state.Part.{Part}
use Rattle.player_state.specs.Outputs.{OutputsData, any_enabled, broken, brought, is_output, released}
use Rattle.player_state.specs.declared.outputs.Carried.{Carried}
use Rattle.partition_table.specs.Parts.{carried_in, known, once_more, outputs_moved}
use Rattle.partition_table.specs.declared.crossing.Crossing.{Crossing}
use Rattle.partition_table.specs.declared.crossing.Crossing.TheVariants.{Stays, Opens, Closes, Brings}
use Rattle.player_core.specs.declared.state.Job.{Job}
use Rattle.player_state.specs.Effects.{Change, ByEdit, ByStep, asked_for, change_of, entries, outputs_after, played_entry, player_after, player_edited, sought_entry, due_job}
use Rattle.partition.specs.Image.{Image}
use Rattle.transitions.specs.Transitions.{TransitionData}
use Rattle.player_state.specs.Scans.{is_last}
use Rattle.player_state.proofs.Songs.{same_songs-refl, same_songs-true}
use Rattle.connected_clients.proofs.Alike.{more_than_none, same_names-refl, same_names-true, same_pairs-refl, same_pairs-true, same_options-refl, same_options-true, same_outputs-refl, same_outputs-true, same_playing-refl, same_playing-true}
use Rattle.connected_clients.specs.declared.fingerprint.OutputFlags.{OutputFlags}
use Rattle.connected_clients.specs.Clients.{Watched, is_this, names_of, options, output_flags, playing, raised_between, raised_for_all, raised_within, same_names, same_options, same_outputs, same_pairs, same_playing, watched_at}
use Rattle.player_state.specs.Libraries.{library_after, same_songs, songs_after}
use Rattle.partition.specs.Step.{moved_client, sender_number, index_at}
use Rattle.partition.specs.World.{PartWorld, World, WorldTransition, Differs, DiffersAt, DiffersBetween, DiffersForAll, DiffersWithin, names_in, part_in, part_world_after, parts_changed, past_after, index_of, raised_at, unplayed, watched_by, watched_in, world_after_transition, world_at, world_moved_output, worlds_moved}
use Rattle.partition.specs.Notices.{AgreeButForUnwatched, AgreesButForUnwatched, AllAgree, NoneDiffers}

-- a test that answers true only of two that are one, and of each with itself
tells : {A : Type 0} (same : A → A → Bool) → ((a : A) → same a a ≡ true) → ((a b : A) → same a b ≡ true → a ≡ b) → (a b : A)
    → (not (same a b) ≡ true) ↔ (a ≢ b)
tells same own one a b = (
  λ t e. (let is : same a b ≡ true = sym (ap (same a) e) ∙ own a in let clash : false ≡ true = sym (ap not is) ∙ t in cc),
  λ ne.
      let cases : (t : Bool) → same a b ≡ t → not t ≡ true =
      λ t. elim t as (λ t. same a b ≡ t → not t ≡ true) [ true ↦ λ e. absurd (ne (one a b e)) | false ↦ λ e. refl ] in
      cases (same a b) refl,
)

decides : {A : Type 0} (same : A → A → Bool) → ((a b : A) → same a b ≡ true → a ≡ b) → ((a : A) → same a a ≡ true) → (a b : A) → ((a ≢ b) → ⊥) → a ≡ b
decides same one own a b not_apart =
    let cases : (t : Bool) → same a b ≡ t → a ≡ b =
    λ t. elim t as (λ t. same a b ≡ t → a ≡ b) [
      | true ↦ λ e. one a b e
      | false ↦ λ e. absurd (not_apart (λ same_one. (let clash : true ≡ false = sym (own a) ∙ ap (same a) same_one ∙ e in cc)))
    ] in
    cases (same a b) refl

alike : Bool → Bool → Bool
alike a b = not (differ a b)

alike-one : (a b : Bool) → alike a b ≡ true → a ≡ b
unfolding alike
alike-one true true e = refl
alike-one true false e = cc
alike-one false true e = cc
alike-one false false e = refl

alike-own : (a : Bool) → alike a a ≡ true
unfolding alike
alike-own true = refl
alike-own false = refl

differs-tells : (a b : Bool) → (differ a b ≡ true) ↔ (a ≢ b)
differs-tells true true = (λ e. cc, λ ne. absurd (ne refl))
differs-tells true false = (λ e same. cc, λ ne. refl)
differs-tells false true = (λ e same. cc, λ ne. refl)
differs-tells false false = (λ e. cc, λ ne. absurd (ne refl))

modes_of : (a b : Bool) → ((a ≢ b) → ⊥) → a ≡ b
modes_of a b n = decides alike alike-one alike-own a b n

some_more : (m : Waiting) (ms : List Waiting) → (length (m ∷ ms) == 0) ≡ false
some_more m ms = ap (λ n. n == 0) (let is : length (m ∷ ms) ≡ 1 + length ms = omega arith in is) ∙ more_than_none (length ms)

begins-tells : (before after : List Waiting) → ((not (not (length before == 0)) && not (length after == 0)) ≡ true) ↔ ((before ≡ []) × (after ≢ []))
begins-tells [] [] = (λ e. cc, λ p. absurd (p.1 refl))
begins-tells [] (m ∷ ms) = (λ e. (refl, λ n. (let clash : m ∷ ms ≡ [] = n in cc)), λ p. ap not (some_more m ms))
begins-tells (m ∷ ms) [] = (λ e. (let f : false ≡ true = sym (ap (λ b. not (not b) && false) (some_more m ms)) ∙ e in cc), λ p. absurd (p.1 refl))
begins-tells (m ∷ ms) (n ∷ ns) = (
  λ e. (let f : false ≡ true = sym (ap (λ b. not (not b) && not (length (n ∷ ns) == 0)) (some_more m ms)) ∙ e in cc),
  λ p. (let clash : m ∷ ms ≡ [] = p.0 in cc),
)

-- the names of partitions, by what the subsystems speak of
names_watched : (ps : List PartWorld) → names_of (map watched_by ps) ≡ map (λ (p : PartWorld). p.name) ps
names_watched [] = refl
names_watched (p ∷ ps) = ap (λ (l : List (List ℕ)). p.name ∷ l) (names_watched ps)

watched_found : (index : ℕ) (ps : List PartWorld) → watched_at index (map watched_by ps) ≡ option_map watched_by (world_at index ps)
watched_found index [] = refl
watched_found index (p ∷ ps) =
    elim (p.index == index) as (λ b. (if b then Some (watched_by p) else watched_at index (map watched_by ps)) ≡ option_map watched_by (if b then Some p else world_at index ps))
    [ true ↦ refl | false ↦ watched_found index ps ]

-- a part of all, of one partition, or of neither
for_all : {A D : Type 0} → A ↔ D → A ↔ (D ⊎ ⊥)
for_all i = (λ a. inl (i.0 a), λ s. elim s [ inl d ↦ i.1 d | inr w ↦ absurd w ])

within : {A W : Type 0} → A ↔ W → A ↔ (⊥ ⊎ W)
within i = (λ a. inr (i.0 a), λ s. elim s [ inl d ↦ absurd d | inr w ↦ i.1 w ])

neither : (false ≡ true) ↔ (⊥ ⊎ ⊥)
neither = (λ e. cc, λ s. elim s [ inl d ↦ absurd d | inr w ↦ absurd w ])

module _ (number : ℕ) (m : WorldTransition) where
  abbrev common : Subsystems
  common = raised_for_all m.transition.written (watched_in m.before) (watched_in m.after)

  partitions_tell : (not (same_names (names_of (map watched_by m.before.parts)) (names_of (map watched_by m.after.parts))) ≡ true) ↔ (names_in m.before ≢ names_in m.after)
  partitions_tell =
      let told = tells same_names same_names-refl same_names-true (names_of (map watched_by m.before.parts)) (names_of (map watched_by m.after.parts)) in (
        λ e same. told.0 e (names_watched m.before.parts ∙ same ∙ sym (names_watched m.after.parts)),
        λ apart. told.1 (λ same. apart (sym (names_watched m.before.parts) ∙ same ∙ names_watched m.after.parts)),
      )

  all_differ : (x : Subsystem) → (has common x ≡ true) ↔ (DiffersForAll x m ⊎ ⊥)
  all_differ Database = for_all (tells same_songs same_songs-refl same_songs-true m.before.library.songs m.after.library.songs)
  all_differ Update = for_all (differs-tells m.before.library.scan.runs m.after.library.scan.runs)
  all_differ StoredPlaylist = for_all (λ e. e, λ e. e)
  all_differ Playlist = neither
  all_differ Player = neither
  all_differ Mixer = neither
  all_differ Output = neither
  all_differ Options = neither
  all_differ Sticker = for_all (λ e. e, λ e. e)
  all_differ Subscription = neither
  all_differ Message = neither
  all_differ Partition = for_all partitions_tell

  both_differ : (before after : PartWorld) (x : Subsystem) → (has (raised_within number (watched_by before) (watched_by after) common) x ≡ true) ↔ (DiffersForAll x m ⊎ DiffersWithin number x before after)
  both_differ before after Database = all_differ Database
  both_differ before after Update = all_differ Update
  both_differ before after StoredPlaylist = all_differ StoredPlaylist
  both_differ before after Playlist = within (tells same_queue same_queue-refl same_queue-true (present before.past) (present after.past))
  both_differ before after Player = within (tells same_playing same_playing-refl same_playing-true (playing before.player) (playing after.player))
  both_differ before after Mixer = within (tells nat_eq (λ a. eq-eqb a a refl) eqb-true before.volume after.volume)
  both_differ before after Output = within (tells same_outputs same_outputs-refl same_outputs-true (output_flags before.outputs) (output_flags after.outputs))
  both_differ before after Options = within (tells same_options same_options-refl same_options-true (options before.player) (options after.player))
  both_differ before after Sticker = all_differ Sticker
  both_differ before after Subscription = within (tells same_pairs same_pairs-refl same_pairs-true (pairs before.channels) (pairs after.channels))
  both_differ before after Message = within (begins-tells (messages_of number before.channels) (messages_of number after.channels))
  both_differ before after Partition = all_differ Partition

  between_differ : (before after : Option PartWorld) (x : Subsystem)
      → (has (raised_between number (option_map watched_by before) (option_map watched_by after) common) x ≡ true) ↔ (DiffersForAll x m ⊎ DiffersBetween number x before after)
  between_differ (Some before) (Some after) x = both_differ before after x
  between_differ (Some before) None x = all_differ x
  between_differ None after x = all_differ x

  there_differ : (index : ℕ) (x : Subsystem)
      → (has (raised_between number (watched_at index (map watched_by m.before.parts)) (watched_at index (map watched_by m.after.parts)) common) x ≡ true) ↔ DiffersAt number index x m
  there_differ index x =
      subst (λ (a : Option Watched). (has (raised_between number (watched_at index (map watched_by m.before.parts)) a common) x ≡ true) ↔ DiffersAt number index x m) (sym (watched_found index m.after.parts))
      (subst (λ (b : Option Watched). (has (raised_between number b (option_map watched_by (world_at index m.after.parts)) common) x ≡ true) ↔ DiffersAt number index x m) (sym (watched_found index m.before.parts))
      (between_differ (world_at index m.before.parts) (world_at index m.after.parts) x))

has_all : (x : Subsystem) → has all x ≡ true
has_all Database = refl
has_all Update = refl
has_all StoredPlaylist = refl
has_all Playlist = refl
has_all Player = refl
has_all Mixer = refl
has_all Output = refl
has_all Options = refl
has_all Sticker = refl
has_all Subscription = refl
has_all Message = refl
has_all Partition = refl

-- by the worlds before and after a transition
pub raised_differ : (number : ℕ) (m : WorldTransition) (x : Subsystem) → (has (raised_at number m) x ≡ true) ↔ Differs number x m
raised_differ number m x =
    let index : ℕ = index_of number m.before.clients in
    let there : Subsystems = raised_between number (watched_at index (map watched_by m.before.parts)) (watched_at index (map watched_by m.after.parts)) (common number m) in
    let goes : Bool = is_this (moved_client (sender_number m.event) m.transition.response) number in
    let Goal : Bool → Type 0 = λ b. (has (if b then all else there) x ≡ true) ↔ ((b ≡ true) ⊎ DiffersAt number index x m) in
    elim goes as Goal [
      | true ↦ (λ e. inl refl, λ s. has_all x)
      | false ↦ (let differs = there_differ number m index x in (λ e. inr (differs.0 e), λ s. elim s [ inl e ↦ cc | inr d ↦ differs.1 d ]))
    ]

same_left : (past : List (List Entry)) (left : List Entry) → present past ≡ present (after_event past left) → after_event past left ≡ past
same_left past left e =
    let is : same_queue (present past) left ≡ true = sym (ap (same_queue (present past)) (e ∙ present-after_event past left)) ∙ same_queue-refl (present past) in
    rw is refl

same_past : (past : List (List Entry)) (change : Change) → present past ≡ present (past_after past change) → past_after past change ≡ past
same_past past (ByEdit edit) e = same_left past (queues.queue_after past edit) e
same_past past (ByStep None) e = refl
same_past past (ByStep (Some left)) e = same_left past left e

-- a scan that began where none ran is seen
same_begun : (library : Library) (runs none_left : Bool) → runs ≡ (if runs || none_left then record library.scan { runs = runs } else record { last = library.scan.last + 1; runs = true }).runs
    → record library { scan = if runs || none_left then record library.scan { runs = runs } else record { last = library.scan.last + 1; runs = true } } ≡ record library { scan = record library.scan { runs = runs } }
same_begun library true none_left e = refl
same_begun library false true e = refl
same_begun library false false e = cc

-- a library after a scan's move has the songs that it had and a scan runs as before: then it is the same
same_library : (library : Library) (scan_move : ScanMove) → library.songs ≡ (library_after library scan_move).songs
    → library.scan.runs ≡ (library_after library scan_move).scan.runs → library_after library scan_move ≡ library
same_library library Stay songs runs = refl
same_library library Begin songs runs = same_begun library library.scan.runs (is_last library.scan) runs
same_library library (End found second) songs runs =
    let updated : (if same_songs library.songs (songs_after library (End found second)) then library.updated else second) ≡ library.updated =
    ap (λ (b : Bool). if b then library.updated else second) (ap (same_songs library.songs) (sym songs) ∙ same_songs-refl library.songs) in
    λ i. record library { songs = sym songs i; scan = record library.scan { runs = sym runs i }; updated = updated i }

-- the names of outputs stay
asked_there : (job : Option Job) (outputs : OutputsData) → (asked_for job outputs).names ≡ outputs.names
asked_there None outputs = refl
asked_there (Some job) outputs = refl

same_there : (rate : ℕ) (part : Part) (effect : Effect) → (outputs_after rate part effect).names ≡ part.outputs.names
same_there rate part (ByCommand (Switches output on)) = refl
same_there rate part (ByAudio (Wants owes)) = asked_there (due_job rate part owes).job part.outputs
same_there rate part (ByAudio (Settles output written discarded failed)) =
    elim failed as (λ b. (if b then broken part.outputs output else part.outputs).names ≡ part.outputs.names) [ true ↦ refl | false ↦ refl ]
same_there rate part _ = refl

-- a step of the player leaves the greatest number
module _ (p : PlayerState) where
  abbrev Same : PlayerState → Type 0
  Same q = q.max_cut ≡ p.max_cut

  edit_keeps : (q : QueueState) (edit : Edit) → Same (player_edited p q edit)
  edit_keeps q (Insert at songs) = (numbers_rise p (InsertSongs q songs)).3
  edit_keeps q (Remove start end) = (numbers_rise p (RemoveSongs (queue_of q) start end)).3
  edit_keeps q (Move start end to) = refl
  edit_keeps q (Prioritize ranges priority) = refl
  edit_keeps q (Swap a b) = refl
  edit_keeps q (Shuffle start end words) = refl

  play_keeps : (found : Option Entry) → Same (played_entry p found)
  play_keeps None = refl
  play_keeps (Some entry) = (numbers_rise p (PlayEntry entry)).3

  seek_keeps : (found : Option Entry) (frame : ℕ) → Same (sought_entry p found frame)
  seek_keeps None frame = refl
  seek_keeps (Some entry) frame = (numbers_rise p (Seek entry frame)).3

same_limit : (rate : ℕ) (part : Part) (effect : Effect) → (player_after rate part effect).max_cut ≡ part.player.max_cut
same_limit rate part (ByCommand Rests) = refl
same_limit rate part (ByCommand (Edits edit)) = edit_keeps part.player part.queue edit
same_limit rate part (ByCommand (Shuffles start end)) = refl
same_limit rate part (ByCommand (SetsVolume volume)) = refl
same_limit rate part (ByCommand (SetsRepeat on)) = refl
same_limit rate part (ByCommand (SetsRandom on)) = (numbers_rise part.player (SetRandom (entries part) on)).3
same_limit rate part (ByCommand (SetsSingle single)) = refl
same_limit rate part (ByCommand (SetsConsume consume)) = refl
same_limit rate part (ByCommand (SetsCrossfade seconds)) = refl
same_limit rate part (ByCommand ClearsError) = refl
same_limit rate part (ByCommand Plays) = (numbers_rise part.player (Play (entries part))).3
same_limit rate part (ByCommand (PlaysPosition position)) = play_keeps part.player (slice_get (entries part) position)
same_limit rate part (ByCommand (Pauses on)) = (numbers_rise part.player (Pause on)).3
same_limit rate part (ByCommand TogglesPause) = (numbers_rise part.player TogglePause).3
same_limit rate part (ByCommand Stops) = (numbers_rise part.player Stop).3
same_limit rate part (ByCommand GoesOn) = (numbers_rise part.player (Next (entries part))).3
same_limit rate part (ByCommand GoesBack) = (numbers_rise part.player (Previous (entries part))).3
same_limit rate part (ByCommand (Seeks position frame)) = seek_keeps part.player (slice_get (entries part) position) frame
same_limit rate part (ByCommand (Switches output on)) = refl
same_limit rate part (ByAudio (Wants owes)) = (numbers_rise part.player (Want rate (entries part) (any_enabled part.outputs) owes)).3
same_limit rate part (ByAudio (Accepts number frames)) = (numbers_rise part.player (Have (entries part) number frames)).3
same_limit rate part (ByAudio (Fails number of_partner)) = (numbers_rise part.player (Failed (entries part) number of_partner)).3
same_limit rate part (ByAudio (Settles output written discarded failed)) = refl
same_limit rate part (ByCommand (Subscribes client channel)) = refl
same_limit rate part (ByCommand (Unsubscribes client channel)) = refl
same_limit rate part (ByCommand (Sends channel text)) = refl
same_limit rate part (ByCommand (ReadsMessages client)) = refl
same_limit rate part (ByCommand (Leaves client)) = refl

-- what an event can leave of a partition: its number, its name, its limits and the names of the outputs stay, and
-- its past is as it was where the present queue is
record Comes (before after : PartWorld) : Type 0 where
  index : after.index ≡ before.index
  name : after.name ≡ before.name
  limits : after.limits ≡ before.limits
  past : present before.past ≡ present after.past → after.past ≡ before.past
  limit : after.player.max_cut ≡ before.player.max_cut
  names : after.outputs.names ≡ before.outputs.names

comes_same : (p : PartWorld) → Comes p p
comes_same p = record { index = refl; name = refl; limits = refl; past = λ e. refl; limit = refl; names = refl }

comes_after : (rate : ℕ) (p : PartWorld) (effect : Effect) → Comes p (part_world_after rate (part_in p) p effect)
comes_after rate p effect = record {
  index = refl;
  name = refl;
  limits = refl;
  past = same_past p.past (change_of rate (part_in p) effect);
  limit = same_limit rate (part_in p) effect;
  names = same_there rate (part_in p) effect;
}

-- a move of an output leaves the names
moved_names : (output : ℕ) (comes : Bool) (c : Carried) (outputs : OutputsData) → (outputs_moved output comes c outputs).names ≡ outputs.names
moved_names output true c outputs =
    elim (is_output outputs output) as (λ b. (if b then outputs else brought outputs output (once_more c)).names ≡ outputs.names) [ true ↦ refl | false ↦ refl ]
moved_names output false c outputs =
    elim (is_output outputs output) as (λ b. (if b then released outputs output else outputs).names ≡ outputs.names) [ true ↦ refl | false ↦ refl ]

comes_moved : (output to : ℕ) (c : Option Carried) (p q : PartWorld) → Comes p q → Comes p (world_moved_output output to c q)
comes_moved output to None p q comes = comes
comes_moved output to (Some c) p q comes = record {
  index = comes.index;
  name = comes.name;
  limits = comes.limits;
  past = comes.past;
  limit = comes.limit;
  names = moved_names output (q.index == to) c q.outputs ∙ comes.names;
}

-- each of some comes from the one at the same index
abbrev AllCome : List PartWorld → List PartWorld → Type 0
AllCome [] [] = Unit {0}
AllCome [] (q ∷ qs) = ⊥
AllCome (p ∷ ps) [] = ⊥
AllCome (p ∷ ps) (q ∷ qs) = Comes p q × AllCome ps qs

all_same : (ps : List PartWorld) → AllCome ps ps
all_same [] = tt
all_same (p ∷ ps) = (comes_same p, all_same ps)

all_changed : (rate index : ℕ) (effect : Effect) (ps : List PartWorld) → AllCome ps (parts_changed rate index effect ps)
all_changed rate index effect [] = tt
all_changed rate index effect (p ∷ ps) =
    elim (p.index == index) as (λ b. AllCome (p ∷ ps) (if b then part_world_after rate (part_in p) p effect ∷ ps else p ∷ parts_changed rate index effect ps))
    [ true ↦ (comes_after rate p effect, all_same ps) | false ↦ (comes_same p, all_changed rate index effect ps) ]

all_moved : (output to : ℕ) (c : Option Carried) (ps qs : List PartWorld) → AllCome ps qs → AllCome ps (map (world_moved_output output to c) qs)
all_moved output to c [] [] come = tt
all_moved output to c [] (q ∷ qs) come = absurd come
all_moved output to c (p ∷ ps) [] come = absurd come
all_moved output to c (p ∷ ps) (q ∷ qs) come = (comes_moved output to c p q come.0, all_moved output to c ps qs come.1)

as_many : (ps qs : List PartWorld) → AllCome ps qs → length qs ≡ length ps
as_many [] [] come = refl
as_many [] (q ∷ qs) come = absurd come
as_many (p ∷ ps) [] come = absurd come
as_many (p ∷ ps) (q ∷ qs) come = ap suc (as_many ps qs come.1)

pub map_length : {A B : Type 0} (f : A → B) (xs : List A) → length (map f xs) ≡ length xs
map_length f [] = refl
map_length f (x ∷ xs) = ap suc (map_length f xs)

pub added_length : {A : Type 0} (xs : List A) (y : A) → length (xs ++ y ∷ []) ≡ suc (length xs)
added_length [] y = refl
added_length (x ∷ xs) y = ap suc (added_length xs y)

kept_length : {A : Type 0} (f : A → Bool) (xs : List A) → length (filter f xs) ≤ length xs
kept_length f [] = omega arith
kept_length f (x ∷ xs) =
    let less : length (filter f xs) ≤ length xs = kept_length f xs in
    elim (f x) as (λ b. length (if b then x ∷ filter f xs else filter f xs) ≤ length (x ∷ xs)) [ true ↦ omega (arith, less) | false ↦ omega (arith, less) ]

-- a filter that leaves as many leaves all
pub kept_all : {A : Type 0} (f : A → Bool) (xs : List A) → length (filter f xs) ≡ length xs → filter f xs ≡ xs
kept_all f [] e = refl
kept_all f (x ∷ xs) e =
    let less : length (filter f xs) ≤ length xs = kept_length f xs in
    elim (f x) as (λ b. length (if b then x ∷ filter f xs else filter f xs) ≡ length (x ∷ xs) → (if b then x ∷ filter f xs else filter f xs) ≡ x ∷ xs) [
      | true ↦ λ h. ap (λ l. x ∷ l) (kept_all f xs (omega (arith, h)))
      | false ↦ λ h. absurd (omega (arith, less, h))
    ] e

-- where the names stay, no partition comes or goes
all_come : (c : Crossing) (ps qs : List PartWorld) → AllCome ps qs → length (worlds_moved c qs) ≡ length ps → AllCome ps (worlds_moved c qs)
all_come Stays ps qs come as_long = come
all_come (Opens new) ps qs come as_long =
    let many : length qs ≡ length ps = as_many ps qs come in
    let more : length (qs ++ unplayed new ∷ []) ≡ suc (length qs) = added_length qs (unplayed new) in
    elim (nat_lt (length qs) 16) as (λ b. length (if b then qs ++ unplayed new ∷ [] else qs) ≡ length ps → AllCome ps (if b then qs ++ unplayed new ∷ [] else qs))
    [ true ↦ λ e. absurd (omega (arith, many, more, e)) | false ↦ λ e. come ] as_long
all_come (Closes gone) ps qs come as_long =
    let left : filter (λ (p : PartWorld). not (p.index == gone)) qs ≡ qs = kept_all (λ (p : PartWorld). not (p.index == gone)) qs (as_long ∙ sym (as_many ps qs come)) in
    subst (AllCome ps) (sym left) come
all_come (Brings output to) ps qs come as_long = all_moved output to (carried_in output to (map known (map part_in qs))) ps qs come

-- where no part of a partition differs nothing of it differs but what no subsystem speaks of
agree_one : (was after : PartWorld) → Comes was after → ((number : ℕ) (x : Subsystem) → DiffersWithin number x was after → ⊥) → AgreesButForUnwatched was after
agree_one was after comes none =
    let past : after.past ≡ was.past = comes.past (decides same_queue same_queue-true same_queue-refl (present was.past) (present after.past) (none 0 Playlist)) in
    let played : playing after.player ≡ playing was.player =
    sym (decides same_playing same_playing-true same_playing-refl (playing was.player) (playing after.player) (none 0 Player)) in
    let set : options after.player ≡ options was.player =
    sym (decides same_options same_options-true same_options-refl (options was.player) (options after.player) (none 0 Options)) in
    let volume : after.volume ≡ was.volume = sym (decides nat_eq eqb-true (λ a. eq-eqb a a refl) was.volume after.volume (none 0 Mixer)) in
    let flags : output_flags after.outputs ≡ output_flags was.outputs =
    sym (decides same_outputs same_outputs-true same_outputs-refl (output_flags was.outputs) (output_flags after.outputs) (none 0 Output)) in
    let listening : pairs was.channels ≡ pairs after.channels = decides same_pairs same_pairs-true same_pairs-refl (pairs was.channels) (pairs after.channels) (none 0 Subscription) in (
      λ j. record {
        index = comes.index j;
        name = comes.name j;
        past = past j;
        limits = comes.limits j;
        player = record {
          modes = (set j).modes;
          round = after.player.round;
          crossfade = (set j).crossfade;
          playback = (played j).playback;
          current = (played j).current;
          offset = after.player.offset;
          starts = (played j).starts;
          cuts = (played j).cuts;
          error = (played j).error;
          jobs = after.player.jobs;
          job = after.player.job;
          fade = after.player.fade;
          gave_up = after.player.gave_up;
          max_cut = comes.limit j;
        };
        volume = volume j;
        outputs = record { names = comes.names j; here = (flags j).here; enabled = (flags j).enabled; failed = after.outputs.failed; moves = after.outputs.moves; asked = after.outputs.asked };
        channels = after.channels;
        played = after.played;
      },
      listening,
    )

agree_all : (ps qs : List PartWorld) → AllCome ps qs → NoneDiffers ps qs → AllAgree ps qs
agree_all [] [] come none = tt
agree_all [] (q ∷ qs) come none = absurd come
agree_all (p ∷ ps) [] come none = absurd come
agree_all (p ∷ ps) (q ∷ qs) come none = (agree_one p q come.0 none.0, agree_all ps qs come.1 none.1)

-- where no part differs nothing differs but what no subsystem speaks of
pub agree : (before : World) (i : Image) (event : Event) (t : TransitionData) (notices : List Notice) (report : Report)
    → ((x : Subsystem) → DiffersForAll x (record { before = before; event = event; transition = t; notices = notices; report = report; after = world_after_transition before i event t }) → ⊥)
    → NoneDiffers before.parts (world_after_transition before i event t).parts
    → AgreeButForUnwatched before (world_after_transition before i event t)
agree before i event t notices report none none_within =
    let world : World = world_after_transition before i event t in
    let songs : before.library.songs ≡ world.library.songs = decides same_songs same_songs-true same_songs-refl before.library.songs world.library.songs (none Database) in
    let runs : before.library.scan.runs ≡ world.library.scan.runs = modes_of before.library.scan.runs world.library.scan.runs (none Update) in
    let library : world.library ≡ before.library = same_library before.library t.scan songs runs in
    let names : names_in before ≡ names_in world = decides same_names same_names-true same_names-refl (names_in before) (names_in world) (none Partition) in
    let as_long : length world.parts ≡ length before.parts =
    sym (map_length (λ (p : PartWorld). p.name) world.parts) ∙ ap length (sym names) ∙ map_length (λ (p : PartWorld). p.name) before.parts in
    let changed : List PartWorld = parts_changed before.library.rate (index_at i event) t.effect before.parts in
    let come : AllCome before.parts world.parts =
    all_come t.crossing before.parts changed (all_changed before.library.rate (index_at i event) t.effect before.parts) as_long in (
      λ j. record { parts = world.parts; library = library j; clients = world.clients; ended = world.ended; openings = before.openings },
      agree_all before.parts world.parts come none_within,
    )
