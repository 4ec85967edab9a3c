-- What `status` shows is what the player and the library are.
use Rattle.std.proofs.Common.{◌≡◌, ◌≢◌, inl, inr, ℕ, suc, ◌+◌, Bool, true, false, not, nat_lt, ◌==◌, List, [], ◌∷◌, ◌++◌, length, Contains, Option, Some, None, option_map, cond, if◌then◌else◌, refl, ap, sym, ◌∙◌, arith, codes, decimal}
use Rattle.std.specs.List.{position, position_or_len}
use Rattle.std.proofs.lemmas.List.{append_assoc}
use Rattle.mpd_text.specs.Answers.Answer.{pair_line}
use Rattle.song_queue.specs.declared.entry.Entry.{Entry}
use Rattle.song_queue.specs.declared.entry.Slot.{Slot}
use Rattle.song_queue.specs.State.{QueueState, entries_of, position_of, queue_of}
use Rattle.play_order.specs.Draws.{has_id}
use Rattle.play_order.specs.Order.{entry_of}
use Rattle.play_order.proofs.Choices.{contains-cases, contains-none, find-there}
use Rattle.play_order.specs.declared.modes.Modes.{Modes}
use Rattle.play_order.specs.declared.modes.Single.{Single}
use Rattle.play_order.specs.declared.modes.Consume.{Consume}
use Rattle.play_order.specs.declared.modes.Single.TheVariants as single
use Rattle.play_order.specs.declared.modes.Consume.TheVariants as consume
use Rattle.player_core.specs.declared.state.Playback.{Playback}
use Rattle.player_core.specs.declared.state.Playback.TheVariants.{Stop, Play, Pause}
use Rattle.player_core.specs.Player.{is_stopped}
use Rattle.player_core.specs.Steps.{current_entry, entry_by, peek}
use Rattle.player_state.specs.declared.state.Part.{Part}
use Rattle.player_state.specs.declared.state.Library.{Library}
use Rattle.transitions.specs.CommandResults.{shows}
use Rattle.status_commands.specs.Status as status
use Rattle.status_commands.proofs.Lines.{two, three, four, five}
use Rattle.command_laws.specs.Shown.{IsPositionOf, Shown, ShowsConsume, ShowsFade, ShowsFlag, ShowsLength, ShowsProgress, ShowsScan, ShowsSingle, ShowsSong, ShowsState, ShowsTime, ShowsWhole, ShowsWorld, StatusShowsWorld, line_if, seconds, text_of, whole_seconds}

-- the position of the first entry with an id
behind : (id : ℕ) (e : Entry) (es : List Entry) (c : Bool) (n : ℕ) → (e.id == id) ≡ false → IsPositionOf es id (cond c (Some n) None) → IsPositionOf (e ∷ es) id (cond c (Some (1 + n)) None)
behind id e es true n other h = let one : suc n ≡ 1 + n = omega arith in (h.0, rw (sym one) h.1, h.2)
behind id e es false n other h =
    λ entry there. elim (contains-cases es e entry there) [
      | inl same ↦ let differ : e.id ≢ id = grind (arith, other) in λ k. differ (ap (λ (z : Entry). z.id) same ∙ k)
      | inr below ↦ h entry below
    ]

first-of : (id : ℕ) (e : Entry) (es : List Entry) (b : Bool) (n len : ℕ) → (e.id == id) ≡ b → IsPositionOf es id (cond (nat_lt n len) (Some n) None)
    → IsPositionOf (e ∷ es) id (cond (nat_lt (cond (not b) (1 + n) 0) (suc len)) (Some (cond (not b) (1 + n) 0)) None)
first-of id e es true n len same h = let t : nat_lt 0 (suc len) ≡ true = grind arith in let is : e.id ≡ id = grind (arith, same) in rw t (e, refl, is)
first-of id e es false n len other h = let t : nat_lt (1 + n) (suc len) ≡ nat_lt n len = grind arith in rw t (behind id e es (nat_lt n len) n other h)

position-of : (id : ℕ) (slots : List Slot) → IsPositionOf (entries_of slots) id (position (λ s. s.entry.id == id) slots)
position-of id [] = λ entry there. absurd (contains-none entry there)
position-of id (s ∷ ss) = first-of id s.entry (entries_of ss) (s.entry.id == id) (position_or_len (λ t. t.entry.id == id) ss) (length ss) refl (position-of id ss)

-- the entry that is found by its id
lost : (id : ℕ) (e : Entry) (es : List Entry) (b : Bool) → has_id id e ≡ b → cond b (Some e) (entry_of es id) ≡ None → (e.id ≢ id) × (entry_of es id ≡ None)
lost id e es true is h = cc
lost id e es false is h = let differ : e.id ≢ id = grind (arith, is) in (differ, h)

none-of : (id : ℕ) (es : List Entry) → entry_of es id ≡ None → (entry : Entry) → Contains es entry → entry.id ≢ id
none-of id [] h entry there = absurd (contains-none entry there)
none-of id (e ∷ es) h entry there =
    let both = lost id e es (has_id id e) refl h in
    elim (contains-cases es e entry there) [
      | inl same ↦ λ k. both.0 (ap (λ (z : Entry). z.id) same ∙ k)
      | inr below ↦ none-of id es both.1 entry below
    ]

length-by : (rate : ℕ) (es : List Entry) (id : ℕ) (o : Option Entry) → entry_of es id ≡ o → ShowsLength rate es (Some id) (option_map (λ (e : Entry). seconds rate e.song.frames) o)
length-by rate es id None found = none-of id es found
length-by rate es id (Some e) found =
    let there = find-there (has_id id) es e found in
    let is : e.id ≡ id = grind (arith, there.1) in
    (e, there.0, is, refl)

length-of : (rate : ℕ) (es : List Entry) (current : Option ℕ) → ShowsLength rate es current (option_map (λ (e : Entry). seconds rate e.song.frames) (entry_by es current))
length-of rate es None = refl
length-of rate es (Some id) = length-by rate es id (entry_of es id) refl

whole-by : (rate offset : ℕ) (es : List Entry) (id : ℕ) (o : Option Entry) → entry_of es id ≡ o
    → ShowsWhole rate es offset (Some id) (option_map (λ (e : Entry). whole_seconds rate offset ++ codes ":" ++ whole_seconds rate e.song.frames) o)
whole-by rate offset es id None found = none-of id es found
whole-by rate offset es id (Some e) found =
    let there = find-there (has_id id) es e found in
    let is : e.id ≡ id = grind (arith, there.1) in
    (e, there.0, is, refl)

whole-of : (rate offset : ℕ) (es : List Entry) (current : Option ℕ)
    → ShowsWhole rate es offset current (option_map (λ (e : Entry). whole_seconds rate offset ++ codes ":" ++ whole_seconds rate e.song.frames) (entry_by es current))
whole-of rate offset es None = refl
whole-of rate offset es (Some id) = whole-by rate offset es id (entry_of es id) refl

-- the values that are shown
abbrev position-text : QueueState → Option ℕ → Option (List ℕ)
position-text q None = None
position-text q (Some id) = option_map decimal (position_of q id)

abbrev id-text : QueueState → Option ℕ → Option (List ℕ)
id-text q None = None
id-text q (Some id) = option_map (λ _. decimal id) (position_of q id)

abbrev unless-stopped : Playback → Option (List ℕ) → Option (List ℕ)
unless-stopped Stop text = None
unless-stopped _ text = text

abbrev length-text : ℕ → Option Entry → Option (List ℕ)
length-text rate entry = option_map (λ (e : Entry). seconds rate e.song.frames) entry

abbrev time-text : Bool → ℕ → ℕ → Option Entry → Option (List ℕ)
time-text false rate offset entry = None
time-text true rate offset entry = option_map (λ (e : Entry). whole_seconds rate offset ++ codes ":" ++ whole_seconds rate e.song.frames) entry

abbrev next-id : Option Entry → Option ℕ
next-id entry = option_map (λ (e : Entry). e.id) entry

abbrev shown-of : Bool → Part → Library → Shown
shown-of everyday part library = record {
  volume = decimal part.volume;
  repeat = decimal (status.digit part.player.modes.repeat);
  random = decimal (status.digit part.player.modes.random);
  single = status.single_text part.player.modes.single;
  consume = status.consume_text part.player.modes.consume;
  partition = part.name;
  playlist = decimal part.queue.version;
  playlistlength = decimal (length (queue_of part.queue));
  state = status.state_text part.player.playback;
  song = position-text part.queue part.player.current;
  songid = id-text part.queue part.player.current;
  nextsong = position-text part.queue (next-id (peek part.player (queue_of part.queue)));
  nextsongid = id-text part.queue (next-id (peek part.player (queue_of part.queue)));
  time = unless-stopped part.player.playback (time-text everyday library.rate part.player.offset (current_entry part.player (queue_of part.queue)));
  elapsed = unless-stopped part.player.playback (Some (seconds library.rate part.player.offset));
  duration = unless-stopped part.player.playback (length-text library.rate (current_entry part.player (queue_of part.queue)));
  audio = unless-stopped part.player.playback (Some (decimal library.rate ++ codes ":16:2"));
  xfade = if part.player.crossfade == 0 then None else Some (decimal part.player.crossfade);
  updating_db = if library.scan.runs then Some (decimal library.scan.last) else None;
  error = part.player.error;
}

-- each of them is the world's
flag : (b : Bool) → ShowsFlag b (decimal (status.digit b))
flag true = refl
flag false = refl

single-of : (s : Single) → ShowsSingle s (status.single_text s)
single-of single.Off = refl
single-of single.On = refl
single-of single.Oneshot = refl

consumes : (c : Consume) → ShowsConsume c (status.consume_text c)
consumes consume.Off = refl
consumes consume.On = refl
consumes consume.Oneshot = refl

state : (p : Playback) → ShowsState p (status.state_text p)
state Stop = refl
state Play = refl
state Pause = refl

song : (q : QueueState) (id : Option ℕ) → ShowsSong (queue_of q) id (position-text q id) (id-text q id)
song q None = (refl, refl)
song q (Some id) = (position_of q id, position-of id q.slots, refl, refl)

time : (everyday : Bool) (p : Playback) (rate : ℕ) (part : Part)
    → ShowsTime everyday p rate part (unless-stopped p (time-text everyday rate part.player.offset (current_entry part.player (queue_of part.queue))))
time false Stop rate part = refl
time false Play rate part = refl
time false Pause rate part = refl
time true Stop rate part = refl
time true Play rate part = whole-of rate part.player.offset (queue_of part.queue) part.player.current
time true Pause rate part = whole-of rate part.player.offset (queue_of part.queue) part.player.current

progress : (p : Playback) (rate : ℕ) (part : Part) → ShowsProgress p rate part (unless-stopped p (Some (seconds rate part.player.offset)))
    (unless-stopped p (length-text rate (current_entry part.player (queue_of part.queue)))) (unless-stopped p (Some (decimal rate ++ codes ":16:2")))
progress Stop rate part = (refl, refl, refl)
progress Play rate part = (refl, length-of rate (queue_of part.queue) part.player.current, refl)
progress Pause rate part = (refl, length-of rate (queue_of part.queue) part.player.current, refl)

fade : (n : ℕ) (b : Bool) → (n == 0) ≡ b → ShowsFade n (cond b None (Some (decimal n)))
fade n true is = let none : n ≡ 0 = grind (arith, is) in none
fade n false is = let some : n ≢ 0 = grind (arith, is) in (some, refl)

scan : (b : Bool) (n : ℕ) → ShowsScan b n (cond b (Some (decimal n)) None)
scan true n = refl
scan false n = refl

world : (everyday : Bool) (part : Part) (library : Library) → ShowsWorld everyday part library (shown-of everyday part library)
world everyday part library = record {
  volume = refl;
  repeat = flag part.player.modes.repeat;
  random = flag part.player.modes.random;
  single = single-of part.player.modes.single;
  consume = consumes part.player.modes.consume;
  partition = refl;
  playlist = refl;
  playlistlength = refl;
  state = state part.player.playback;
  song = song part.queue part.player.current;
  next = song part.queue (next-id (peek part.player (queue_of part.queue)));
  time = time everyday part.player.playback library.rate part;
  progress = progress part.player.playback library.rate part;
  fade = fade part.player.crossfade (part.player.crossfade == 0) refl;
  scan = scan library.scan.runs library.scan.last;
  error = refl;
}

-- the lines are these, in this order
mode-lines : (volume : ℕ) (m : Modes) (r : List ℕ) → status.mode_lines volume m ++ r
    ≡ pair_line (codes "volume") (decimal volume) ++ (pair_line (codes "repeat") (decimal (status.digit m.repeat)) ++ (pair_line (codes "random") (decimal (status.digit m.random))
    ++ (pair_line (codes "single") (status.single_text m.single) ++ (pair_line (codes "consume") (status.consume_text m.consume) ++ r))))
unfolding status.mode_lines
mode-lines volume m r =
    five (pair_line (codes "volume") (decimal volume)) (pair_line (codes "repeat") (decimal (status.digit m.repeat))) (pair_line (codes "random") (decimal (status.digit m.random)))
    (pair_line (codes "single") (status.single_text m.single)) (pair_line (codes "consume") (status.consume_text m.consume)) r

queue-lines : (name : List ℕ) (version len : ℕ) (p : Playback) (r : List ℕ) → status.queue_lines name version len p ++ r
    ≡ pair_line (codes "partition") name ++ (pair_line (codes "playlist") (decimal version) ++ (pair_line (codes "playlistlength") (decimal len)
    ++ (pair_line (codes "state") (status.state_text p) ++ r)))
unfolding status.queue_lines
queue-lines name version len p r =
    four (pair_line (codes "partition") name) (pair_line (codes "playlist") (decimal version)) (pair_line (codes "playlistlength") (decimal len))
    (pair_line (codes "state") (status.state_text p)) r

song-at : (position : Option ℕ) (id : ℕ) (r : List ℕ) → status.song_lines_at position id ++ r
    ≡ line_if (codes "song") (option_map decimal position) ++ (line_if (codes "songid") (option_map (λ _. decimal id) position) ++ r)
unfolding status.song_position_lines
song-at None id r = refl
song-at (Some position) id r = two (pair_line (codes "song") (decimal position)) (pair_line (codes "songid") (decimal id)) r

song-lines : (q : QueueState) (id : Option ℕ) (r : List ℕ) → status.current_lines q id ++ r ≡ line_if (codes "song") (position-text q id) ++ (line_if (codes "songid") (id-text q id) ++ r)
song-lines q None r = refl
song-lines q (Some id) r = song-at (position_of q id) id r

next-at : (position : Option ℕ) (id : ℕ) (r : List ℕ) → status.next_lines_at position id ++ r
    ≡ line_if (codes "nextsong") (option_map decimal position) ++ (line_if (codes "nextsongid") (option_map (λ _. decimal id) position) ++ r)
unfolding status.next_position_lines
next-at None id r = refl
next-at (Some position) id r = two (pair_line (codes "nextsong") (decimal position)) (pair_line (codes "nextsongid") (decimal id)) r

next-lines : (q : QueueState) (o : Option Entry) (r : List ℕ) → status.next_lines q o ++ r
    ≡ line_if (codes "nextsong") (position-text q (next-id o)) ++ (line_if (codes "nextsongid") (id-text q (next-id o)) ++ r)
next-lines q None r = refl
next-lines q (Some e) r = next-at (position_of q e.id) e.id r

played-lines : (rate offset : ℕ) (o : Option Entry) (r : List ℕ) → (status.elapsed_line rate offset ++ (status.duration_of rate o ++ status.audio_line rate)) ++ r
    ≡ pair_line (codes "elapsed") (seconds rate offset) ++ (line_if (codes "duration") (length-text rate o) ++ (pair_line (codes "audio") (decimal rate ++ codes ":16:2") ++ r))
unfolding status.elapsed_line status.duration_line status.audio_line
played-lines rate offset None r = two (pair_line (codes "elapsed") (seconds rate offset)) (pair_line (codes "audio") (decimal rate ++ codes ":16:2")) r
played-lines rate offset (Some e) r =
    three (pair_line (codes "elapsed") (seconds rate offset)) (pair_line (codes "duration") (seconds rate e.song.frames)) (pair_line (codes "audio") (decimal rate ++ codes ":16:2")) r

time-of : (rate offset : ℕ) (o : Option Entry) → status.time_of rate offset o ≡ line_if (codes "time") (time-text true rate offset o)
unfolding status.time_line
time-of rate offset None = refl
time-of rate offset (Some e) = refl

-- the line of the time, before those that follow it
timed-lines : (everyday : Bool) (rate : ℕ) (part : Part) (rest r : List ℕ) → (status.current_time rate part everyday ++ rest) ++ r
    ≡ line_if (codes "time") (time-text everyday rate part.player.offset (current_entry part.player (queue_of part.queue))) ++ (rest ++ r)
timed-lines false rate part rest r = refl
timed-lines true rate part rest r =
    append_assoc (status.current_time rate part true) rest r
    ∙ ap (λ l. l ++ (rest ++ r)) (time-of rate part.player.offset (current_entry part.player (queue_of part.queue)))

going-lines : (everyday : Bool) (rate : ℕ) (part : Part) (r : List ℕ)
    → (status.current_time rate part everyday ++ (status.elapsed_line rate part.player.offset ++ (status.current_duration rate part ++ status.audio_line rate))) ++ r
    ≡ line_if (codes "time") (time-text everyday rate part.player.offset (current_entry part.player (queue_of part.queue)))
    ++ (pair_line (codes "elapsed") (seconds rate part.player.offset) ++ (line_if (codes "duration") (length-text rate (current_entry part.player (queue_of part.queue)))
    ++ (pair_line (codes "audio") (decimal rate ++ codes ":16:2") ++ r)))
going-lines everyday rate part r =
    timed-lines everyday rate part (status.elapsed_line rate part.player.offset ++ (status.current_duration rate part ++ status.audio_line rate)) r
    ∙ ap (λ l. line_if (codes "time") (time-text everyday rate part.player.offset (current_entry part.player (queue_of part.queue))) ++ l)
    (played-lines rate part.player.offset (current_entry part.player (queue_of part.queue)) r)

progress-lines : (p : Playback) (everyday : Bool) (rate : ℕ) (part : Part) (r : List ℕ)
    → (if is_stopped p then []
    else status.current_time rate part everyday ++ (status.elapsed_line rate part.player.offset ++ (status.current_duration rate part ++ status.audio_line rate))) ++ r
    ≡ line_if (codes "time") (unless-stopped p (time-text everyday rate part.player.offset (current_entry part.player (queue_of part.queue))))
    ++ (line_if (codes "elapsed") (unless-stopped p (Some (seconds rate part.player.offset)))
    ++ (line_if (codes "duration") (unless-stopped p (length-text rate (current_entry part.player (queue_of part.queue))))
    ++ (line_if (codes "audio") (unless-stopped p (Some (decimal rate ++ codes ":16:2"))) ++ r)))
progress-lines Stop everyday rate part r = refl
progress-lines Play everyday rate part r = going-lines everyday rate part r
progress-lines Pause everyday rate part r = going-lines everyday rate part r

fade-line : (n : ℕ) (b : Bool) → cond b [] (pair_line (codes "xfade") (decimal n)) ≡ line_if (codes "xfade") (cond b None (Some (decimal n)))
fade-line n true = refl
fade-line n false = refl

scan-line : (n : ℕ) (b : Bool) → status.scan_line (cond b (Some n) None) ≡ line_if (codes "updating_db") (cond b (Some (decimal n)) None)
scan-line n true = refl
scan-line n false = refl

error-line : (o : Option (List ℕ)) → status.error_line o ≡ line_if (codes "error") o
error-line None = refl
error-line (Some text) = refl

append-nil : (l : List ℕ) → l ++ [] ≡ l
append-nil [] = refl
append-nil (x ∷ xs) = ap (λ l. x ∷ l) (append-nil xs)

last-lines : (n : ℕ) (runs : Bool) (number : ℕ) (error : Option (List ℕ))
    → status.fade_line n ++ (status.scan_line (cond runs (Some number) None) ++ status.error_line error)
    ≡ line_if (codes "xfade") (if n == 0 then None else Some (decimal n)) ++ (line_if (codes "updating_db") (if runs then Some (decimal number) else None)
    ++ (line_if (codes "error") error ++ []))
last-lines n runs number error =
    rw (fade-line n (n == 0)) (rw (scan-line number runs) (rw (error-line error) (rw (append-nil (line_if (codes "error") error)) refl)))

lines : (everyday : Bool) (part : Part) (library : Library) → status.mode_lines part.volume part.player.modes ++ (status.queue_lines_of part
    ++ (status.current_lines part.queue part.player.current ++ (status.next_lines_of part ++ (status.progress_lines library.rate part everyday ++ status.last_lines part library))))
    ≡ text_of (shown-of everyday part library)
lines everyday part library =
    let s : Shown = shown-of everyday part library in
    let queue : QueueState = part.queue in
    let next : Option Entry = peek part.player (queue_of part.queue) in
    let last = last-lines part.player.crossfade library.scan.runs library.scan.last part.player.error in
    let r5 : List ℕ = status.last_lines part library in
    let r4 : List ℕ = status.progress_lines library.rate part everyday ++ r5 in
    let r3 : List ℕ = status.next_lines_of part ++ r4 in
    let r2 : List ℕ = status.current_lines part.queue part.player.current ++ r3 in
    let r1 : List ℕ = status.queue_lines_of part ++ r2 in
    let e4 = progress-lines part.player.playback everyday library.rate part r5
    ∙ ap (λ l. line_if (codes "time") s.time ++ (line_if (codes "elapsed") s.elapsed ++ (line_if (codes "duration") s.duration ++ (line_if (codes "audio") s.audio ++ l)))) last in
    let e3 = next-lines queue next r4 ∙ ap (λ l. line_if (codes "nextsong") s.nextsong ++ (line_if (codes "nextsongid") s.nextsongid ++ l)) e4 in
    let e2 = song-lines queue part.player.current r3 ∙ ap (λ l. line_if (codes "song") s.song ++ (line_if (codes "songid") s.songid ++ l)) e3 in
    let e1 = queue-lines part.name part.queue.version (length (queue_of part.queue)) part.player.playback r2
    ∙ ap (λ l. pair_line (codes "partition") s.partition ++ (pair_line (codes "playlist") s.playlist
    ++ (pair_line (codes "playlistlength") s.playlistlength ++ (pair_line (codes "state") s.state ++ l)))) e2 in
    mode-lines part.volume part.player.modes r1
    ∙ ap (λ l. pair_line (codes "volume") s.volume ++ (pair_line (codes "repeat") s.repeat ++ (pair_line (codes "random") s.random
    ++ (pair_line (codes "single") s.single ++ (pair_line (codes "consume") s.consume ++ l))))) e1

pub status_shows_world : StatusShowsWorld
status_shows_world asked everyday part library = (shown-of everyday part library, ap (shows asked) (lines everyday part library), world everyday part library)
