-- The steps that clients make (MPD protocol reference, Controlling playback; Playback options; The queue;
-- which steps cut and start, and what a deletion leads to, are this profile's). A step is a plain function
-- that refuses nothing.
use Rattle.std.specs.Prelude.{ℕ, ◌-◌, Bool, true, false, ◌==◌, ◌&&◌, not, nat_le, nat_lt, min, if◌then◌else◌, List, Option, Some, None}
use Rattle.mpd_text.specs.Songs.Song.{SongData}
use Rattle.song_queue.specs.declared.entry.Entry.{Entry}
use Rattle.song_queue.specs.State.{QueueState, queue_of}
use Rattle.play_order.specs.declared.modes.Single.{Single}
use Rattle.play_order.specs.declared.modes.Consume.{Consume}
use Rattle.play_order.specs.Draws as draws
use Rattle.play_order.specs.Order as order
use Rattle.play_order.specs.Order.{entry_position, entry_of, begun}
use Rattle.play_order.specs.Ends as ends
use Rattle.play_order.specs.Ends.{Following, id_of}
use Rattle.player_core.specs.declared.state.Playback.{Playback}
use Rattle.player_core.specs.declared.state.Playback.TheVariants.{Stop, Play, Pause}
use Rattle.player_core.specs.Player.{PlayerState, PlayerAndQueue, Stepped, both_after, cut, voided, halted, goes_on, starts_by_hand, stays, is_stopped, is_paused, playing_or_paused}

-- the player when a song has ended, before what follows starts
abbrev pub behind : PlayerState → Following → PlayerState
behind p f = record p { modes = f.modes; round = ends.round_after f }

-- the natural end of a song: no cut, and what follows starts at an offset in the state that is
abbrev pub ended : PlayerState → List Entry → ℕ → ℕ → Stepped
ended p entries id offset =
    let f = ends.after_end p.modes p.round entries id in
    record { player = goes_on (behind p f) p.playback (id_of f.entry) offset f.current; edit = Some f.left }

-- the player and its queue after the natural end of a song of which so many frames were accepted
abbrev pub after_end : PlayerState → QueueState → ℕ → ℕ → ℕ → PlayerAndQueue
after_end p q accepted id offset = both_after q (ended (record p { offset = accepted }) (queue_of q) id offset)

-- `next`: the end of the current song as if single were off, with a cut; what follows plays
abbrev pub next_by : PlayerState → List Entry → Option ℕ → Stepped
next_by p entries None = stays p
next_by p entries (Some id) =
    let f = ends.after_next p.modes p.round entries id in
    record { player = cut (goes_on (behind p f) Play (id_of f.entry) 0 f.current); edit = Some f.left }

abbrev pub next : PlayerState → List Entry → Stepped
next p entries = next_by p entries p.current

-- the player and its queue after `next`
abbrev pub after_next : PlayerState → QueueState → PlayerAndQueue
after_next p q = both_after q (next p (queue_of q))

-- the entry with an id starts by hand
abbrev pub start : PlayerState → Playback → ℕ → ℕ → PlayerState
start p playback id offset = starts_by_hand (record p { round = order.started p.modes p.round id }) playback (Some id) offset

-- an entry that is looked for starts by hand
abbrev pub start_found : PlayerState → Playback → Option Entry → PlayerState
start_found p playback None = p
start_found p playback (Some entry) = start p playback entry.id 0

-- `previous`: nothing is consumed, and what is before the current song plays
abbrev pub previous_by : PlayerState → List Entry → Option ℕ → PlayerState
previous_by p entries None = p
previous_by p entries (Some id) =
    let entry = ends.before p.modes p.round entries id in
    starts_by_hand (record p { round = begun p.modes (ends.round_before p.modes p.round id) entry }) Play (id_of entry) 0

abbrev pub previous : PlayerState → List Entry → PlayerState
previous p entries = previous_by p entries p.current

-- `play` with an entry
abbrev pub play_entry : PlayerState → Entry → PlayerState
play_entry p entry = start p Play entry.id 0

-- the player begins where the order does; a round that is over is renewed
abbrev pub open_order : PlayerState → List Entry → PlayerState
open_order p entries =
    let entry = order.opening_of p.modes p.round entries in
    starts_by_hand (record p { round = begun p.modes (order.round_for p.modes p.round entries) entry }) Play (id_of entry) 0

-- the player begins with the current song, if there is one
abbrev pub begin : PlayerState → List Entry → Option ℕ → PlayerState
begin p entries None = open_order p entries
begin p entries (Some id) = start_found p Play (entry_of entries id)

-- `play` with no argument
abbrev pub play_by : PlayerState → List Entry → Playback → PlayerState
play_by p entries Stop = begin p entries p.current
play_by p entries Play = p
play_by p entries Pause = record p { playback = Play }

abbrev pub play : PlayerState → List Entry → PlayerState
play p entries = play_by p entries p.playback

-- `stop`: the song stays current, and its offset stays
abbrev pub stop : PlayerState → PlayerState
stop p = if is_stopped p.playback then p else cut (halted p p.current)

-- `pause` with an argument, and without one
abbrev pub pause : PlayerState → Bool → PlayerState
pause p on = if is_stopped p.playback then p else record p { playback = if on then Pause else Play }

abbrev pub toggle_pause : PlayerState → PlayerState
toggle_pause p = pause p (not (is_paused p.playback))

abbrev pub is_current : Option ℕ → ℕ → Bool
is_current None id = false
is_current (Some current) id = current == id

-- a seek in the current song raises the cut, and is no start
abbrev pub sought : PlayerState → ℕ → PlayerState
sought p offset = cut (record (voided p) { playback = playing_or_paused p.playback; offset = offset; gave_up = false })

-- `seek`: to a frame of an entry, at most its length; another song starts there
abbrev pub seek : PlayerState → Entry → ℕ → PlayerState
seek p entry frame =
    let offset = min frame entry.song.frames in
    if is_current p.current entry.id then sought p offset else start p (playing_or_paused p.playback) entry.id offset

-- songs are put into the queue: each of the new entries draws a rank
abbrev pub inserted : PlayerState → QueueState → List SongData → PlayerState
inserted p q songs = record p { round = draws.added p.round (order.new_ids q songs) }

-- the entries from a position up to another are shuffled: a word is drawn for each of their positions but the first
abbrev pub shuffled : PlayerState → ℕ → ℕ → PlayerState
shuffled p from end = record p { round = draws.drawn_from p.round (end - from - 1) }

-- the words that they are shuffled by
abbrev pub shuffle_words : PlayerState → ℕ → ℕ → List ℕ
shuffle_words p from end = draws.words_drawn p.round.generator (end - from - 1)

-- whether the current song stands in a range of positions
abbrev pub holds_current : List Entry → Option ℕ → ℕ → ℕ → Bool
holds_current entries None from end = false
holds_current entries (Some id) from end = nat_le from (entry_position entries id) && nat_lt (entry_position entries id) end

-- the entries from a position up to another leave the queue and the round
abbrev pub without : PlayerState → List Entry → ℕ → ℕ → PlayerState
without p entries from end = record p { round = draws.without p.round (order.ids_taken entries from end) }

-- the current song leaves with them, and what comes next in the order starts, in the state that is and with a
-- cut; stopped, there is then no current song
abbrev pub goes_on_without : PlayerState → List Entry → ℕ → ℕ → PlayerState
goes_on_without p entries from end =
    if is_stopped p.playback
    then record (without p entries from end) { current = None }
    else
    cut
    (goes_on (record p { round = ends.round_after_removal p.modes p.round entries from end }) p.playback
    (id_of (ends.next_after_removal p.modes p.round entries from end)) 0 None)

-- the entries from a position up to another are deleted
abbrev pub removed : PlayerState → List Entry → ℕ → ℕ → PlayerState
removed p entries from end = if holds_current entries p.current from end then goes_on_without p entries from end else without p entries from end

-- `random`: where it is as wished, nothing changes
abbrev pub random : PlayerState → List Entry → Bool → PlayerState
random p entries true =
    if p.modes.random then p else record p { modes = record p.modes { random = true }; round = order.randomized p.round entries p.current }
random p entries false =
    if p.modes.random then record p { modes = record p.modes { random = false }; round = draws.emptied p.round } else p

-- `repeat`, `single`, `consume`, `crossfade`, `clearerror`
abbrev pub set_repeat : PlayerState → Bool → PlayerState
set_repeat p on = record p { modes = record p.modes { repeat = on } }

abbrev pub set_single : PlayerState → Single → PlayerState
set_single p single = record p { modes = record p.modes { single = single } }

abbrev pub set_consume : PlayerState → Consume → PlayerState
set_consume p consume = record p { modes = record p.modes { consume = consume } }

abbrev pub set_crossfade : PlayerState → ℕ → PlayerState
set_crossfade p seconds = record p { crossfade = seconds }

abbrev pub clear_error : PlayerState → PlayerState
clear_error p = record p { error = None }

abbrev pub entry_by : List Entry → Option ℕ → Option Entry
entry_by entries None = None
entry_by entries (Some id) = entry_of entries id

-- the entry of the current song, if it is in the queue
abbrev pub current_entry : PlayerState → List Entry → Option Entry
current_entry p entries = entry_by entries p.current

-- what the natural end of the current song would start, where no new round is needed
abbrev pub peek_by : PlayerState → List Entry → Option ℕ → Option Entry
peek_by p entries None = None
peek_by p entries (Some id) = ends.peek p.modes p.round entries id

abbrev pub peek : PlayerState → List Entry → Option Entry
peek p entries = peek_by p entries p.current
