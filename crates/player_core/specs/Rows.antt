-- Worked rows, computed by the definitions (this profile's). A variable generator says: whatever the seed.
use Rattle.std.specs.Prelude.{ℕ, ◌≡◌, ◌+◌, ◌*◌, ◌/◌, true, false, List, [], ◌∷◌, ◌++◌, map, Option, Some, None, refl, codes}
use Rattle.rand_pcg.specs.Lcg.{Lcg}
use Rattle.song_queue.specs.declared.entry.Entry.{Entry}
use Rattle.play_order.specs.Draws as draws
use Rattle.play_order.specs.declared.modes.Single.TheVariants as single
use Rattle.play_order.specs.declared.modes.Consume.TheVariants as consume
use Rattle.player_core.specs.declared.state.Playback.TheVariants.{Stop, Play}
use Rattle.player_core.specs.declared.state.Job.{Job}
use Rattle.play_order.specs.Order.{left_by}
use Rattle.player_core.specs.Player.{PlayerState, Stepped, opened, is_within}
use Rattle.player_core.specs.Steps.{play, play_entry, next, previous, removed, seek, pause, random, set_consume, set_repeat, set_single, set_crossfade, clear_error}
use Rattle.player_core.specs.Decoding.{want, have, failed, DueJob, Had}

abbrev entry : ℕ → ℕ → ℕ → Entry
entry id frames priority = record { id = id; song = record { uri = id ∷ []; tags = []; frames = frames }; priority = priority }

-- entries joined the queue
abbrev added : PlayerState → List Entry → PlayerState
added p entries = record p { round = draws.added p.round (draws.ids_of entries) }

-- frames of so many milliseconds, and back
abbrev frames_of : ℕ → ℕ → ℕ
frames_of rate ms = ms * rate / 1000

abbrev milliseconds_of : ℕ → ℕ → ℕ
milliseconds_of rate frames = frames * 1000 / rate

-- the queue that a step leaves
abbrev after : List Entry → Stepped → List Entry
after entries s = left s.edit
  where
    left : Option (List Entry) → List Entry
    left None = entries
    left (Some edited) = edited

abbrev ids : List Entry → List ℕ
ids entries = map (λ e. e.id) entries

-- priority orders a random queue, whatever the generator, and consume empties it
abbrev three : List Entry
three = entry 1 8000 5 ∷ entry 2 16000 9 ∷ entry 3 24000 0 ∷ []

abbrev first : Lcg → PlayerState
first g = play (set_consume (random (added (opened 1000 g) three) three true) consume.On) three

abbrev second : Lcg → Stepped
second g = next (first g) three

abbrev third : Lcg → Stepped
third g = next (second g).player (after three (second g))

abbrev last : Lcg → Stepped
last g = next (third g).player (after (after three (second g)) (third g))

priority_first : (g : Lcg) → (first g).current ≡ Some 2
priority_first g = refl

priority_second : (g : Lcg) → (second g).player.current ≡ Some 1
priority_second g = refl

left_second : (g : Lcg) → (second g).edit ≡ Some (entry 1 8000 5 ∷ entry 3 24000 0 ∷ [])
left_second g = refl

priority_third : (g : Lcg) → (third g).player.current ≡ Some 3
priority_third g = refl

at_last : (g : Lcg) → ((last g).player.playback ≡ Stop) × ((last g).player.current ≡ None) × ((last g).edit ≡ Some [])
at_last g = (refl, refl, refl)

-- a queue and its player
record Table : Type 0 where
  entries : List Entry
  player : PlayerState

abbrev table : Lcg → List Entry → Table
table g entries = record { entries = entries; player = added (opened 1000 g) entries }

abbrev with_player : Table → PlayerState → Table
with_player t p = record t { player = p }

abbrev stepped : Table → Stepped → Table
stepped t s = record { entries = after t.entries s; player = s.player }

abbrev ask : Table → DueJob
ask t = want 8000 t.player t.entries true false

abbrev asked : Table → Table
asked t = stepped t (ask t).stepped

abbrev hand : Table → ℕ → ℕ → Had
hand t number count = have t.player t.entries number count

abbrev handed : Table → ℕ → ℕ → Table
handed t number count = stepped t (hand t number count).stepped

abbrev job : ℕ → ℕ → ℕ → ℕ → Option Job
job number id from count = Some (record { number = number; id = id; from = from; count = count; fade = None })

abbrev fading : ℕ → ℕ → ℕ → ℕ → ℕ → ℕ → ℕ → Option Job
fading number id from count partner index len =
    Some (record { number = number; id = id; from = from; count = count; fade = Some (record { partner = partner; index = index; len = len }) })

-- single plays a song again with repeat; single oneshot stops after it, and becomes 0
abbrev single_table : Lcg → Table
single_table g =
    let t = table g (entry 1 4 0 ∷ entry 2 4 0 ∷ []) in
    with_player t (play_entry (set_single (set_repeat t.player true) single.On) (entry 1 4 0))

single_job : (g : Lcg) → (ask (single_table g)).job ≡ job 1 1 0 4
single_job g = refl

single_feed : (g : Lcg) → (hand (asked (single_table g)) 1 4).feed ≡ Some 1
single_feed g = refl

abbrev single_again : Lcg → Table
single_again g = handed (asked (single_table g)) 1 4

single_plays : (g : Lcg) → ((single_again g).player.playback ≡ Play) × ((single_again g).player.current ≡ Some 1) × ((single_again g).player.cuts ≡ 1)
single_plays g = (refl, refl, refl)

single_second : (g : Lcg) → (ask (single_again g)).job ≡ job 2 1 0 4
single_second g = refl

abbrev single_oneshot : Lcg → Table
single_oneshot g =
    let t = asked (single_again g) in
    handed (with_player t (set_single t.player single.Oneshot)) 2 4

single_stops : (g : Lcg)
    → ((single_oneshot g).player.playback ≡ Stop) × ((single_oneshot g).player.modes.single ≡ single.Off) × ((single_oneshot g).player.current ≡ Some 1)
single_stops g = (refl, refl, refl)

-- a job is accepted once; a seek makes it stale
abbrev seek_table : Lcg → Table
seek_table g =
    let t = table g (entry 1 16000 0 ∷ []) in
    with_player t (play t.player t.entries)

seek_job : (g : Lcg) → (ask (seek_table g)).job ≡ job 1 1 0 1024
seek_job g = refl

seek_feed : (g : Lcg) → (hand (asked (seek_table g)) 1 1024).feed ≡ Some 1
seek_feed g = refl

abbrev seek_accepted : Lcg → Table
seek_accepted g = handed (asked (seek_table g)) 1 1024

seek_twice : (g : Lcg) → (hand (seek_accepted g) 1 1024).feed ≡ None
seek_twice g = refl

seek_elapsed : (g : Lcg) → milliseconds_of 8000 (seek_accepted g).player.offset ≡ 128
seek_elapsed g = refl

abbrev seek_sought : Lcg → Table
seek_sought g =
    let t = seek_accepted g in
    with_player t (seek t.player (entry 1 16000 0) (frames_of 8000 (milliseconds_of 8000 t.player.offset + 1500)))

seek_second : (g : Lcg) → (ask (seek_sought g)).job ≡ job 2 1 13024 1024
seek_second g = refl

seek_stale : (g : Lcg) → (hand (asked (seek_sought g)) 1 5).feed ≡ None
seek_stale g = refl

abbrev seek_paused : Lcg → Table
seek_paused g =
    let t = asked (seek_sought g) in
    with_player t (pause t.player true)

seek_none : (g : Lcg) → (ask (seek_paused g)).job ≡ None
seek_none g = refl

seek_cuts : (g : Lcg) → ((seek_paused g).player.cuts ≡ 2) × ((seek_paused g).player.starts ≡ 1)
seek_cuts g = (refl, refl)

-- a feeder that still owes frames gets no job, and nothing changes
seek_owes : (g : Lcg) → want 8000 (seek_sought g).player (seek_sought g).entries true true ≡ record { stepped = record { player = (seek_sought g).player; edit = None }; job = None }
seek_owes g = refl

-- a fade into the next song, which goes on after what was mixed
abbrev fade_table : Lcg → Table
fade_table g =
    let t = table g (entry 1 4 0 ∷ entry 2 8000 0 ∷ []) in
    with_player t (play_entry (set_crossfade t.player 1) (entry 1 4 0))

fade_job : (g : Lcg) → (ask (fade_table g)).job ≡ fading 1 1 0 4 2 0 4
fade_job g = refl

fade_feed : (g : Lcg) → (hand (asked (fade_table g)) 1 4).feed ≡ Some 1
fade_feed g = refl

fade_second : (g : Lcg) → (ask (handed (asked (fade_table g)) 1 4)).job ≡ job 2 2 4 1024
fade_second g = refl

-- the partner is deleted before the have
abbrev fade_deleted : Lcg → Table
fade_deleted g =
    let t = asked (fade_table g) in
    record { entries = left_by t.entries 1 2; player = removed t.player t.entries 1 2 }

fade_stale : (g : Lcg) → (hand (fade_deleted g) 1 4).feed ≡ None
fade_stale g = refl

fade_anew : (g : Lcg) → (ask (handed (fade_deleted g) 1 4)).job ≡ job 2 1 0 4
fade_anew g = refl

-- the partner cannot be read
abbrev fade_failed : Lcg → Table
fade_failed g =
    let t = asked (fade_table g) in
    with_player t (failed t.player t.entries 1 true)

fade_failed_anew : (g : Lcg) → (ask (fade_failed g)).job ≡ job 2 1 0 4
fade_failed_anew g = refl

-- a job ends where a fade begins, and a seek shortens the fade
abbrev long : Entry
long = entry 1 24000 0

abbrev sought_to : Table → ℕ → Table
sought_to t ms = with_player t (seek t.player long (frames_of 8000 ms))

abbrev begun : Lcg → Table
begun g =
    let t = table g (long ∷ entry 2 8000 0 ∷ []) in
    sought_to (with_player t (play_entry (set_crossfade t.player 1) long)) 1900

begun_job : (g : Lcg) → (ask (begun g)).job ≡ job 1 1 15200 800
begun_job g = refl

begun_feed : (g : Lcg) → (hand (asked (begun g)) 1 800).feed ≡ Some 2
begun_feed g = refl

abbrev reached : Lcg → Table
reached g = asked (handed (asked (begun g)) 1 800)

reached_job : (g : Lcg) → (ask (handed (asked (begun g)) 1 800)).job ≡ fading 2 1 16000 1024 2 0 8000
reached_job g = refl

shortened_job : (g : Lcg) → (ask (sought_to (reached g) 2950)).job ≡ fading 3 1 23600 400 2 0 400
shortened_job g = refl

-- with a limit of one, a second start is refused, and so is a second job
abbrev limited : PlayerState → PlayerState
limited p = record p { max_cut = 1 }

limit_start : (g : Lcg) → (is_within (limited (seek_table g).player) ≡ true) × (is_within (limited (play_entry (seek_table g).player (entry 1 16000 0))) ≡ false)
limit_start g = (refl, refl)

limit_job : (g : Lcg) → (is_within (limited (asked (seek_table g)).player) ≡ true) × (is_within (limited (asked (asked (seek_table g))).player) ≡ false)
limit_job g = (refl, refl)

-- the current song is deleted
abbrev deleted_once : Lcg → Table
deleted_once g =
    let t = table g three in
    record { entries = left_by t.entries 1 2; player = removed (play_entry t.player (entry 2 16000 9)) t.entries 1 2 }

deleted_plays : (g : Lcg) → ((deleted_once g).player.current ≡ Some 3) × ((deleted_once g).player.playback ≡ Play) × ((deleted_once g).player.cuts ≡ 2)
deleted_plays g = (refl, refl, refl)

abbrev deleted_twice : Lcg → PlayerState
deleted_twice g = removed (deleted_once g).player (deleted_once g).entries 1 2

deleted_stops : (g : Lcg) → ((deleted_twice g).current ≡ None) × ((deleted_twice g).playback ≡ Stop) × ((deleted_twice g).cuts ≡ 3)
deleted_stops g = (refl, refl, refl)

-- `previous` stays at the front, and goes to the last with repeat; a failure stops
abbrev two : List Entry
two = entry 1 8000 0 ∷ entry 2 16000 0 ∷ []

abbrev at_front : Lcg → PlayerState
at_front g = previous (play_entry (added (opened 1000 g) two) (entry 1 8000 0)) two

front_stays : (g : Lcg) → (at_front g).current ≡ Some 1
front_stays g = refl

abbrev at_back : Lcg → PlayerState
at_back g = previous (set_repeat (at_front g) true) two

back_plays : (g : Lcg) → (at_back g).current ≡ Some 2
back_plays g = refl

back_job : (g : Lcg) → (want 8000 (at_back g) two true false).job ≡ job 1 2 0 1024
back_job g = refl

abbrev unread : Lcg → PlayerState
unread g = failed (want 8000 (at_back g) two true false).stepped.player two 1 false

unread_stops : (g : Lcg) → ((unread g).playback ≡ Stop) × ((unread g).error ≡ Some (codes "Failed to decode " ++ 2 ∷ [])) × ((clear_error (unread g)).error ≡ None)
unread_stops g = (refl, refl, refl)

-- consume oneshot takes one song out, and becomes 0
abbrev oneshot : Lcg → Table
oneshot g =
    let t = table g (entry 1 4 0 ∷ entry 2 4 0 ∷ []) in
    with_player t (play_entry (set_consume t.player consume.Oneshot) (entry 1 4 0))

abbrev oneshot_once : Lcg → Table
oneshot_once g = handed (asked (oneshot g)) 1 4

oneshot_left : (g : Lcg)
    → ((oneshot_once g).player.modes.consume ≡ consume.Off) × ((oneshot_once g).entries ≡ entry 2 4 0 ∷ []) × ((oneshot_once g).player.current ≡ Some 2)
oneshot_left g = (refl, refl, refl)

abbrev oneshot_twice : Lcg → Table
oneshot_twice g = handed (asked (oneshot_once g)) 2 4

oneshot_stops : (g : Lcg) → ((oneshot_twice g).entries ≡ entry 2 4 0 ∷ []) × ((oneshot_twice g).player.playback ≡ Stop)
oneshot_stops g = (refl, refl)

-- a random order that the oracle's generator gives: seeded by 0, five entries of one priority
abbrev seeded : Lcg
seeded = record { state = 18178507722946115774; increment = 12496553309261721735 }

abbrev five : List Entry
five = entry 1 4 0 ∷ entry 2 4 0 ∷ entry 3 4 0 ∷ entry 4 4 0 ∷ entry 5 4 0 ∷ []

abbrev shuffled : PlayerState
shuffled = play (set_repeat (random (added (opened 1000 seeded) five) five true) true) five

abbrev after_nexts : List ℕ → PlayerState → List (Option ℕ)
after_nexts [] p = p.current ∷ []
after_nexts (_ ∷ more) p = p.current ∷ after_nexts more (next p five).player

random_order : after_nexts (0 ∷ 0 ∷ 0 ∷ 0 ∷ 0 ∷ 0 ∷ 0 ∷ []) shuffled ≡ Some 4 ∷ Some 2 ∷ Some 1 ∷ Some 5 ∷ Some 3 ∷ Some 2 ∷ Some 1 ∷ Some 5 ∷ []
random_order = refl
