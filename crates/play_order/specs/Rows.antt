-- Worked rows, computed by the definitions (this profile's). A variable generator says: whatever the seed.
use Rattle.std.specs.Prelude.{ℕ, ◌≡◌, Bool, true, false, List, [], ◌∷◌, Option, Some, None, refl}
use Rattle.rand_pcg.specs.Lcg.{Lcg}
use Rattle.song_queue.specs.declared.entry.Entry.{Entry}
use Rattle.play_order.specs.declared.modes.Modes.{Modes}
use Rattle.play_order.specs.declared.modes.Single.{Single}
use Rattle.play_order.specs.declared.modes.Consume.{Consume}
use Rattle.play_order.specs.declared.modes.Single.TheVariants as single
use Rattle.play_order.specs.declared.modes.Consume.TheVariants as consume
use Rattle.play_order.specs.Draws.{RoundState, added, emptied, opened, without}
use Rattle.play_order.specs.Order.{opening_of, randomized, started}
use Rattle.play_order.specs.Ends.{after_end, after_next, before, ending_of, id_of, peek, round_after}

abbrev entry : ℕ → ℕ → Entry
entry id priority = record { id = id; song = record { uri = id ∷ []; tags = []; frames = 8000 }; priority = priority }

-- the modes: repeat, random, single, consume
abbrev modes : Bool → Bool → Single → Consume → Modes
modes repeat random single consume = record { repeat = repeat; random = random; single = single; consume = consume }

abbrev plain : Modes
plain = modes false false single.Off consume.Off

-- three songs whose priorities are 5, 9 and 0, in a round that has just begun
abbrev three : List Entry
three = entry 1 5 ∷ entry 2 9 ∷ entry 3 0 ∷ []

abbrev round : Lcg → RoundState
round g = added (opened g) (1 ∷ 2 ∷ 3 ∷ [])

-- the greatest priority begins a random order, and consume then empties the queue from there
abbrev consuming : Modes
consuming = modes false true single.Off consume.On

priority_first : (g : Lcg) → id_of (opening_of consuming (round g) three) ≡ Some 2
priority_first g = refl

consume_leaves : (g : Lcg) → (after_next consuming (started consuming (round g) 2) three 2).left ≡ entry 1 5 ∷ entry 3 0 ∷ []
consume_leaves g = refl

priority_second : (g : Lcg) → id_of (after_next consuming (started consuming (round g) 2) three 2).entry ≡ Some 1
priority_second g = refl

-- in the order of the queue: the next position, then nothing; with repeat the first
next_position : (g : Lcg) → id_of (after_next plain (round g) three 2).entry ≡ Some 3
next_position g = refl

no_position : (g : Lcg) → id_of (after_next plain (round g) three 3).entry ≡ None
no_position g = refl

position_again : (g : Lcg) → id_of (after_next (modes true false single.Off consume.Off) (round g) three 3).entry ≡ Some 1
position_again g = refl

-- consume with repeat and one song left: nothing follows
none_left : (g : Lcg) → id_of (after_end (modes true false single.Off consume.On) (round g) (entry 1 0 ∷ []) 1).entry ≡ None
none_left g = refl

-- single: the song plays again with repeat; oneshot stops, is then off, and the song stays current
single_again : (g : Lcg) → ending_of (after_end (modes true false single.On consume.Off) (round g) three 2) ≡ record { modes = modes true false single.On consume.Off; starts = Some 2; current = Some 2 }
single_again g = refl

single_once : (g : Lcg) → ending_of (after_end (modes true false single.Oneshot consume.Off) (round g) three 2) ≡ record { modes = modes true false single.Off consume.Off; starts = None; current = Some 2 }
single_once g = refl

-- single and consume together: the song is removed, and none is current
single_consumed : (g : Lcg) → ending_of (after_end (modes true false single.On consume.Oneshot) (round g) three 2) ≡ record { modes = modes true false single.On consume.Off; starts = None; current = None }
single_consumed g = refl

-- `next` goes on as if single were off, and leaves it
next_despite_single : (g : Lcg) → ending_of (after_next (modes false false single.Oneshot consume.Off) (round g) three 2) ≡ record { modes = modes false false single.Oneshot consume.Off; starts = Some 3; current = None }
next_despite_single g = refl

-- what the end would start: nothing where a new round is needed, though `next` starts a song there
abbrev all_played : Lcg → RoundState
all_played g = record (round g) { played = 1 ∷ 3 ∷ 2 ∷ [] }

abbrev repeating : Modes
repeating = modes true true single.Off consume.Off

no_peek : (g : Lcg) → id_of (peek repeating (all_played g) three 2) ≡ None
no_peek g = refl

new_round : (g : Lcg) → id_of (after_next repeating (all_played g) three 2).entry ≡ Some 2
new_round g = refl

new_played : (g : Lcg) → (round_after (after_next repeating (all_played g) three 2)).played ≡ 2 ∷ []
new_played g = refl

-- `previous`: the song played before, else the same; in the order of the queue the position before, at the front
-- with repeat the last
played_before_it : (g : Lcg) → id_of (before repeating (all_played g) three 2) ≡ Some 3
played_before_it g = refl

none_before : (g : Lcg) → id_of (before repeating (started repeating (round g) 2) three 2) ≡ Some 2
none_before g = refl

position_before_it : (g : Lcg) → id_of (before plain (round g) three 2) ≡ Some 1
position_before_it g = refl

front_stays : (g : Lcg) → id_of (before plain (round g) three 1) ≡ Some 1
front_stays g = refl

front_to_last : (g : Lcg) → id_of (before (modes true false single.Off consume.Off) (round g) three 1) ≡ Some 3
front_to_last g = refl

-- random order turned on and off; a song that leaves the queue counts as played no more
only_current : (g : Lcg) → (randomized (all_played g) three (Some 3)).played ≡ 3 ∷ []
only_current g = refl

none_played : (g : Lcg) → (emptied (all_played g)).played ≡ []
none_played g = refl

gone : (g : Lcg) → (without (all_played g) (3 ∷ [])).played ≡ 1 ∷ 2 ∷ []
gone g = refl

-- a generator that was seeded with 0, and five songs of one priority
abbrev seeded : Lcg
seeded = record { state = 18178507722946115774; increment = 12496553309261721735 }

abbrev five : List Entry
five = entry 1 0 ∷ entry 2 0 ∷ entry 3 0 ∷ entry 4 0 ∷ entry 5 0 ∷ []

-- the songs that so many `next` start, over two rounds
abbrev after_nexts : List ℕ → RoundState → Option ℕ → List (Option ℕ)
after_nexts [] r current = current ∷ []
after_nexts (_ ∷ more) r None = None ∷ []
after_nexts (_ ∷ more) r (Some id) = Some id ∷ after_nexts more (round_after (after_next repeating r five id)) (id_of (after_next repeating r five id).entry)

abbrev shuffled : RoundState
shuffled = randomized (added (opened seeded) (1 ∷ 2 ∷ 3 ∷ 4 ∷ 5 ∷ [])) five None

two_rounds : id_of (opening_of repeating shuffled five) ≡ Some 4
two_rounds = refl

all_songs : after_nexts (0 ∷ 0 ∷ 0 ∷ 0 ∷ 0 ∷ 0 ∷ 0 ∷ []) (started repeating shuffled 4) (Some 4) ≡ Some 4 ∷ Some 2 ∷ Some 1 ∷ Some 5 ∷ Some 3 ∷ Some 2 ∷ Some 1 ∷ Some 5 ∷ []
all_songs = refl
