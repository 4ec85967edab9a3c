-- Worked rows, computed by the definitions.
use Rattle.std.specs.Prelude.{ℕ, ◌≡◌, false, true, List, [], ◌∷◌, ◌++◌, map, refl}
use Rattle.std.specs.declared.ops.Range.{Range}
use Rattle.mpd_text.specs.Songs.Song.{SongData}
use Rattle.queue_slots.specs.declared.entry.Entry.{Entry}
use Rattle.song_queue.specs.Entries.{patch}
use Rattle.song_queue.specs.Past.{present, state_of}
use Rattle.song_queue.specs.State.{opened, changed, queue_of}
use Rattle.song_queue.specs.declared.edit.Edit.{Edit}
use Rattle.song_queue.specs.declared.edit.Edit.TheVariants.{Insert, Remove, Move, Prioritize, Swap, Shuffle}
use Rattle.song_queue.specs.Laws.{past_after, state_after}

abbrev song : ℕ → SongData
song n = record { uri = n ∷ []; tags = []; frames = 8 }

abbrev ids : List (ℕ × Entry) → List (ℕ × ℕ)
ids rows = map (λ (r : ℕ × Entry). (r.0, r.1.id)) rows

-- the past of edits from the empty queue
abbrev past_of : List Edit → List (List Entry)
past_of edits = past_after ([] ∷ []) edits

abbrev four : List Edit
four = Insert 0 (song 1 ∷ []) ∷ Insert 1 (song 2 ∷ []) ∷ Insert 2 (song 3 ∷ []) ∷ Insert 3 (song 4 ∷ []) ∷ []

abbrev adds : List Edit
adds = Insert 0 (song 1 ∷ []) ∷ Insert 1 (song 2 ∷ []) ∷ Insert 2 (song 3 ∷ []) ∷ Insert 3 (song 4 ∷ []) ∷ Insert 4 (song 5 ∷ []) ∷ Remove 2 3 ∷ []

-- five songs, the third deleted: what a client of version 6 is shown, by the past and by the state
deleted : ids (changed (state_of 10 100 100 (past_of adds)) 6) ≡ (2, 4) ∷ (3, 5) ∷ []
deleted = refl

deleted_state : ids (changed (state_after (opened 10 100 100) adds) 6) ≡ (2, 4) ∷ (3, 5) ∷ []
deleted_state = refl

-- a client that knows the four songs of version 5 patches them to the present four
patched : patch (present (past_of four)) (changed (state_after (opened 10 100 100) adds) 5) 4 ≡ present (past_of adds)
patched = refl

-- with four versions, the fourth edit begins anew: each slot is marked, until it changes
anew : (state_of 10 4 100 (past_of four)).version ≡ 1
anew = refl

all_marked : ids (changed (state_of 10 4 100 (past_of four)) 1) ≡ (0, 1) ∷ (1, 2) ∷ (2, 3) ∷ (3, 4) ∷ []
all_marked = refl

-- with one version alone, each slot is always marked
one_version : ids (changed (state_after (opened 10 1 100) four) 1) ≡ (0, 1) ∷ (1, 2) ∷ (2, 3) ∷ (3, 4) ∷ []
one_version = refl

abbrev swaps : List Edit
swaps = Insert 0 (song 1 ∷ []) ∷ Insert 1 (song 2 ∷ []) ∷ Swap 0 1 ∷ Swap 0 1 ∷ []

-- two songs that are swapped and swapped back are both shown to a client of version 3, by the state and by the past
swapped_back : ids (changed (state_after (opened 10 100 100) swaps) 3) ≡ (0, 1) ∷ (1, 2) ∷ []
swapped_back = refl

swapped_back_past : ids (changed (state_of 10 100 100 (past_of swaps)) 3) ≡ (0, 1) ∷ (1, 2) ∷ []
swapped_back_past = refl

-- and to a client of a version that is not there yet
ahead : ids (changed (state_of 10 100 100 (past_of swaps)) 99) ≡ (0, 1) ∷ (1, 2) ∷ []
ahead = refl

-- one change: a swap of a position with itself adds none
odd : (state_after (opened 10 4 100) (Insert 0 (song 1 ∷ []) ∷ Swap 0 0 ∷ [])).parity ≡ true
odd = refl

-- six changes, whatever the greatest version
even : (state_of 10 4 100 (past_of adds)).parity ≡ false
even = refl

-- the id of a deleted song is not given again
again : map (λ e. e.id) (queue_of (state_after (opened 10 100 100) (Insert 0 (song 1 ∷ []) ∷ Remove 0 1 ∷ Insert 0 (song 2 ∷ []) ∷ []))) ≡ 2 ∷ []
again = refl

abbrev three : List Edit
three = Insert 0 (song 1 ∷ song 2 ∷ song 3 ∷ []) ∷ []

-- the first two of three songs moved after the third: each slot is shown
moved_behind : ids (changed (state_after (opened 10 100 100) (three ++ Move 0 2 1 ∷ [])) 2) ≡ (0, 3) ∷ (1, 1) ∷ (2, 2) ∷ []
moved_behind = refl

-- the fourth of four songs moved before the third: the slots before them are not shown
moved_before : ids (changed (state_of 10 100 100 (past_of (four ++ Move 3 4 2 ∷ []))) 5) ≡ (2, 4) ∷ (3, 3) ∷ []
moved_before = refl

-- songs moved to where they are, or none: no change
moved_nowhere : (state_after (opened 10 100 100) (three ++ Move 1 3 1 ∷ Move 2 2 9 ∷ [])).version ≡ 2
moved_nowhere = refl

abbrev first : List (Range ℕ)
first = record { start = 0; end = 1 } ∷ []

-- versions began anew, and then the first song gets a priority: the others are still shown
prioritized_anew : ids (changed (state_after (opened 10 4 100) (four ++ Prioritize first 5 ∷ [])) 2) ≡ (1, 2) ∷ (2, 3) ∷ (3, 4) ∷ []
prioritized_anew = refl

prioritized_anew_past : ids (changed (state_of 10 4 100 (past_of (four ++ Prioritize first 5 ∷ []))) 2) ≡ (1, 2) ∷ (2, 3) ∷ (3, 4) ∷ []
prioritized_anew_past = refl

-- ranges that overlap, and one that is empty: one change, and the same again is none
overlapping : map (λ e. e.priority) (queue_of (state_after (opened 10 100 100) (four ++ Prioritize (record { start = 0; end = 2 } ∷ record { start = 1; end = 3 } ∷ record { start = 3; end = 3 } ∷ []) 7 ∷ []))) ≡ 7 ∷ 7 ∷ 7 ∷ 0 ∷ []
overlapping = refl

again_the_same : (state_after (opened 10 100 100) (four ++ Prioritize first 7 ∷ Prioritize first 7 ∷ Prioritize [] 9 ∷ [])).version ≡ 6
again_the_same = refl

-- four songs shuffled: the fourth is swapped with the second, the third with the first, and the second
-- stays
shuffled_four : map (λ e. e.id) (queue_of (state_after (opened 10 100 100) (four ++ Shuffle 0 4 (5 ∷ 3 ∷ 1 ∷ []) ∷ []))) ≡ 3 ∷ 4 ∷ 1 ∷ 2 ∷ []
shuffled_four = refl

-- the last three alone: positions are counted from the first of them, and a word left over is not taken
shuffled_behind : map (λ e. e.id) (queue_of (state_after (opened 10 100 100) (four ++ Shuffle 1 4 (4 ∷ 2 ∷ 7 ∷ []) ∷ []))) ≡ 1 ∷ 4 ∷ 2 ∷ 3 ∷ []
shuffled_behind = refl

-- words that end early leave the positions before as they are then
shuffled_early : map (λ e. e.id) (queue_of (state_after (opened 10 100 100) (four ++ Shuffle 0 4 (0 ∷ []) ∷ []))) ≡ 4 ∷ 2 ∷ 3 ∷ 1 ∷ []
shuffled_early = refl

-- a shuffle is one change, and shows the slots alone whose entry is another one
shuffled_shown : ids (changed (state_after (opened 10 100 100) (four ++ Shuffle 0 4 (0 ∷ 1 ∷ 1 ∷ []) ∷ [])) 5) ≡ (0, 4) ∷ (1, 3) ∷ (2, 2) ∷ (3, 1) ∷ []
shuffled_shown = refl

shuffled_part_shown : ids (changed (state_of 10 100 100 (past_of (four ++ Shuffle 0 4 (0 ∷ 2 ∷ 1 ∷ []) ∷ []))) 5) ≡ (0, 4) ∷ (3, 1) ∷ []
shuffled_part_shown = refl

-- each song at its position again: no change
shuffled_nowhere : (state_after (opened 10 100 100) (four ++ Shuffle 0 4 (3 ∷ 2 ∷ 1 ∷ []) ∷ Shuffle 2 3 [] ∷ [])).version ≡ 5
shuffled_nowhere = refl
