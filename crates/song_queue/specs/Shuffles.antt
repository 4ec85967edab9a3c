-- Lists shuffled by words, as Fisher and Yates shuffle (which words the swaps take is this profile's).
use Rattle.std.specs.Prelude.{ℕ, ◌+◌, ◌-◌, ◌%◌, nat_lt, if◌then◌else◌, List, [], ◌∷◌, swap}

-- the elements from start up to end shuffled: from the last position down to the second, the element there
-- is swapped with the one that the next word picks among those from start up to it. Words left over are
-- not taken
abbrev pub shuffled : {X : Type 0} → List X → ℕ → ℕ → List ℕ → List X
shuffled xs start end [] = xs
shuffled xs start end (word ∷ words) =
    let last = end - 1 in
    if nat_lt start last then shuffled (swap xs last (start + word % (last - start + 1))) start last words else xs
