-- The elements of a list at some of its positions, and the positions that a range names (MPD protocol reference,
-- Requests: Ranges); a list that is shuffled by numbers (how numbers shuffle is this profile's).
use Rattle.std.specs.Prelude.{ℕ, ◌%◌, Bool, ◌==◌, ◌&&◌, nat_le, nat_lt, List, [], ◌∷◌, ◌++◌, length, map, slice_index_or, swap_remove}
use Rattle.std.specs.List.{enumerate_from, filter}
use Rattle.mpd_text.specs.declared.answers.ranges.Range.{Range}
use Rattle.mpd_text.specs.declared.answers.ranges.Range.TheVariants.{Lone, Between, From}

-- the elements at the positions that pass, in their order
abbrev pub at_positions : {X : Type 0} → (ℕ → Bool) → List X → List X
at_positions {X} passes xs =
    map (λ (row : ℕ × X). row.1) (filter (λ (row : ℕ × X). passes row.0) (enumerate_from 0 xs))

-- whether a position is one of those from a start up to an end
abbrev pub is_between : ℕ → ℕ → ℕ → Bool
is_between start end position = nat_le start position && nat_lt position end

-- whether a range names a position
abbrev pub names : Range → ℕ → Bool
names (Lone lone) position = position == lone
names (Between start end) position = is_between start end position
names (From start) position = nat_le start position

-- A list that is shuffled by numbers. The first number picks which element comes last, the next one which of
-- those that are left comes before it, and so on; where one was picked, the last of those left takes its place.
abbrev pub picked_in_turn : {X : Type 0} → List ℕ → List X → List X
picked_in_turn [] xs = xs
picked_in_turn (number ∷ numbers) [] = []
picked_in_turn (number ∷ numbers) (x ∷ xs) =
    let position = number % length (x ∷ xs) in
    picked_in_turn numbers (swap_remove (x ∷ xs) position x) ++ slice_index_or (x ∷ xs) position x ∷ []
