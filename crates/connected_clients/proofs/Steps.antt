-- The clients, one after the other.
use Rattle.std.proofs.Common.{◌≡◌, ℕ, ◌+◌, ◌<◌, List, ◌++◌, map, length, take, drop, get_or, set, arith}
use Rattle.std.proofs.lemmas.Grind.{common_steps}
use Rattle.std.proofs.lemmas.List.Edits.{map_over_more}
use Rattle.player_state.specs.declared.state.Client.{Client}

same_item : (ys : List Client) (i : ℕ) (d : Client) → i < length ys → get_or ys i d ≡ get_or ys i (get_or ys i d)
same_item ys i d h = grind (arith, common_steps)

-- one more of them has changed
pub step_more : (f : Client → Client) (xs ys : List Client) (i : ℕ) (d : Client) → i < length xs → length ys ≡ length xs → ys ≡ map f (take i xs) ++ drop i xs
    → set ys i (f (get_or ys i d)) ≡ map f (take (i + 1) xs) ++ drop (i + 1) xs
step_more f xs ys i d lt same h = map_over_more f xs ys i (get_or ys i d) lt h (same_item ys i d (omega arith))
