-- Whose turn it is: the numbers of the partitions, of which sixteen flags say which are there.
use Rattle.std.specs.Prelude.{ℕ, Bool, false, List, Option, find, min, nat_le, slice_index_or, ◌+◌, ◌-◌, ◌==◌, ◌^◌, if◌then◌else◌}
use Rattle.std.specs.List.{range_with_len}
use Rattle.std.specs.Option.{option_or, option_map_or}

-- whether a partition has a number
abbrev pub has_number : List Bool → ℕ → Bool
has_number present_partitions index = slice_index_or present_partitions index false

-- the least number from one up to 15 that is there, of sixteen
abbrev pub first_from : List Bool → ℕ → Option ℕ
first_from present_partitions from = find (λ index. has_number present_partitions index) (range_with_len from (16 - from))

-- the next number that is there, and behind the last the first again; 0 where none is
abbrev pub next_of : List Bool → ℕ → ℕ
next_of present_partitions before = option_map_or (λ index. index) (option_or (first_from present_partitions (before + 1)) (first_from present_partitions 0)) 0

-- how many partitions were passed over, one after the other, with one more: the greatest value of the count at most
abbrev pub with_this : ℕ → ℕ
with_this passed = min (passed + 1) (2 ^ 64 - 1)

-- whether these are as many as there are
abbrev pub all_passed : ℕ → ℕ → Bool
all_passed passed partitions = nat_le partitions (with_this passed)

-- how many were passed over after this one: once all were, the decoder rests, and counts anew
abbrev pub passed_after : ℕ → ℕ → ℕ
passed_after passed partitions = if all_passed passed partitions then 0 else with_this passed

-- how often the house had changed when the first of them was asked
abbrev pub seen_by : ℕ → ℕ → ℕ → ℕ
seen_by passed seen changes = if passed == 0 then changes else seen
