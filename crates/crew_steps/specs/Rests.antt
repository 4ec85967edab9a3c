-- How long the decoder rests, and for how many blocks of 1,024 frames (this profile's).
use Rattle.std.specs.Prelude.{ℕ, ◌+◌, ◌*◌, ◌/◌, Bool, max, min, nat_lt, if◌then◌else◌}

-- how many whole blocks of 1,024 frames half a ring holds, from one to four: as many as a rest is for
abbrev pub blocks_in_half : ℕ → ℕ
blocks_in_half ring = max 1 (min 4 (ring / 2048))

-- how many whole microseconds so many frames last at so many frames a second, of which there is one at least
abbrev pub microseconds_of : ℕ → ℕ → ℕ
microseconds_of frames rate = frames * 1000000 / max 1 rate

-- how many microseconds so many blocks last, of which four count at most: from 1,000 to 100,000
abbrev pub rest_for : ℕ → ℕ → ℕ
rest_for blocks rate = max 1000 (min 100000 (microseconds_of (min 4 blocks * 1024) rate))

-- Whether frames are taken fast: since its last rest the decoder decoded more blocks than a rest is for, and one that
-- went while the rest was over late.
abbrev pub is_fast_after : ℕ → ℕ → Bool
is_fast_after blocks since_rest = nat_lt (blocks + 1) since_rest

-- How many microseconds the decoder rests after so many blocks: 100 where frames are taken fast, else twice as long as
-- before, and no longer than it may.
abbrev pub next_rest : ℕ → ℕ → ℕ → ℕ → ℕ
next_rest blocks since_rest before longest = if is_fast_after blocks since_rest then 100 else min (2 * before) longest

-- how many seconds the decoder rests at most where nothing is played and it does not poll: one while frames wait for room
-- in a ring, and an hour while none do
abbrev pub idle_seconds : Bool → ℕ
idle_seconds owes = if owes then 1 else 3600
