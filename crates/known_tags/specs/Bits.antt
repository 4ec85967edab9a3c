-- Sets of the ten tags as bits: that of a tag is at its index in the order of answers.
use Rattle.std.specs.Prelude.{◌≡◌, ℕ, ◌^◌, ◌<◌, ◌==◌, Bool, true, not, List, filter, sum_by, bit_and, refl}
use Rattle.std.proofs.lemmas.Bool.{eqb-true, agree_below_at}
use Rattle.mpd_text.specs.Songs.Tags.{tag_names, tag_number}
use Rattle.mpd_text.specs.declared.songs.song.TagName.{TagName}

-- whether the bit of a tag is set
abbrev pub is_set : ℕ → TagName → Bool
is_set bits name = not (bit_and bits (2 ^ tag_number name) == 0)

-- the tags whose bits are set
unfoldable pub members : ℕ → List TagName
members bits = filter (is_set bits) tag_names

-- the bits of these tags
abbrev pub bits_of : List TagName → ℕ
bits_of tags = sum_by (λ name. 2 ^ tag_number name) tags

-- the bits of the tags whose bits are set are these bits
pub bits_of-members : (bits : ℕ) → bits < 1024 → bits_of (members bits) ≡ bits
unfolding members
bits_of-members bits below = eqb-true (bits_of (members bits)) bits (agree_below_at (λ n. bits_of (members n) == n) (λ _. true) 1024 bits refl below)
