-- The song of an entry is that at the entry's queue position.
use Rattle.std.proofs.Common.{◌≡◌, ℕ, suc, ◌+◌, ◌==◌, List, [], ◌∷◌, length, Bool, true, false, not, cond, nat_lt, Option, Some, None, if◌then◌else◌, refl, ap, sym, ◌∙◌, arith, slice_get}
use Rattle.std.specs.List.{position, position_or_len}
use Rattle.mpd_text.specs.Songs.Song.{SongData}
use Rattle.song_queue.specs.State.{QueueState, entries_of, position_of, queue_of}
use Rattle.song_queue.specs.declared.entry.Entry.{Entry}
use Rattle.song_queue.specs.declared.entry.Slot.{Slot}
use Rattle.house.specs.Counts.{song_of}

abbrev song_in : Option Entry → Option SongData
song_in None = None
song_in (Some e) = Some e.song

-- the song of what is at a queue position
abbrev pub song_at : List Entry → Option ℕ → Option SongData
song_at es None = None
song_at es (Some queue_position) = song_in (slice_get es queue_position)

behind : (c : Bool) (e : Entry) (es : List Entry) (n : ℕ) → song_at es (cond c (Some n) None) ≡ song_at (e ∷ es) (cond c (Some (1 + n)) None)
behind true e es n = let one : suc n ≡ 1 + n = omega arith in ap (λ k. song_in (slice_get (e ∷ es) k)) one
behind false e es n = refl

found : (b : Bool) (e : Entry) (es : List Entry) (n len : ℕ) (rest : Option SongData) → rest ≡ song_at es (cond (nat_lt n len) (Some n) None)
    → (if b then Some e.song else rest) ≡ song_at (e ∷ es) (cond (nat_lt (cond (not b) (1 + n) 0) (suc len)) (Some (cond (not b) (1 + n) 0)) None)
found true e es n len rest is = let t : nat_lt 0 (suc len) ≡ true = grind arith in rw t refl
found false e es n len rest is = let t : nat_lt (1 + n) (suc len) ≡ nat_lt n len = grind arith in rw t (is ∙ behind (nat_lt n len) e es n)

pub at_position : (id : ℕ) (slots : List Slot) → song_of id (entries_of slots) ≡ song_at (entries_of slots) (position (λ s. s.entry.id == id) slots)
at_position id [] = refl
at_position id (s ∷ ss) = found (s.entry.id == id) s.entry (entries_of ss) (position_or_len (λ t. t.entry.id == id) ss) (length ss) (song_of id (entries_of ss)) (at_position id ss)

pub no_position : (id : ℕ) (q : QueueState) → position_of q id ≡ None → None ≡ song_of id (queue_of q)
no_position id q none = sym (at_position id q.slots ∙ ap (song_at (queue_of q)) none)

pub no_entry : (id : ℕ) (q : QueueState) (queue_position : ℕ) → position_of q id ≡ Some queue_position → slice_get (queue_of q) queue_position ≡ None → None ≡ song_of id (queue_of q)
no_entry id q queue_position is none = sym (at_position id q.slots ∙ ap (song_at (queue_of q)) is ∙ ap song_in none)

pub entry_song : (id : ℕ) (q : QueueState) (queue_position : ℕ) (e : Entry) → position_of q id ≡ Some queue_position → slice_get (queue_of q) queue_position ≡ Some e → Some e.song ≡ song_of id (queue_of q)
entry_song id q queue_position e is found = sym (at_position id q.slots ∙ ap (song_at (queue_of q)) is ∙ ap song_in found)
