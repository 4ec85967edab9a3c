-- Slots and entries, list by list.
use Rattle.std.proofs.Common.{◌≡◌, ℕ, suc, ◌+◌, ◌-◌, ◌≤◌, List, [], ◌∷◌, ◌++◌, length, map, take, drop, ap, sym, ◌∙◌, arith}
use Rattle.std.specs.List.{enumerate_from, slice_range, take-map}
use Rattle.std.proofs.lemmas.List.{map-append, take-take}
use Rattle.queue_slots.specs.declared.entry.Entry.{Entry}
use Rattle.queue_slots.specs.declared.entry.Slot.{Slot}
use Rattle.mpd_text.specs.Songs.Song.{SongData}
use Rattle.song_queue.specs.Entries.{entries_for}
use Rattle.song_queue.specs.State.{entries_of}

pub enumerate_from-push : (n : ℕ) (xs : List SongData) (y : SongData) → enumerate_from n (xs ++ y ∷ []) ≡ enumerate_from n xs ++ (n + length xs, y) ∷ []
enumerate_from-push n [] y = let e : n ≡ n + 0 = omega arith in ap (λ (m : ℕ). (m, y) ∷ []) e
enumerate_from-push n (x ∷ xs) y =
    let e : n + 1 + length xs ≡ n + suc (length xs) = omega arith in
    λ i. (n, x) ∷ (enumerate_from-push (n + 1) xs y ∙ ap (λ (m : ℕ). enumerate_from (n + 1) xs ++ (m, y) ∷ []) e) i

pub entries_for-push : (n : ℕ) (xs : List SongData) (y : SongData) → entries_for n (xs ++ y ∷ []) ≡ entries_for n xs ++ record { id = n + length xs; song = y; priority = 0 } ∷ []
entries_for-push n xs y =
    let f : ℕ × SongData → Entry = λ p. record { id = p.0; song = p.1; priority = 0 } in
    ap (map f) (enumerate_from-push n xs y) ∙ map-append f (enumerate_from n xs) ((n + length xs, y) ∷ [])

pub entries_of-push : (xs : List Slot) (y : Slot) → entries_of (xs ++ y ∷ []) ≡ entries_of xs ++ y.entry ∷ []
entries_of-push xs y = map-append (λ (s : Slot). s.entry) xs (y ∷ [])

-- the first slots that are lent have the entries of a part
pub lent-part : (q : List Entry) (r : List Slot) (from count : ℕ) → entries_of r ≡ slice_range q from (from + length r) → count ≤ length r → entries_of (take count r) ≡ slice_range q from (from + count)
lent-part q r from count lends le =
    let n : from + count - from ≡ count = omega arith in
    sym (take-map (λ (s : Slot). s.entry) count r) ∙ ap (take count) lends ∙ take-take count (from + length r - from) (drop from q) (omega arith)
    ∙ ap (λ (m : ℕ). take m (drop from q)) (sym n)
