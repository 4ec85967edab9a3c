-- What `restamped` gives at the joins that edits make.
use Rattle.std.proofs.Common.{◌≡◌, ◌≢◌, ℕ, suc, ◌<◌, Bool, false, cond, List, [], ◌∷◌, ◌++◌, length, map, get_or, refl, arith}
use Rattle.std.proofs.lemmas.Bool.{cond-true, cond-false}
use Rattle.queue_slots.specs.declared.entry.Entry.{Entry}
use Rattle.queue_slots.specs.declared.entry.Slot.{Slot}
use Rattle.song_queue.specs.Entries.{same_entry}
use Rattle.song_queue.specs.State.{restamped, kept, written, entries_of}
use Rattle.song_queue.proofs.Same.{same_entry-refl, same_entry-other}

-- slots whose entries stay are kept
pub restamped-append : (v : ℕ) (w : Bool) (ss xs : List Slot) (es : List Entry) → restamped v w (ss ++ xs) (entries_of ss ++ es) ≡ map (kept w) ss ++ restamped v w xs es
restamped-append v w [] xs es = refl
restamped-append v w (a ∷ ss) xs es = λ i. cond-true (same_entry a.entry a.entry) (kept w a) (written v w a.entry) (same_entry-refl a.entry) i ∷ restamped-append v w ss xs es i

-- with none after them
restamped-kept : (v : ℕ) (w : Bool) (ss : List Slot) → restamped v w ss (entries_of ss) ≡ map (kept w) ss
restamped-kept v w [] = refl
restamped-kept v w (s ∷ ss) = λ i. cond-true (same_entry s.entry s.entry) (kept w s) (written v w s.entry) (same_entry-refl s.entry) i ∷ restamped-kept v w ss i

-- after as many others
pub restamped-middle : (v : ℕ) (w : Bool) (xs ss : List Slot) (es : List Entry) → length xs ≡ length es → restamped v w (xs ++ ss) (es ++ entries_of ss) ≡ restamped v w xs es ++ map (kept w) ss
restamped-middle v w [] ss [] n = restamped-kept v w ss
restamped-middle v w [] ss (e ∷ es) n = absurd (omega arith)
restamped-middle v w (x ∷ xs) ss [] n = absurd (omega arith)
restamped-middle v w (x ∷ xs) ss (e ∷ es) n = λ i. cond (same_entry x.entry e) (kept w x) (written v w e) ∷ restamped-middle v w xs ss es (omega arith) i

pub restamped-nil : (v : ℕ) (w : Bool) (es : List Entry) → restamped v w [] es ≡ map (written v w) es
restamped-nil v w [] = refl
restamped-nil v w (e ∷ es) = λ i. written v w e ∷ restamped-nil v w es i

-- where each slot gets another id, each is written
pub restamped-others : (v : ℕ) (w : Bool) (xs : List Slot) (es : List Entry) → ((i : ℕ) (s : Slot) (e : Entry) → i < length xs → i < length es → (get_or xs i s).entry.id ≢ (get_or es i e).id)
    → restamped v w xs es ≡ map (written v w) es
restamped-others v w xs [] h = refl
restamped-others v w [] (e ∷ es) h = restamped-nil v w (e ∷ es)
restamped-others v w (x ∷ xs) (e ∷ es) h =
    let other : same_entry x.entry e ≡ false = same_entry-other x.entry e (h 0 x e (omega arith) (omega arith)) in
    λ i. cond-false (same_entry x.entry e) (kept w x) (written v w e) other i ∷ restamped-others v w xs es (λ k s d l m. h (suc k) s d (omega arith) (omega arith)) i
