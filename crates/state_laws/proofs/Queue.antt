-- A queue after a song is put at its front, and after its first song has another priority.
use Rattle.std.proofs.Common.{◌≡◌, inl, inr, ℕ, ◌+◌, ◌<◌, false, List, [], ◌∷◌, map, refl, ap, ◌∙◌, arith, if◌then◌else◌}
use Rattle.std.specs.List.{enumerate_from}
use Rattle.std.proofs.lemmas.Bool.Decides.{nat_tests}
use Rattle.mpd_text.specs.Songs.Song.{SongData}
use Rattle.mpd_text.specs.Answers.Range.{positions}
use Rattle.song_queue.specs.declared.entry.Entry.{Entry}
use Rattle.song_queue.specs.Entries.{is_named, with_priority}
use Rattle.song_queue.specs.State.{QueueState, edited, inserted, prioritized, queue_of}
use Rattle.song_queue.proofs.Edits.{edited_cases}
use Rattle.play_order.proofs.Inserting.{queue_of-edited}

-- the entry that a song is put into the queue as
abbrev pub fresh : QueueState → SongData → Entry
fresh q song = record { id = q.greatest_id + 1; song = song; priority = 0 }

pub put_first : (q : QueueState) (song : SongData) → queue_of (inserted q 0 (song ∷ [])) ≡ fresh q song ∷ queue_of q
put_first q song = queue_of-edited q (fresh q song ∷ queue_of q)

-- no position after the first is named
unnamed : (n : ℕ) → 0 < n → is_named (positions 0 1 ∷ []) n ≡ false
unnamed n some = grind (arith, nat_tests)

unnamed_stay : (priority n : ℕ) (es : List Entry) → 0 < n
    → map (λ (p : ℕ × Entry). if is_named (positions 0 1 ∷ []) p.0 then record p.1 { priority = priority } else p.1) (enumerate_from n es) ≡ es
unnamed_stay priority n [] some = refl
unnamed_stay priority n (e ∷ es) some =
    let head : (if is_named (positions 0 1 ∷ []) n then record e { priority = priority } else e) ≡ e = ap (λ b. if b then record e { priority = priority } else e) (unnamed n some) in
    λ i. head i ∷ unnamed_stay priority (n + 1) es (omega arith) i

first_has : (priority : ℕ) (e : Entry) (es : List Entry) → with_priority (e ∷ es) (positions 0 1 ∷ []) priority ≡ record e { priority = priority } ∷ es
first_has priority e es = ap (λ (more : List Entry). record e { priority = priority } ∷ more) (unnamed_stay priority 1 es (omega arith))

pub prioritized_first : (q : QueueState) (priority : ℕ) (e : Entry) (es : List Entry) → queue_of q ≡ e ∷ es
    → queue_of (prioritized q (positions 0 1 ∷ []) priority) ≡ record e { priority = priority } ∷ es
prioritized_first q priority e es is =
    queue_of-edited q (with_priority (queue_of q) (positions 0 1 ∷ []) priority)
    ∙ ap (λ (xs : List Entry). with_priority xs (positions 0 1 ∷ []) priority) is ∙ first_has priority e es

-- an edit leaves the limits of a queue, and the greatest id that was given
pub record SameLimits (p q : QueueState) : Type 0 where
  pub greatest_id : p.greatest_id ≡ q.greatest_id
  pub max_len : p.max_len ≡ q.max_len
  pub max_id : p.max_id ≡ q.max_id

pub edited_limits : (q : QueueState) (es : List Entry) → SameLimits (edited q es) q
edited_limits q es = elim (edited_cases q es) [
  | inl t ↦ record { greatest_id = ap (λ (p : QueueState). p.greatest_id) t.0; max_len = ap (λ (p : QueueState). p.max_len) t.0; max_id = ap (λ (p : QueueState). p.max_id) t.0 }
  | inr t ↦ record { greatest_id = ap (λ (p : QueueState). p.greatest_id) t; max_len = ap (λ (p : QueueState). p.max_len) t; max_id = ap (λ (p : QueueState). p.max_id) t }
]
