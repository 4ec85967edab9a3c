-- The entries whose songs meet a filter, position by position.
use Rattle.std.proofs.Common.{◌≡◌, ◌+◌, ℕ, true, false, List, [], ◌∷◌, ◌++◌, Option, Some, None, map, map-id, filter, refl, ap, sym, ◌∙◌, append_assoc, append-nil, arith}
use Rattle.std.specs.Prelude.{slice_get}
use Rattle.std.specs.List.{range_with_len}
use Rattle.std.proofs.lemmas.List.Elements.{filter-append}
use Rattle.std.proofs.lemmas.List.FromFn.{map-range_with_len_more}
use Rattle.filters.specs.Expressions.{Expression}
use Rattle.filters.specs.declared.matching.Case.{Case}
use Rattle.song_queue.specs.declared.entry.Entry.{Entry}
use Rattle.song_queue.specs.Entries.{row_of, rows_at}
use Rattle.song_queue.specs.State.{QueueState, queue_of}
use Rattle.song_search.specs.Truth.{meets}
use Rattle.queue_commands.specs.Queue.{meets_at, met_by}

-- the same of the positions before one
abbrev pub meeting_before : QueueState → Case → Expression → ℕ → List (ℕ × Entry)
meeting_before queue case e position = filter (λ (row : ℕ × Entry). meets case e row.1.song) (rows_at (queue_of queue) (range_with_len 0 position))

rows_after : (queue : List Entry) (xs ys : List ℕ) → rows_at queue (xs ++ ys) ≡ rows_at queue xs ++ rows_at queue ys
rows_after queue [] ys = refl
rows_after queue (x ∷ xs) ys =
    ap (λ (l : List (ℕ × Entry)). row_of x (slice_get queue x) ++ l) (rows_after queue xs ys)
    ∙ sym (append_assoc (row_of x (slice_get queue x)) (rows_at queue xs) (rows_at queue ys))

one_more : (queue : List Entry) (xs : List ℕ) (position : ℕ) → rows_at queue (xs ++ position ∷ []) ≡ rows_at queue xs ++ row_of position (slice_get queue position)
one_more queue xs position =
    rows_after queue xs (position ∷ [])
    ∙ ap (λ (l : List (ℕ × Entry)). rows_at queue xs ++ l) (append-nil (row_of position (slice_get queue position)))

next_range : (position : ℕ) → range_with_len 0 (position + 1) ≡ range_with_len 0 position ++ position ∷ []
next_range position = sym (map-id (range_with_len 0 (position + 1))) ∙ map-range_with_len_more (λ (x : ℕ). x) 0 position position (omega arith) ∙ ap (λ (l : List ℕ). l ++ position ∷ []) (map-id (range_with_len 0 position))

kept : (case : Case) (e : Expression) (position : ℕ) (entry : Option Entry) → met_by case e entry ≡ true → filter (λ (row : ℕ × Entry). meets case e row.1.song) (row_of position entry) ≡ row_of position entry
kept case e position None h = cc
kept case e position (Some entry) h = rw h refl

dropped : (case : Case) (e : Expression) (position : ℕ) (entry : Option Entry) → met_by case e entry ≡ false → filter (λ (row : ℕ × Entry). meets case e row.1.song) (row_of position entry) ≡ []
dropped case e position None h = refl
dropped case e position (Some entry) h = rw h refl

next_meeting : (queue : QueueState) (case : Case) (e : Expression) (position : ℕ) → meeting_before queue case e (position + 1)
    ≡ meeting_before queue case e position ++ filter (λ (row : ℕ × Entry). meets case e row.1.song) (row_of position (slice_get (queue_of queue) position))
next_meeting queue case e position =
    ap (λ (l : List ℕ). filter (λ (row : ℕ × Entry). meets case e row.1.song) (rows_at (queue_of queue) l)) (next_range position)
    ∙ ap (filter (λ (row : ℕ × Entry). meets case e row.1.song)) (one_more (queue_of queue) (range_with_len 0 position) position)
    ∙ filter-append (λ (row : ℕ × Entry). meets case e row.1.song) (rows_at (queue_of queue) (range_with_len 0 position)) (row_of position (slice_get (queue_of queue) position))

-- a position more, whose song meets it
pub meets_next : (queue : QueueState) (case : Case) (e : Expression) (position : ℕ) (positions : List ℕ) → meets_at queue case e position ≡ true
    → rows_at (queue_of queue) positions ≡ meeting_before queue case e position → rows_at (queue_of queue) (positions ++ position ∷ []) ≡ meeting_before queue case e (position + 1)
meets_next queue case e position positions met so_far =
    one_more (queue_of queue) positions position
    ∙ ap (λ (l : List (ℕ × Entry)). l ++ row_of position (slice_get (queue_of queue) position)) so_far
    ∙ ap (λ (l : List (ℕ × Entry)). meeting_before queue case e position ++ l) (sym (kept case e position (slice_get (queue_of queue) position) met))
    ∙ sym (next_meeting queue case e position)

-- a position more, whose song does not
pub fails_next : (queue : QueueState) (case : Case) (e : Expression) (position : ℕ) (positions : List ℕ) → meets_at queue case e position ≡ false
    → rows_at (queue_of queue) positions ≡ meeting_before queue case e position → rows_at (queue_of queue) positions ≡ meeting_before queue case e (position + 1)
fails_next queue case e position positions unmet so_far =
    so_far
    ∙ sym (append-nil (meeting_before queue case e position))
    ∙ ap (λ (l : List (ℕ × Entry)). meeting_before queue case e position ++ l) (sym (dropped case e position (slice_get (queue_of queue) position) unmet))
    ∙ sym (next_meeting queue case e position)
