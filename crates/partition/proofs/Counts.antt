-- How many events the seats made.
use Rattle.std.proofs.Common.{◌≡◌, ◌≢◌, ℕ, zero, suc, ◌+◌, ◌<◌, true, false, List, [], ◌∷◌, ◌++◌, map, refl, ap, sym, ◌∙◌, arith, if◌then◌else◌}
use Rattle.std.specs.Prelude.{slice_set, slice_index_or, ◌==◌}
use Rattle.std.specs.List.{range_with_len}
use Rattle.std.proofs.lemmas.Bool.{eq-eqb, ne_eqb}
use Rattle.std.proofs.lemmas.List.Sums.{sum_by-append}
use Rattle.player_events.specs.declared.event.LogEntry.{LogEntry}
use Rattle.partition.specs.History.{own, made_of}

own-more : (seat : ℕ) (hs : List LogEntry) (h : LogEntry) → own seat (hs ++ h ∷ []) ≡ own seat hs + (if h.seat == seat then 1 else 0)
own-more seat hs h =
    sum_by-append (λ (x : LogEntry). if x.seat == seat then 1 else 0) hs (h ∷ []) ∙ ap (λ n. own seat hs + n) (omega arith)

own-other : (seat : ℕ) (hs : List LogEntry) (h : LogEntry) → seat ≢ h.seat → own seat (hs ++ h ∷ []) ≡ own seat hs
own-other seat hs h other =
    own-more seat hs h ∙ (let e : (h.seat == seat) ≡ false = ne_eqb h.seat seat (λ same. other (sym same)) in rw e (omega arith))

own-same : (hs : List LogEntry) (h : LogEntry) → own h.seat (hs ++ h ∷ []) ≡ own h.seat hs + 1
own-same hs h = own-more h.seat hs h ∙ (let e : (h.seat == h.seat) ≡ true = eq-eqb h.seat h.seat refl in rw e refl)

module _ (f g : ℕ → ℕ) (seat : ℕ) (other : (s : ℕ) → s ≢ seat → g s ≡ f s) where
  behind : (n a : ℕ) → seat < a → map f (range_with_len a n) ≡ map g (range_with_len a n)
  behind zero a above = refl
  behind (suc n) a above = λ i. sym (other a (λ e. absurd (omega arith))) i ∷ behind n (a + 1) (omega arith) i

  raised : (same : g seat ≡ f seat + 1) (n a k : ℕ) → a + k ≡ seat
      → slice_set (map f (range_with_len a n)) k (slice_index_or (map f (range_with_len a n)) k 0 + 1) ≡ map g (range_with_len a n)
  raised same zero a k e = refl
  raised same (suc n) a zero e =
      let here : a ≡ seat = omega arith in
      λ i. (ap (λ s. f s + 1) here ∙ sym same ∙ ap g (sym here)) i ∷ behind n (a + 1) (omega arith) i
  raised same (suc n) a (suc k) e =
      λ i. sym (other a (λ same_seat. absurd (omega arith))) i ∷ raised same n (a + 1) k (omega arith) i

-- one more event of a seat is one more in its count
pub made_of-more : (hs : List LogEntry) (h : LogEntry)
    → slice_set (made_of hs) h.seat (slice_index_or (made_of hs) h.seat 0 + 1) ≡ made_of (hs ++ h ∷ [])
made_of-more hs h =
    raised (λ s. own s hs) (λ s. own s (hs ++ h ∷ [])) h.seat (λ s ne. own-other s hs h ne) (own-same hs h) 16 0 h.seat (omega arith)

at : (f : ℕ → ℕ) (n a k : ℕ) → k < n → slice_index_or (map f (range_with_len a n)) k 0 ≡ f (a + k)
at f zero a k h = absurd (omega arith)
at f (suc n) a zero h = ap f (omega arith)
at f (suc n) a (suc k) h = at f n (a + 1) k (omega arith) ∙ ap f (omega arith)

-- the count of a seat
pub made_of-at : (hs : List LogEntry) (seat : ℕ) → seat < 16 → slice_index_or (made_of hs) seat 0 ≡ own seat hs
made_of-at hs seat h = at (λ s. own s hs) 16 0 seat h ∙ ap (λ s. own s hs) (omega arith)

-- a history after another
pub own-behind : (seat : ℕ) (hs gs : List LogEntry) → own seat (hs ++ gs) ≡ own seat hs + own seat gs
own-behind seat hs gs = sum_by-append (λ (x : LogEntry). if x.seat == seat then 1 else 0) hs gs
