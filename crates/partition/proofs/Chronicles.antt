-- A history that goes on.
use Rattle.std.proofs.Common.{◌≡◌, ℕ, ◌+◌, ◌-◌, ◌^◌, ◌<◌, ◌≤◌, List, [], ◌∷◌, ◌++◌, length, refl, ap, sym, ◌∙◌, arith}
use Rattle.std.specs.Prelude.{min}
use Rattle.std.proofs.lemmas.List.{length-append}
use Rattle.std.proofs.lemmas.List.Sums.{sum_by-append}
use Rattle.player_events.specs.declared.event.LogEntry.{LogEntry}
use Rattle.partition.specs.Image.{Image, opening}
use Rattle.partition.specs.Invariant.{Came}
use Rattle.partition.specs.Step.{next_image, told}
use Rattle.partition.specs.History.{Chronicle, joined, joined_by, replay, AreTold}
use Rattle.player_events.specs.Sizes.{event_bytes, window_bytes}

-- one more event is one more step
pub replay-append : (i : Image) (hs : List LogEntry) (h : LogEntry) → replay i (hs ++ h ∷ []) ≡ next_image h.seat (replay i hs) h.event
replay-append i [] h = refl
replay-append i (g ∷ gs) h = replay-append (next_image g.seat i g.event) gs h

-- a history goes on by an event that was told rightly
pub AreTold-append : (i : Image) (hs : List LogEntry) (h : LogEntry) → AreTold i hs → h.told ≡ told (replay i hs) h.event → AreTold i (hs ++ h ∷ [])
AreTold-append i [] h all e = (e, tt)
AreTold-append i (g ∷ gs) h all e = (all.0, AreTold-append (next_image g.seat i g.event) gs h all.1 e)

-- one more event joins
pub joined-append : (c : Chronicle) (hs : List LogEntry) (h : LogEntry) → joined c (hs ++ h ∷ []) ≡ joined_by (joined c hs) h
joined-append c [] h = refl
joined-append c (g ∷ gs) h = joined-append (joined_by c g) gs h

-- a history after another
pub replay-behind : (i : Image) (hs gs : List LogEntry) → replay i (hs ++ gs) ≡ replay (replay i hs) gs
replay-behind i [] gs = refl
replay-behind i (h ∷ hs) gs = replay-behind (next_image h.seat i h.event) hs gs

pub AreTold-behind : (i : Image) (hs gs : List LogEntry) → AreTold i hs → AreTold (replay i hs) gs → AreTold i (hs ++ gs)
AreTold-behind i [] gs all more = more
AreTold-behind i (h ∷ hs) gs all more = (all.0, AreTold-behind (next_image h.seat i h.event) hs gs all.1 more)

-- a window that had room for one more event
pub fits : (n : ℕ) (hs hs' : List LogEntry) (h : LogEntry) → hs' ≡ hs ++ h ∷ [] → length hs < n → length hs' ≤ n
fits n hs hs' h more room = rw more (let longer = length-append hs (h ∷ []) in omega (arith, longer, room))

-- its bytes
pub more_bytes : (hs hs' : List LogEntry) (h : LogEntry) (before last after : ℕ) → hs' ≡ hs ++ h ∷ []
    → before ≡ window_bytes hs → last ≡ min (event_bytes h) (2 ^ 64 - 1) → after ≡ min (before + last) (2 ^ 64 - 1) → after ≡ window_bytes hs'
more_bytes hs hs' h before last after more was one is =
    rw more (let sum = sum_by-append event_bytes hs (h ∷ []) in omega (arith, sum, was, one, is))

-- a player with its history goes on by one event
pub goes_on : (base i i' : Image) (hs hs' : List LogEntry) (h : LogEntry)
    → i ≡ replay base hs → AreTold base hs
    → i' ≡ next_image h.seat i h.event → h.told ≡ told i h.event → hs' ≡ hs ++ h ∷ []
    → (i' ≡ replay base hs') × AreTold base hs'
goes_on base i i' hs hs' h was rightly step tells more =
    rw more (
      step ∙ ap (λ (j : Image). next_image h.seat j h.event) was ∙ sym (replay-append base hs h),
      AreTold-append base hs h rightly (tells ∙ ap (λ (j : Image). told j h.event) was),
    )

-- what led to a base, and the window after it, lead to where the window leads
pub leads_on : (first base i : Image) (earlier window : List LogEntry)
    → base ≡ replay first earlier → AreTold first earlier → i ≡ replay base window → AreTold base window
    → (i ≡ replay first (earlier ++ window)) × AreTold first (earlier ++ window)
leads_on first base i earlier window leads earlier_told was rightly = (
  was ∙ ap (λ (j : Image). replay j window) leads ∙ sym (replay-behind first earlier window),
  AreTold-behind first earlier window earlier_told (rw (← leads) rightly),
)

-- and so does it to the next base
pub came_on : (base i : Image) (window : List LogEntry) → Came base → i ≡ replay base window → AreTold base window → Came i
came_on base i window came was rightly =
    let on = leads_on (opening came.setup came.library) base i came.earlier window came.leads came.told was rightly in
    record { setup = came.setup; library = came.library; earlier = came.earlier ++ window; above = came.above; leads = on.0; told = on.1 }
