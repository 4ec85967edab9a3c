-- The history of a player, and what a player of one thread makes of it.
use Rattle.std.specs.Prelude.{◌≡◌, ℕ, ◌==◌, ◌-◌, ◌^◌, ◌≤◌, nat_le, slice_index_or, Bool, List, [], ◌∷◌, ◌++◌, length, map, count_by, if◌then◌else◌}
use Rattle.std.specs.List.{range_with_len}
use Rattle.player_events.specs.declared.event.LogEntry.{LogEntry}
use Rattle.partition.specs.Image.{Image}
use Rattle.partition.specs.Step.{next_image, told}

-- a base, the window of what happened since, the present state, and the most events of the window
pub record Chronicle : Type 0 where
  pub base : Image
  pub window : List LogEntry
  pub present : Image
  pub limit : ℕ

-- to which nothing happened
abbrev pub begun : ℕ → Image → Chronicle
begun limit opened = record { base = opened; window = []; present = opened; limit = limit }

-- the present state becomes the base, and the window is empty
abbrev pub folded : Chronicle → Chronicle
folded c = record { base = c.present; window = []; present = c.present; limit = c.limit }

abbrev pub is_full : Chronicle → Bool
is_full c = nat_le c.limit (length c.window)

-- a full window is folded
abbrev pub with_room : Chronicle → Chronicle
with_room c = if is_full c then folded c else c

-- one event joins the window, which is folded first where it is full
abbrev pub joined_by : Chronicle → LogEntry → Chronicle
joined_by c h = record {
  base = (with_room c).base;
  window = (with_room c).window ++ h ∷ [];
  present = next_image h.seat c.present h.event;
  limit = c.limit;
}

-- events join one after the other
abbrev pub joined : Chronicle → List LogEntry → Chronicle
joined c [] = c
joined c (h ∷ hs) = joined (joined_by c h) hs

-- the image after these events
abbrev pub replay : Image → List LogEntry → Image
replay i [] = i
replay i (h ∷ hs) = replay (next_image h.seat i h.event) hs

-- each event was told what the player of one thread tells at its position
abbrev pub AreTold : Image → List LogEntry → Type 0
AreTold i [] = Unit {0}
AreTold i (h ∷ hs) = (h.told ≡ told i h.event) × AreTold (next_image h.seat i h.event) hs

-- how many events of a seat there are
abbrev pub own : ℕ → List LogEntry → ℕ
own seat history = count_by (λ h. h.seat == seat) history

-- a seat made as many events as can be counted
abbrev pub IsSpent : Chronicle → ℕ → Type 0
IsSpent c seat = 2 ^ 63 - 1 ≤ slice_index_or c.present.shared.made seat 0

-- how many events each seat made, seat 0 first
abbrev pub made_of : List LogEntry → List ℕ
made_of history = map (λ seat. own seat history) (range_with_len 0 16)

-- what is done to a player: an event happens, or the window is folded
pub data HistoryStep : Type 0 where
  Appends : (h : LogEntry) → HistoryStep
  Folds : HistoryStep

abbrev pub after_one : Chronicle → HistoryStep → Chronicle
after_one c (Appends h) = record { base = c.base; window = c.window ++ h ∷ []; present = next_image h.seat c.present h.event; limit = c.limit }
after_one c Folds = folded c

abbrev pub after_all : Chronicle → List HistoryStep → Chronicle
after_all c [] = c
after_all c (x ∷ xs) = after_all (after_one c x) xs

-- the events of some steps of a history, whether a later fold took them out of the window or not
abbrev pub events_among : List HistoryStep → List LogEntry
events_among [] = []
events_among (Appends h ∷ xs) = h ∷ events_among xs
events_among (Folds ∷ xs) = events_among xs

-- each event was told what the player of one thread tells in the state that then stands
abbrev pub AreToldBy : Chronicle → List HistoryStep → Type 0
AreToldBy c [] = Unit {0}
AreToldBy c (Appends h ∷ xs) = (h.told ≡ told c.present h.event) × AreToldBy (after_one c (Appends h)) xs
AreToldBy c (Folds ∷ xs) = AreToldBy (folded c) xs
