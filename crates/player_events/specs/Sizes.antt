-- How many bytes the texts of a window have that were answered (this profile's: a house folds early where
-- they are many).
use Rattle.std.specs.Prelude.{ℕ, ◌+◌, ◌-◌, ◌^◌, min, List, length, sum_by}
use Rattle.shelf.specs.Lines.{text_of}
use Rattle.player_events.specs.declared.event.LogEntry.{LogEntry}
use Rattle.transitions.specs.declared.shelf_calls.Read.{Read}
use Rattle.transitions.specs.declared.shelf_calls.Read.TheVariants as read_variant
use Rattle.player_events.specs.Events.{store_reply_at}

-- the bytes of what a shelf answered to a question
abbrev pub read_bytes : Read → ℕ
read_bytes read_variant.Nothing = 0
read_bytes (read_variant.Names names) = sum_by length names
read_bytes (read_variant.List uris) = length (text_of uris)
read_bytes (read_variant.Value value) = length value
read_bytes (read_variant.Entries entries) = sum_by (λ e. length e.0 + length e.1) entries
read_bytes (read_variant.Refused fault) = 0

-- the bytes that a client was answered at an event, and that the shelf answered to it
abbrev pub event_bytes : LogEntry → ℕ
event_bytes h = length h.told.answer.text + read_bytes (store_reply_at h.event).read

-- those of all events of a window; a count stays at its greatest value
abbrev pub window_bytes : List LogEntry → ℕ
window_bytes window = min (sum_by event_bytes window) (2 ^ 64 - 1)
