-- What contracts see of a conversation and its steps, of its devices and of its caller.
use Rattle.std.specs.Prelude.{◌≡◌, ◌≢◌, ◌⊎◌, ℕ, List, length, map, Option, Some, None, Bool, true}
use Rattle.std.specs.Global.{Vec}
use Rattle.std.specs.declared.io.ErrorKind.{ErrorKind}
use Rattle.std.specs.declared.io.ErrorKind.TheVariants.{WouldBlock}
use Rattle.counted_devices.specs.declared.call_counts.CallCounts.{CallCounts}
use Rattle.counted_devices.specs.CallCounts.{HasFailed}
use Rattle.house.specs.Seats.{SeatCount}
use Rattle.mpd_text.specs.declared.lines.splitter.Line.{Line}
use Rattle.mpd_text.specs.Lines.Cut.{split_from}
use Rattle.mpd_text.specs.Lines.Split.{line_of, views}
use Rattle.mpd_session.specs.Answers.{Answers, caller}
use Rattle.shelf.specs.declared.traits.Shelf.{Ghosts}
use Rattle.mpd_session.specs.declared.conversation.Conversation.{Conversation}
use Rattle.mpd_session.specs.declared.end.End.{End}
use Rattle.mpd_session.specs.declared.end.End.TheVariants.{ReadFault}
use Rattle.mpd_session.specs.Devices.{WritesOut}
use Rattle.mpd_session.specs.Sessions.{HasFailedSince, HasPiece, Says, Sends, held_of}

-- A step answers the first of what came, or nothing of it, where the caller had this seat and this shelf before, and
-- those after.
abbrev pub SaysBy : {S : Type 0} → Ghosts S → Conversation → Conversation → SeatCount → SeatCount → S → S → Type 0
SaysBy shelf old new seat seat' before after =
    Says (Answers shelf.standing shelf.failed old.asker) (held_of old) (caller seat before) (held_of new) (caller seat' after)

-- bytes of a conversation are written, as far as it is known which
abbrev pub SendsFrom : Conversation → Option (List ℕ) → Conversation → Option (List ℕ) → Type 0
SendsFrom old written new written' = Sends (held_of old) written (held_of new) written'

-- a piece that was read is not split, or the reader, whose calls are counted so, was not asked
abbrev pub IsUnsplitOrUnasked : {I : Type 0} → (I → CallCounts) → Conversation → I → I → Type 0
IsUnsplitOrUnasked counts c reader reader' = HasPiece c ⊎ (counts reader' ≡ counts reader)

-- all unsent bytes are written, or the writer would have blocked or failed; but nothing is where that was given up
abbrev pub WritesUnsent : Conversation → CallCounts → CallCounts → Type 0
WritesUnsent c old new = WritesOut c.ended c.unsent old new

-- a read that failed so ends a session, and one that only would have blocked does not
abbrev pub IsEndOfFault : ErrorKind → Option End → Type 0
IsEndOfFault fault end = ((end ≡ None) × (fault ≡ WouldBlock)) ⊎ ((end ≡ Some ReadFault) × (fault ≢ WouldBlock))

-- these are the lines that a piece ends, after this start of a line
abbrev pub AreLinesOf : Option (List ℕ) → List ℕ → Vec Line → Type 0
AreLinesOf start piece lines = views lines.items ≡ map line_of (split_from start piece).lines

-- it is said that a writer failed only where a call of it did
abbrev pub HasFailedIf : Bool → CallCounts → CallCounts → Type 0
HasFailedIf failed old new = failed ≡ true → HasFailedSince old new

-- a writer, whose calls are counted so, took as many bytes as these are, or a call of it did not go well
abbrev pub WritesWhole : {O : Type 0} → (O → CallCounts) → ℕ → List ℕ → O → O → Type 0
WritesWhole counts count bytes writer writer' = (count ≡ length bytes) ⊎ HasFailed (counts writer) (counts writer')
