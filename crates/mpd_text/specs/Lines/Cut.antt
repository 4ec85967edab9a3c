-- A stream of bytes as its lines (MPD protocol reference, Requests; the limit is this profile's).
use Rattle.std.specs.Prelude.{◌≡◌, ℕ, Contains, ◌≤◌, List, [], ◌∷◌, ◌++◌, length, Option, Some, None, ◌==◌, nat_le, if◌then◌else◌, Bool}

-- the parts of a stream between its newlines: the lines, and what comes after the last newline
pub record Cut : Type 0 where
  pub lines : List (List ℕ)
  pub rest : List ℕ

-- a byte more at the start of the first part
abbrev pub onto_first : ℕ → List (List ℕ) → List ℕ → Cut
onto_first b [] rest = record { lines = []; rest = b ∷ rest }
onto_first b (line ∷ lines) rest = record { lines = (b ∷ line) ∷ lines; rest = rest }

unfoldable pub cut : List ℕ → Cut
cut [] = record { lines = []; rest = [] }
cut (b ∷ bs) = if b == 10 then record { lines = [] ∷ (cut bs).lines; rest = (cut bs).rest } else onto_first b (cut bs).lines (cut bs).rest

abbrev pub fits : List ℕ → Bool
fits line = nat_le (length line) 16384

-- the lines before the first that is too long, and what has come of the next line if none was
pub record Split : Type 0 where
  pub lines : List (List ℕ)
  pub next : Option (List ℕ)

abbrev pub up_to_long : List (List ℕ) → List ℕ → Split
up_to_long [] rest = record { lines = []; next = if fits rest then Some rest else None }
up_to_long (line ∷ lines) rest =
    if fits line then record { lines = line ∷ (up_to_long lines rest).lines; next = (up_to_long lines rest).next } else record { lines = []; next = None }

unfoldable pub split : List ℕ → Split
split stream = up_to_long (cut stream).lines (cut stream).rest

-- the next piece of a stream, after what has come of a line; nothing once a line was too long
abbrev pub split_from : Option (List ℕ) → List ℕ → Split
split_from (Some partial) piece = split (partial ++ piece)
split_from None piece = record { lines = []; next = None }

-- what is split goes on
abbrev pub then_split : Split → List ℕ → Split
then_split s more = record { lines = s.lines ++ (split_from s.next more).lines; next = (split_from s.next more).next }

-- no newline is among the bytes, so that they can be on one line
abbrev pub HasNoNewline : List ℕ → Type 0
HasNoNewline bytes = ¬ Contains bytes 10

-- the bytes may have come of a line
abbrev pub IsStart : List ℕ → Type 0
IsStart bytes = HasNoNewline bytes × (length bytes ≤ 16384)

-- the pieces of a stream, one after the other
abbrev pub split_pieces : Option (List ℕ) → List (List ℕ) → Split
split_pieces next [] = record { lines = []; next = next }
split_pieces next (piece ∷ pieces) = record {
  lines = (split_from next piece).lines ++ (split_pieces (split_from next piece).next pieces).lines;
  next = (split_pieces (split_from next piece).next pieces).next;
}

-- lines as they are in a stream
abbrev pub with_newlines : List (List ℕ) → List ℕ
with_newlines [] = []
with_newlines (line ∷ lines) = line ++ 10 ∷ with_newlines lines

abbrev pub AreLines : List (List ℕ) → Type 0
AreLines [] = Unit {0}
AreLines (line ∷ lines) = IsStart line × AreLines lines

-- A stream is lines, a newline after each, and then a start of a line or one that is too long.
abbrev pub EndsOpen : List ℕ → List (List ℕ) → List ℕ → Type 0
EndsOpen stream lines start = (stream ≡ with_newlines lines ++ start) × AreLines lines × IsStart start

abbrev pub EndsTooLong : List ℕ → List (List ℕ) → Type 0
EndsTooLong stream lines = (front more : List ℕ) × (stream ≡ with_newlines lines ++ (front ++ more)) × AreLines lines × HasNoNewline front × (length front ≡ 16385)

-- a stream that ends in a start of a line is split into its lines and that start
abbrev pub IsSplitWhereOpen : List ℕ → List (List ℕ) → List ℕ → Type 0
IsSplitWhereOpen stream lines start =
    EndsOpen stream lines start → split stream ≡ record { lines = lines; next = Some start }

-- a stream that ends in a line that is too long is split into the lines before it
abbrev pub IsSplitWhereTooLong : List ℕ → List (List ℕ) → Type 0
IsSplitWhereTooLong stream lines = EndsTooLong stream lines → split stream ≡ record { lines = lines; next = None }
