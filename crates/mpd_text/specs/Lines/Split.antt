-- What the splitter gives (MPD protocol reference, Requests).
use Rattle.std.specs.Prelude.{◌≡◌, ℕ, List, ◌++◌, Option, Some, None, Result, Ok, Err, IsSome, IfSome, option_map, map, if◌then◌else◌}
use Rattle.std.specs.Global.{Vec}
use Rattle.std.specs.String.{string_bytes}
use Rattle.std.specs.Str.{is_utf8}
use Rattle.std.specs.Str.Lines.{strip_carriage_return}
use Rattle.mpd_text.specs.declared.lines.splitter.Line.{Line}
use Rattle.mpd_text.specs.declared.lines.splitter.Line.TheVariants.{Text, NotText}
use Rattle.mpd_text.specs.declared.lines.splitter.SplitFault.{SplitFault}
use Rattle.mpd_text.specs.declared.lines.splitter.SplitFault.TheVariants.{LineTooLong, NoMemory}
use Rattle.mpd_text.specs.Lines.Cut.{split, split_from, IsStart}

-- the text of a line, or None where it is not UTF-8
abbrev pub line_of : List ℕ → Option (List ℕ)
line_of bytes = if is_utf8 (strip_carriage_return bytes) then Some (strip_carriage_return bytes) else None

abbrev pub view : Line → Option (List ℕ)
view (Text text) = Some (string_bytes text)
view NotText = None

abbrev pub views : List Line → List (Option (List ℕ))
views lines = map view lines

abbrev pub next_of : Option (Vec ℕ) → Option (List ℕ)
next_of next = option_map (λ bytes. bytes.items) next

abbrev pub AreStart : Option (List ℕ) → Type 0
AreStart next = IfSome next IsStart

-- the lines given and the splitter left are those of the split; want of memory changes nothing
abbrev pub Feeds : Option (List ℕ) → List ℕ → Result (Vec Line) SplitFault → Option (List ℕ) → Type 0
Feeds old piece (Ok lines) new =
    (views lines.items ≡ map line_of (split_from old piece).lines) × (new ≡ (split_from old piece).next) × IsSome new
Feeds old piece (Err (LineTooLong lines)) new =
    (views lines.items ≡ map line_of (split_from old piece).lines) × (new ≡ (split_from old piece).next) × (new ≡ None)
Feeds old piece (Err NoMemory) new = new ≡ old

-- the same after what has come of a line, where no line was too long so far
abbrev pub SplitsAfter : List ℕ → List ℕ → Result (Vec Line) SplitFault → List ℕ → Type 0
SplitsAfter old piece (Ok lines) new =
    (views lines.items ≡ map line_of (split (old ++ piece)).lines) × (Some new ≡ (split (old ++ piece)).next)
SplitsAfter old piece (Err (LineTooLong lines)) new =
    (views lines.items ≡ map line_of (split (old ++ piece)).lines) × (None ≡ (split (old ++ piece)).next)
SplitsAfter old piece (Err NoMemory) new = new ≡ old
