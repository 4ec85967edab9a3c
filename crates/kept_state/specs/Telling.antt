-- How the lines of a state are told (MPD protocol reference, Command lists: the first line of a list that is refused
-- ends it).
use Rattle.std.specs.Prelude.{◌≡◌, ◌⊎◌, ◌+◌, ◌==◌, ℕ, Bool, true, false, ◌||◌, List, [], ◌∷◌, codes, length, min, if◌then◌else◌}
use Rattle.std.specs.List.{before_first, list_any}
use Rattle.std.specs.Str.{bytes_eq}
use Rattle.std.specs.Str.Lines.{lines as lines_in}
use Rattle.kept_state.specs.declared.telling.Course.{Course}
use Rattle.kept_state.specs.declared.telling.Course.TheVariants as course

abbrev pub begins : List ℕ → Bool
begins line = bytes_eq line (codes "command_list_begin")

abbrev pub ends : List ℕ → Bool
ends line = bytes_eq line (codes "command_list_end")

abbrev pub is_empty : List ℕ → Bool
is_empty line = length line == 0

-- the lines of a list, up to its end, to the beginning of another one, or to the last line
abbrev pub listed : List (List ℕ) → List (List ℕ)
listed [] = []
listed (line ∷ lines) =
    if begins line || ends line then []
    else if is_empty line then listed lines
    else line ∷ listed lines

-- The lines of a text that are told together: those of a list, or one that stands alone. It is said whether the text
-- begins within a list, whose lines then are none of these.
abbrev pub steps_in : Bool → List (List ℕ) → List (List (List ℕ))
steps_in is_within [] = []
steps_in is_within (line ∷ lines) =
    if begins line then listed lines ∷ steps_in true lines
    else if ends line then steps_in false lines
    else if is_within || is_empty line then steps_in is_within lines
    else (line ∷ []) ∷ steps_in is_within lines

-- Lines that are told together lead a hearer from one state to another, and so many of them are refused: the first that
-- is refused is the last that is told. A hearer is what each line makes of it, and whether the line is refused.
abbrev pub TellsStep : {S : Type 0} → (S → List ℕ → Bool → S → Type 0) → List (List ℕ) → S → ℕ → S → Type 0
TellsStep R [] before refused after = (refused ≡ 0) × (after ≡ before)
TellsStep {S} R (line ∷ lines) before refused after =
    R before line true after × (refused ≡ 1) ⊎ ((next : S) × R before line false next × TellsStep R lines next refused after)

-- each step is told, whatever was refused of those before it
abbrev pub TellsSteps : {S : Type 0} → (S → List ℕ → Bool → S → Type 0) → List (List (List ℕ)) → S → ℕ → S → Type 0
TellsSteps R [] before refused after = (refused ≡ 0) × (after ≡ before)
TellsSteps {S} R (step ∷ steps) before refused after =
    (next : S) × (of_step of_others : ℕ) × TellsStep R step before of_step next × TellsSteps R steps next of_others after
    × (refused ≡ of_step + of_others)

-- a text is told, and of its lines so many are refused; no more than 2^64 - 1 of them are counted
abbrev pub TellsText : {S : Type 0} → (S → List ℕ → Bool → S → Type 0) → List ℕ → S → S → ℕ → Type 0
TellsText R text before after refused =
    (count : ℕ) × TellsSteps R (steps_in false (lines_in text)) before count after × (refused ≡ min count 18446744073709551615)

-- ---- in the middle of a text

-- what is still told of a text: in a list, of which no line was refused yet, its other lines first
abbrev pub steps_left : Course → List (List ℕ) → List (List (List ℕ))
steps_left course.Alone lines = steps_in false lines
steps_left course.Within lines = listed lines ∷ steps_in true lines
steps_left course.PassedOver lines = steps_in true lines

-- in a list, behind a line that was refused or was not
abbrev pub within_after : Bool → Course
within_after true = course.PassedOver
within_after false = course.Within

-- a line of a list is told, and it is said whether it is refused, and where in the text the next one stands then
abbrev pub TellsWithin : {S : Type 0} → (S → List ℕ → Bool → S → Type 0) → List ℕ → S → S → Bool × Course → Type 0
TellsWithin R line before after told = R before line told.0 after × (told.1 ≡ within_after told.0)

abbrev pub count_of : Bool → ℕ
count_of true = 1
count_of false = 0

-- a line is told: what is left of the text then, and was left before
abbrev pub TellsLine : {S : Type 0} → (S → List ℕ → Bool → S → Type 0) → List ℕ → Course → Course → S → Bool → S → Type 0
TellsLine {S} R line old new before is_refused next =
    (lines : List (List ℕ)) (refused : ℕ) (after : S) → TellsSteps R (steps_left new lines) next refused after
    → TellsSteps R (steps_left old (line ∷ lines)) before (count_of is_refused + refused) after

-- ---- which lines a state has

abbrev pub first_word : List ℕ → List ℕ
first_word line = before_first (λ b. b == 32) line

-- the commands of a state
abbrev pub state_commands : List (List ℕ)
state_commands =
    codes "add" ∷ codes "addid" ∷ codes "consume" ∷ codes "crossfade" ∷ codes "disableoutput" ∷ codes "enableoutput" ∷ codes "moveoutput"
    ∷ codes "newpartition" ∷ codes "partition" ∷ codes "pause" ∷ codes "play" ∷ codes "prio" ∷ codes "random" ∷ codes "repeat"
    ∷ codes "seek" ∷ codes "setvol" ∷ codes "single" ∷ codes "stop" ∷ []

abbrev pub is_of_state : List ℕ → Bool
is_of_state line = list_any (λ name. bytes_eq (first_word line) name) state_commands
