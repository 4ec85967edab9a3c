-- What the words of a line are, of whole texts (MPD protocol reference, Requests; what a word without quotes
-- may hold is this profile's).
use Rattle.std.specs.Prelude.{◌≡◌, ◌≢◌, ℕ, ◌+◌, ◌<◌, List, [], ◌∷◌, ◌++◌, length, true, false, ◌⊎◌}
use Rattle.mpd_text.specs.declared.lines.quoting.WordsFault.{WordsFault}
use Rattle.mpd_text.specs.declared.lines.quoting.WordsFault.TheVariants.{BadUnquoted, NoClosingQuote, NoSpaceAfterQuote, TooMany, NoMemory}
use Rattle.mpd_text.specs.Lines.Scan.{is_blank, is_bare}

abbrev pub AreBlanks : List ℕ → Type 0
AreBlanks [] = Unit {0}
AreBlanks (b ∷ bs) = (is_blank b ≡ true) × AreBlanks bs

abbrev pub AreBare : List ℕ → Type 0
AreBare [] = Unit {0}
AreBare (b ∷ bs) = (is_bare b ≡ true) × AreBare bs

-- between quotes is the word, each character by itself or after a backslash; a quote and a backslash are
-- always after one
abbrev pub IsInside : List ℕ → List ℕ → Type 0
IsInside inside [] = inside ≡ []
IsInside inside (c ∷ word) = (rest : List ℕ) × (((inside ≡ c ∷ rest) × (c ≢ 34) × (c ≢ 92)) ⊎ (inside ≡ 92 ∷ c ∷ rest)) × IsInside rest word

-- a text is a word, bare or in quotes
abbrev pub IsBareWord : List ℕ → List ℕ → Type 0
IsBareWord text word = (text ≡ word) × (0 < length word) × AreBare word

abbrev pub IsQuotedWord : List ℕ → List ℕ → Type 0
IsQuotedWord text word = (inside : List ℕ) × (text ≡ 34 ∷ (inside ++ 34 ∷ [])) × IsInside inside word

-- a word may end before this
abbrev pub EndsWord : List ℕ → Type 0
EndsWord [] = Unit {0}
EndsWord (b ∷ bs) = is_blank b ≡ true

-- a line begins with these words, and the rest is where a word may begin
abbrev pub Begins : List ℕ → List (List ℕ) → List ℕ → Type 0
Begins line [] rest = (blanks : List ℕ) × (line ≡ blanks ++ rest) × AreBlanks blanks
Begins line (word ∷ words) rest =
    (blanks text more : List ℕ) × (line ≡ blanks ++ (text ++ more)) × AreBlanks blanks × (IsBareWord text word ⊎ IsQuotedWord text word) × EndsWord more × Begins more words rest

-- a line is these words, and blanks between them and at both ends
abbrev pub Spells : List ℕ → List (List ℕ) → Type 0
Spells line words = Begins line words []

-- so many words come before the rest, and it goes wrong there in this way
abbrev pub GoesWrong : ℕ → List ℕ → WordsFault → Type 0
-- a word without quotes meets a byte that it cannot hold
GoesWrong count rest BadUnquoted =
    (count < 65) × (front : List ℕ) × (b : ℕ) × (more : List ℕ) × (rest ≡ front ++ b ∷ more) × AreBare front × (is_bare b ≡ false) × (is_blank b ≡ false) × (front ≡ [] → b ≢ 34)
-- the line ends between quotes, perhaps right after a backslash
GoesWrong count rest NoClosingQuote =
    (count < 65) × (inside word last : List ℕ) × (rest ≡ 34 ∷ (inside ++ last)) × IsInside inside word × ((last ≡ []) ⊎ (last ≡ 92 ∷ []))
-- no blank follows a closing quote
GoesWrong count rest NoSpaceAfterQuote =
    (count < 65) × (text word : List ℕ) × (b : ℕ) × (more : List ℕ) × (rest ≡ text ++ b ∷ more) × IsQuotedWord text word × (is_blank b ≡ false)
-- one word too many begins
GoesWrong count rest TooMany = (count ≡ 65) × (b : ℕ) × (more : List ℕ) × (rest ≡ b ∷ more) × (is_blank b ≡ false)
GoesWrong count rest NoMemory = ⊥

-- the line goes wrong after some words
abbrev pub IsFaulty : ℕ → List ℕ → WordsFault → Type 0
IsFaulty count line fault = (words : List (List ℕ)) × (rest : List ℕ) × Begins line words rest × GoesWrong (count + length words) rest fault
