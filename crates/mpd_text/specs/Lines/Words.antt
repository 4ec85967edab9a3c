-- What the reader of words gives (MPD protocol reference, Requests).
use Rattle.std.specs.Prelude.{◌≡◌, ◌≤◌, ℕ, List, length, map, Result, Ok, Err, String, string_bytes}
use Rattle.std.specs.Global.{Vec, Global}
use Rattle.mpd_text.specs.declared.lines.quoting.WordsFault.{WordsFault}
use Rattle.mpd_text.specs.declared.lines.quoting.WordsFault.TheVariants.{BadUnquoted, NoClosingQuote, NoSpaceAfterQuote, TooMany, NoMemory}
use Rattle.mpd_text.specs.declared.lines.quoting.Reading.{Reading}
use Rattle.mpd_text.specs.Lines.Grammar.{Spells}
use Rattle.mpd_text.specs.Lines.Scan.{after, scan, words_of}

abbrev pub bytes_of : Vec (Vec ℕ) → List (List ℕ)
bytes_of words = map (λ word. word.items) words.items

abbrev pub texts_of : Vec (String Global) → List (List ℕ)
texts_of words = map string_bytes words.items

-- what a line gives that is read so far and has this rest
unfoldable pub outcome : Reading → List ℕ → Result (List (List ℕ)) WordsFault
outcome reading rest = after (bytes_of reading.words) (scan reading.state (length reading.words.items) reading.word.items rest)

-- the fault is the one that comes, unless memory ran out
abbrev pub Refuses : WordsFault → Result (List (List ℕ)) WordsFault → Type 0
Refuses NoMemory outcome = Unit {0}
Refuses BadUnquoted outcome = outcome ≡ Err BadUnquoted
Refuses NoClosingQuote outcome = outcome ≡ Err NoClosingQuote
Refuses NoSpaceAfterQuote outcome = outcome ≡ Err NoSpaceAfterQuote
Refuses TooMany outcome = outcome ≡ Err TooMany

abbrev pub Gives : {W : Type 0} → (W → List (List ℕ)) → Result W WordsFault → Result (List (List ℕ)) WordsFault → Type 0
Gives view (Ok words) outcome = outcome ≡ Ok (view words)
Gives view (Err fault) outcome = Refuses fault outcome

-- a line is these words, at most 65
abbrev pub AreWordsOf : List ℕ → List (List ℕ) → Type 0
AreWordsOf line words = Spells line words × (length words ≤ 65)

-- words that spell a line, at most 65, are those that are read of it
abbrev pub AreReadIfSpelt : List ℕ → List (List ℕ) → Type 0
AreReadIfSpelt line words = length words ≤ 65 → Spells line words → words_of line ≡ Ok words

-- texts that spell a line, at most 65, are what is given, unless memory ran out
abbrev pub GivesWhatIsSpelt : {W : Type 0} → (W → List (List ℕ)) → List ℕ → Result W WordsFault → Type 0
GivesWhatIsSpelt view line r = (texts : List (List ℕ)) → length texts ≤ 65 → Spells line texts → Gives view r (Ok texts)
