-- The words of a line, read from its start (MPD protocol reference, Requests; the limit is this profile's).
use Rattle.std.specs.Prelude.{ℕ, ◌+◌, List, [], ◌∷◌, ◌++◌, Bool, not, ◌||◌, ◌&&◌, ◌==◌, nat_lt, if◌then◌else◌, Result, Ok, Err}
use Rattle.mpd_text.specs.declared.lines.quoting.WordsFault.{WordsFault}
use Rattle.mpd_text.specs.declared.lines.quoting.WordsFault.TheVariants.{BadUnquoted, NoClosingQuote, NoSpaceAfterQuote, TooMany}
use Rattle.mpd_text.specs.declared.lines.quoting.QuotingState.{QuotingState}
use Rattle.mpd_text.specs.declared.lines.quoting.QuotingState.TheVariants.{Between, Bare, Quoted, Escaped, Closed}

-- a space or a tab
abbrev pub is_blank : ℕ → Bool
is_blank b = (b == 32) || (b == 9)

-- what may be in a word without quotes: no control, blank, or quotation mark
abbrev pub is_bare : ℕ → Bool
is_bare b = nat_lt 32 b && (not (b == 34) && not (b == 39))

abbrev pub after : List (List ℕ) → Result (List (List ℕ)) WordsFault → Result (List (List ℕ)) WordsFault
after words (Ok more) = Ok (words ++ more)
after words (Err fault) = Err fault

-- what the rest of a line gives at an offset, after so many words and the start of one
unfoldable pub scan : QuotingState → ℕ → List ℕ → List ℕ → Result (List (List ℕ)) WordsFault
scan Between count word [] = Ok []
scan Between count word (b ∷ bs) =
    if is_blank b then scan Between count word bs
    else (if count == 65 then Err TooMany
    else (if b == 34 then scan Quoted count word bs
    else (if is_bare b then scan Bare count (word ++ b ∷ []) bs
    else Err BadUnquoted)))
scan Bare count word [] = Ok (word ∷ [])
scan Bare count word (b ∷ bs) =
    if is_blank b then after (word ∷ []) (scan Between (count + 1) [] bs)
    else (if is_bare b then scan Bare count (word ++ b ∷ []) bs
    else Err BadUnquoted)
scan Quoted count word [] = Err NoClosingQuote
scan Quoted count word (b ∷ bs) =
    if b == 34 then scan Closed count word bs
    else (if b == 92 then scan Escaped count word bs
    else scan Quoted count (word ++ b ∷ []) bs)
scan Escaped count word [] = Err NoClosingQuote
scan Escaped count word (b ∷ bs) = scan Quoted count (word ++ b ∷ []) bs
scan Closed count word [] = Ok (word ∷ [])
scan Closed count word (b ∷ bs) =
    if is_blank b then after (word ∷ []) (scan Between (count + 1) [] bs)
    else Err NoSpaceAfterQuote

-- the words of a line, or its first fault from the left
abbrev pub words_of : List ℕ → Result (List (List ℕ)) WordsFault
words_of line = scan Between 0 [] line
