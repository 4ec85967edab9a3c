-- Steps of the scan of a line.
use Rattle.std.proofs.Common.{◌≡◌, ℕ, ◌+◌, ◌<◌, get_or, drop, true, List, [], ◌∷◌, ◌++◌, length, Result, Ok, Err, refl, sym, ap, subst, ◌∙◌, append_assoc}
use Rattle.std.proofs.lemmas.List.{map-append, length_push, drop_more}
use Rattle.mpd_text.specs.declared.lines.quoting.WordsFault.{WordsFault}
use Rattle.mpd_text.specs.declared.lines.quoting.Reading.{Reading}
use Rattle.mpd_text.specs.declared.lines.quoting.QuotingState.{QuotingState}
use Rattle.mpd_text.specs.declared.lines.quoting.QuotingState.TheVariants.{Between, Bare, Closed}
use Rattle.mpd_text.specs.Lines.Scan.{after, scan, is_blank}
use Rattle.mpd_text.specs.Lines.Words.{outcome, bytes_of, Refuses}

pub after_nil : (r : Result (List (List ℕ)) WordsFault) → after [] r ≡ r
after_nil (Ok words) = refl
after_nil (Err fault) = refl

pub after_after : (words more : List (List ℕ)) (r : Result (List (List ℕ)) WordsFault) → after words (after more r) ≡ after (words ++ more) r
after_after words more (Ok last) = ap Ok (sym (append_assoc words more last))
after_after words more (Err fault) = refl

-- a word ends at a blank
pub word_ends : (old new : Reading) (b : ℕ) (rest : List ℕ) → (scan old.state (length old.words.items) old.word.items (b ∷ rest) ≡ after (old.word.items ∷ []) (scan Between (length old.words.items + 1) [] rest))
    → new.words.items ≡ old.words.items ++ old.word ∷ [] → new.word.items ≡ [] → new.state ≡ Between → outcome old (b ∷ rest) ≡ outcome new rest
unfolding outcome
word_ends old new b rest ends words word state =
    ap (after (bytes_of old.words)) ends ∙ after_after (bytes_of old.words) (old.word.items ∷ []) _
    ∙ rw (words, word, state, length_push, map-append) refl

pub closed_ends : (state : QuotingState) (count : ℕ) (word : List ℕ) (b : ℕ) (rest : List ℕ) → state ≡ Closed → is_blank b ≡ true → scan state count word (b ∷ rest) ≡ after (word ∷ []) (scan Between (count + 1) [] rest)
unfolding scan
closed_ends state count word b rest at blank = rw (at, blank) refl

pub bare_ends : (state : QuotingState) (count : ℕ) (word : List ℕ) (b : ℕ) (rest : List ℕ) → state ≡ Bare → is_blank b ≡ true → scan state count word (b ∷ rest) ≡ after (word ∷ []) (scan Between (count + 1) [] rest)
unfolding scan
bare_ends state count word b rest at blank = rw (at, blank) refl

-- the fault at a byte is the line's
pub refuses_at : (reading : Reading) (line : List ℕ) (i : ℕ) (fault : WordsFault) (whole : Result (List (List ℕ)) WordsFault) → i < length line
    → ((rest : List ℕ) → Refuses fault (outcome reading (get_or line i 0 ∷ rest))) → outcome reading (drop i line) ≡ whole → Refuses fault whole
refuses_at reading line i fault whole l refuses e =
    subst (Refuses fault) (ap (outcome reading) (sym (drop_more line i 0 l)) ∙ e) (refuses (drop (i + 1) line))
