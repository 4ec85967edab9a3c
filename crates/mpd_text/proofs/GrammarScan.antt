-- What is spelled so is scanned so.
use Rattle.std.proofs.Common.{◌≡◌, ◌≢◌, ◌⊎◌, inl, inr, ℕ, suc, ◌+◌, ◌<◌, ◌≤◌, true, false, eqb, List, [], ◌∷◌, ◌++◌, length, Ok, Err, refl, sym, ap, ◌∙◌, append_assoc, arith}
use Rattle.std.proofs.lemmas.List.{append-nil}
use Rattle.std.proofs.lemmas.Bool.Decides.{nat_tests}
use Rattle.mpd_text.specs.declared.lines.quoting.WordsFault.{WordsFault}
use Rattle.mpd_text.specs.declared.lines.quoting.WordsFault.TheVariants.{BadUnquoted, NoClosingQuote, NoSpaceAfterQuote, TooMany, NoMemory}
use Rattle.mpd_text.specs.declared.lines.quoting.QuotingState.{QuotingState}
use Rattle.mpd_text.specs.declared.lines.quoting.QuotingState.TheVariants.{Between, Bare, Quoted, Closed}
use Rattle.mpd_text.specs.Lines.Scan.{is_blank, is_bare, after, scan, words_of}
use Rattle.mpd_text.specs.Lines.Grammar.{AreBlanks, AreBare, IsInside, IsBareWord, IsQuotedWord, EndsWord, Begins, Spells, GoesWrong, IsFaulty}
use Rattle.mpd_text.proofs.Scans.{after_nil, after_after}

pub bare_is : (b : ℕ) → is_bare b ≡ true → (is_blank b ≡ false) × (eqb b 34 ≡ false)
bare_is b e = (grind (arith, nat_tests), grind (arith, nat_tests))

pub not_quote : (b : ℕ) → b ≢ 34 → eqb b 34 ≡ false
not_quote b h = grind (arith, nat_tests)

pub not_backslash : (b : ℕ) → b ≢ 92 → eqb b 92 ≡ false
not_backslash b h = grind (arith, nat_tests)

pub not_full : (count : ℕ) → count < 65 → eqb count 65 ≡ false
not_full count h = grind (arith, nat_tests)

blanks_scan : (blanks : List ℕ) (count : ℕ) (word rest : List ℕ) → AreBlanks blanks → scan Between count word (blanks ++ rest) ≡ scan Between count word rest
unfolding scan
blanks_scan [] count word rest are = refl
blanks_scan (b ∷ bs) count word rest are = rw are.0 (blanks_scan bs count word rest are.1)

bare_scan : (front : List ℕ) (count : ℕ) (word rest : List ℕ) → AreBare front → scan Bare count word (front ++ rest) ≡ scan Bare count (word ++ front) rest
unfolding scan
bare_scan [] count word rest are = ap (λ (w : List ℕ). scan Bare count w rest) (sym (append-nil word))
bare_scan (b ∷ bs) count word rest are =
    rw ((bare_is b are.0).0, are.0) (bare_scan bs count (word ++ b ∷ []) rest are.1 ∙ ap (λ (w : List ℕ). scan Bare count w rest) (append_assoc word (b ∷ []) bs))

inside_scan : (text inside : List ℕ) (count : ℕ) (word rest : List ℕ) → IsInside inside text → scan Quoted count word (inside ++ rest) ≡ scan Quoted count (word ++ text) rest
unfolding scan
inside_scan [] inside count word rest is = rw (is, append-nil) refl
inside_scan (c ∷ text) inside count word rest is =
    let more = inside_scan text is.0 count (word ++ c ∷ []) rest is.2 ∙ ap (λ (w : List ℕ). scan Quoted count w rest) (append_assoc word (c ∷ []) text) in
    elim is.1 [ inl h ↦ rw (h.0, not_quote c h.1, not_backslash c h.2) more | inr h ↦ rw h more ]

-- where a word ends
ends_scan : (state : QuotingState) (count : ℕ) (word more : List ℕ) → ((state ≡ Bare) ⊎ (state ≡ Closed)) → EndsWord more → scan state count word more ≡ after (word ∷ []) (scan Between (count + 1) [] more)
unfolding scan
ends_scan state count word [] at ends = elim at [ inl e ↦ rw e refl | inr e ↦ rw e refl ]
ends_scan state count word (b ∷ more) at ends = elim at [ inl e ↦ rw (e, ends) refl | inr e ↦ rw (e, ends) refl ]

bare_begins : (b : ℕ) (count : ℕ) (rest : List ℕ) → is_bare b ≡ true → count < 65 → scan Between count [] (b ∷ rest) ≡ scan Bare count (b ∷ []) rest
unfolding scan
bare_begins b count rest is few = rw ((bare_is b is).0, not_full count few, is, (bare_is b is).1) refl

quote_begins : (count : ℕ) (rest : List ℕ) → count < 65 → scan Between count [] (34 ∷ rest) ≡ scan Quoted count [] rest
unfolding scan
quote_begins count rest few = rw (not_full count few) refl

quote_ends : (count : ℕ) (word rest : List ℕ) → scan Quoted count word (34 ∷ rest) ≡ scan Closed count word rest
unfolding scan
quote_ends count word rest = refl

pub bare_word_scan : (word more : List ℕ) (count : ℕ) → count < 65 → 0 < length word → AreBare word → scan Between count [] (word ++ more) ≡ scan Bare count word more
bare_word_scan [] more count few some are = absurd (omega arith)
bare_word_scan (b ∷ bs) more count few some are = bare_begins b count (bs ++ more) are.0 few ∙ bare_scan bs count (b ∷ []) more are.1

pub quoted_word_scan : (text word more : List ℕ) (count : ℕ) → count < 65 → IsQuotedWord text word → scan Between count [] (text ++ more) ≡ scan Closed count word more
quoted_word_scan text word more count few is =
    ap (λ (t : List ℕ). scan Between count [] (t ++ more)) is.1 ∙ quote_begins count ((is.0 ++ 34 ∷ []) ++ more) few
    ∙ ap (scan Quoted count []) (append_assoc is.0 (34 ∷ []) more) ∙ inside_scan word is.0 count [] (34 ∷ more) is.2 ∙ quote_ends count word more

word_scan : (text word more : List ℕ) (count : ℕ) → count < 65 → (IsBareWord text word ⊎ IsQuotedWord text word) → EndsWord more → scan Between count [] (text ++ more) ≡ after (word ∷ []) (scan Between (count + 1) [] more)
word_scan text word more count few is ends = elim is [
  | inl h ↦ ap (λ (t : List ℕ). scan Between count [] (t ++ more)) h.0 ∙ bare_word_scan word more count few h.1 h.2 ∙ ends_scan Bare count word more (inl refl) ends
  | inr h ↦ quoted_word_scan text word more count few h ∙ ends_scan Closed count word more (inr refl) ends
]

begins_scan : (words : List (List ℕ)) (line rest : List ℕ) (count : ℕ) → count + length words ≤ 65 → Begins line words rest → scan Between count [] line ≡ after words (scan Between (count + length words) [] rest)
begins_scan [] line rest count few begins =
    ap (scan Between count []) begins.1 ∙ blanks_scan begins.0 count [] rest begins.2 ∙ ap (λ (n : ℕ). scan Between n [] rest) (omega arith) ∙ sym (after_nil (scan Between (count + 0) [] rest))
begins_scan (word ∷ words) line rest count few begins =
    let blanks = begins.0 in let text = begins.1 in let more = begins.2 in
    let fewer : count < 65 = omega arith in
    let fewer_left : (count + 1) + length words ≤ 65 = omega arith in
    let same : (count + 1) + length words ≡ count + suc (length words) = omega arith in
    ap (scan Between count []) begins.3 ∙ blanks_scan blanks count [] (text ++ more) begins.4 ∙ word_scan text word more count fewer begins.5 begins.6
    ∙ ap (after (word ∷ [])) (begins_scan words more rest (count + 1) fewer_left begins.7)
    ∙ after_after (word ∷ []) words (scan Between ((count + 1) + length words) [] rest) ∙ ap (λ (n : ℕ). after (word ∷ words) (scan Between n [] rest)) same

scan_end : (count : ℕ) → scan Between count [] [] ≡ Ok []
unfolding scan
scan_end count = refl

-- a line of these words is read so
pub spelled_is_read : (line : List ℕ) (words : List (List ℕ)) → length words ≤ 65 → Spells line words → words_of line ≡ Ok words
spelled_is_read line words few spells =
    begins_scan words line [] 0 (omega arith) spells ∙ ap (after words) (scan_end (0 + length words)) ∙ ap Ok (append-nil words)

bare_stops : (count : ℕ) (word : List ℕ) (b : ℕ) (more : List ℕ) → is_bare b ≡ false → is_blank b ≡ false → scan Bare count word (b ∷ more) ≡ Err BadUnquoted
unfolding scan
bare_stops count word b more bare blank = rw (blank, bare) refl

none_begins : (count : ℕ) (b : ℕ) (more : List ℕ) → count < 65 → is_bare b ≡ false → is_blank b ≡ false → b ≢ 34 → scan Between count [] (b ∷ more) ≡ Err BadUnquoted
unfolding scan
none_begins count b more few bare blank other = rw (blank, not_full count few, bare, not_quote b other) refl

bad_scan : (front : List ℕ) (count : ℕ) (b : ℕ) (more : List ℕ) → count < 65 → AreBare front → is_bare b ≡ false → is_blank b ≡ false → (front ≡ [] → b ≢ 34) → scan Between count [] (front ++ b ∷ more) ≡ Err BadUnquoted
bad_scan [] count b more few are bare blank other = none_begins count b more few bare blank (other refl)
bad_scan (c ∷ front) count b more few are bare blank other = bare_word_scan (c ∷ front) (b ∷ more) count few (omega arith) are ∙ bare_stops count (c ∷ front) b more bare blank

open_scan : (count : ℕ) (word last : List ℕ) → ((last ≡ []) ⊎ (last ≡ 92 ∷ [])) → scan Quoted count word last ≡ Err NoClosingQuote
unfolding scan
open_scan count word last at = elim at [ inl e ↦ rw e refl | inr e ↦ rw e refl ]

closed_stops : (count : ℕ) (word : List ℕ) (b : ℕ) (more : List ℕ) → is_blank b ≡ false → scan Closed count word (b ∷ more) ≡ Err NoSpaceAfterQuote
unfolding scan
closed_stops count word b more blank = rw blank refl

many_scan : (count : ℕ) (b : ℕ) (more : List ℕ) → count ≡ 65 → is_blank b ≡ false → scan Between count [] (b ∷ more) ≡ Err TooMany
unfolding scan
many_scan count b more full blank = rw (full, blank) refl

wrong_scan : (count : ℕ) (rest : List ℕ) (fault : WordsFault) → GoesWrong count rest fault → (count ≤ 65) × (scan Between count [] rest ≡ Err fault)
wrong_scan count rest BadUnquoted h =
    (omega (arith, h.0), ap (scan Between count []) h.4 ∙ bad_scan h.1 count h.2 h.3 h.0 h.5 h.6 h.7 h.8)
wrong_scan count rest NoClosingQuote h =
    (omega (arith, h.0), ap (scan Between count []) h.4 ∙ quote_begins count (h.1 ++ h.3) h.0 ∙ inside_scan h.2 h.1 count [] h.3 h.5 ∙ open_scan count h.2 h.3 h.6)
wrong_scan count rest NoSpaceAfterQuote h =
    (omega (arith, h.0), ap (scan Between count []) h.5 ∙ quoted_word_scan h.1 h.2 (h.3 ∷ h.4) count h.0 h.6 ∙ closed_stops count h.2 h.3 h.4 h.7)
wrong_scan count rest TooMany h = (omega (arith, h.0), ap (scan Between count []) h.3 ∙ many_scan count h.1 h.2 h.0 h.4)
wrong_scan count rest NoMemory h = absurd h

-- a line that goes wrong so is refused so
pub faulty_is_refused : (line : List ℕ) (fault : WordsFault) → IsFaulty 0 line fault → words_of line ≡ Err fault
faulty_is_refused line fault h =
    let wrong = wrong_scan (0 + length h.0) h.1 fault h.3 in
    begins_scan h.0 line h.1 0 wrong.0 h.2 ∙ ap (after h.0) wrong.1
