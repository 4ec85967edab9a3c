-- Lines of a text, and the text of lines.
use Rattle.std.proofs.Common.{◌≡◌, ◌≢◌, ℕ, ◌<◌, ◌+◌, suc, zero, List, [], ◌∷◌, ◌++◌, length, take, get_or, false, cond, refl, sym, ap, subst, ◌∙◌, arith, inl, inr, ◌==◌, IsTrue, Option, Some, None, MatchOption, IfSome, count_by, append_assoc, append-nil, length-append, length-take, lit<, Result, Ok, Err, OnOk, OnErr}
use denote.Ref.{Bor}
use Rattle.std.proofs.lemmas.Grind.{flat_map-append}
use Rattle.std.proofs.lemmas.Str.Pattern.{IsSplitOnceResult, split_parts}
use Rattle.std.proofs.lemmas.List.Recursion.{is_count_by}
use Rattle.std.proofs.lemmas.Bool.Decides.{nat_tests}
use Rattle.std.specs.List.{list_any}
use Rattle.std.proofs.lemmas.Bool.{cases_Bool, not-true, or_parts, not_from_false}
use Rattle.shelf.specs.Lines.{newline, HasNoNewline, has_newline, are_single_lines, text_of, lines_of, ended, before}

abbrev pub Lacks : List ℕ → Type 0
Lacks text = (i : ℕ) → i < length text → get_or text i 0 ≢ newline

later : (b : ℕ) (text : List ℕ) → Lacks (b ∷ text) → Lacks text
later b text lacks i below = lacks (suc i) (omega arith)

first : (b : ℕ) (text : List ℕ) → Lacks (b ∷ text) → (b == newline) ≡ false
first b text lacks = grind (arith, lacks 0)

in_range : (text : List ℕ) (i d e : ℕ) → i < length text → get_or text i d ≡ get_or text i e
in_range [] i d e below = absurd (omega (arith, below))
in_range (b ∷ text) zero d e below = refl
in_range (b ∷ text) (suc i) d e below = in_range text i d e (omega (arith, below))

pub lacks_none : (line : List ℕ) → HasNoNewline line → Lacks line
lacks_none line none i below is = none (i, below, in_range line i newline 0 below ∙ is)

pub none_lacks : (line : List ℕ) → Lacks line → HasNoNewline line
none_lacks line lacks has = lacks has.0 has.1 (in_range line has.0 0 newline has.1 ∙ has.2)

pub has_none : (line : List ℕ) → Lacks line → has_newline line ≡ false
has_none [] lacks = refl
has_none (b ∷ line) lacks = rw (first b line lacks) (has_none line (later b line lacks))

pub lines_cut : (line more : List ℕ) → Lacks line → lines_of (line ++ newline ∷ more) ≡ line ∷ lines_of more
unfolding lines_of
lines_cut [] more lacks = refl
lines_cut (b ∷ line) more lacks = rw (first b line lacks, lines_cut line more (later b line lacks)) refl

pub lines_none : (text : List ℕ) → Lacks text → lines_of text ≡ []
unfolding lines_of
lines_none [] lacks = refl
lines_none (b ∷ text) lacks = rw (first b text lacks, lines_none text (later b text lacks)) refl

line_before : (line more : List ℕ) → has_newline line ≡ false → lines_of (line ++ newline ∷ more) ≡ line ∷ lines_of more
unfolding lines_of
line_before [] more none = refl
line_before (b ∷ line) more none =
    let parts = or_parts (b == newline) (has_newline line) none in
    rw (parts.0, line_before line more parts.1) refl

-- the lines of the text of single lines, before more, are these lines and those of the rest
pub lines_first : (uris : List (List ℕ)) (more : List ℕ) → IsTrue (are_single_lines uris) → lines_of (text_of uris ++ more) ≡ uris ++ lines_of more
lines_first [] more single = refl
lines_first (uri ∷ uris) more single =
    let parts = or_parts (has_newline uri) (list_any has_newline uris) (not-true _ single) in
    rw (append_assoc {A = ℕ} (ended uri) (text_of uris) more, append_assoc {A = ℕ} uri (newline ∷ []) (text_of uris ++ more)) (line_before uri (text_of uris ++ more) parts.0 ∙ ap (λ rest. uri ∷ rest) (lines_first uris more (not_from_false _ parts.1)))

single_before : (b : ℕ) (lines : List (List ℕ)) → (b == newline) ≡ false → IsTrue (are_single_lines lines) → IsTrue (are_single_lines (before b lines))
single_before b [] other single = refl
single_before b (line ∷ lines) other single =
    rw other single

pub lines_are_single : (text : List ℕ) → IsTrue (are_single_lines (lines_of text))
unfolding lines_of
lines_are_single [] = refl
lines_are_single (b ∷ text) = elim (cases_Bool (b == newline)) [
  | inl is ↦ rw is (lines_are_single text)
  | inr other ↦ rw other (single_before b (lines_of text) other (lines_are_single text))
]

-- what a newline ends is the text of its lines

abbrev pub IsWhole : List ℕ → Type 0
IsWhole text = text ≡ text_of (lines_of text)

pub nothing_whole : IsWhole []
unfolding lines_of
nothing_whole = refl

whole_more : (b : ℕ) (text : List ℕ) → IsWhole text → 0 < length text → IsWhole (b ∷ text)
unfolding lines_of
whole_more b text whole long = elim (cases_Bool (b == newline)) [
  | inl is ↦ rw is (let same : b ≡ newline = grind (arith, is) in cc)
  | inr other ↦ rw other (at (lines_of text) whole)
]
  where
    at : (lines : List (List ℕ)) → text ≡ text_of lines → b ∷ text ≡ text_of (before b lines)
    at [] is = absurd (omega (arith, long, ap length is))
    at (line ∷ lines) is = ap (λ more. b ∷ more) is

whole_one : (b : ℕ) → b ≡ newline → IsWhole (b ∷ [])
unfolding lines_of
whole_one b same = rw same refl

pub whole_taken : (text : List ℕ) (k : ℕ) → k < length text → get_or text k 0 ≡ newline → IsWhole (take (suc k) text)
whole_taken [] k below is = absurd (omega (arith, below))
whole_taken (b ∷ text) zero below is = whole_one b is
whole_taken (b ∷ text) (suc k) below is =
    whole_more b (take (suc k) text) (whole_taken text k (omega (arith, below)) is) (rw length-take (omega (arith, below)))

pub lines_taken : (text : List ℕ) (k : ℕ) → k < length text → get_or text k 0 ≡ newline → ((i : ℕ) → k < i → i < length text → get_or text i 0 ≢ newline)
    → lines_of (take (suc k) text) ≡ lines_of text
unfolding lines_of
lines_taken [] k below is none = absurd (omega (arith, below))
lines_taken (b ∷ text) zero below is none =
    let rest : lines_of text ≡ [] = lines_none text (λ i within. none (suc i) (omega arith) (omega (arith, within))) in
    rw rest refl
lines_taken (b ∷ text) (suc k) below is none =
    rw (lines_taken text k (omega (arith, below)) is (λ i above within. none (suc i) (omega (arith, above)) (omega (arith, within)))) refl

length_before : (b : ℕ) (lines : List (List ℕ)) → length (before b lines) ≡ length lines
length_before b [] = refl
length_before b (line ∷ lines) = refl

counted_more : (b : ℕ) (text : List ℕ) → length (lines_of (b ∷ text)) ≡ cond (b == newline) (1 + length (lines_of text)) (length (lines_of text))
unfolding lines_of
counted_more b text = elim (cases_Bool (b == newline)) [
  | inl is ↦ rw is (omega arith)
  | inr other ↦ rw other (length_before b (lines_of text))
]

none_counted : length (lines_of []) ≡ 0
unfolding lines_of
none_counted = refl

pub lines_counted : (text : List ℕ) → count_by (λ b. b == newline) text ≡ length (lines_of text)
lines_counted text = sym (is_count_by (λ text. length (lines_of text)) (λ b. b == newline) none_counted counted_more text)

some_long : (n : ℕ) → 0 < n → (n == 0) ≡ false
some_long n some = grind (arith, nat_tests)

ended_long : (line more : List ℕ) → 0 < length (ended line ++ more)
ended_long line more = simp length-append (omega arith)

pub empty_together : (text : List ℕ) (lines : List (List ℕ)) → text ≡ text_of lines → (length text == 0) ≡ (length lines == 0)
empty_together text [] is = rw is refl
empty_together text (line ∷ lines) is =
    let long : 0 < length text = omega (arith, ap length is, ended_long line (text_of lines)) in
    let some : 0 < length (line ∷ lines) = omega arith in
    some_long (length text) long ∙ sym (some_long (length (line ∷ lines)) some)

pub lines_pushed : (text line : List ℕ) → IsWhole text → HasNoNewline line → lines_of (text ++ ended line) ≡ lines_of text ++ line ∷ []
unfolding lines_of
lines_pushed text line whole none =
    let lines : List (List ℕ) = lines_of text in
    ap (λ front. lines_of (front ++ ended line)) whole
    ∙ lines_first (lines_of text) (ended line) (lines_are_single text)
    ∙ ap (λ more. lines_of text ++ more) (lines_cut line [] (lacks_none line none))

pub whole_pushed : (text line : List ℕ) → IsWhole text → HasNoNewline line → IsWhole (text ++ ended line)
whole_pushed text line whole none =
    ap (λ front. front ++ ended line) whole
    ∙ ap (λ end. text_of (lines_of text) ++ end) (sym (append-nil (ended line)))
    ∙ sym (flat_map-append ended (lines_of text) (line ∷ []))
    ∙ ap text_of (sym (lines_pushed text line whole none))

pub next_lines : (text : List ℕ) (r : Option (Bor (List ℕ) × Bor (List ℕ))) → IsSplitOnceResult 10 text r → MatchOption r (lines_of text ≡ []) (λ parts. lines_of text ≡ parts.0.now ∷ lines_of parts.1.now)
next_lines text None cut = lines_none text (split_parts 10 text None cut (lit< tt))
next_lines text (Some x) cut =
    let parts = split_parts 10 text (Some x) cut (lit< tt) in
    ap lines_of parts.0 ∙ lines_cut x.0.now x.1.now parts.1

pub next_single : (text : List ℕ) (r : Option (Bor (List ℕ) × Bor (List ℕ))) → IsSplitOnceResult 10 text r → IfSome r (λ parts. HasNoNewline parts.0.now)
next_single text None cut = tt
next_single text (Some x) cut = none_lacks x.0.now (split_parts 10 text (Some x) cut (lit< tt)).1

pub whole_after : {E : Type 0} (r : Result (Unit {0}) E) (old new uri : List ℕ) → IsWhole old → HasNoNewline uri → OnOk r (new ≡ old ++ ended uri) → OnErr r (new ≡ old) → IsWhole new
whole_after (Ok x) old new uri whole none ok err = subst IsWhole (sym ok) (whole_pushed old uri whole none)
whole_after (Err e) old new uri whole none ok err = subst IsWhole (sym err) whole

pub lines_after : {E : Type 0} (r : Result (Unit {0}) E) (old new uri : List ℕ) → IsWhole old → HasNoNewline uri → OnOk r (new ≡ old ++ ended uri) → OnOk r (lines_of new ≡ lines_of old ++ uri ∷ [])
lines_after (Ok x) old new uri whole none ok = ap lines_of ok ∙ lines_pushed old uri whole none
lines_after (Err e) old new uri whole none ok = tt
