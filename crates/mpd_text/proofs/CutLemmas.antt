-- How a stream splits after what has come of a line.
use Rattle.std.proofs.Common.{◌≡◌, ◌≢◌, inl, inr, ℕ, ◌+◌, ◌-◌, ◌≤◌, ◌<◌, suc, true, false, eqb, List, [], ◌∷◌, ◌++◌, length, take, drop, get_or, Some, None, refl, sym, ap, ◌∙◌, append_assoc, arith}
use Rattle.std.proofs.lemmas.List.{length-append, length-drop, length-take-le, get_or-drop, drop-drop, take-append-drop, take_all, take_more, drop_more}
use Rattle.std.proofs.lemmas.List.Elements.{Contains-append_left, Contains-append_right, Contains-append_cases, Contains-push, Contains-push_cases}
use Rattle.std.proofs.lemmas.Bool.Decides.{nat_tests}
use Rattle.mpd_text.specs.Lines.Cut.{onto_first, cut, fits, up_to_long, split, HasNoNewline, IsStart}

-- a newline at the start or after it

pub none_head : (b : ℕ) (bs : List ℕ) → HasNoNewline (b ∷ bs) → b ≢ 10
none_head b bs none = λ e. none (Contains-append_left (b ∷ []) bs 10 (rw e (Contains-push [] 10)))

pub none_tail : (b : ℕ) (bs : List ℕ) → HasNoNewline (b ∷ bs) → HasNoNewline bs
none_tail b bs none = λ h. none (Contains-append_right (b ∷ []) bs 10 h)

pub none_nil : HasNoNewline []
none_nil h = let l = h.1 in absurd (omega (arith, l))

pub none_append : (xs ys : List ℕ) → HasNoNewline xs → HasNoNewline ys → HasNoNewline (xs ++ ys)
none_append xs ys left right h = elim (Contains-append_cases xs ys 10 h) [ inl k ↦ left k | inr k ↦ right k ]

pub none_one : (b : ℕ) → b ≢ 10 → HasNoNewline (b ∷ [])
none_one b other h = elim (Contains-push_cases [] b 10 h) [ inl k ↦ none_nil k | inr e ↦ other e ]

pub none_cons : (b : ℕ) (bs : List ℕ) → b ≢ 10 → HasNoNewline bs → HasNoNewline (b ∷ bs)
none_cons b bs other none = none_append (b ∷ []) bs (none_one b other) none

not_newline : (b : ℕ) → b ≢ 10 → eqb b 10 ≡ false
not_newline b none = grind (arith, nat_tests)

-- a line and its newline come first
pub cut_line : (line rest : List ℕ) → HasNoNewline line → cut (line ++ 10 ∷ rest) ≡ record { lines = line ∷ (cut rest).lines; rest = (cut rest).rest }
unfolding cut
cut_line [] rest none = refl
cut_line (b ∷ bs) rest none = rw (not_newline b (none_head b bs none), cut_line bs rest (none_tail b bs none)) refl

pub cut_start : (start : List ℕ) → HasNoNewline start → cut start ≡ record { lines = []; rest = start }
unfolding cut
cut_start [] none = refl
cut_start (b ∷ bs) none = rw (not_newline b (none_head b bs none), cut_start bs (none_tail b bs none)) refl

-- the first part
pub first_of : List (List ℕ) → List ℕ → List ℕ
first_of [] rest = rest
first_of (line ∷ lines) rest = line

longer : (b n : ℕ) (lines : List (List ℕ)) (rest : List ℕ) → n ≤ length (first_of lines rest) → suc n ≤ length (first_of (onto_first b lines rest).lines (onto_first b lines rest).rest)
unfolding first_of
longer b n [] rest h = omega arith
longer b n (line ∷ lines) rest h = omega arith

-- bytes without a newline are in the first part
pub first_is_long : (front rest : List ℕ) → HasNoNewline front → length front ≤ length (first_of (cut (front ++ rest)).lines (cut (front ++ rest)).rest)
unfolding cut
first_is_long [] rest none = omega arith
first_is_long (b ∷ bs) rest none = rw (not_newline b (none_head b bs none)) (longer b (length bs) (cut (bs ++ rest)).lines (cut (bs ++ rest)).rest (first_is_long bs rest (none_tail b bs none)))

pub closes : (lines : List (List ℕ)) (rest : List ℕ) → 16384 < length (first_of lines rest) → up_to_long lines rest ≡ record { lines = []; next = None }
unfolding first_of
closes [] rest h = let e : fits rest ≡ false = grind (arith, nat_tests) in rw e refl
closes (line ∷ lines) rest h = let e : fits line ≡ false = grind (arith, nat_tests) in rw e refl

-- a line that is too long ends the split
pub split_long : (front rest : List ℕ) → HasNoNewline front → 16384 < length front → split (front ++ rest) ≡ record { lines = []; next = None }
unfolding split
split_long front rest none long =
    let h = first_is_long front rest none in
    let long_first : 16384 < length (first_of (cut (front ++ rest)).lines (cut (front ++ rest)).rest) = omega arith in
    closes (cut (front ++ rest)).lines (cut (front ++ rest)).rest long_first

pub split_line : (line rest : List ℕ) → IsStart line → split (line ++ 10 ∷ rest) ≡ record { lines = line ∷ (split rest).lines; next = (split rest).next }
unfolding split
split_line line rest is = let e : fits line ≡ true = grind (arith, nat_tests) in rw (cut_line line rest is.0, e) refl

pub split_start : (start : List ℕ) → IsStart start → split start ≡ record { lines = []; next = Some start }
unfolding split
split_start start is = let e : fits start ≡ true = grind (arith, nat_tests) in rw (cut_start start is.0, e) refl

-- how a stream splits by the offset of its first newline, or its end, after what has come of a line

parts : (xs : List ℕ) (i : ℕ) → i < length xs → get_or xs i 0 ≡ 10 → xs ≡ take i xs ++ 10 ∷ drop (i + 1) xs
parts xs i l e = sym (take-append-drop i xs) ∙ ap (λ (ys : List ℕ). take i xs ++ ys) (drop_more xs i 0 l ∙ ap (λ (b : ℕ). b ∷ drop (i + 1) xs) e)

pub line_ends : (partial piece : List ℕ) (i : ℕ) → HasNoNewline partial → HasNoNewline (take i piece) → length partial + i ≤ 16384 → i < length piece → get_or piece i 0 ≡ 10
    → split (partial ++ piece) ≡ record { lines = (partial ++ take i piece) ∷ (split (drop (i + 1) piece)).lines; next = (split (drop (i + 1) piece)).next }
line_ends partial piece i none front short l e =
    let whole : partial ++ piece ≡ (partial ++ take i piece) ++ 10 ∷ drop (i + 1) piece = ap (λ (xs : List ℕ). partial ++ xs) (parts piece i l e) ∙ sym (append_assoc partial (take i piece) (10 ∷ drop (i + 1) piece)) in
    let joined = length-append partial (take i piece) in
    let cut_off = length-take-le i piece (omega (arith, l)) in
    ap split whole ∙ split_line (partial ++ take i piece) (drop (i + 1) piece) (none_append partial (take i piece) none front, omega arith)

pub line_is_long : (partial piece : List ℕ) (i : ℕ) → HasNoNewline partial → HasNoNewline (take i piece) → 16384 < length partial + i → i ≤ length piece → split (partial ++ piece) ≡ record { lines = []; next = None }
line_is_long partial piece i none front long l =
    let whole : partial ++ piece ≡ (partial ++ take i piece) ++ drop i piece = ap (λ (xs : List ℕ). partial ++ xs) (sym (take-append-drop i piece)) ∙ sym (append_assoc partial (take i piece) (drop i piece)) in
    let joined = length-append partial (take i piece) in
    let cut_off = length-take-le i piece l in
    ap split whole ∙ split_long (partial ++ take i piece) (drop i piece) (none_append partial (take i piece) none front) (omega arith)

pub starts : (partial piece : List ℕ) (i : ℕ) → HasNoNewline partial → HasNoNewline (take i piece) → length partial + i ≤ 16384 → length piece ≤ i → IsStart (partial ++ piece)
starts partial piece i none front short l =
    let joined = length-append partial piece in
    (none_append partial piece none (rw (take_all i piece l) at front), omega arith)

pub line_goes_on : (partial piece : List ℕ) (i : ℕ) → HasNoNewline partial → HasNoNewline (take i piece) → length partial + i ≤ 16384 → length piece ≤ i → split (partial ++ piece) ≡ record { lines = []; next = Some (partial ++ piece) }
line_goes_on partial piece i none front short l = split_start (partial ++ piece) (starts partial piece i none front short l)

-- one more byte that is no newline
pub none_further : (bytes : List ℕ) (start i : ℕ) → start ≤ i → i < length bytes → get_or bytes i 0 ≢ 10 → HasNoNewline (take (i - start) (drop start bytes)) → HasNoNewline (take (i + 1 - start) (drop start bytes))
none_further bytes start i after_start l other none =
    let left = length-drop start bytes in
    let inside : i - start < length (drop start bytes) = omega arith in
    let step : i + 1 - start ≡ (i - start) + 1 = omega arith in
    let offset : start + (i - start) ≡ i = omega arith in
    let at : get_or (drop start bytes) (i - start) 0 ≡ get_or bytes i 0 = get_or-drop start bytes (i - start) 0 ∙ ap (λ (k : ℕ). get_or bytes k 0) offset in
    let b : get_or (drop start bytes) (i - start) 0 ≢ 10 = λ e. other (sym at ∙ e) in
    rw step (rw (take_more (drop start bytes) (i - start) 0 inside) (none_append (take (i - start) (drop start bytes)) (get_or (drop start bytes) (i - start) 0 ∷ []) none (none_one (get_or (drop start bytes) (i - start) 0) b)))

-- the same from an offset of a stream on

pub stream_line : (stream : List ℕ) (start end : ℕ) → start ≤ end → end < length stream → HasNoNewline (take (end - start) (drop start stream)) → end - start ≤ 16384 → get_or stream end 0 ≡ 10
    → split (drop start stream) ≡ record { lines = take (end - start) (drop start stream) ∷ (split (drop (end + 1) stream)).lines; next = (split (drop (end + 1) stream)).next }
stream_line stream start end after_start l none short e =
    let left = length-drop start stream in
    let inside : end - start < length (drop start stream) = omega arith in
    let offset : start + (end - start) ≡ end = omega arith in
    let at : get_or (drop start stream) (end - start) 0 ≡ 10 = get_or-drop start stream (end - start) 0 ∙ ap (λ (k : ℕ). get_or stream k 0) offset ∙ e in
    let same : drop (end - start + 1) (drop start stream) ≡ drop (end + 1) stream = drop-drop (end - start + 1) start stream ∙ ap (λ (k : ℕ). drop k stream) (omega arith) in
    let fits : 0 + (end - start) ≤ 16384 = omega arith in
    line_ends [] (drop start stream) (end - start) none_nil none fits inside at ∙ rw same refl

pub stream_long : (stream : List ℕ) (start end : ℕ) → start ≤ end → end ≤ length stream → HasNoNewline (take (end - start) (drop start stream)) → 16384 < end - start → split (drop start stream) ≡ record { lines = []; next = None }
stream_long stream start end after_start l none long =
    let left = length-drop start stream in
    let over : 16384 < 0 + (end - start) = omega arith in
    line_is_long [] (drop start stream) (end - start) none_nil none over (omega arith)

pub stream_rest : (stream : List ℕ) (start end : ℕ) (tail : List ℕ) → start ≤ end → length stream ≤ end → HasNoNewline (take (end - start) (drop start stream)) → end - start ≤ 16384
    → tail ≡ take (length stream - start) (drop start stream) → (split (drop start stream) ≡ record { lines = []; next = Some tail }) × IsStart tail
stream_rest stream start end tail after_start l none short e =
    let left = length-drop start stream in
    let fits : 0 + (end - start) ≤ 16384 = omega arith in
    let all : length (drop start stream) ≤ end - start = omega arith in
    let whole : tail ≡ drop start stream = e ∙ take_all (length stream - start) (drop start stream) (omega arith) in
    rw whole (line_goes_on [] (drop start stream) (end - start) none_nil none fits all, starts [] (drop start stream) (end - start) none_nil none fits all)
