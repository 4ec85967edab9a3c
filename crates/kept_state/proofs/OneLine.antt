-- One line more of a text is told.
use Rattle.std.proofs.Common.{◌≡◌, ◌∙◌, ◌+◌, ◌<◌, ℕ, suc, Bool, true, false, List, [], ◌∷◌, Result, Ok, Err, IfOk, refl, sym, ap, subst, inl, inr, zero-add, add_assoc, add-one, add-zero, drop, drop-cons, get_or, length}
use Rattle.kept_state.specs.Telling.{TellsLine, TellsSteps, TellsWithin, begins, count_of, ends, is_empty, listed, steps_in, steps_left, within_after}
use Rattle.kept_state.specs.declared.telling.Course.{Course}
use Rattle.kept_state.specs.declared.telling.Course.TheVariants as course

-- nothing more was refused
pub none_more : {S : Type 0} (R : S → List ℕ → Bool → S → Type 0) (steps : List (List (List ℕ))) (before after : S) (n : ℕ)
    → TellsSteps R steps before n after → TellsSteps R steps before (0 + n) after
none_more R steps before after n told = subst (λ m. TellsSteps R steps before m after) (sym (zero-add n)) told

-- nothing is told of a step without lines
no_step : {S : Type 0} (R : S → List ℕ → Bool → S → Type 0) (steps : List (List (List ℕ))) (before after : S) (n : ℕ)
    → TellsSteps R steps before n after → TellsSteps R ([] ∷ steps) before (0 + n) after
no_step R steps before after n told = (before, 0, n, (refl, refl), told, refl)

pub begin_told : {S : Type 0} (R : S → List ℕ → Bool → S → Type 0) (line : List ℕ) (at : Course) (s : S) → begins line ≡ true
    → TellsLine R line at course.Within s false s
begin_told R line course.Alone s is lines n after told = rw is (none_more R (listed lines ∷ steps_in true lines) s after n told)
begin_told R line course.Within s is lines n after told = rw is (no_step R (listed lines ∷ steps_in true lines) s after n told)
begin_told R line course.PassedOver s is lines n after told = rw is (none_more R (listed lines ∷ steps_in true lines) s after n told)

pub end_told : {S : Type 0} (R : S → List ℕ → Bool → S → Type 0) (line : List ℕ) (at : Course) (s : S) → begins line ≡ false → ends line ≡ true
    → TellsLine R line at course.Alone s false s
end_told R line course.Alone s other is lines n after told = rw (other, is) (none_more R (steps_in false lines) s after n told)
end_told R line course.Within s other is lines n after told = rw (other, is) (no_step R (steps_in false lines) s after n told)
end_told R line course.PassedOver s other is lines n after told = rw (other, is) (none_more R (steps_in false lines) s after n told)

pub empty_told : {S : Type 0} (R : S → List ℕ → Bool → S → Type 0) (line : List ℕ) (at : Course) (s : S)
    → begins line ≡ false → ends line ≡ false → is_empty line ≡ true → TellsLine R line at at s false s
empty_told R line course.Alone s other more is lines n after told = rw (other, more, is) (none_more R (steps_in false lines) s after n told)
empty_told R line course.Within s other more is lines n after told = rw (other, more, is) (none_more R (listed lines ∷ steps_in true lines) s after n told)
empty_told R line course.PassedOver s other more is lines n after told = rw (other, more) (none_more R (steps_in true lines) s after n told)

passed_over : {S : Type 0} (R : S → List ℕ → Bool → S → Type 0) (line : List ℕ) (s : S)
    → begins line ≡ false → ends line ≡ false → TellsLine R line course.PassedOver course.PassedOver s false s
passed_over R line s other more lines n after told = rw (other, more) (none_more R (steps_in true lines) s after n told)

alone_line : {S : Type 0} (R : S → List ℕ → Bool → S → Type 0) (line : List ℕ) (s t : S) (is_refused : Bool)
    → begins line ≡ false → ends line ≡ false → is_empty line ≡ false → R s line is_refused t → TellsLine R line course.Alone course.Alone s is_refused t
alone_line R line s t true other more full heard lines n after told = rw (other, more, full) (t, 1, n, inl (heard, refl), told, refl)
alone_line R line s t false other more full heard lines n after told = rw (other, more, full) (t, 0, n, inr (t, heard, (refl, refl)), told, refl)

within_line : {S : Type 0} (R : S → List ℕ → Bool → S → Type 0) (line : List ℕ) (s t : S) (is_refused : Bool)
    → begins line ≡ false → ends line ≡ false → is_empty line ≡ false → R s line is_refused t
    → TellsLine R line course.Within (within_after is_refused) s is_refused t
within_line R line s t true other more full heard lines n after told = rw (other, more, full) (t, 1, n, inl (heard, refl), told, refl)
within_line R line s t false other more full heard lines n after (next, of_step, of_others, step, others, sum) =
    rw (other, more, full) (next, of_step, of_others, inr (t, heard, step), others, zero-add n ∙ sum)

alone_told : {S E : Type 0} (R : S → List ℕ → Bool → S → Type 0) (line : List ℕ) (s t : S) (r : Result (Bool × Course) E)
    → begins line ≡ false → ends line ≡ false → is_empty line ≡ false → IfOk r (λ told. R s line told.0 t × (told.1 ≡ course.Alone))
    → IfOk r (λ told. TellsLine R line course.Alone told.1 s told.0 t)
alone_told R line s t (Ok told) other more full heard =
    subst (λ at. TellsLine R line course.Alone at s told.0 t) (sym heard.1) (alone_line R line s t told.0 other more full heard.0)
alone_told R line s t (Err e) other more full heard = heard

within_told : {S E : Type 0} (R : S → List ℕ → Bool → S → Type 0) (line : List ℕ) (s t : S) (r : Result (Bool × Course) E)
    → begins line ≡ false → ends line ≡ false → is_empty line ≡ false → IfOk r (TellsWithin R line s t)
    → IfOk r (λ told. TellsLine R line course.Within told.1 s told.0 t)
within_told R line s t (Ok told) other more full heard =
    subst (λ at. TellsLine R line course.Within at s told.0 t) (sym heard.1) (within_line R line s t told.0 other more full heard.0)
within_told R line s t (Err e) other more full heard = heard

pub passed_at : {S : Type 0} (R : S → List ℕ → Bool → S → Type 0) (line : List ℕ) (at : Course) (s : S)
    → begins line ≡ false → ends line ≡ false → at ≡ course.PassedOver → TellsLine R line at course.PassedOver s false s
passed_at R line at s other more is = subst (λ a. TellsLine R line a course.PassedOver s false s) (sym is) (passed_over R line s other more)

pub alone_at : {S E : Type 0} (R : S → List ℕ → Bool → S → Type 0) (line : List ℕ) (at : Course) (s t : S) (r : Result (Bool × Course) E)
    → begins line ≡ false → ends line ≡ false → is_empty line ≡ false → at ≡ course.Alone → IfOk r (λ told. R s line told.0 t × (told.1 ≡ course.Alone))
    → IfOk r (λ told. TellsLine R line at told.1 s told.0 t)
alone_at R line at s t r other more full is heard =
    subst (λ a. IfOk r (λ told. TellsLine R line a told.1 s told.0 t)) (sym is) (alone_told R line s t r other more full heard)

pub within_at : {S E : Type 0} (R : S → List ℕ → Bool → S → Type 0) (line : List ℕ) (at : Course) (s t : S) (r : Result (Bool × Course) E)
    → begins line ≡ false → ends line ≡ false → is_empty line ≡ false → at ≡ course.Within → IfOk r (TellsWithin R line s t)
    → IfOk r (λ told. TellsLine R line at told.1 s told.0 t)
within_at R line at s t r other more full is heard =
    subst (λ a. IfOk r (λ told. TellsLine R line a told.1 s told.0 t)) (sym is) (within_told R line s t r other more full heard)

-- ---- all lines

-- what was told so far, and then what is left, is the whole text
abbrev pub LeadsOn : {S : Type 0} → (S → List ℕ → Bool → S → Type 0) → List (List ℕ) → S → ℕ → Course → ℕ → S → Type 0
LeadsOn {S} R all start done at count here =
    (more : ℕ) (after : S) → TellsSteps R (steps_left at (drop done all)) here more after → TellsSteps R (steps_in false all) start (count + more) after

next_left : (all : List (List ℕ)) (done : ℕ) (line : List ℕ) → (done < length all) × (line ≡ get_or all done line) → drop done all ≡ line ∷ drop (done + 1) all
next_left all done line at = rw add-one (drop-cons all done line at.0 ∙ ap (λ l. l ∷ drop (suc done) all) (sym at.1))

pub leads_on : {S : Type 0} (R : S → List ℕ → Bool → S → Type 0) (all : List (List ℕ)) (start here next : S) (done count : ℕ) (at to : Course) (line : List ℕ) (is_refused : Bool)
    → (done < length all) × (line ≡ get_or all done line) → TellsLine R line at to here is_refused next
    → LeadsOn R all start done at count here → LeadsOn R all start (done + 1) to (count + count_of is_refused) next
leads_on R all start here next done count at to line is_refused turn told leads more after rest =
    let of_line : TellsSteps R (steps_left at (line ∷ drop (done + 1) all)) here (count_of is_refused + more) after = told (drop (done + 1) all) more after rest in
    let of_rest = subst (λ lines. TellsSteps R (steps_left at lines) here (count_of is_refused + more) after) (sym (next_left all done line turn)) of_line in
    subst (λ n. TellsSteps R (steps_in false all) start n after) (sym (add_assoc count (count_of is_refused) more)) (leads (count_of is_refused + more) after of_rest)

nothing_left : {S : Type 0} (R : S → List ℕ → Bool → S → Type 0) (at : Course) (s : S) → TellsSteps R (steps_left at []) s 0 s
nothing_left R course.Alone s = (refl, refl)
nothing_left R course.Within s = (s, 0, 0, (refl, refl), (refl, refl), refl)
nothing_left R course.PassedOver s = (refl, refl)

pub all_told : {S : Type 0} (R : S → List ℕ → Bool → S → Type 0) (all : List (List ℕ)) (start here : S) (done count : ℕ) (at : Course)
    → drop done all ≡ [] → LeadsOn R all start done at count here → TellsSteps R (steps_in false all) start count here
all_told R all start here done count at none leads =
    let left = subst (λ lines. TellsSteps R (steps_left at lines) here 0 here) (sym none) (nothing_left R at here) in
    subst (λ n. TellsSteps R (steps_in false all) start n here) (add-zero count) (leads 0 here left)
