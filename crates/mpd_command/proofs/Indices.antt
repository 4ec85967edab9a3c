-- Indices in a list of texts, and in the list of what they say.
use Rattle.std.proofs.Common.{◌≡◌, ℕ, ◌+◌, ◌-◌, ◌<◌, ◌≤◌, nat_lt, Bool, true, false, not, cond, List, [], ◌∷◌, length, get_or, map, take, drop, Some, None, refl, ap, sym, ◌∙◌, inl, inr, Bor, arith}
use Rattle.std.specs.Str.{bytes_eq}
use Rattle.std.specs.List.{position, position_or_len, prefix_len, slice_range}
use Rattle.std.specs.Option.{option_map}
use Rattle.std.proofs.lemmas.Bool.{cases_lt, cond-true, cond-false, false_from_ne_true, le-ltb, lt-ltb}
use Rattle.std.proofs.lemmas.List.{drop-map, get_or-drop, get_or-take, length-drop, length-map, length-take, take-map}
use Rattle.std.proofs.lemmas.List.Sums.{fails_before_first, passes_at_first, position_or_len_is}

same_prefix : {A B : Type 0} (f : A → B) (p : B → Bool) (xs : List A) → prefix_len (λ x. not (p (f x))) xs ≡ prefix_len (λ y. not (p y)) (map f xs)
same_prefix f p [] = refl
same_prefix f p (x ∷ xs) = ap (λ (n : ℕ). cond (not (p (f x))) (1 + n) 0) (same_prefix f p xs)

position_map : {A B : Type 0} (f : A → B) (p : B → Bool) (xs : List A) → position (λ x. p (f x)) xs ≡ position p (map f xs)
position_map f p xs = λ i. cond (nat_lt (same_prefix f p xs i) (sym (length-map xs f) i)) (Some (same_prefix f p xs i)) None

-- the first text that is a word stands where the word stands in the list of what the texts say
pub same_position : (texts : List (Bor (List ℕ))) (words : List (List ℕ)) (word : List ℕ) → map (λ text. text.now) texts ≡ words
    → position (λ text. bytes_eq text.now word) texts ≡ position (λ other. bytes_eq other word) words
same_position texts words word same = position_map (λ text. text.now) (λ other. bytes_eq other word) texts ∙ ap (position (λ other. bytes_eq other word)) same

-- what texts say from one index up to another
pub said_between : (texts : List (Bor (List ℕ))) (words : List (List ℕ)) (start end : ℕ) → map (λ text. text.now) texts ≡ words
    → map (λ text. text.now) (slice_range texts start end) ≡ slice_range words start end
said_between texts words start end same =
    sym (take-map (λ text. text.now) (end - start) (drop start texts)) ∙ ap (take (end - start)) (sym (drop-map (λ text. text.now) start texts))
    ∙ ap (λ (ws : List (List ℕ)). slice_range ws start end) same

-- each element that passes a test stands from one index on and before another
abbrev pub PassesWithin : (List ℕ → Bool) → List (List ℕ) → ℕ → ℕ → Type 0
PassesWithin test words start end = (i : ℕ) → i < length words → test (get_or words i []) ≡ true → (start ≤ i) × (i < end)

module _ (test : List ℕ → Bool) (words : List (List ℕ)) (start end : ℕ) (within : PassesWithin test words start end) (fits : end ≤ length words) where
  abbrev part : List (List ℕ)
  part = slice_range words start end

  long : length part ≤ end - start
  long = omega (arith, length-take (end - start) (drop start words))

  reach : end - start ≤ length part
  reach = omega (arith, length-take (end - start) (drop start words), length-drop start words)

  at : (i : ℕ) → i < end - start → get_or part i [] ≡ get_or words (start + i) []
  at i low = get_or-take (end - start) (drop start words) i [] low ∙ get_or-drop start words i []

  before : position_or_len test part < length part → (i : ℕ) → i < start + position_or_len test part → test (get_or words i []) ≡ false
  before found i low = elim (cases_lt i start) [
    | inl early ↦ false_from_ne_true _ (λ passes. let index = within i (let b = long in omega arith) passes in omega arith)
    | inr late ↦
        let fails : test (get_or part (i - start) []) ≡ false = fails_before_first test part (i - start) [] (omega arith) in
        let same : start + (i - start) ≡ i = omega arith in
        sym (ap test (at (i - start) (let b = long in omega arith) ∙ ap (λ (k : ℕ). get_or words k []) same)) ∙ fails
  ]

  first : position_or_len test part < length part → position_or_len test words ≡ start + position_or_len test part
  first found =
      let b = long in
      position_or_len_is test words (start + position_or_len test part) [] (omega arith) (before found)
      (λ inside. sym (ap test (at (position_or_len test part) (omega arith))) ∙ passes_at_first test part [] found)

  none : length part ≤ position_or_len test part → length words ≤ position_or_len test words
  none missing = elim (cases_lt (position_or_len test words) (length words)) [
    | inr high ↦ high
    | inl low ↦
        let passes : test (get_or words (position_or_len test words) []) ≡ true = passes_at_first test words [] low in
        let index = within (position_or_len test words) low passes in
        let b = reach in
        let fails : test (get_or part (position_or_len test words - start) []) ≡ false = fails_before_first test part (position_or_len test words - start) [] (omega arith) in
        let same : start + (position_or_len test words - start) ≡ position_or_len test words = omega arith in
        let here : test (get_or part (position_or_len test words - start) []) ≡ test (get_or words (position_or_len test words) []) =
        ap test (at (position_or_len test words - start) (omega arith) ∙ ap (λ (k : ℕ). get_or words k []) same) in
        absurd (let clash : true ≡ false = sym passes ∙ sym here ∙ fails in cc)
  ]

  -- then the first that passes stands first between them too
  pub first_within : option_map (λ index. start + index) (position test part) ≡ position test words
  first_within = elim (cases_lt (position_or_len test part) (length part)) [
    | inl found ↦
        let low : position_or_len test words < length words = let b = long in let e = first found in omega arith in
        ap (option_map (λ index. start + index)) (cond-true _ _ _ (lt-ltb _ _ found)) ∙ ap Some (sym (first found)) ∙ sym (cond-true _ _ _ (lt-ltb _ _ low))
    | inr missing ↦
        ap (option_map (λ index. start + index)) (cond-false _ _ _ (le-ltb _ _ missing)) ∙ sym (cond-false _ _ _ (le-ltb _ _ (none missing)))
  ]
