-- What is read is the one answer of the grammar.
use Rattle.std.proofs.Common.{◌≡◌, ◌⊎◌, inl, inr, ℕ, ◌<◌, List, [], ◌∷◌, ◌++◌, length, true, Result, Ok, Err, refl, ap, sym, subst, ◌∙◌, append_assoc, arith}
use Rattle.filters.specs.declared.words.Vocabulary.{Vocabulary}
use Rattle.filters.specs.declared.reading.FilterFault.{FilterFault}
use Rattle.filters.specs.declared.reading.FilterFault.TheVariants.{Syntax, UnknownTag, TooDeep, NoMemory}
use Rattle.filters.specs.Expressions.{Expression}
use Rattle.filters.specs.Machine.{parsed, Reads}
use Rattle.filters.specs.Grammar.{Says, Spells, IsLongestStart, BeginsFilter}
use Rattle.filters.specs.Answers.{IsFirstFault, IsAnswer, OrNoMemory, HasOneAnswer}
use Rattle.filters.proofs.GrammarRead.{spelled_is_read, allowed_from, from_allowed}
use Rattle.filters.proofs.GrammarAt.{read_is_spelled, refused_for}
use Rattle.filters.proofs.Longest.{fault_at_longest}
use Rattle.filters.proofs.FirstFault.{unknown_first, deep_first}

-- two starts of one text: the longer goes on with the byte after the other
longer : (front back front' back' : List ℕ) → front ++ back ≡ front' ++ back' → length front < length front' → (b : ℕ) × (more : List ℕ) × (front' ≡ front ++ b ∷ more) × (back ≡ b ∷ (more ++ back'))
longer [] back [] back' same less = absurd (omega (arith, less))
longer [] back (b ∷ more) back' same less = (b, more, refl, same)
longer (a ∷ front) back [] back' same less = absurd (omega (arith, less))
longer (a ∷ front) back (b ∷ front') back' same less =
    let head : a ≡ b = cc in
    let tail : front ++ back ≡ front' ++ back' = cc in
    let rest = longer front back front' back' tail (omega (arith, less)) in
    (rest.0, rest.1, ap (λ (t : List ℕ). b ∷ t) rest.2 ∙ ap (λ (c : ℕ). c ∷ (front ++ rest.0 ∷ rest.1)) (sym head), rest.3)

pub reads_or : (r exact : Result Expression FilterFault) → Reads r exact → OrNoMemory r exact
reads_or (Ok e) exact h = inr (sym h)
reads_or (Err (Syntax k)) exact h = inr (sym h)
reads_or (Err (UnknownTag word)) exact h = inr (sym h)
reads_or (Err TooDeep) exact h = inr (sym h)
reads_or (Err NoMemory) exact h = inl refl

-- with this vocabulary
module _ (vocabulary : Vocabulary) where
  said : (text : List ℕ) (e : Expression) → parsed vocabulary text ≡ Ok e → Says vocabulary text e
  said text e ok =
      let whole = read_is_spelled vocabulary true text e ok in
      let allowed = from_allowed vocabulary whole.0 1 (omega arith) whole.3 in
      let fits = allowed.1 in (whole.0, whole.1, allowed.0, omega (arith, fits), whole.2)

  says_read : (text : List ℕ) (e : Expression) → Says vocabulary text e → parsed vocabulary text ≡ Ok e
  says_read text e says =
      let fits = says.3 in
      spelled_is_read vocabulary true text says.0 says.1 (allowed_from vocabulary says.0 1 says.2 (omega (arith, fits))) 0 ∙ ap Ok says.4

  -- what is read is an answer
  is_answer : (text : List ℕ) (r : Result Expression FilterFault) → parsed vocabulary text ≡ r → IsAnswer vocabulary text r
  is_answer text (Ok e) h = said text e h
  is_answer text (Err (Syntax k)) h = (fault_at_longest vocabulary text k h, (λ word named. let other = unknown_first vocabulary text word named in cc), (λ deep. let other = deep_first vocabulary text deep in cc))
  is_answer text (Err (UnknownTag word)) h = refused_for vocabulary text (UnknownTag word) h
  is_answer text (Err TooDeep) h = refused_for vocabulary text TooDeep h
  is_answer text (Err NoMemory) h = refused_for vocabulary text NoMemory h

  begins_shorter : (front front' more : List ℕ) (b : ℕ) → front' ≡ front ++ b ∷ more → BeginsFilter vocabulary front' → BeginsFilter vocabulary (front ++ b ∷ [])
  begins_shorter front front' more b is begins =
      (more ++ begins.0, begins.1, subst (λ (t : List ℕ). Spells vocabulary t begins.1) (ap (λ (t : List ℕ). t ++ begins.0) is ∙ append_assoc front (b ∷ more) begins.0 ∙ sym (append_assoc front (b ∷ []) (more ++ begins.0))) begins.2)

  not_longer : (text : List ℕ) (k n : ℕ) (h : IsLongestStart vocabulary text k) (h' : IsLongestStart vocabulary text n) → length h.front < length h'.front → ⊥
  not_longer text k n h h' less =
      let more = longer h.front h.back h'.front h'.back (sym h.parts ∙ h'.parts) less in
      h.longest more.0 (more.1 ++ h'.back) more.3 (begins_shorter h.front h'.front more.1 more.0 more.2 h'.begins)

  one_offset : (text : List ℕ) (k n : ℕ) → IsLongestStart vocabulary text k → IsLongestStart vocabulary text n → k ≡ n
  one_offset text k n h h' =
      let not_less = not_longer text k n h h' in
      let not_more = not_longer text n k h' h in
      let at = h.at in let at' = h'.at in
      omega (arith, not_less, not_more, at, at')

  -- an answer is what is read
  syntax_read : (text : List ℕ) (k : ℕ) (r : Result Expression FilterFault) → parsed vocabulary text ≡ r → IsFirstFault vocabulary text (Syntax k) → Err (Syntax k) ≡ r
  syntax_read text k (Ok e) h is = let says = said text e h in absurd (is.0.no_filter says.0 says.1)
  syntax_read text k (Err (Syntax n)) h is = ap (λ (m : ℕ). Err (Syntax m)) (one_offset text k n is.0 (fault_at_longest vocabulary text n h))
  syntax_read text k (Err (UnknownTag word)) h is = absurd (is.1 word (refused_for vocabulary text (UnknownTag word) h))
  syntax_read text k (Err TooDeep) h is = absurd (is.2 (refused_for vocabulary text TooDeep h))
  syntax_read text k (Err NoMemory) h is = absurd (refused_for vocabulary text NoMemory h)

  answer_read : (text : List ℕ) (r : Result Expression FilterFault) → IsAnswer vocabulary text r → r ≡ parsed vocabulary text
  answer_read text (Ok e) is = sym (says_read text e is)
  answer_read text (Err (Syntax k)) is = syntax_read text k (parsed vocabulary text) refl is
  answer_read text (Err (UnknownTag word)) is = sym (unknown_first vocabulary text word is)
  answer_read text (Err TooDeep) is = sym (deep_first vocabulary text is)
  answer_read text (Err NoMemory) is = elim is [ ]

  pub read_answers : (text : List ℕ) (r : Result Expression FilterFault) → Reads r (parsed vocabulary text) → (r ≡ Err NoMemory) ⊎ IsAnswer vocabulary text r
  read_answers text r h = elim (reads_or r (parsed vocabulary text) h) [ inl none ↦ inl none | inr same ↦ inr (is_answer text r (sym same)) ]

  pub read_only : (text : List ℕ) (r : Result Expression FilterFault) → Reads r (parsed vocabulary text) → (exact : Result Expression FilterFault) → IsAnswer vocabulary text exact → OrNoMemory r exact
  read_only text r h exact is = subst (OrNoMemory r) (sym (answer_read text exact is)) (reads_or r (parsed vocabulary text) h)

  pub parsed_answers : (text : List ℕ) → IsAnswer vocabulary text (parsed vocabulary text)
  parsed_answers text = is_answer text (parsed vocabulary text) refl

  pub has_one_answer : (text : List ℕ) → HasOneAnswer vocabulary text
  has_one_answer text = record { answer = parsed vocabulary text; is = parsed_answers text; only = answer_read text }
