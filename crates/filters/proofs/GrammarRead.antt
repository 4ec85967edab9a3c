-- What is spelled by the grammar is read as its expression.
use Rattle.std.proofs.Common.{◌≡◌, ℕ, suc, ◌+◌, ◌<◌, ◌≤◌, nat_le, Bool, true, false, List, [], ◌∷◌, ◌++◌, length, codes, is_some, Result, Ok, refl, sym, subst, ◌∙◌, arith}
use Rattle.std.proofs.lemmas.Bool.Decides.{nat_tests}
use Rattle.filters.specs.declared.words.Vocabulary.{Vocabulary}
use Rattle.filters.specs.declared.state.Purpose.{Purpose}
use Rattle.filters.specs.declared.state.Purpose.TheVariants.{Whole, Negated, First as FirstPurpose, Next}
use Rattle.filters.specs.declared.state.Goal.TheVariants.{Compared, Base as BaseGoal}
use Rattle.filters.specs.declared.state.State.{State}
use Rattle.filters.specs.declared.state.State.TheVariants.{Start, Opened, Bang, Done, Joined, AfterJoined, And, AfterAnd, Finished}
use Rattle.filters.specs.declared.reading.FilterFault.{FilterFault}
use Rattle.filters.specs.Expressions.{Expression, Negation, Both}
use Rattle.filters.specs.Words.{field_named}
use Rattle.filters.specs.Machine.{run, step, opened, closed}
use Rattle.filters.specs.Grammar.{Body, Comparison, Base, Not, First, Then, AreSpaces, Spaces, Gap, InParentheses, IsBody, Spells, is_joined, field_of, meaning, HasKnownTags, depth}
use Rattle.filters.proofs.Reaching.{Reaches, by_byte, spaces_reach, gap_reach, string_reach, word_reach, tag_names, base_reach, operator_reach}

-- there is room for one more parenthesis, if the rules are strict
abbrev pub Room : Bool → ℕ → Type 0
Room strict level = strict ≡ true → level < 32

abbrev end_state : Bool → Expression → State
end_state true e = Joined e
end_state false e = Done e

low : (n : ℕ) → n < 32 → nat_le 32 n ≡ false
low n h = grind (arith, nat_tests)

pub opens : (strict : Bool) (purpose : Purpose) (purposes : List Purpose) → Room strict (length purposes) → opened strict purpose purposes ≡ Ok (Opened, purpose ∷ purposes)
opens true purpose purposes room = rw (low (length purposes) (room refl)) refl
opens false purpose purposes room = refl

depth_some : (b : Body) → 0 < depth b
depth_some (Comparison word test string) = omega arith
depth_some (Base string) = omega arith
depth_some (Not b) = omega arith
depth_some (First b) = omega arith
depth_some (Then j b) = omega arith

apart : false ≡ true → ⊥
apart e = cc

-- with this vocabulary
module _ (vocabulary : Vocabulary) where
  -- the form may be inside so many parentheses, if the rules are strict
  abbrev pub Allowed : Bool → ℕ → Body → Type 0
  Allowed strict level (Comparison word test string) = strict ≡ true → is_some (field_named vocabulary word) ≡ true
  Allowed strict level (Base string) = Unit {0}
  Allowed strict level (Not b) = Room strict level × Allowed strict (suc level) b
  Allowed strict level (First b) = Room strict level × Allowed strict (suc level) b
  Allowed strict level (Then j b) = Allowed strict level j × Room strict level × Allowed strict (suc level) b

  -- after a form and spaces the parenthesis closes
  done_closes : (strict : Bool) (e : Expression) (purposes : List Purpose) → step vocabulary strict (Done e) purposes 41 ≡ closed e purposes
  unfolding step
  done_closes strict e purposes = refl

  joined_closes : (strict : Bool) (e : Expression) (purposes : List Purpose) → (step vocabulary strict (Joined e) purposes 41 ≡ closed e purposes) × (step vocabulary strict (AfterJoined e) purposes 41 ≡ closed e purposes)
  unfolding step
  joined_closes strict e purposes = (refl, refl)

  joined_end : (strict : Bool) (f : Expression) (purposes : List Purpose) (spaces more rest : List ℕ) (next : State) (outer : List Purpose) (e : Result Expression FilterFault) → AreSpaces spaces → more ≡ 41 ∷ rest → closed f purposes ≡ Ok (next, outer)
      → Reaches vocabulary strict next outer rest e → Reaches vocabulary strict (Joined f) purposes (spaces ++ more) e
  unfolding step
  joined_end strict f purposes [] more rest next outer e are ends closes r = rw ends (by_byte vocabulary strict (Joined f) purposes 41 rest next outer e ((joined_closes strict f purposes).0 ∙ closes) r)
  joined_end strict f purposes (b ∷ bs) more rest next outer e are ends closes r =
      rw are.0 (by_byte vocabulary strict (Joined f) purposes 32 (bs ++ more) (AfterJoined f) purposes e refl
      (spaces_reach vocabulary strict (AfterJoined f) purposes (bs ++ more) more e refl (bs, refl, are.1) (rw ends (by_byte vocabulary strict (AfterJoined f) purposes 41 rest next outer e ((joined_closes strict f purposes).1 ∙ closes) r))))

  ends : (strict joined : Bool) (f : Expression) (purposes : List Purpose) (text more rest : List ℕ) (next : State) (outer : List Purpose) (e : Result Expression FilterFault) → Spaces text more → more ≡ 41 ∷ rest → closed f purposes ≡ Ok (next, outer)
      → Reaches vocabulary strict next outer rest e → Reaches vocabulary strict (end_state joined f) purposes text e
  unfolding step
  ends strict true f purposes text more rest next outer e spaces last closes r = subst (λ (t : List ℕ). Reaches vocabulary strict (Joined f) purposes t e) (sym spaces.1) (joined_end strict f purposes spaces.0 more rest next outer e spaces.2 last closes r)
  ends strict false f purposes text more rest next outer e spaces last closes r =
      spaces_reach vocabulary strict (Done f) purposes text more e refl spaces (rw last (by_byte vocabulary strict (Done f) purposes 41 rest next outer e (done_closes strict f purposes ∙ closes) r))

  pub bang : (strict : Bool) (purposes : List Purpose) → (step vocabulary strict Opened purposes 33 ≡ Ok (Bang, purposes)) × (step vocabulary strict Bang purposes 40 ≡ opened strict Negated purposes)
  unfolding step
  bang strict purposes = (refl, refl)

  pub first_opens : (strict : Bool) (purposes : List Purpose) → step vocabulary strict Opened purposes 40 ≡ opened strict FirstPurpose purposes
  unfolding step
  first_opens strict purposes = refl

  pub and_reach : (strict : Bool) (f : Expression) (purposes : List Purpose) (gap word second_gap next : List ℕ) (e : Result Expression FilterFault) → Gap gap word → word ≡ codes "AND" ++ second_gap → Gap second_gap next
      → Reaches vocabulary strict (AfterAnd f) purposes next e → Reaches vocabulary strict (Joined f) purposes gap e
  unfolding step
  and_reach strict f purposes gap word second_gap next e before is after r =
      gap_reach vocabulary strict (Joined f) (AfterJoined f) purposes gap word e refl refl before
      (rw is (by_byte vocabulary strict (AfterJoined f) purposes 65 _ (And f 1) purposes e refl (by_byte vocabulary strict (And f 1) purposes 78 _ (And f 2) purposes e refl (by_byte vocabulary strict (And f 2) purposes 68 second_gap (And f 3) purposes e refl
      (gap_reach vocabulary strict (And f 3) (AfterAnd f) purposes second_gap next e refl refl after r)))))

  pub next_opens : (strict : Bool) (f : Expression) (purposes : List Purpose) → step vocabulary strict (AfterAnd f) purposes 40 ≡ opened strict (Next f) purposes
  unfolding step
  next_opens strict f purposes = refl

  pub whole_opens : (strict : Bool) (purposes : List Purpose) → step vocabulary strict Start purposes 40 ≡ opened strict Whole purposes
  unfolding step
  whole_opens strict purposes = refl

  pub at_joined : (b : Body) (strict : Bool) (purposes : List Purpose) (text : List ℕ) (e : Result Expression FilterFault) → is_joined b ≡ true → Reaches vocabulary strict (Joined (meaning vocabulary b)) purposes text e → Reaches vocabulary strict (end_state (is_joined b) (meaning vocabulary b)) purposes text e
  at_joined b strict purposes text e is r = rw is r

  pub stays_opened : (strict : Bool) (purposes : List Purpose) → step vocabulary strict Opened purposes 32 ≡ Ok (Opened, purposes)
  unfolding step
  stays_opened strict purposes = refl

  -- a form that is read so in this parenthesis
  abbrev ReadsInside : Body → Bool → List Purpose → Result Expression FilterFault → Type 0
  ReadsInside b strict purposes e = (text rest : List ℕ) → IsBody vocabulary b text rest → Reaches vocabulary strict (end_state (is_joined b) (meaning vocabulary b)) purposes rest e → Reaches vocabulary strict Opened purposes text e

  -- a parenthesis of such a form: from the byte that opens it up to what follows it
  parentheses_reach : (b : Body) (strict : Bool) (state : State) (purpose : Purpose) (purposes : List Purpose) (text rest : List ℕ) (next : State) (e : Result Expression FilterFault)
      → step vocabulary strict state purposes 40 ≡ opened strict purpose purposes → Room strict (length purposes) → ReadsInside b strict (purpose ∷ purposes) e → InParentheses (IsBody vocabulary b) text rest → closed (meaning vocabulary b) (purpose ∷ purposes) ≡ Ok (next, purposes)
      → Reaches vocabulary strict next purposes rest e → Reaches vocabulary strict state purposes text e
  parentheses_reach b strict state purpose purposes text rest next e opening room inside is closes r =
      subst (λ (t : List ℕ). Reaches vocabulary strict state purposes t e) (sym is.4)
      (by_byte vocabulary strict state purposes 40 is.0 Opened (purpose ∷ purposes) e (opening ∙ opens strict purpose purposes room)
      (spaces_reach vocabulary strict Opened (purpose ∷ purposes) is.0 is.1 e (stays_opened strict (purpose ∷ purposes)) is.5
      (inside is.1 is.2 is.6 (ends strict (is_joined b) (meaning vocabulary b) (purpose ∷ purposes) is.2 is.3 rest next purposes e is.7 is.8 closes r))))

  pub body_reach : (b : Body) (strict : Bool) (purposes : List Purpose) (e : Result Expression FilterFault) → Allowed strict (length purposes) b → ReadsInside b strict purposes e
  body_reach (Comparison word test string) strict purposes e allowed = λ text rest is r.
      subst (λ (t : List ℕ). Reaches vocabulary strict Opened purposes t e) (sym is.2)
      (word_reach vocabulary strict false word purposes is.0 e is.3 (operator_reach vocabulary strict word (field_of (field_named vocabulary word)) test purposes is.0 is.1 e (tag_names vocabulary strict word is.3.2 allowed) is.4
      (string_reach vocabulary strict (Compared (field_of (field_named vocabulary word)) test) string purposes is.1 rest e is.5 r)))
  body_reach (Base string) strict purposes e allowed = λ text rest is r.
      subst (λ (t : List ℕ). Reaches vocabulary strict Opened purposes t e) (sym is.3)
      (word_reach vocabulary strict true is.0 purposes is.1 e is.4 (base_reach vocabulary strict is.0 purposes is.1 is.2 e is.4.2 is.5 (string_reach vocabulary strict BaseGoal string purposes is.2 rest e is.6 r)))
  body_reach (Not b) strict purposes e allowed = λ text rest is r.
      subst (λ (t : List ℕ). Reaches vocabulary strict Opened purposes t e) (sym is.1)
      (by_byte vocabulary strict Opened purposes 33 is.0 Bang purposes e (bang strict purposes).0
      (parentheses_reach b strict Bang Negated purposes is.0 rest (Done (Negation (meaning vocabulary b))) e (bang strict purposes).1 allowed.0 (body_reach b strict (Negated ∷ purposes) e allowed.1) is.2 refl r))
  body_reach (First b) strict purposes e allowed = λ text rest is r.
      parentheses_reach b strict Opened FirstPurpose purposes text rest (Joined (meaning vocabulary b)) e (first_opens strict purposes) allowed.0 (body_reach b strict (FirstPurpose ∷ purposes) e allowed.1) is refl r
  body_reach (Then j b) strict purposes e allowed = λ text rest is r.
      body_reach j strict purposes e allowed.0 text is.1 is.5 (at_joined j strict purposes is.1 e is.0
      (and_reach strict (meaning vocabulary j) purposes is.1 is.2 is.3 is.4 e is.6 is.7 is.8
      (parentheses_reach b strict (AfterAnd (meaning vocabulary j)) (Next (meaning vocabulary j)) purposes is.4 rest (Joined (Both (meaning vocabulary j) (meaning vocabulary b))) e (next_opens strict (meaning vocabulary j) purposes) allowed.1
      (body_reach b strict (Next (meaning vocabulary j) ∷ purposes) e allowed.2) is.9 refl r)))

  finished : (strict : Bool) (e : Expression) → Reaches vocabulary strict (Finished e) [] [] (Ok e)
  unfolding run
  finished strict e = λ n. refl

  -- a whole text of such a form
  pub spelled_is_read : (strict : Bool) (text : List ℕ) (b : Body) → Spells vocabulary text b → Allowed strict 1 b → Reaches vocabulary strict Start [] text (Ok (meaning vocabulary b))
  spelled_is_read strict text b spells allowed =
      parentheses_reach b strict Start Whole [] text [] (Finished (meaning vocabulary b)) (Ok (meaning vocabulary b)) (whole_opens strict []) (λ _. omega arith) (body_reach b strict (Whole ∷ []) (Ok (meaning vocabulary b)) allowed) spells refl (finished strict (meaning vocabulary b))

  -- a form of known tags that is not too deep is allowed
  pub allowed_from : (b : Body) (level : ℕ) → HasKnownTags vocabulary b → level + depth b ≤ 33 → Allowed true level b
  allowed_from (Comparison word test string) level known fits = λ _. known
  allowed_from (Base string) level known fits = tt
  allowed_from (Not b) level known fits = ((λ _. let some = depth_some b in omega (arith, fits, some)), allowed_from b (suc level) known (omega (arith, fits)))
  allowed_from (First b) level known fits = ((λ _. let some = depth_some b in omega (arith, fits, some)), allowed_from b (suc level) known (omega (arith, fits)))
  allowed_from (Then j b) level known fits =
      (allowed_from j level known.0 (omega (arith, fits)), (λ _. let some = depth_some b in omega (arith, fits, some)), allowed_from b (suc level) known.1 (omega (arith, fits)))

  pub from_allowed : (b : Body) (level : ℕ) → level ≤ 32 → Allowed true level b → HasKnownTags vocabulary b × (level + depth b ≤ 33)
  from_allowed (Comparison word test string) level low allowed = (allowed refl, omega arith)
  from_allowed (Base string) level low allowed = (tt, omega arith)
  from_allowed (Not b) level low allowed = let room = allowed.0 refl in let inner = from_allowed b (suc level) (omega (arith, room)) allowed.1 in let fits = inner.1 in (inner.0, omega (arith, fits))
  from_allowed (First b) level low allowed = let room = allowed.0 refl in let inner = from_allowed b (suc level) (omega (arith, room)) allowed.1 in let fits = inner.1 in (inner.0, omega (arith, fits))
  from_allowed (Then j b) level low allowed =
      let room = allowed.1 refl in
      let before = from_allowed j level low allowed.0 in
      let inner = from_allowed b (suc level) (omega (arith, room)) allowed.2 in
      let fits = inner.1 in let fit = before.1 in ((before.0, inner.0), omega (arith, fits, fit))

  -- where the rules are not strict each form is allowed
  pub allowed_loose : (b : Body) (level : ℕ) → Allowed false level b
  allowed_loose (Comparison word test string) level = λ e. absurd (apart e)
  allowed_loose (Base string) level = tt
  allowed_loose (Not b) level = ((λ e. absurd (apart e)), allowed_loose b (suc level))
  allowed_loose (First b) level = ((λ e. absurd (apart e)), allowed_loose b (suc level))
  allowed_loose (Then j b) level = (allowed_loose j level, (λ e. absurd (apart e)), allowed_loose b (suc level))
