-- A step leads from a state that can be completed to one that can be.
use Rattle.std.proofs.Common.{◌≡◌, ℕ, ◌+◌, ◌≤◌, ◌==◌, ◌&&◌, ◌||◌, slice_index, nat_lt, Bool, true, false, cond, List, [], ◌∷◌, ◌++◌, codes, Option, Some, None, Result, Ok, Err, refl, arith}
use Rattle.std.proofs.lemmas.Bool.Decides.{nat_tests}
use Rattle.filters.specs.declared.words.Vocabulary.{Vocabulary}
use Rattle.filters.specs.declared.state.Stop.{Stop}
use Rattle.filters.specs.declared.state.Stop.TheVariants.{Syntax, UnknownTag}
use Rattle.filters.specs.declared.state.Purpose.{Purpose}
use Rattle.filters.specs.declared.state.Purpose.TheVariants.{Whole, Negated, First, Next}
use Rattle.filters.specs.declared.state.Named.{Named}
use Rattle.filters.specs.declared.state.Named.TheVariants.{Field as NamedField, Base as NamedBase}
use Rattle.filters.specs.declared.state.State.{State}
use Rattle.filters.specs.declared.state.State.TheVariants.{Start, Opened, Bang, Word, AfterField, Sign, Contains, NeedsSpace, BeforeText, InText, Escaped, Done, Joined, AfterJoined, And, AfterAnd, Finished}
use Rattle.filters.specs.declared.expression.Field.{Field}
use Rattle.filters.specs.declared.state.Goal.TheVariants.{Compared, Base as BaseGoal}
use Rattle.filters.specs.declared.expression.Test.TheVariants.{Equals, Differs, Contains as ContainsTest}
use Rattle.filters.specs.Expressions.{Expression, Negation, Both}
use Rattle.filters.specs.Words.{is_word_byte}
use Rattle.filters.specs.Machine.{step, filter_for, names, closed, sign, after_word, contains_letter, and_letter, alone}
use Rattle.filters.proofs.Live.{IsOpen, IsLive}

abbrev pub StaysLive : Result (State × List Purpose) Stop → Type 0
StaysLive (Ok next) = IsLive next.0 next.1
StaysLive (Err stop) = Unit {0}

record Lives (r : Result (State × List Purpose) Stop) : Type 0 where
  is : StaysLive r

record LivesAlone (purposes : List Purpose) (r : Result State Stop) : Type 0 where
  is : StaysLive (alone r purposes)

yes_state : (state : State) (purposes : List Purpose) → IsLive state purposes → Lives (Ok (state, purposes))
yes_state state purposes is = record { is = is }

stop : (s : Stop) → Lives (Err s)
stop s = record { is = tt }

either : (c : Bool) (x y : Result (State × List Purpose) Stop) → Lives x → Lives y → Lives (cond c x y)
either true x y h k = h
either false x y h k = k

yes_alone : (state : State) (purposes : List Purpose) → IsLive state purposes → LivesAlone purposes (Ok state)
yes_alone state purposes is = record { is = is }

stop_alone : (purposes : List Purpose) (s : Stop) → LivesAlone purposes (Err s)
stop_alone purposes s = record { is = tt }

when : (purposes : List Purpose) (c : Bool) (x y : Result State Stop) → (c ≡ true → LivesAlone purposes x) → LivesAlone purposes y → LivesAlone purposes (cond c x y)
when purposes true x y h k = h refl
when purposes false x y h k = k

not_alone : (purposes : List Purpose) (r : Result State Stop) → LivesAlone purposes r → Lives (alone r purposes)
not_alone purposes r h = record { is = h.is }

closed_live : (e : Expression) (purposes : List Purpose) → IsOpen purposes → Lives (closed e purposes)
closed_live e [] is = stop Syntax
closed_live e (Whole ∷ purposes) is = yes_state (Finished e) purposes tt
closed_live e (Negated ∷ purposes) is = yes_state (Done (Negation e)) purposes is
closed_live e (First ∷ purposes) is = yes_state (Joined e) purposes is
closed_live e (Next first ∷ purposes) is = yes_state (Joined (Both first e)) purposes is

sign_live : (field : Field) (purposes : List Purpose) (b : ℕ) → IsOpen purposes → LivesAlone purposes (sign field b)
sign_live field purposes b is = when purposes (b == 32) _ _ (λ _. yes_alone (AfterField field) purposes is) (when purposes (b == 61) _ _ (λ _. yes_alone (Sign field Equals) purposes is) (when purposes (b == 33) _ _ (λ _. yes_alone (Sign field Differs) purposes is) (when purposes (b == 99) _ _ (λ _. yes_alone (Contains field 1) purposes (omega arith, omega arith, is)) (stop_alone purposes Syntax))))

word_live : (name : Option Named) (word : List ℕ) (purposes : List Purpose) (b : ℕ) → IsOpen purposes → LivesAlone purposes (after_word name word b)
word_live None word purposes b is = stop_alone purposes (UnknownTag word)
word_live (Some (NamedField field)) word purposes b is = sign_live field purposes b is
word_live (Some NamedBase) word purposes b is = when purposes (b == 32) _ _ (λ _. yes_alone (BeforeText BaseGoal) purposes is) (stop_alone purposes Syntax)

below : (read : ℕ) (c : Bool) → (nat_lt read 7 && c) ≡ true → read + 1 ≤ 7
below read c e = grind (arith, nat_tests)

contains_live : (field : Field) (read : ℕ) (purposes : List Purpose) (b : ℕ) → IsOpen purposes → LivesAlone purposes (contains_letter field read b)
contains_live field read purposes b is =
    when purposes (nat_lt read 7 && (b == slice_index (codes "contains") read)) _ _ (λ e. yes_alone (Contains field (read + 1)) purposes (omega arith, below read (b == slice_index (codes "contains") read) e, is)) (when purposes ((read == 7) && (b == 115)) _ _ (λ _. yes_alone (NeedsSpace (Compared field ContainsTest)) purposes is) (stop_alone purposes Syntax))

and_live : (e : Expression) (read : ℕ) (purposes : List Purpose) (b : ℕ) → IsOpen purposes → LivesAlone purposes (and_letter e read b)
and_live e read purposes b is = when purposes ((read == 1) && (b == 78)) _ _ (λ _. yes_alone (And e 2) purposes (omega arith, omega arith, is)) (when purposes ((read == 2) && (b == 68)) _ _ (λ _. yes_alone (And e 3) purposes (omega arith, omega arith, is)) (when purposes ((read == 3) && (b == 32)) _ _ (λ _. yes_alone (AfterAnd e) purposes is) (stop_alone purposes Syntax)))

whole : (purposes : List Purpose) → purposes ≡ [] → IsOpen (Whole ∷ purposes)
whole [] e = tt
whole (purpose ∷ purposes) e = cc

-- with this vocabulary
module _ (vocabulary : Vocabulary) where
  lives : (state : State) (purposes : List Purpose) (b : ℕ) → IsLive state purposes → Lives (step vocabulary false state purposes b)
  unfolding step
  lives Start purposes b is = either (b == 40) _ _ (yes_state (Opened) (Whole ∷ purposes) (whole purposes is)) (stop Syntax)
  lives Opened purposes b is = either (b == 32) _ _ (yes_state (Opened) purposes is) (either (b == 33) _ _ (yes_state (Bang) purposes is) (either (is_word_byte vocabulary b) _ _ (yes_state (Word (b ∷ [])) purposes is) (either (b == 40) _ _ (yes_state (Opened) (First ∷ purposes) is) (stop Syntax))))
  lives Bang purposes b is = either (b == 40) _ _ (yes_state (Opened) (Negated ∷ purposes) is) (stop Syntax)
  lives (Word word) purposes b is = either (is_word_byte vocabulary b) _ _ (yes_state (Word (word ++ b ∷ [])) purposes is) (not_alone purposes _ (word_live (names vocabulary false word) word purposes b is))
  lives (AfterField field) purposes b is = not_alone purposes _ (sign_live field purposes b is)
  lives (Sign field test) purposes b is = either (b == 61) _ _ (yes_state (BeforeText (Compared field test)) purposes is) (stop Syntax)
  lives (Contains field read) purposes b is = not_alone purposes _ (contains_live field read purposes b is.2)
  lives (NeedsSpace goal) purposes b is = either (b == 32) _ _ (yes_state (BeforeText goal) purposes is) (stop Syntax)
  lives (BeforeText goal) purposes b is = either (b == 32) _ _ (yes_state (BeforeText goal) purposes is) (either ((b == 34) || (b == 39)) _ _ (yes_state (InText goal b []) purposes is) (stop Syntax))
  lives (InText goal quote text) purposes b is = either (b == quote) _ _ (yes_state (Done (filter_for goal text)) purposes is) (either (b == 92) _ _ (yes_state (Escaped goal quote text) purposes is) (yes_state (InText goal quote (text ++ b ∷ [])) purposes is))
  lives (Escaped goal quote text) purposes b is = yes_state (InText goal quote (text ++ b ∷ [])) purposes is
  lives (Done e) purposes b is = either (b == 32) _ _ (yes_state (Done e) purposes is) (either (b == 41) _ _ (closed_live e purposes is) (stop Syntax))
  lives (Joined e) purposes b is = either (b == 32) _ _ (yes_state (AfterJoined e) purposes is) (either (b == 41) _ _ (closed_live e purposes is) (stop Syntax))
  lives (AfterJoined e) purposes b is = either (b == 32) _ _ (yes_state (AfterJoined e) purposes is) (either (b == 65) _ _ (yes_state (And e 1) purposes (omega arith, omega arith, is)) (either (b == 41) _ _ (closed_live e purposes is) (stop Syntax)))
  lives (And e read) purposes b is = not_alone purposes _ (and_live e read purposes b is.2)
  lives (AfterAnd e) purposes b is = either (b == 32) _ _ (yes_state (AfterAnd e) purposes is) (either (b == 40) _ _ (yes_state (Opened) (Next e ∷ purposes) is) (stop Syntax))
  lives (Finished e) purposes b is = stop Syntax

  pub keeps : (state : State) (purposes : List Purpose) (b : ℕ) → IsLive state purposes → StaysLive (step vocabulary false state purposes b)
  keeps state purposes b is = (lives state purposes b is).is
