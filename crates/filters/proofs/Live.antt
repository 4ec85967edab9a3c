-- Each state before a byte can be completed to a filter.
use Rattle.std.proofs.Common.{◌≡◌, ℕ, zero, suc, ◌+◌, ◌-◌, ◌<◌, ◌≤◌, ◌==◌, true, false, List, [], ◌∷◌, ◌++◌, codes, drop, Option, Some, None, Result, Ok, Err, refl, sym, subst, arith}
use Rattle.std.proofs.lemmas.Bool.Decides.{nat_tests}
use Rattle.filters.specs.declared.words.Vocabulary.{Vocabulary}
use Rattle.filters.specs.declared.state.Purpose.{Purpose}
use Rattle.filters.specs.declared.state.Purpose.TheVariants.{Whole, Negated, First, Next}
use Rattle.filters.specs.declared.state.Goal.{Goal}
use Rattle.filters.specs.declared.state.Goal.TheVariants.{Base as BaseGoal}
use Rattle.filters.specs.declared.state.Named.{Named}
use Rattle.filters.specs.declared.state.Named.TheVariants.{Field as NamedField, Base as NamedBase}
use Rattle.filters.specs.declared.state.State.{State}
use Rattle.filters.specs.declared.state.State.TheVariants.{Start, Opened, Bang, Word, AfterField, Sign, Contains, NeedsSpace, BeforeText, InText, Escaped, Done, Joined, AfterJoined, And, AfterAnd, Finished}
use Rattle.filters.specs.declared.expression.Field.{Field}
use Rattle.filters.specs.declared.expression.Field.TheVariants.{Any}
use Rattle.filters.specs.declared.expression.Test.{Test}
use Rattle.filters.specs.declared.reading.FilterFault.{FilterFault}
use Rattle.filters.specs.Expressions.{Expression, Negation, Both}
use Rattle.filters.specs.Machine.{run, step, named_of, names, or_any, filter_for}

-- the innermost parenthesis first, the whole filter's last
abbrev pub IsOpen : List Purpose → Type 0
IsOpen [] = ⊥
IsOpen (Whole ∷ []) = Unit {0}
IsOpen (Whole ∷ purpose ∷ purposes) = ⊥
IsOpen (Negated ∷ purposes) = IsOpen purposes
IsOpen (First ∷ purposes) = IsOpen purposes
IsOpen (Next first ∷ purposes) = IsOpen purposes

abbrev pub IsFilter : Result Expression FilterFault → Type 0
IsFilter (Ok e) = Unit {0}
IsFilter (Err fault) = ⊥

-- a state that some start of a text leads to
abbrev pub IsLive : State → List Purpose → Type 0
IsLive Start purposes = purposes ≡ []
IsLive (Finished e) purposes = Unit {0}
IsLive (Contains field read) purposes = (1 ≤ read) × (read ≤ 7) × IsOpen purposes
IsLive (And e read) purposes = (1 ≤ read) × (read ≤ 3) × IsOpen purposes
IsLive _ purposes = IsOpen purposes

-- a right parenthesis for each that is open
close_all : List Purpose → List ℕ
close_all [] = []
close_all (purpose ∷ purposes) = 41 ∷ close_all purposes

-- a text in quotes, and what closes after it
quoted_end : List Purpose → List ℕ
quoted_end purposes = 39 ∷ 39 ∷ close_all purposes

-- a comparison of any tag, and what closes after it
opened_end : List Purpose → List ℕ
opened_end purposes = 98 ∷ 97 ∷ 115 ∷ 101 ∷ 32 ∷ quoted_end purposes

word_end : Option Named → List Purpose → List ℕ
word_end None purposes = []
word_end (Some (NamedField field)) purposes = 32 ∷ 61 ∷ 61 ∷ quoted_end purposes
word_end (Some NamedBase) purposes = 32 ∷ quoted_end purposes

same_quote : (q : ℕ) → (q == q) ≡ true
same_quote q = grind (arith, nat_tests)

-- the letters of `contains` that are left
letters : ℕ → List ℕ
letters read = drop read (codes "contains")

-- with this vocabulary
module _ (vocabulary : Vocabulary) where
  closes : (n : ℕ) (e : Expression) (purposes : List Purpose) → IsOpen purposes → IsFilter (run vocabulary false n (Done e) purposes (close_all purposes)) × IsFilter (run vocabulary false n (Joined e) purposes (close_all purposes))
  unfolding run step close_all
  closes n e [] is = elim is [ ]
  closes n e (Whole ∷ []) is = (tt, tt)
  closes n e (Whole ∷ purpose ∷ purposes) is = elim is [ ]
  closes n e (Negated ∷ purposes) is = let k = closes (n + 1) (Negation e) purposes is in (k.0, k.0)
  closes n e (First ∷ purposes) is = let k = closes (n + 1) e purposes is in (k.1, k.1)
  closes n e (Next first ∷ purposes) is = let k = closes (n + 1) (Both first e) purposes is in (k.1, k.1)

  before_text : (n : ℕ) (goal : Goal) (purposes : List Purpose) → IsOpen purposes → IsFilter (run vocabulary false n (BeforeText goal) purposes (quoted_end purposes))
  unfolding run step quoted_end
  before_text n goal purposes is = (closes (n + 1 + 1) (filter_for goal []) purposes is).0

  at_sign : (n : ℕ) (field : Field) (test : Test) (purposes : List Purpose) → IsOpen purposes → IsFilter (run vocabulary false n (Sign field test) purposes (61 ∷ quoted_end purposes))
  unfolding run step
  at_sign n field test purposes is = before_text (n + 1) _ purposes is

  needs_space : (n : ℕ) (goal : Goal) (purposes : List Purpose) → IsOpen purposes → IsFilter (run vocabulary false n (NeedsSpace goal) purposes (32 ∷ quoted_end purposes))
  unfolding run step
  needs_space n goal purposes is = before_text (n + 1) goal purposes is

  finished : (n : ℕ) (e : Expression) (purposes : List Purpose) → IsFilter (run vocabulary false n (Finished e) purposes [])
  unfolding run
  finished n e purposes = tt

  after_field : (n : ℕ) (field : Field) (purposes : List Purpose) → IsOpen purposes → IsFilter (run vocabulary false n (AfterField field) purposes (61 ∷ 61 ∷ quoted_end purposes))
  unfolding run step
  after_field n field purposes is = before_text (n + 1 + 1) _ purposes is

  at_opened : (n : ℕ) (purposes : List Purpose) → IsOpen purposes → IsFilter (run vocabulary false n Opened purposes (opened_end purposes))
  unfolding run step opened_end named_of
  at_opened n purposes is = before_text (n + 1 + 1 + 1 + 1 + 1) BaseGoal purposes is

  at_name : (n : ℕ) (name : Option Named) (word : List ℕ) (purposes : List Purpose) → names vocabulary false word ≡ or_any name → IsOpen purposes → IsFilter (run vocabulary false n (Word word) purposes (word_end (or_any name) purposes))
  unfolding run step word_end
  at_name n None word purposes e is = rw e (after_field (n + 1) Any purposes is)
  at_name n (Some (NamedField field)) word purposes e is = rw e (after_field (n + 1) field purposes is)
  at_name n (Some NamedBase) word purposes e is = rw e (before_text (n + 1) BaseGoal purposes is)

  at_bang : (n : ℕ) (purposes : List Purpose) → IsOpen purposes → IsFilter (run vocabulary false n Bang purposes (40 ∷ opened_end (Negated ∷ purposes)))
  unfolding run step
  at_bang n purposes is = at_opened (n + 1) (Negated ∷ purposes) is

  at_start : (n : ℕ) → IsFilter (run vocabulary false n Start [] (40 ∷ opened_end (Whole ∷ [])))
  unfolding run step
  at_start n = at_opened (n + 1) (Whole ∷ []) tt

  after_and : (n : ℕ) (e : Expression) (purposes : List Purpose) → IsOpen purposes → IsFilter (run vocabulary false n (AfterAnd e) purposes (40 ∷ opened_end (Next e ∷ purposes)))
  unfolding run step
  after_and n e purposes is = at_opened (n + 1) (Next e ∷ purposes) is

  in_text : (n : ℕ) (goal : Goal) (quote : ℕ) (text : List ℕ) (purposes : List Purpose) → IsOpen purposes → IsFilter (run vocabulary false n (InText goal quote text) purposes (quote ∷ close_all purposes))
  unfolding run step
  in_text n goal quote text purposes is = rw (same_quote quote) (closes (n + 1) (filter_for goal text) purposes is).0

  escaped : (n : ℕ) (goal : Goal) (quote : ℕ) (text : List ℕ) (purposes : List Purpose) → IsOpen purposes → IsFilter (run vocabulary false n (Escaped goal quote text) purposes (97 ∷ quote ∷ close_all purposes))
  unfolding run step
  escaped n goal quote text purposes is = in_text (n + 1) goal quote (text ++ 97 ∷ []) purposes is

  after_joined : (n : ℕ) (e : Expression) (purposes : List Purpose) → IsOpen purposes → IsFilter (run vocabulary false n (AfterJoined e) purposes (close_all purposes))
  unfolding run step close_all
  after_joined n e [] is = elim is [ ]
  after_joined n e (Whole ∷ []) is = tt
  after_joined n e (Whole ∷ purpose ∷ purposes) is = elim is [ ]
  after_joined n e (Negated ∷ purposes) is = (closes (n + 1) (Negation e) purposes is).0
  after_joined n e (First ∷ purposes) is = (closes (n + 1) e purposes is).1
  after_joined n e (Next first ∷ purposes) is = (closes (n + 1) (Both first e) purposes is).1

  all_letters : (n : ℕ) (field : Field) (purposes : List Purpose) → IsOpen purposes → (k : ℕ) → k < 7 → IsFilter (run vocabulary false n (Contains field (7 - k)) purposes (letters (7 - k) ++ 32 ∷ quoted_end purposes))
  unfolding run step letters
  all_letters n field purposes is zero low = before_text (n + 1 + 1) _ purposes is
  all_letters n field purposes is (suc zero) low = before_text (n + 1 + 1 + 1) _ purposes is
  all_letters n field purposes is (suc (suc zero)) low = before_text _ _ purposes is
  all_letters n field purposes is (suc (suc (suc zero))) low = before_text _ _ purposes is
  all_letters n field purposes is (suc (suc (suc (suc zero)))) low = before_text _ _ purposes is
  all_letters n field purposes is (suc (suc (suc (suc (suc zero))))) low = before_text _ _ purposes is
  all_letters n field purposes is (suc (suc (suc (suc (suc (suc zero)))))) low = before_text _ _ purposes is
  all_letters n field purposes is (suc (suc (suc (suc (suc (suc (suc k))))))) low = absurd (omega arith)

  all_and : (n : ℕ) (e : Expression) (purposes : List Purpose) → IsOpen purposes → (k : ℕ) → k < 3 → IsFilter (run vocabulary false n (And e (3 - k)) purposes (drop (3 - k) (codes "AND ") ++ 40 ∷ opened_end (Next e ∷ purposes)))
  unfolding run step
  all_and n e purposes is zero low = after_and (n + 1) e purposes is
  all_and n e purposes is (suc zero) low = after_and (n + 1 + 1) e purposes is
  all_and n e purposes is (suc (suc zero)) low = after_and (n + 1 + 1 + 1) e purposes is
  all_and n e purposes is (suc (suc (suc k))) low = absurd (omega arith)

  -- what is before a byte can be completed to a filter
  pub live : (n : ℕ) (state : State) (purposes : List Purpose) → IsLive state purposes → (rest : List ℕ) × IsFilter (run vocabulary false n state purposes rest)
  live n Start purposes is = (40 ∷ opened_end (Whole ∷ []), subst (λ (f : List Purpose). IsFilter (run vocabulary false n Start f (40 ∷ opened_end (Whole ∷ [])))) (sym is) (at_start n))
  live n Opened purposes is = (_, at_opened n purposes is)
  live n Bang purposes is = (_, at_bang n purposes is)
  live n (Word word) purposes is = (_, at_name n (named_of vocabulary word) word purposes refl is)
  live n (AfterField field) purposes is = (_, after_field n field purposes is)
  live n (Sign field test) purposes is = (61 ∷ quoted_end purposes, at_sign n field test purposes is)
  live n (Contains field read) purposes is = let k : read ≡ 7 - (7 - read) = omega arith in (letters read ++ 32 ∷ quoted_end purposes, subst (λ (r : ℕ). IsFilter (run vocabulary false n (Contains field r) purposes (letters r ++ 32 ∷ quoted_end purposes))) (sym k) (all_letters n field purposes is.2 (7 - read) (omega arith)))
  live n (NeedsSpace goal) purposes is = (32 ∷ quoted_end purposes, needs_space n goal purposes is)
  live n (BeforeText goal) purposes is = (_, before_text n goal purposes is)
  live n (InText goal quote text) purposes is = (_, in_text n goal quote text purposes is)
  live n (Escaped goal quote text) purposes is = (_, escaped n goal quote text purposes is)
  live n (Done e) purposes is = (_, (closes n e purposes is).0)
  live n (Joined e) purposes is = (_, (closes n e purposes is).1)
  live n (AfterJoined e) purposes is = (_, after_joined n e purposes is)
  live n (And e read) purposes is = let k : read ≡ 3 - (3 - read) = omega arith in (drop read (codes "AND ") ++ 40 ∷ opened_end (Next e ∷ purposes), subst (λ (r : ℕ). IsFilter (run vocabulary false n (And e r) purposes (drop r (codes "AND ") ++ 40 ∷ opened_end (Next e ∷ purposes)))) (sym k) (all_and n e purposes is.2 (3 - read) (omega arith)))
  live n (AfterAnd e) purposes is = (_, after_and n e purposes is)
  live n (Finished e) purposes is = ([], finished n e purposes)
