-- Words and texts of a filter that is UTF-8 are UTF-8.
use Rattle.std.proofs.Common.{◌≡◌, ℕ, zero, suc, ◌+◌, ◌<◌, ◌==◌, ◌&&◌, ◌||◌, slice_index, nat_lt, Bool, true, false, cond, List, [], ◌∷◌, ◌++◌, codes, Option, Some, None, Result, Ok, Err, refl, subst, arith}
use Rattle.std.specs.Str.{IsUtf8}
use Rattle.std.proofs.lemmas.Str.Ascii.{IsAscii-nil, IsAscii-cons, IsAscii-push}
use Rattle.std.proofs.lemmas.Str.{IsUtf8-from_ascii}
use Rattle.std.proofs.lemmas.Bool.Decides.{nat_tests}
use Rattle.filters.specs.declared.words.Vocabulary.{Vocabulary}
use Rattle.filters.specs.declared.state.Stop.{Stop}
use Rattle.filters.specs.declared.state.Stop.TheVariants.{Syntax, UnknownTag, TooDeep}
use Rattle.filters.specs.declared.state.Purpose.{Purpose}
use Rattle.filters.specs.declared.state.Purpose.TheVariants.{Whole, Negated, First, Next}
use Rattle.filters.specs.declared.state.Named.{Named}
use Rattle.filters.specs.declared.state.Named.TheVariants.{Field as NamedField, Base as NamedBase}
use Rattle.filters.specs.declared.state.Goal.TheVariants.{Compared, Base as BaseGoal}
use Rattle.filters.specs.declared.state.State.{State}
use Rattle.filters.specs.declared.state.State.TheVariants.{Start, Opened, Bang, Word, AfterField, Sign, Contains, NeedsSpace, BeforeText, InText, Escaped, Done, Joined, AfterJoined, And, AfterAnd, Finished}
use Rattle.filters.specs.declared.expression.Field.{Field}
use Rattle.filters.specs.declared.expression.Test.TheVariants.{Equals, Differs, Contains as ContainsTest}
use Rattle.filters.specs.Expressions.{Expression, Negation, Both}
use Rattle.filters.specs.Words.{is_word_byte}
use Rattle.mpd_text.proofs.AsciiCuts.{cut_at, without, one_more}
use Rattle.filters.specs.Machine.{step, opened, closed, sign, after_word, named_of, contains_letter, and_letter, filter_for, alone, IsCut, CanTake, CanEnd}

after_ascii : (c : ℕ) (ys : List ℕ) → IsUtf8 (c ∷ ys) → c < 128 → IsUtf8 ys
after_ascii c ys utf8 small = (cut_at [] ys c utf8 small).1

-- what was read stays cut well after this byte, if one more may follow
CutsNext : List ℕ → Result (State × List Purpose) Stop → Type 0
CutsNext rest (Ok next) = IsCut next.0 rest
CutsNext rest (Err stop) = Unit {0}

record Cuts (rest : List ℕ) (r : Result (State × List Purpose) Stop) : Type 0 where
  is : CutsNext rest r

goes : (rest : List ℕ) (state : State) (purposes : List Purpose) → IsCut state rest → Cuts rest (Ok (state, purposes))
unfolding CutsNext
goes rest state purposes is = record { is = is }

stop : (rest : List ℕ) (s : Stop) → Cuts rest (Err s)
unfolding CutsNext
stop rest s = record { is = tt }

when : (rest : List ℕ) (c : Bool) (x y : Result (State × List Purpose) Stop) → (c ≡ true → Cuts rest x) → (c ≡ false → Cuts rest y) → Cuts rest (cond c x y)
when rest true x y h k = h refl
when rest false x y h k = k refl

CutsAlone : List ℕ → Result State Stop → Type 0
CutsAlone rest (Ok state) = IsCut state rest
CutsAlone rest (Err stop) = Unit {0}

record CutsState (rest : List ℕ) (r : Result State Stop) : Type 0 where
  is : CutsAlone rest r

goes_state : (rest : List ℕ) (state : State) → IsCut state rest → CutsState rest (Ok state)
unfolding CutsAlone
goes_state rest state is = record { is = is }

stop_state : (rest : List ℕ) (s : Stop) → CutsState rest (Err s)
unfolding CutsAlone
stop_state rest s = record { is = tt }

when_state : (rest : List ℕ) (c : Bool) (x y : Result State Stop) → (c ≡ true → CutsState rest x) → (c ≡ false → CutsState rest y) → CutsState rest (cond c x y)
when_state rest true x y h k = h refl
when_state rest false x y h k = k refl

from_state : (rest : List ℕ) (r : Result State Stop) (purposes : List Purpose) → CutsState rest r → Cuts rest (alone r purposes)
unfolding CutsNext CutsAlone
from_state rest (Ok state) purposes h = record { is = h.is }
from_state rest (Err s) purposes h = record { is = tt }

-- a byte that is this ASCII byte is gone
past : (b c : ℕ) (rest : List ℕ) → IsUtf8 (b ∷ rest) → (b == c) ≡ true → c < 128 → IsUtf8 rest
past b c rest utf8 e small = after_ascii b rest utf8 (let same : b < 128 = grind (arith, nat_tests) in same)

tested : (b c : ℕ) (d : Bool) → ((b == c) && d) ≡ true → (b == c) ≡ true
tested b c d e = grind (arith, nat_tests)

opens : (purpose : Purpose) (purposes : List Purpose) (rest : List ℕ) → IsUtf8 rest → Cuts rest (opened true purpose purposes)
opens purpose purposes rest utf8 = when rest _ _ _ (λ _. stop rest TooDeep) (λ _. goes rest Opened (purpose ∷ purposes) utf8)

closes : (e : Expression) (purposes : List Purpose) (rest : List ℕ) → IsUtf8 rest → Cuts rest (closed e purposes)
closes e [] rest utf8 = stop rest Syntax
closes e (Whole ∷ purposes) rest utf8 = goes rest (Finished e) purposes utf8
closes e (Negated ∷ purposes) rest utf8 = goes rest (Done (Negation e)) purposes utf8
closes e (First ∷ purposes) rest utf8 = goes rest (Joined e) purposes utf8
closes e (Next first ∷ purposes) rest utf8 = goes rest (Joined (Both first e)) purposes utf8

signs : (field : Field) (b : ℕ) (rest : List ℕ) → IsUtf8 (b ∷ rest) → CutsState rest (sign field b)
signs field b rest utf8 =
    when_state rest (b == 32) _ _ (λ e. goes_state rest (AfterField field) (past b 32 rest utf8 e (omega arith))) (λ _.
    when_state rest (b == 61) _ _ (λ e. goes_state rest (Sign field Equals) (past b 61 rest utf8 e (omega arith))) (λ _.
    when_state rest (b == 33) _ _ (λ e. goes_state rest (Sign field Differs) (past b 33 rest utf8 e (omega arith))) (λ _.
    when_state rest (b == 99) _ _ (λ e. goes_state rest (Contains field 1) (past b 99 rest utf8 e (omega arith))) (λ _. stop_state rest Syntax))))

words : (name : Option Named) (word : List ℕ) (b : ℕ) (rest : List ℕ) → IsUtf8 (b ∷ rest) → CutsState rest (after_word name word b)
words None word b rest utf8 = stop_state rest (UnknownTag word)
words (Some (NamedField field)) word b rest utf8 = signs field b rest utf8
words (Some NamedBase) word b rest utf8 = when_state rest (b == 32) _ _ (λ e. goes_state rest (BeforeText BaseGoal) (past b 32 rest utf8 e (omega arith))) (λ _. stop_state rest Syntax)

contains_small : (read : ℕ) → read < 7 → slice_index (codes "contains") read < 128
contains_small zero low = omega arith
contains_small (suc zero) low = omega arith
contains_small (suc (suc zero)) low = omega arith
contains_small (suc (suc (suc zero))) low = omega arith
contains_small (suc (suc (suc (suc zero)))) low = omega arith
contains_small (suc (suc (suc (suc (suc zero))))) low = omega arith
contains_small (suc (suc (suc (suc (suc (suc zero)))))) low = omega arith
contains_small (suc (suc (suc (suc (suc (suc (suc read))))))) low = absurd (omega arith)

contains_byte : (read b : ℕ) → (nat_lt read 7 && (b == slice_index (codes "contains") read)) ≡ true → b < 128
contains_byte read b e =
    let low : read < 7 = grind (arith, nat_tests) in
    let same : b ≡ slice_index (codes "contains") read = grind (arith, nat_tests) in
    let small = contains_small read low in omega (arith, same, small)

second : (m n b c : ℕ) → ((m == n) && (b == c)) ≡ true → c < 128 → b < 128
second m n b c e small = grind (arith, nat_tests)

contains_cuts : (field : Field) (read b : ℕ) (rest : List ℕ) → IsUtf8 (b ∷ rest) → CutsState rest (contains_letter field read b)
contains_cuts field read b rest utf8 =
    when_state rest (nat_lt read 7 && (b == slice_index (codes "contains") read)) _ _ (λ e. goes_state rest (Contains field (read + 1)) (after_ascii b rest utf8 (contains_byte read b e))) (λ _.
    when_state rest ((read == 7) && (b == 115)) _ _ (λ e. goes_state rest (NeedsSpace (Compared field ContainsTest)) (after_ascii b rest utf8 (second read 7 b 115 e (omega arith)))) (λ _. stop_state rest Syntax))

and_cuts : (e : Expression) (read b : ℕ) (rest : List ℕ) → IsUtf8 (b ∷ rest) → CutsState rest (and_letter e read b)
and_cuts e read b rest utf8 =
    when_state rest ((read == 1) && (b == 78)) _ _ (λ h. goes_state rest (And e 2) (after_ascii b rest utf8 (second read 1 b 78 h (omega arith)))) (λ _.
    when_state rest ((read == 2) && (b == 68)) _ _ (λ h. goes_state rest (And e 3) (after_ascii b rest utf8 (second read 2 b 68 h (omega arith)))) (λ _.
    when_state rest ((read == 3) && (b == 32)) _ _ (λ h. goes_state rest (AfterAnd e) (after_ascii b rest utf8 (second read 3 b 32 h (omega arith)))) (λ _. stop_state rest Syntax)))

quote_small : (b : ℕ) → ((b == 34) || (b == 39)) ≡ true → b < 128
quote_small b e = grind (arith, nat_tests)

equal : (b c : ℕ) → (b == c) ≡ true → b ≡ c
equal b c e = grind (arith, nat_tests)

-- what may be taken
pub can_take : (state : State) (b : ℕ) (rest : List ℕ) → IsCut state (b ∷ rest) → CanTake state b
can_take (Word word) b rest is = IsUtf8-from_ascii word is.0
can_take (InText goal quote text) b rest is = λ e. (cut_at text rest b is.1 (omega (arith, is.0, e))).0
can_take Start b rest is = tt
can_take Opened b rest is = tt
can_take Bang b rest is = tt
can_take (AfterField field) b rest is = tt
can_take (Sign field test) b rest is = tt
can_take (Contains field read) b rest is = tt
can_take (NeedsSpace goal) b rest is = tt
can_take (BeforeText goal) b rest is = tt
can_take (Escaped goal quote text) b rest is = tt
can_take (Done e) b rest is = tt
can_take (Joined e) b rest is = tt
can_take (AfterJoined e) b rest is = tt
can_take (And e read) b rest is = tt
can_take (AfterAnd e) b rest is = tt
can_take (Finished e) b rest is = tt

pub can_end : (state : State) → IsCut state [] → CanEnd state
can_end (Word word) is = IsUtf8-from_ascii word is.0
can_end (InText goal quote text) is = tt
can_end Start is = tt
can_end Opened is = tt
can_end Bang is = tt
can_end (AfterField field) is = tt
can_end (Sign field test) is = tt
can_end (Contains field read) is = tt
can_end (NeedsSpace goal) is = tt
can_end (BeforeText goal) is = tt
can_end (Escaped goal quote text) is = tt
can_end (Done e) is = tt
can_end (Joined e) is = tt
can_end (AfterJoined e) is = tt
can_end (And e read) is = tt
can_end (AfterAnd e) is = tt
can_end (Finished e) is = tt

-- with this vocabulary
module _ (vocabulary : Vocabulary) where
  letter_small : (b : ℕ) → is_word_byte vocabulary b ≡ true → b < 128
  letter_small b e = grind (arith, nat_tests)

  keeps : (state : State) (purposes : List Purpose) (b : ℕ) (rest : List ℕ) → IsCut state (b ∷ rest) → Cuts rest (step vocabulary true state purposes b)
  unfolding step
  keeps Start purposes b rest is = when rest (b == 40) _ _ (λ e. opens Whole purposes rest (past b 40 rest is e (omega arith))) (λ _. stop rest Syntax)
  keeps Opened purposes b rest is =
      when rest (b == 32) _ _ (λ e. goes rest Opened purposes (past b 32 rest is e (omega arith))) (λ _.
      when rest (b == 33) _ _ (λ e. goes rest Bang purposes (past b 33 rest is e (omega arith))) (λ _.
      when rest (is_word_byte vocabulary b) _ _ (λ e. goes rest (Word (b ∷ [])) purposes (IsAscii-cons b [] (letter_small b e) IsAscii-nil, after_ascii b rest is (letter_small b e))) (λ _.
      when rest (b == 40) _ _ (λ e. opens First purposes rest (past b 40 rest is e (omega arith))) (λ _. stop rest Syntax))))
  keeps Bang purposes b rest is = when rest (b == 40) _ _ (λ e. opens Negated purposes rest (past b 40 rest is e (omega arith))) (λ _. stop rest Syntax)
  keeps (Word word) purposes b rest is =
      when rest (is_word_byte vocabulary b) _ _ (λ e. goes rest (Word (word ++ b ∷ [])) purposes (IsAscii-push word b is.0 (letter_small b e), after_ascii b rest is.1 (letter_small b e)))
      (λ _. from_state rest _ purposes (words (named_of vocabulary word) word b rest is.1))
  keeps (AfterField field) purposes b rest is = from_state rest _ purposes (signs field b rest is)
  keeps (Sign field test) purposes b rest is = when rest (b == 61) _ _ (λ e. goes rest (BeforeText (Compared field test)) purposes (past b 61 rest is e (omega arith))) (λ _. stop rest Syntax)
  keeps (Contains field read) purposes b rest is = from_state rest _ purposes (contains_cuts field read b rest is)
  keeps (NeedsSpace goal) purposes b rest is = when rest (b == 32) _ _ (λ e. goes rest (BeforeText goal) purposes (past b 32 rest is e (omega arith))) (λ _. stop rest Syntax)
  keeps (BeforeText goal) purposes b rest is =
      when rest (b == 32) _ _ (λ e. goes rest (BeforeText goal) purposes (past b 32 rest is e (omega arith))) (λ _.
      when rest ((b == 34) || (b == 39)) _ _ (λ e. goes rest (InText goal b []) purposes (quote_small b e, after_ascii b rest is (quote_small b e))) (λ _. stop rest Syntax))
  keeps (InText goal quote text) purposes b rest is =
      when rest (b == quote) _ _ (λ e. goes rest (Done (filter_for goal text)) purposes (cut_at text rest b is.1 (let same = equal b quote e in omega (arith, same, is.0))).1) (λ _.
      when rest (b == 92) _ _ (λ e. goes rest (Escaped goal quote text) purposes (is.0, without text rest b is.1 (let same = equal b 92 e in omega (arith, same)))) (λ _.
      goes rest (InText goal quote (text ++ b ∷ [])) purposes (is.0, one_more text b rest is.1)))
  keeps (Escaped goal quote text) purposes b rest is = goes rest (InText goal quote (text ++ b ∷ [])) purposes (is.0, one_more text b rest is.1)
  keeps (Done e) purposes b rest is =
      when rest (b == 32) _ _ (λ h. goes rest (Done e) purposes (past b 32 rest is h (omega arith))) (λ _.
      when rest (b == 41) _ _ (λ h. closes e purposes rest (past b 41 rest is h (omega arith))) (λ _. stop rest Syntax))
  keeps (Joined e) purposes b rest is =
      when rest (b == 32) _ _ (λ h. goes rest (AfterJoined e) purposes (past b 32 rest is h (omega arith))) (λ _.
      when rest (b == 41) _ _ (λ h. closes e purposes rest (past b 41 rest is h (omega arith))) (λ _. stop rest Syntax))
  keeps (AfterJoined e) purposes b rest is =
      when rest (b == 32) _ _ (λ h. goes rest (AfterJoined e) purposes (past b 32 rest is h (omega arith))) (λ _.
      when rest (b == 65) _ _ (λ h. goes rest (And e 1) purposes (past b 65 rest is h (omega arith))) (λ _.
      when rest (b == 41) _ _ (λ h. closes e purposes rest (past b 41 rest is h (omega arith))) (λ _. stop rest Syntax)))
  keeps (And e read) purposes b rest is = from_state rest _ purposes (and_cuts e read b rest is)
  keeps (AfterAnd e) purposes b rest is =
      when rest (b == 32) _ _ (λ h. goes rest (AfterAnd e) purposes (past b 32 rest is h (omega arith))) (λ _.
      when rest (b == 40) _ _ (λ h. opens (Next e) purposes rest (past b 40 rest is h (omega arith))) (λ _. stop rest Syntax))
  keeps (Finished e) purposes b rest is = stop rest Syntax

  -- after the next byte what was read is cut well
  pub cut_on : (state : State) (purposes : List Purpose) (b : ℕ) (rest : List ℕ) (next : State) (more : List Purpose) → IsCut state (b ∷ rest) → step vocabulary true state purposes b ≡ Ok (next, more) → IsCut next rest
  unfolding CutsNext
  cut_on state purposes b rest next more is e = subst (CutsNext rest) e (keeps state purposes b rest is).is
