-- What a text is answered, by the grammar alone: its expression, or its first fault from the left (MPD
-- protocol reference, Filters).
use Rattle.std.specs.Prelude.{◌≡◌, ◌⊎◌, ℕ, List, Result, Ok, Err}
use Rattle.filters.specs.declared.words.Vocabulary.{Vocabulary}
use Rattle.filters.specs.declared.reading.FilterFault.{FilterFault}
use Rattle.filters.specs.declared.reading.FilterFault.TheVariants.{Syntax, UnknownTag, TooDeep, NoMemory}
use Rattle.filters.specs.Expressions.{Expression}
use Rattle.filters.specs.Grammar.{Says, IsLongestStart, NamesNothing, GoesTooDeep}

-- A fault of syntax is answered where no word names nothing and no 33rd parenthesis opens; where one does,
-- all before it is sound.
abbrev pub IsFirstFault : Vocabulary → List ℕ → FilterFault → Type 0
IsFirstFault vocabulary text (Syntax k) = IsLongestStart vocabulary text k × ((word : List ℕ) → NamesNothing vocabulary text word → ⊥) × (GoesTooDeep vocabulary text → ⊥)
IsFirstFault vocabulary text (UnknownTag word) = NamesNothing vocabulary text word
IsFirstFault vocabulary text TooDeep = GoesTooDeep vocabulary text
IsFirstFault vocabulary text NoMemory = ⊥

abbrev pub IsAnswer : Vocabulary → List ℕ → Result Expression FilterFault → Type 0
IsAnswer vocabulary text (Ok e) = Says vocabulary text e
IsAnswer vocabulary text (Err fault) = IsFirstFault vocabulary text fault

-- this, unless memory ran out
abbrev pub OrNoMemory : Result Expression FilterFault → Result Expression FilterFault → Type 0
OrNoMemory result exact = (result ≡ Err NoMemory) ⊎ (result ≡ exact)

-- each text has one answer
pub record HasOneAnswer (vocabulary : Vocabulary) (text : List ℕ) : Type 0 where
  pub answer : Result Expression FilterFault
  pub is : IsAnswer vocabulary text answer
  pub only : (other : Result Expression FilterFault) → IsAnswer vocabulary text other → other ≡ answer
