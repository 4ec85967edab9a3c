-- Pairs of words, read one after another: how the call gets to what the list means.
use Rattle.std.specs.Prelude.{List, [], ◌∷◌, ℕ, Option, Some, None, Result, Ok, Err}
use Rattle.filters.specs.declared.words.Vocabulary.{Vocabulary}
use Rattle.filters.specs.declared.expression.Test.{Test}
use Rattle.filters.specs.declared.pairs.Pair.{Pair}
use Rattle.filters.specs.declared.state.Named.{Named}
use Rattle.filters.specs.declared.state.Named.TheVariants.{Field as NamedField, Base as NamedBase}
use Rattle.filters.specs.declared.reading.FilterFault.{FilterFault}
use Rattle.filters.specs.declared.reading.FilterFault.TheVariants.{UnknownTag}
use Rattle.filters.specs.Expressions.{Expression, Compare, Under, Both}
use Rattle.filters.specs.Machine.{named_of}

abbrev pub compared : Test → List ℕ → List ℕ → Option Named → Result Expression FilterFault
compared test word text None = Err (UnknownTag word)
compared test word text (Some (NamedField field)) = Ok (Compare field test text)
compared test word text (Some NamedBase) = Ok (Under text)

-- what one pair asks for
unfoldable pub pair_of : Vocabulary → Test → Pair → Result Expression FilterFault
pair_of vocabulary test pair = compared test pair.name pair.text (named_of vocabulary pair.name)

abbrev pub and_then : Result Expression FilterFault → (Expression → Result Expression FilterFault) → Result Expression FilterFault
and_then (Ok e) more = more e
and_then (Err fault) more = Err fault

-- an expression and all of these pairs, or the first pair from the left that names nothing
unfoldable pub joined_with : Vocabulary → Test → Expression → List Pair → Result Expression FilterFault
joined_with vocabulary test e [] = Ok e
joined_with vocabulary test e (pair ∷ pairs) = and_then (pair_of vocabulary test pair) (λ f. joined_with vocabulary test (Both e f) pairs)

-- all of these pairs
unfoldable pub pairs_of : Vocabulary → Test → List Pair → Result Expression FilterFault
pairs_of vocabulary test [] = Ok (Under [])
pairs_of vocabulary test (pair ∷ pairs) = and_then (pair_of vocabulary test pair) (λ e. joined_with vocabulary test e pairs)
