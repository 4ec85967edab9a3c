-- What pairs of words ask for (MPD protocol reference, Filters, the older form; that `base` is no comparison
-- is this profile's).
use Rattle.std.specs.Prelude.{ℕ, Bool, ◌||◌, not, is_some, List, [], ◌∷◌, Option, Some, None, option_map, Result, Ok, Err, if◌then◌else◌}
use Rattle.std.specs.List.{find, filter_map}
use Rattle.filters.specs.declared.words.Vocabulary.{Vocabulary}
use Rattle.filters.specs.declared.expression.Test.{Test}
use Rattle.filters.specs.declared.pairs.Pair.{Pair}
use Rattle.filters.specs.declared.reading.FilterFault.{FilterFault}
use Rattle.filters.specs.declared.reading.FilterFault.TheVariants.{UnknownTag}
use Rattle.filters.specs.Expressions.{Expression, Compare, Under, all_of}
use Rattle.filters.specs.Words.{is_base, field_named}

-- a word that is `base`, or names what is compared
abbrev pub names_something : Vocabulary → List ℕ → Bool
names_something vocabulary word = is_base word || is_some (field_named vocabulary word)

-- what one pair asks for, if its word names something: the songs under a folder, or one comparison
abbrev pub asked : Vocabulary → Test → Pair → Option Expression
asked vocabulary test pair = if is_base pair.name then Some (Under pair.text) else option_map (λ field. Compare field test pair.text) (field_named vocabulary pair.name)

-- all of these together; none of them ask for nothing, as the empty folder does
abbrev pub together : List Expression → Expression
together [] = Under []
together (e ∷ more) = all_of e more

-- the fault of a pair whose word names nothing, if there is one
abbrev pub unless_unknown : Option Pair → Expression → Result Expression FilterFault
unless_unknown None e = Ok e
unless_unknown (Some pair) e = Err (UnknownTag pair.name)

-- what all pairs ask for together, or the first word from the left that names nothing
abbrev pub pairs_meaning : Vocabulary → Test → List Pair → Result Expression FilterFault
pairs_meaning vocabulary test pairs = unless_unknown (find (λ pair. not (names_something vocabulary pair.name)) pairs) (together (filter_map (asked vocabulary test) pairs))
