-- Pairs that are read one after another give what the list means.
use Rattle.std.proofs.Common.{◌≡◌, Bool, true, false, not, List, [], ◌∷◌, Option, Some, None, Result, refl, subst}
use Rattle.std.specs.List.{find, filter_map}
use Rattle.filters.specs.declared.words.Vocabulary.{Vocabulary}
use Rattle.filters.specs.declared.expression.Field.{Field}
use Rattle.filters.specs.declared.expression.Test.{Test}
use Rattle.filters.specs.declared.pairs.Pair.{Pair}
use Rattle.filters.specs.declared.reading.FilterFault.{FilterFault}
use Rattle.filters.specs.Answers.{OrNoMemory}
use Rattle.filters.specs.Expressions.{Expression, all_of}
use Rattle.filters.specs.Machine.{Reads, named_of}
use Rattle.filters.specs.Pairs.{names_something, asked, unless_unknown, pairs_meaning}
use Rattle.filters.specs.PairSteps.{pair_of, joined_with, pairs_of}
use Rattle.filters.specs.Words.{is_base, field_named}
use Rattle.filters.proofs.Exact.{reads_or}

-- with this vocabulary
module _ (vocabulary : Vocabulary) where
  -- an expression with what pairs ask for
  abbrev with_pairs : Test → Expression → List Pair → Result Expression FilterFault
  with_pairs test e pairs = unless_unknown (find (λ pair. not (names_something vocabulary pair.name)) pairs) (all_of e (filter_map (asked vocabulary test) pairs))

  one_more : (test : Test) (e : Expression) (pair : Pair) (pairs : List Pair) (base : Bool) (field : Option Field) → is_base pair.name ≡ base → field_named vocabulary pair.name ≡ field
      → ((f : Expression) → joined_with vocabulary test f pairs ≡ with_pairs test f pairs) → joined_with vocabulary test e (pair ∷ pairs) ≡ with_pairs test e (pair ∷ pairs)
  unfolding joined_with pair_of named_of
  one_more test e pair pairs true field b f more = rw b (more _)
  one_more test e pair pairs false None b f more = rw (b, f) refl
  one_more test e pair pairs false (Some field) b f more = rw (b, f) (more _)

  joins : (test : Test) (e : Expression) (pairs : List Pair) → joined_with vocabulary test e pairs ≡ with_pairs test e pairs
  unfolding joined_with
  joins test e [] = refl
  joins test e (pair ∷ pairs) = one_more test e pair pairs (is_base pair.name) (field_named vocabulary pair.name) refl refl (λ f. joins test f pairs)

  first : (test : Test) (pair : Pair) (pairs : List Pair) (base : Bool) (field : Option Field) → is_base pair.name ≡ base → field_named vocabulary pair.name ≡ field
      → pairs_of vocabulary test (pair ∷ pairs) ≡ pairs_meaning vocabulary test (pair ∷ pairs)
  unfolding pairs_of pair_of named_of
  first test pair pairs true field b f = rw b (joins test _ pairs)
  first test pair pairs false None b f = rw (b, f) refl
  first test pair pairs false (Some field) b f = rw (b, f) (joins test _ pairs)

  means : (test : Test) (pairs : List Pair) → pairs_of vocabulary test pairs ≡ pairs_meaning vocabulary test pairs
  unfolding pairs_of
  means test [] = refl
  means test (pair ∷ pairs) = first test pair pairs (is_base pair.name) (field_named vocabulary pair.name) refl refl

  pub pairs_mean : (test : Test) (pairs : List Pair) (r : Result Expression FilterFault) → Reads r (pairs_of vocabulary test pairs) → OrNoMemory r (pairs_meaning vocabulary test pairs)
  pairs_mean test pairs r h = subst (OrNoMemory r) (means test pairs) (reads_or r (pairs_of vocabulary test pairs) h)
