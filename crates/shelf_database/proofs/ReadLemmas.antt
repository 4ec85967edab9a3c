-- What SELECT shows of one table: the rows that pass, in an order that ORDER BY allows.
use Rattle.std.proofs.Common.{◌≡◌, ℕ, List, [], ◌∷◌, map, filter, flat_map, Bool, refl, ap, subst, ◌∙◌, inl, inr}
use Rattle.std.specs.Prelude.{if◌then◌else◌}
use Rattle.std.specs.List.{list_all}
use Rattle.std.specs.List.Sorted.{IsPermutation, IsSorted}
use Rattle.std.proofs.lemmas.Bool.{cases_Bool}
use Rattle.sqlite.specs.Order.{Row}
use Rattle.sqlite.specs.Tree.{Trees}
use Rattle.sqlite.specs.Term.{Term, Env, holds}
use Rattle.sqlite_value.specs.declared.keys.Key.{Key}
use Rattle.sqlite.specs.Query.{IsAnswer, output, output_cmp, Output}
use Rattle.shelf_database.proofs.Statements.{over, over_by}
use Rattle.sqlite.specs.Collation.{Collation}

module _ (params : Row) (tree : ℕ) (terms project : List Term) (order : List (Term × Key)) (test : Row → Bool)
    (tests : (row : Row) → list_all (holds (params ∷ row ∷ [])) terms ≡ test row) where
  abbrev env : Row → Env
  env row = params ∷ row ∷ []

  staged_are : (rows : List Row) → flat_map (λ r. if list_all (holds (env r)) terms then env r ∷ [] else []) rows ≡ map env (filter test rows)
  staged_are [] = refl
  staged_are (r ∷ rows) = elim (cases_Bool (test r)) [
    | inl is ↦ rw (tests r, is) (ap (λ xs. env r ∷ xs) (staged_are rows))
    | inr other ↦ rw (tests r, other) (staged_are rows)
  ]

  abbrev pub shows : Row → Output
  shows row = output (over tree terms project order) (env row)

  shown_all : (rows : List Row) → map (output (over tree terms project order)) (map env rows) ≡ map shows rows
  shown_all [] = refl
  shown_all (r ∷ rows) = ap (λ xs. shows r ∷ xs) (shown_all rows)

  pub record IsRead (found rows : List Row) : Type 0 where
    pub sorted : List Output
    pub same : IsPermutation (map shows found) sorted
    pub rises : IsSorted (output_cmp (over tree terms project order)) sorted
    pub shown : rows ≡ map (λ (o : Output). o.1) sorted

  pub answer_is : (db : Trees) (rows : List Row) → IsAnswer (over tree terms project order) db params rows → IsRead (filter test (db tree)) rows
  answer_is db rows a =
      let staged : a.staged ≡ map env (filter test (db tree)) = a.grouped ∙ staged_are (db tree) in
      let kept : a.kept ≡ map shows (filter test (db tree)) = a.distinct ∙ ap (map (output (over tree terms project order))) staged ∙ shown_all (filter test (db tree)) in
      record { sorted = a.ordered; same = subst (λ k. IsPermutation k a.ordered) kept a.same; rises = a.sorted; shown = a.shown }

-- the collations of the columns decide nothing where all rows are shown
pub plain_answer : (collations : List Collation) (tree : ℕ) (terms project : List Term) (order : List (Term × Key)) (db : Trees) (params : Row) (rows : List Row) → IsAnswer (over_by collations tree terms project order) db params rows
    → IsAnswer (over tree terms project order) db params rows
plain_answer collations tree terms project order db params rows a =
    record { staged = a.staged; grouped = a.grouped; kept = a.kept; distinct = a.distinct; ordered = a.ordered; same = a.same; sorted = a.sorted; shown = a.shown }
