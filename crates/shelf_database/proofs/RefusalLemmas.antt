-- What never stops a statement of a shelf, since no table of it has a reference.
use Rattle.std.proofs.Common.{◌≡◌, ◌⊎◌, inl, inr, ℕ, zero, suc, List, [], ◌∷◌, length, true, Option, None, Some, Ok, Err, refl, sym, ap, subst, ◌∙◌, IsSome, arith, length-append}
use Rattle.std.specs.List.{list_all}
use Rattle.std.proofs.lemmas.Bool.{true≢false, or_right, and_from}
use Rattle.sqlite.specs.declared.error.Error.{Error}
use Rattle.sqlite.specs.declared.run.Mode.{Mode}
use Rattle.sqlite.specs.Order.{Row}
use Rattle.sqlite.specs.Tree.{Trees, IsAscending}
use Rattle.sqlite.specs.Table.{Table}
use Rattle.sqlite.specs.Edit.{Edit, is_referred, IsRefused, IsOversized}
use Rattle.sqlite.specs.Term.{Term}
use Rattle.sqlite.specs.Effect.{Database}
use Rattle.sqlite.specs.State.{State}
use Rattle.sqlite.specs.Rows.{Queried, Edited, Written}
use Rattle.sqlite.specs.Does.{due, Tested, Concludes}
use Rattle.sqlite_value.specs.declared.keys.Key.{Key}
use Rattle.sqlite_typing.specs.Types.{accepts_program}
use Rattle.sqlite_schema.specs.declared.schema.Constraint.TheVariants.{Unique}
use Rattle.sqlite_schema.specs.declared.schema.Keys.TheVariants.{Enforced}
use Rattle.sqlite_schema.specs.declared.schema.Among.{Among}
use Rattle.sqlite_schema.specs.Rules.{Keeps, Refers, is_key_of}
use Rattle.sqlite_rules.specs.declared.error.Refusal.{Refusal}
use Rattle.sqlite_rules.specs.Action.{End, Leads, Settles}
use Rattle.sqlite_rules.specs.Lists.{Has}
use Rattle.sqlite_rules.proofs.ListLemmas.{all_has}
use Rattle.sqlite_rules.proofs.RuleLemmas.{refers_from}
use Rattle.shelf_database.specs.Tables.{shelf_schema, IsShelf, IsReady}
use Rattle.shelf_database.proofs.Statements.{over}

-- a query of one table, whose types are allowed, is stopped by the limit alone
pub query_limited : (tree : ℕ) (filter project : List Term) (order : List (Term × Key)) (limit : Option ℕ) (db : Database) (params : Row) (stop : Option Error)
    → accepts_program db.schema [] (over tree filter project order) params ≡ true → Queried limit db (record { lets = []; body = over tree filter project order }) params (Err stop) → IsSome limit
query_limited tree filter project order limit db params None typed h = absurd h
query_limited tree filter project order limit db params (Some e) typed h = elim h [
  | inl mistyped ↦ absurd (true≢false (sym typed ∙ mistyped.1))
  | inr (inl sum) ↦ absurd (elim sum.1 [ inl never ↦ never | inr some ↦ some.4 ])
  | inr (inr stopped) ↦ stopped.1
]

pub unique_in : (db : Database) → IsShelf db → Keeps Unique shelf_schema db.trees
unique_in db shelf = subst (λ schema. Keeps Unique schema db.trees) shelf.schema (shelf.sound.obeys.rules Unique)

pub unique_now : (s : State) → IsReady s → Keeps Unique shelf_schema s.now.trees
unique_now s ready = unique_in s.now ready.shelf

-- each table has a tree of its own
pub trees_apart : IsAscending (λ a b. a.tree ≡ b.tree → ⊥) shelf_schema.tables
trees_apart =
    ((λ e. omega (arith, e), (λ e. omega (arith, e), (λ e. omega (arith, e), tt))), ((λ e. omega (arith, e), (λ e. omega (arith, e), tt)), ((λ e. omega (arith, e), tt), (tt, tt))))

pub no_reference : (table : Table) → Has shelf_schema.tables table → table.references ≡ []
no_reference table listed = all_has (λ t. t.references ≡ []) shelf_schema.tables table (refl, (refl, (refl, (refl, tt)))) listed

-- what refers to a table, and what it refers to, is a key
pub always_referred : (edit : Edit) → Has shelf_schema.tables edit.table → is_referred shelf_schema Enforced edit ≡ true
always_referred edit listed =
    and_from _ _ (or_right _ _ (subst (λ refs. list_all (is_key_of shelf_schema) refs ≡ true) (sym (no_reference edit.table listed)) refl)) (or_right _ _ refl)

pub always_refers : (among : Among) (db : Trees) → Refers among shelf_schema db
always_refers among db = refers_from among shelf_schema db (λ t ref row listed known is there. absurd (subst (λ refs. Has refs ref) (no_reference t listed) known))

-- where no action waits, nothing stops the statement any more
pub settles_so : (db : Trees) (end : End) → Settles shelf_schema Enforced db [] end → end ≡ Ok db
settles_so db end h = go h.0 h.1
  where
    go : (n : ℕ) → Leads shelf_schema Enforced n db [] end → end ≡ Ok db
    go zero led = led.1
    go (suc n) led = absurd (omega (arith, ap length led.2, length-append led.0 (led.1 ∷ [])))

-- an edit stops by a rule, or at a row that is not stored
pub edit_stops : (db : Trees) (edit : Edit) (stop : Option Error) → Edited shelf_schema Enforced db edit (Err stop)
    → ((why : Refusal) × IsRefused shelf_schema Enforced db edit why) ⊎ ((row : Row) × Has edit.news row × IsOversized shelf_schema edit.table row)
edit_stops db edit stop h = elim h.1 [
  | inl refused ↦ inl (refused.0, refused.1)
  | inr (inl big) ↦ inr (big.0, big.1, big.2)
  | inr (inr went) ↦ absurd (let e = settles_so went.0 (Err h.0) went.2 in cc)
]

-- no foreign key is broken
pub tests_done : (mode : Mode) (db : Trees) (stop : Option Error) → Tested mode (λ among. Refers among shelf_schema db) (Err stop) → ⊥
tests_done mode db stop h = h.0 (always_refers (due mode) db)

-- a statement whose rows are written ends well, where it shows none
pub concludes_done : (limit : Option ℕ) (table : Table) (params : Row) (mode : Mode) (w : Written) (stop : Option Error)
    → Concludes (record { limit = limit; keys = Enforced; schema = shelf_schema; table = table; params = params }) mode None w (Err stop) → ⊥
concludes_done limit table params mode w stop (inl broken) = tests_done mode w.trees broken.0 broken.1
concludes_done limit table params mode w stop (inr on) = elim on.2 [ inl none ↦ let e = none.1 in cc | inr shown ↦ let e = shown.2 in cc ]
