-- What keeps texts in the rows of the tables, and that a row with texts lacks none.
use Rattle.std.proofs.Common.{◌≡◌, ◌⊎◌, inl, inr, ℕ, List, [], ◌∷◌, filter, Bool, refl, sym, subst}
use Rattle.std.specs.Str.{IsUtf8}
use Rattle.sqlite.specs.declared.types.Value.{Value}
use Rattle.sqlite.specs.declared.types.Value.TheVariants.{Text}
use Rattle.sqlite.specs.Order.{Row, column}
use Rattle.sqlite.specs.Tree.{Trees, put_row}
use Rattle.sqlite_rules.specs.Lists.{Has}
use Rattle.sqlite_rules.proofs.ListLemmas.{has_filtered}
use Rattle.sqlite_rules.proofs.TableLemmas.{put_has}
use Rattle.shelf_database.specs.Tables.{IsText, HaveTexts, HoldsTexts}
use Rattle.shelf_database.specs.Faults.{LacksText}

pub text_there : (text : List ℕ) → IsUtf8 text → IsText (Text text)
text_there text utf8 = (text, refl, utf8)

pub filtered_texts : (columns : List ℕ) (p : Row → Bool) (rows : List Row) → HaveTexts columns rows → HaveTexts columns (filter p rows)
filtered_texts columns p rows texts = λ row has. texts row (has_filtered p rows row has).0

-- a row that is put among others
pub put_texts : (columns : List ℕ) (new : Row) (rows : List Row) → ((at : ℕ) → Has columns at → IsText (column new at)) → HaveTexts columns rows → HaveTexts columns (put_row new rows)
put_texts columns new rows here texts = λ row has at is. elim (put_has new rows row has) [
  | inl same ↦ subst (λ (r : Row). IsText (column r at)) (sym same) (here at is)
  | inr was ↦ texts row was at is
]

-- a row of a list, and one of a sticker
pub two_texts : (id a b : Value) → IsText a → IsText b → (at : ℕ) → Has (1 ∷ 2 ∷ []) at → IsText (column (id ∷ a ∷ b ∷ []) at)
two_texts id a b first second at (inl is) = subst (λ n. IsText (column (id ∷ a ∷ b ∷ []) n)) (sym is) first
two_texts id a b first second at (inr (inl is)) = subst (λ n. IsText (column (id ∷ a ∷ b ∷ []) n)) (sym is) second
two_texts id a b first second at (inr (inr never)) = absurd never

pub four_texts : (id a b c d : Value) → IsText a → IsText b → IsText c → IsText d → (at : ℕ) → Has (1 ∷ 2 ∷ 3 ∷ 4 ∷ []) at → IsText (column (id ∷ a ∷ b ∷ c ∷ d ∷ []) at)
four_texts id a b c d first second third fourth at (inl is) = subst (λ n. IsText (column (id ∷ a ∷ b ∷ c ∷ d ∷ []) n)) (sym is) first
four_texts id a b c d first second third fourth at (inr (inl is)) = subst (λ n. IsText (column (id ∷ a ∷ b ∷ c ∷ d ∷ []) n)) (sym is) second
four_texts id a b c d first second third fourth at (inr (inr (inl is))) = subst (λ n. IsText (column (id ∷ a ∷ b ∷ c ∷ d ∷ []) n)) (sym is) third
four_texts id a b c d first second third fourth at (inr (inr (inr (inl is)))) = subst (λ n. IsText (column (id ∷ a ∷ b ∷ c ∷ d ∷ []) n)) (sym is) fourth
four_texts id a b c d first second third fourth at (inr (inr (inr (inr never)))) = absurd never

-- tables without rows
pub empty_texts : (trees : Trees) → trees 1 ≡ [] → trees 5 ≡ [] → HoldsTexts trees
empty_texts trees lists notes = record {
  lists = λ row has. absurd (subst (λ rows. Has rows row) lists has);
  notes = λ row has. absurd (subst (λ rows. Has rows row) notes has);
}

-- no row lacks a text in some of the columns that hold texts
never_lacks : (held columns : List ℕ) (is_asked : Row → Bool) (rows : List Row) → HaveTexts held rows → ((at : ℕ) → Has columns at → Has held at) → LacksText columns is_asked rows → ⊥
never_lacks held columns is_asked rows texts some lacks = let it = texts lacks.0 lacks.1 lacks.3 (some lacks.3 lacks.4) in lacks.5 it.0 it.1 it.2

first_held : (held : List ℕ) (a : ℕ) → Has held a → (at : ℕ) → Has (a ∷ []) at → Has held at
first_held held a is at (inl same) = subst (Has held) (sym same) is
first_held held a is at (inr never) = absurd never

both_held : (held : List ℕ) (a b : ℕ) → Has held a → Has held b → (at : ℕ) → Has (a ∷ b ∷ []) at → Has held at
both_held held a b first second at (inl same) = subst (Has held) (sym same) first
both_held held a b first second at (inr (inl same)) = subst (Has held) (sym same) second
both_held held a b first second at (inr (inr never)) = absurd never

pub one_never_lacks : (held : List ℕ) (a : ℕ) (is_asked : Row → Bool) (rows : List Row) → HaveTexts held rows → Has held a → LacksText (a ∷ []) is_asked rows → ⊥
one_never_lacks held a is_asked rows texts is lacks = never_lacks held (a ∷ []) is_asked rows texts (first_held held a is) lacks

pub both_never_lack : (held : List ℕ) (a b : ℕ) (is_asked : Row → Bool) (rows : List Row) → HaveTexts held rows → Has held a → Has held b → LacksText (a ∷ b ∷ []) is_asked rows → ⊥
both_never_lack held a b is_asked rows texts first second lacks = never_lacks held (a ∷ b ∷ []) is_asked rows texts (both_held held a b first second) lacks

-- so that the store is blamed for a failure alone
pub failed_only : (failed lacks other : Type 0) → (lacks → ⊥) → failed ⊎ lacks → failed ⊎ other
failed_only failed lacks other never (inl is) = inl is
failed_only failed lacks other never (inr is) = absurd (never is)
