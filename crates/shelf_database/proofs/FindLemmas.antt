-- A row that is found, after rows were put in or taken out.
use Rattle.std.proofs.Common.{◌≡◌, inl, inr, ℤ, List, [], ◌∷◌, find, filter, Bool, true, false, not, Some, None, Ordering, Less, Equal, Greater, refl, sym, ◌∙◌, true≢false}
use Rattle.std.specs.Ordering.{is_eq, match_ordering}
use Rattle.std.proofs.lemmas.Bool.{or_parts, cases_Bool}
use Rattle.sqlite.specs.Order.{Row, value_cmp}
use Rattle.sqlite.specs.Tree.{rowid, has_rowid, put_row, without_rowid}
use Rattle.sqlite_rules.specs.Edit.{is_taken, without_all}
use Rattle.sqlite_rules.specs.Lists.{Has}
use Rattle.sqlite_rules.proofs.ListLemmas.{has_filtered}

module _ (p : Row → Bool) where
  pub find_past_put : (new : Row) (rows : List Row) → p new ≡ false → is_taken rows new ≡ false → find p (put_row new rows) ≡ find p rows
  find_past_put new [] other free = rw other refl
  find_past_put new (r ∷ rows) other free = go (value_cmp (rowid r) (rowid new)) (or_parts _ _ free).0 (find_past_put new rows other (or_parts _ _ free).1)
    where
      go : (o : Ordering) → is_eq o ≡ false → find p (put_row new rows) ≡ find p rows
          → find p (match_ordering o (r ∷ put_row new rows) (new ∷ rows) (new ∷ r ∷ rows)) ≡ find p (r ∷ rows)
      go Less apart later = rw later refl
      go Equal apart later = absurd (true≢false apart)
      go Greater apart later = rw other refl

  pub find_put : (new : Row) (rows : List Row) → p new ≡ true → find p rows ≡ None → find p (put_row new rows) ≡ Some new
  find_put new [] is none = rw is refl
  find_put new (r ∷ rows) is none = elim (cases_Bool (p r)) [
    | inl here ↦ absurd (let e = rw here at none in cc)
    | inr other ↦ go (value_cmp (rowid r) (rowid new)) other (find_put new rows is (rw other at none))
  ]
    where
      go : (o : Ordering) → p r ≡ false → find p (put_row new rows) ≡ Some new
          → find p (match_ordering o (r ∷ put_row new rows) (new ∷ rows) (new ∷ r ∷ rows)) ≡ Some new
      go Less other later = rw (other, later) refl
      go Equal other later = rw is refl
      go Greater other later = rw is refl

  pub find_kept : (q : Row → Bool) (rows : List Row) → ((r : Row) → Has rows r → p r ≡ true → q r ≡ true) → find p (filter q rows) ≡ find p rows
  find_kept q [] all = refl
  find_kept q (r ∷ rows) all = elim (cases_Bool (p r)) [
    | inl here ↦ rw (all r (inl refl) here, here) refl
    | inr other ↦ elim (cases_Bool (q r)) [
      | inl kept ↦ rw (kept, other) (find_kept q rows (λ x h. all x (inr h)))
      | inr gone ↦ rw (gone, other) (find_kept q rows (λ x h. all x (inr h)))
    ]
  ]

  pub find_left : (ids : List ℤ) (rows : List Row) → ((r : Row) (id : ℤ) → Has rows r → p r ≡ true → Has ids id → has_rowid id r ≡ false) → find p (without_all rows ids) ≡ find p rows
  find_left [] rows all = refl
  find_left (id ∷ ids) rows all =
      find_left ids (without_rowid id rows) (λ r i h is there. all r i (has_filtered _ rows r h).0 is (inr there))
      ∙ find_kept (λ r. not (has_rowid id r)) rows (λ r h is. rw (all r id h is (inl refl)) refl)

  pub find_none : (rows : List Row) → ((r : Row) → Has rows r → p r ≡ false) → find p rows ≡ None
  find_none [] all = refl
  find_none (r ∷ rows) all = rw (all r (inl refl)) (find_none rows (λ x h. all x (inr h)))

-- what passes is not among the rows that are left
pub find_out : (p q : Row → Bool) (rows : List Row) → ((r : Row) → p r ≡ true → q r ≡ false) → find p (filter q rows) ≡ None
find_out p q [] apart = refl
find_out p q (r ∷ rows) apart = elim (cases_Bool (q r)) [
  | inl kept ↦ elim (cases_Bool (p r)) [
    | inl is ↦ absurd (true≢false (sym kept ∙ apart r is))
    | inr other ↦ rw (kept, other) (find_out p q rows apart)
  ]
  | inr gone ↦ rw gone (find_out p q rows apart)
]
