-- No two rows have one key, since the key is unique.
use Rattle.std.proofs.Common.{◌≡◌, inl, inr, ℕ, List, [], ◌∷◌, filter, find, Bool, true, false, not, ◌&&◌, Some, refl, sym, subst, ◌∙◌, Ordering, Less, Equal, Greater}
use Rattle.std.specs.Option.{option_to_list}
use Rattle.std.specs.List.{list_any}
use Rattle.std.specs.Ordering.{is_eq, is_ne}
use Rattle.std.proofs.lemmas.Bool.{cases_Bool, true≢false, not-true, and_parts}
use Rattle.std.proofs.lemmas.Cmp.{tied_itself, tied_back}
use Rattle.sqlite.specs.declared.types.Value.{Value}
use Rattle.sqlite.specs.declared.types.Value.TheVariants.{Text}
use Rattle.sqlite.specs.Order.{Row, column, value_cmp}
use Rattle.sqlite.specs.Ops.{binary, is_true, from_truth}
use Rattle.sqlite.specs.Tree.{IsTable, rowid}
use Rattle.sqlite.specs.View.{is_int}
use Rattle.sqlite.specs.Effect.{Database}
use Rattle.sqlite_value.proofs.OrderLemmas.{value_cmp_total}
use Rattle.sqlite_value.specs.Keys.{first_key}
use Rattle.sqlite_schema.specs.Rules.{Keeps, clashes, agree, differ}
use Rattle.sqlite_schema.specs.declared.schema.Constraint.TheVariants.{Unique}
use Rattle.sqlite_rules.specs.Lists.{Has}
use Rattle.sqlite_rules.proofs.ListLemmas.{all_has, some_from}
use Rattle.sqlite_rules.proofs.PlaceLemmas.{tied_same}
use Rattle.sqlite_rules.proofs.TableLemmas.{int_is}
use Rattle.shelf.specs.declared.kinds.StickerKind.{StickerKind}
use Rattle.shelf_database.specs.Tables.{shelf_schema, has_text, has_key, kind_text, AreRows, IsShelf}
use Rattle.shelf_database.proofs.TextLemmas.{equal_text, text_is}

abbrev pub Once : (Row → Bool) → List Row → Type 0
Once p rows = (a b : Row) → Has rows a → Has rows b → p a ≡ true → p b ≡ true → a ≡ b

none_of : (p : Row → Bool) (xs : List Row) → ((x : Row) → Has xs x → p x ≡ true → ⊥) → filter p xs ≡ []
none_of p [] never = refl
none_of p (x ∷ xs) never = elim (cases_Bool (p x)) [
  | inl is ↦ absurd (never x (inl refl) is)
  | inr other ↦ rw other (none_of p xs (λ y h. never y (inr h)))
]

pub found_once : (p : Row → Bool) (rows : List Row) → IsTable rows → Once p rows → filter p rows ≡ option_to_list (find p rows)
found_once p [] up once = refl
found_once p (r ∷ rows) up once = elim (cases_Bool (p r)) [
  | inl is ↦
      let rest = none_of p rows (λ y h also.
      let same = once r y (inl refl) (inr h) is also in
      let below = all_has _ rows y up.0 h in
      let itself = tied_itself value_cmp_total (rowid y) in
      let e = rw same at below in cc) in
      rw (is, rest) refl
  | inr other ↦ rw other (found_once p rows up.1 (λ a b h k. once a b (inr h) (inr k)))
]

alike : (o : Ordering) → is_true (from_truth (Some (is_ne o))) ≡ false → o ≡ Equal
alike Less h = absurd (true≢false h)
alike Equal h = refl
alike Greater h = absurd (true≢false h)

same_id : (v w : Value) → is_int v ≡ true → is_int w ≡ true → differ v w ≡ false → value_cmp v w ≡ Equal
unfolding binary
same_id v w p q h = let e = rw (int_is v p, int_is w q) at h in rw (int_is v p, int_is w q) (alike _ e)

-- rows that agree with one that clashes with no other are that row
pub one_row : (rows : List Row) (are : AreRows rows) (agrees : Row → Bool) (a b : Row) → Has rows a → Has rows b → agrees b ≡ true
    → list_any (λ r. agrees r && differ (rowid r) (rowid a)) rows ≡ false → a ≡ b
one_row rows are agrees a b h k agreed free =
    let apart : differ (rowid b) (rowid a) ≡ false = elim (cases_Bool (differ (rowid b) (rowid a))) [
      | inl differs ↦ absurd (true≢false (sym (some_from (λ r. agrees r && differ (rowid r) (rowid a)) rows b k (rw (agreed, differs) refl)) ∙ free))
      | inr same ↦ same
    ] in
    tied_same rows a b are.rise h k (tied_back value_cmp_total (rowid b) (rowid a) (same_id (rowid b) (rowid a) (all_has _ rows b are.keyed k) (all_has _ rows a are.keyed h) apart))

pub itself_equal : (text : List ℕ) → is_eq (value_cmp (Text text) (Text text)) ≡ true
itself_equal text = rw (tied_itself value_cmp_total (Text text)) refl

pub once_list : (name : List ℕ) (db : Database) → IsShelf db → Once (has_text 1 name) (db.trees 1)
unfolding first_key
once_list name db is a b h k p q =
    let rules : Keeps Unique shelf_schema db.trees = subst (λ s. Keeps Unique s db.trees) is.schema (is.sound.obeys.rules Unique) in
    let passed : (not (clashes (record { digits = 0 }) (1 ∷ []) (db.trees 1) a) && true) ≡ true = all_has _ (db.trees 1) a rules.1.0 h in
    let free = not-true _ (and_parts _ _ passed).0 in
    let agreed : agree (record { digits = 0 }) (1 ∷ []) b (1 ∷ []) a ≡ true = rw (text_is (column a 1) name p, text_is (column b 1) name q, equal_text (Text name) name, itself_equal name) refl in
    one_row (db.trees 1) is.lists (λ r. agree (record { digits = 0 }) (1 ∷ []) r (1 ∷ []) a) a b h k agreed free

pub once_note : (kind : StickerKind) (target name : List ℕ) (db : Database) → IsShelf db → Once (has_key kind target name) (db.trees 5)
unfolding first_key
once_note kind target name db is a b h k p q =
    let rules : Keeps Unique shelf_schema db.trees = subst (λ s. Keeps Unique s db.trees) is.schema (is.sound.obeys.rules Unique) in
    let passed : (not (clashes (record { digits = 0 }) (1 ∷ 2 ∷ 3 ∷ []) (db.trees 5) a) && true) ≡ true = all_has _ (db.trees 5) a rules.1.1.1.0 h in
    let free = not-true _ (and_parts _ _ passed).0 in
    let ps = and_parts _ _ p in
    let qs = and_parts _ _ q in
    let pt = and_parts _ _ ps.1 in
    let qt = and_parts _ _ qs.1 in
    let word : List ℕ = kind_text kind in
    let agreed : agree (record { digits = 0 }) (1 ∷ 2 ∷ 3 ∷ []) b (1 ∷ 2 ∷ 3 ∷ []) a ≡ true =
    rw (
      text_is (column a 1) word ps.0,
      text_is (column b 1) word qs.0,
      text_is (column a 2) target pt.0,
      text_is (column b 2) target qt.0,
      text_is (column a 3) name pt.1,
      text_is (column b 3) name qt.1,
      equal_text (Text word) word,
      equal_text (Text target) target,
      equal_text (Text name) name,
      itself_equal word,
      itself_equal target,
      itself_equal name,
    ) refl in
    one_row (db.trees 5) is.notes (λ r. agree (record { digits = 0 }) (1 ∷ 2 ∷ 3 ∷ []) r (1 ∷ 2 ∷ 3 ∷ []) a) a b h k agreed free
