-- Rows told apart by the texts of their columns, and the two maps after rows were put in or taken out.
use Rattle.std.proofs.Common.{◌≡◌, inl, inr, ℕ, List, [], ◌∷◌, filter, Bool, true, false, not, ◌&&◌, Option, Some, None, bytes_eq, refl, sym, ap, ◌∙◌}
use Rattle.std.specs.List.{list_all}
use Rattle.std.specs.Ordering.{is_eq}
use Rattle.std.proofs.Math.Bool.{and-true}
use Rattle.std.proofs.lemmas.Bool.{cases_Bool, true≢false, and_parts, not_from_true, not_from_false}
use Rattle.std.proofs.lemmas.Cmp.{eq_by_cmp_equiv, nat_list_cmp_total}
use Rattle.std.proofs.lemmas.Map.Text.{is_eq-slice_cmp}
use Rattle.std.proofs.lemmas.Slice.Eq.{bytes_eq-Decides}
use Rattle.sqlite.specs.declared.types.Value.{Value}
use Rattle.sqlite.specs.declared.types.Value.TheVariants.{Null, Int, Real, Text, Blob}
use Rattle.sqlite.specs.Collation.TheVariants.{Binary}
use Rattle.sqlite.specs.Order.{Row, column, value_cmp}
use Rattle.sqlite.specs.Ops.{binary, is_true, from_truth}
use Rattle.sqlite.specs.Term.{holds}
use Rattle.sqlite.specs.Tree.{Trees, put_row}
use Rattle.sqlite_value.proofs.OrderLemmas.{value_cmp-Text, value_cmp-Null}
use Rattle.sqlite_value.proofs.KeyLemmas.{class_tied}
use Rattle.sqlite_schema.specs.Rules.{equal}
use Rattle.sqlite_rules.specs.Edit.{is_taken}
use Rattle.shelf.specs.Lines.{lines_of}
use Rattle.shelf.specs.declared.kinds.StickerKind.{StickerKind}
use Rattle.shelf.specs.declared.kinds.StickerKind.TheVariants.{Song, Playlist}
use Rattle.shelf.specs.Maps.{Maps, Same, same_kind, with_list, with_sticker, with_stickers, no_stickers}
use Rattle.shelf_database.specs.Tables.{has_text, has_key, of_target, kind_text, note_maps}
use Rattle.shelf_database.proofs.Statements.{equals, target_terms, key_terms}
use Rattle.shelf_database.proofs.DeleteLemmas.{tie_of}
use Rattle.shelf_database.proofs.FindLemmas.{find_past_put, find_put, find_kept, find_out}

truth_back : (b : Bool) → is_true (from_truth (Some b)) ≡ b
truth_back true = refl
truth_back false = refl

pub equal_text : (v : Value) (text : List ℕ) → equal Binary v (Text text) ≡ is_eq (value_cmp v (Text text))
unfolding binary
equal_text Null text = rw (value_cmp-Null (Text text)) refl
equal_text (Int n) text = truth_back _
equal_text (Real x) text = truth_back _
equal_text (Text t) text = truth_back _
equal_text (Blob b) text = truth_back _

pub same_bytes : (t text : List ℕ) → is_eq (value_cmp (Text t) (Text text)) ≡ bytes_eq t text
same_bytes t text = rw (value_cmp-Text t text) (is_eq-slice_cmp t text)

pub text_is : (v : Value) (text : List ℕ) → is_eq (value_cmp v (Text text)) ≡ true → v ≡ Text text
text_is Null text h = absurd (let e = class_tied Null (Text text) (tie_of _ h) in cc)
text_is (Int n) text h = absurd (let e = class_tied (Int n) (Text text) (tie_of _ h) in cc)
text_is (Real x) text h = absurd (let e = class_tied (Real x) (Text text) (tie_of _ h) in cc)
text_is (Text t) text h = ap Text ((bytes_eq-Decides t text).0 (sym (same_bytes t text) ∙ h))
text_is (Blob b) text h = absurd (let e = class_tied (Blob b) (Text text) (tie_of _ h) in cc)

-- a column with one text has another only where they are equal
pub other_text : (at : ℕ) (a b : List ℕ) (row : Row) → has_text at a row ≡ true → has_text at b row ≡ bytes_eq a b
other_text at a b row h = rw (text_is (column row at) a h) (same_bytes a b)

pub apart_back : (a b : List ℕ) → bytes_eq a b ≡ false → bytes_eq b a ≡ false
apart_back a b apart = elim (cases_Bool (bytes_eq b a)) [
  | inl is ↦ absurd (true≢false (sym ((bytes_eq-Decides a b).1 (sym ((bytes_eq-Decides b a).0 is))) ∙ apart))
  | inr not ↦ not
]

-- ---- what WHERE tests

pub one_test : (at : ℕ) (text : List ℕ) (row : Row) → list_all (holds ((Text text ∷ []) ∷ row ∷ [])) (equals at 0 ∷ []) ≡ has_text at text row
one_test at text row = rw (equal_text (column row at) text) (and-true (has_text at text row))

-- two columns, and three
pub two_tests : (x y : ℕ) (a b : List ℕ) (row : Row) → list_all (holds ((Text a ∷ Text b ∷ []) ∷ row ∷ [])) (equals x 0 ∷ equals y 1 ∷ []) ≡ (has_text x a row && has_text y b row)
two_tests x y a b row = rw (equal_text (column row x) a, equal_text (column row y) b) (ap (λ other. has_text x a row && other) (and-true (has_text y b row)))

pub target_test : (kind : StickerKind) (target : List ℕ) (row : Row) → list_all (holds ((Text (kind_text kind) ∷ Text target ∷ []) ∷ row ∷ [])) target_terms ≡ of_target kind target row
target_test kind target row = two_tests 1 2 (kind_text kind) target row

pub target_test_more : (kind : StickerKind) (target more : List ℕ) (row : Row) → list_all (holds ((Text (kind_text kind) ∷ Text target ∷ Text more ∷ []) ∷ row ∷ [])) target_terms ≡ of_target kind target row
target_test_more kind target more row = rw (equal_text (column row 1) (kind_text kind), equal_text (column row 2) target) (ap (λ other. has_text 1 (kind_text kind) row && other) (and-true (has_text 2 target row)))

pub key_test : (kind : StickerKind) (target name : List ℕ) (row : Row) → list_all (holds ((Text (kind_text kind) ∷ Text target ∷ Text name ∷ []) ∷ row ∷ [])) key_terms ≡ has_key kind target name row
key_test kind target name row =
    rw (equal_text (column row 1) (kind_text kind), equal_text (column row 2) target, equal_text (column row 3) name)
    (ap (λ other. has_text 1 (kind_text kind) row && (has_text 2 target row && other)) (and-true (has_text 3 name row)))

-- ---- kinds, targets and keys

pub kinds_told : (a b : StickerKind) → bytes_eq (kind_text a) (kind_text b) ≡ same_kind b a
kinds_told Song Song = refl
kinds_told Song Playlist = refl
kinds_told Playlist Song = refl
kinds_told Playlist Playlist = refl

pub same_kinds : (a b : StickerKind) → same_kind a b ≡ same_kind b a
same_kinds Song Song = refl
same_kinds Song Playlist = refl
same_kinds Playlist Song = refl
same_kinds Playlist Playlist = refl

pub kind_is : (a b : StickerKind) → same_kind a b ≡ true → a ≡ b
kind_is Song Song is = refl
kind_is Song Playlist is = absurd (true≢false (sym is))
kind_is Playlist Song is = absurd (true≢false (sym is))
kind_is Playlist Playlist is = refl

pub bytes_flip : (a b : List ℕ) → bytes_eq a b ≡ bytes_eq b a
bytes_flip a b = sym (is_eq-slice_cmp a b) ∙ (eq_by_cmp_equiv nat_list_cmp_total).symm a b ∙ is_eq-slice_cmp b a

-- a row of one key among those of a target, and among those of another key
pub key_of_target : (k : StickerKind) (t n : List ℕ) (kind : StickerKind) (target : List ℕ) (row : Row) → has_key k t n row ≡ true → of_target kind target row ≡ (same_kind kind k && bytes_eq target t)
key_of_target k t n kind target row h =
    let first = and_parts _ _ h in
    let second = and_parts _ _ first.1 in
    rw (other_text 1 (kind_text k) (kind_text kind) row first.0, other_text 2 t target row second.0, kinds_told k kind, bytes_flip t target) refl

pub key_of_key : (k : StickerKind) (t n : List ℕ) (kind : StickerKind) (target name : List ℕ) (row : Row) → has_key k t n row ≡ true
    → has_key kind target name row ≡ (same_kind kind k && (bytes_eq target t && bytes_eq name n))
key_of_key k t n kind target name row h =
    let first = and_parts _ _ h in
    let second = and_parts _ _ first.1 in
    rw (other_text 1 (kind_text k) (kind_text kind) row first.0, other_text 2 t target row second.0, other_text 3 n name row second.1, kinds_told k kind, bytes_flip t target, bytes_flip n name) refl

and_both : (a b c : Bool) → (a && b) ≡ true → c ≡ true → (a && (b && c)) ≡ true
and_both true true true is also = refl
and_both true true false is also = also
and_both true false c is also = absurd (true≢false (sym is))
and_both false b c is also = absurd (true≢false (sym is))

pub and_neither : (a b c : Bool) → (a && b) ≡ false → (a && (b && c)) ≡ false
and_neither true true c is = absurd (true≢false is)
and_neither true false c is = refl
and_neither false b c is = refl

and_last : (a b c : Bool) → c ≡ false → (a && (b && c)) ≡ false
and_last true true c is = is
and_last true false c is = refl
and_last false b c is = refl

-- ---- the maps after a deletion

pub list_removed : (name : List ℕ) (old new : Trees) → new 1 ≡ filter (λ r. not (has_text 1 name r)) (old 1) → new 5 ≡ old 5 → Same (with_list (note_maps old) name None) (note_maps new)
list_removed name old new left same = record {
  lists = λ other. elim (cases_Bool (bytes_eq name other)) [
    | inl is ↦ rw (left, is) (rw (find_out (has_text 1 other) (λ r. not (has_text 1 name r)) (old 1) (λ r h. not_from_true _ (other_text 1 other name r h ∙ ap (λ n. bytes_eq other n) ((bytes_eq-Decides name other).0 is) ∙ (bytes_eq-Decides other other).1 refl))) refl)
    | inr apart ↦ rw (left, apart) (rw (find_kept (has_text 1 other) (λ r. not (has_text 1 name r)) (old 1) (λ r h is. not_from_false _ (other_text 1 other name r is ∙ apart_back name other apart))) refl)
  ];
  stickers = λ kind target n. rw same refl;
}

pub same_true : (a b : List ℕ) → bytes_eq a b ≡ true → bytes_eq b a ≡ true
same_true a b is = (bytes_eq-Decides b a).1 (sym ((bytes_eq-Decides a b).0 is))

pub all_deleted : (kind : StickerKind) (target : List ℕ) (old new : Trees) → new 5 ≡ filter (λ r. not (of_target kind target r)) (old 5) → new 1 ≡ old 1 → Same (with_stickers (note_maps old) kind target no_stickers) (note_maps new)
all_deleted kind target old new left same = record {
  lists = λ name. rw same refl;
  stickers = λ k t n. elim (cases_Bool (same_kind kind k && bytes_eq target t)) [
    | inl is ↦ rw (left, is) (rw (find_out (has_key k t n) (λ r. not (of_target kind target r)) (old 5) (λ r h. not_from_true _ (key_of_target k t n kind target r h ∙ is))) refl)
    | inr apart ↦ rw (left, apart) (rw (find_kept (has_key k t n) (λ r. not (of_target kind target r)) (old 5) (λ r h is. not_from_false _ (key_of_target k t n kind target r is ∙ apart))) refl)
  ];
}

-- the stickers of a target at one name, or at another
stickers_at : (m : Maps) (kind k : StickerKind) (target t name n : List ℕ) (value : Option (List ℕ)) → (same_kind kind k && bytes_eq target t) ≡ true → bytes_eq name n ≡ false
    → (with_sticker m kind target name value).stickers k t n ≡ m.stickers k t n
stickers_at m kind k target t name n value is apart =
    let both = and_parts _ _ is in
    let same_key : m.stickers kind target n ≡ m.stickers k t n =
    ap (λ x. m.stickers x target n) (kind_is kind k both.0) ∙ ap (λ x. m.stickers k x n) ((bytes_eq-Decides target t).0 both.1) in
    rw (is, apart) same_key

module _ (kind : StickerKind) (target name : List ℕ) (old new : Trees) (left : new 5 ≡ filter (λ r. not (has_key kind target name r)) (old 5)) (same : new 1 ≡ old 1) where
  note_kept : (k : StickerKind) (t n : List ℕ) → (same_kind kind k && (bytes_eq target t && bytes_eq name n)) ≡ false → (note_maps new).stickers k t n ≡ (note_maps old).stickers k t n
  note_kept k t n apart = rw left (rw (find_kept (has_key k t n) (λ r. not (has_key kind target name r)) (old 5) (λ r h is. not_from_false _ (key_of_key k t n kind target name r is ∙ apart))) refl)

  note_gone : (k : StickerKind) (t n : List ℕ) → (same_kind kind k && (bytes_eq target t && bytes_eq name n)) ≡ true → (note_maps new).stickers k t n ≡ None
  note_gone k t n is = rw left (rw (find_out (has_key k t n) (λ r. not (has_key kind target name r)) (old 5) (λ r h. not_from_true _ (key_of_key k t n kind target name r h ∙ is))) refl)

  pub note_deleted : Same (with_sticker (note_maps old) kind target name None) (note_maps new)
  note_deleted = record {
    lists = λ n. rw same refl;
    stickers = λ k t n. elim (cases_Bool (same_kind kind k && bytes_eq target t)) [
      | inr apart ↦ rw apart (note_kept k t n (and_neither (same_kind kind k) (bytes_eq target t) (bytes_eq name n) apart))
      | inl is ↦ elim (cases_Bool (bytes_eq name n)) [
        | inl also ↦ rw (is, also) (note_gone k t n (and_both (same_kind kind k) (bytes_eq target t) (bytes_eq name n) is also))
        | inr apart ↦ note_kept k t n (and_last (same_kind kind k) (bytes_eq target t) (bytes_eq name n) apart) ∙ sym (stickers_at (note_maps old) kind k target t name n None is apart)
      ]
    ];
  }

-- ---- the maps after a row was put in place of the one with its key

module _ (name text : List ℕ) (id : Value) (old new : Trees) (fresh : is_taken (filter (λ r. not (has_text 1 name r)) (old 1)) (id ∷ Text name ∷ Text text ∷ []) ≡ false)
    (put : new 1 ≡ put_row (id ∷ Text name ∷ Text text ∷ []) (filter (λ r. not (has_text 1 name r)) (old 1))) (same : new 5 ≡ old 5) where
  abbrev row : Row
  row = id ∷ Text name ∷ Text text ∷ []

  abbrev left : List Row
  left = filter (λ r. not (has_text 1 name r)) (old 1)

  pub list_put : Same (with_list (note_maps old) name (Some (lines_of text))) (note_maps new)
  list_put = record {
    lists = λ other. elim (cases_Bool (bytes_eq name other)) [
      | inl is ↦
          let none = find_out (has_text 1 other) (λ r. not (has_text 1 name r)) (old 1) (λ r h. not_from_true _ (other_text 1 other name r h ∙ same_true name other is)) in
          let found = find_put (has_text 1 other) row left (same_bytes name other ∙ is) none in
          rw (put, is) (rw found refl)
      | inr apart ↦
          let past = find_past_put (has_text 1 other) row left (same_bytes name other ∙ apart) fresh in
          let kept = find_kept (has_text 1 other) (λ r. not (has_text 1 name r)) (old 1) (λ r h is. not_from_false _ (other_text 1 other name r is ∙ apart_back name other apart)) in
          rw (put, apart) (rw (past, kept) refl)
    ];
    stickers = λ kind target n. rw same refl;
  }

module _ (kind : StickerKind) (target name value : List ℕ) (id : Value) (old new : Trees)
    (fresh : is_taken (filter (λ r. not (has_key kind target name r)) (old 5)) (id ∷ Text (kind_text kind) ∷ Text target ∷ Text name ∷ Text value ∷ []) ≡ false)
    (put : new 5 ≡ put_row (id ∷ Text (kind_text kind) ∷ Text target ∷ Text name ∷ Text value ∷ []) (filter (λ r. not (has_key kind target name r)) (old 5))) (same : new 1 ≡ old 1) where
  abbrev note_row : Row
  note_row = id ∷ Text (kind_text kind) ∷ Text target ∷ Text name ∷ Text value ∷ []

  abbrev others_left : List Row
  others_left = filter (λ r. not (has_key kind target name r)) (old 5)

  row_is : (k : StickerKind) (t n : List ℕ) → has_key k t n note_row ≡ (same_kind kind k && (bytes_eq target t && bytes_eq name n))
  row_is k t n = rw (same_bytes (kind_text kind) (kind_text k), same_bytes target t, same_bytes name n, kinds_told kind k, same_kinds k kind) refl

  put_past : (k : StickerKind) (t n : List ℕ) → (same_kind kind k && (bytes_eq target t && bytes_eq name n)) ≡ false → (note_maps new).stickers k t n ≡ (note_maps old).stickers k t n
  put_past k t n apart =
      let past = find_past_put (has_key k t n) note_row others_left (row_is k t n ∙ apart) fresh in
      let kept = find_kept (has_key k t n) (λ r. not (has_key kind target name r)) (old 5) (λ r h is. not_from_false _ (key_of_key k t n kind target name r is ∙ apart)) in
      rw put (rw (past, kept) refl)

  put_here : (k : StickerKind) (t n : List ℕ) → (same_kind kind k && (bytes_eq target t && bytes_eq name n)) ≡ true → (note_maps new).stickers k t n ≡ Some value
  put_here k t n is =
      let none = find_out (has_key k t n) (λ r. not (has_key kind target name r)) (old 5) (λ r h. not_from_true _ (key_of_key k t n kind target name r h ∙ is)) in
      let found = find_put (has_key k t n) note_row others_left (row_is k t n ∙ is) none in
      rw put (rw found refl)

  pub note_put : Same (with_sticker (note_maps old) kind target name (Some value)) (note_maps new)
  note_put = record {
    lists = λ n. rw same refl;
    stickers = λ k t n. elim (cases_Bool (same_kind kind k && bytes_eq target t)) [
      | inr apart ↦ rw apart (put_past k t n (and_neither (same_kind kind k) (bytes_eq target t) (bytes_eq name n) apart))
      | inl is ↦ elim (cases_Bool (bytes_eq name n)) [
        | inl also ↦ rw (is, also) (put_here k t n (and_both (same_kind kind k) (bytes_eq target t) (bytes_eq name n) is also))
        | inr apart ↦ put_past k t n (and_last (same_kind kind k) (bytes_eq target t) (bytes_eq name n) apart) ∙ sym (stickers_at (note_maps old) kind k target t name n (Some value) is apart)
      ]
    ];
  }
