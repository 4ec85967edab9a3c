-- What is read of values that their keys take.
use Rattle.std.proofs.Common.{◌≡◌, ◌+◌, ◌<◌, ◌≤◌, ◌∙◌, ℕ, List, [], ◌∷◌, ◌++◌, nat_le, leb-true, length, get_or, drop, take, pos, negsuc, Bool, ◌&&◌, cond, true, false, refl, sym, ap, arith, Vec, Global, Result, Ok, Err, Option, Some, None, Ordering, Less, Equal, Greater, nat_cmp, subst}
use Rattle.std.specs.Prelude.{IfOk, unwrap_or, vec_len}
use Rattle.std.proofs.lemmas.List.{take_more}
use Rattle.std.proofs.lemmas.Bool.{false≢true, and_parts}
use Rattle.std.specs.Cmp.Lexicographic.{slice_cmp}
use Rattle.std.specs.FinMap.{slice_cmp-IsAntisymmetric, nat_cmp-IsAntisymmetric}
use Rattle.std.specs.Ordering.{match_ordering}
use Rattle.toml.specs.Data.{Data, string, integer, float, boolean, datetime, array, table, Items, no_items, item, push_item, Members, no_members, member, as_array, as_bool, as_str, as_table, get_member}
use Rattle.toml.specs.View.{items_view, view}
use Rattle.toml.specs.declared.value.Value.{Value}
use Rattle.settings.specs.Keys.{Key, absent, all_differ, are_none, are_outputs, bad, each_output, is_flag, is_good, is_line, is_natural, is_number, is_output, is_text, item_count, names_of, natural, output_keys}
use Rattle.settings.specs.Values.{AreOutputs, IsOutput, SaysOutput}
use Rattle.settings.specs.declared.values.OutputSettings.{OutputSettings}
use Rattle.toml.proofs.Views.{items_view-drop, items_view-push}

pub none≢some : {X : Type 0} {x : X} → None ≡ Some x → ⊥
none≢some e = cc

-- ---- a value of each kind

pub line_is_text : (d : Data) → is_line d ≡ true → is_text d ≡ true
line_is_text (string s) good = refl
line_is_text (integer z) good = absurd (false≢true good)
line_is_text (float x) good = absurd (false≢true good)
line_is_text (boolean b) good = absurd (false≢true good)
line_is_text (datetime dt) good = absurd (false≢true good)
line_is_text (array ds) good = absurd (false≢true good)
line_is_text (table ms) good = absurd (false≢true good)

pub text_is_there : (d : Data) → is_text d ≡ true → as_str d ≡ None → ⊥
text_is_there (string s) good e = cc
text_is_there (integer z) good e = false≢true good
text_is_there (float x) good e = false≢true good
text_is_there (boolean b) good e = false≢true good
text_is_there (datetime dt) good e = false≢true good
text_is_there (array ds) good e = false≢true good
text_is_there (table ms) good e = false≢true good

pub flag_is_there : (d : Data) (r : Option Bool) (default : Bool) → is_flag d ≡ true → r ≡ as_bool d → d ≡ boolean (unwrap_or r default)
flag_is_there (boolean b) r default good e = rw e
flag_is_there (string s) r default good e = absurd (false≢true good)
flag_is_there (integer z) r default good e = absurd (false≢true good)
flag_is_there (float x) r default good e = absurd (false≢true good)
flag_is_there (datetime dt) r default good e = absurd (false≢true good)
flag_is_there (array ds) r default good e = absurd (false≢true good)
flag_is_there (table ms) r default good e = absurd (false≢true good)

pub natural_is_there : (d : Data) (r : Option ℕ) (default : ℕ) → is_natural d ≡ true → r ≡ natural d → d ≡ integer (pos (unwrap_or r default))
natural_is_there (integer (pos n)) r default good e = rw e
natural_is_there (integer (negsuc n)) r default good e = absurd (false≢true good)
natural_is_there (string s) r default good e = absurd (false≢true good)
natural_is_there (float x) r default good e = absurd (false≢true good)
natural_is_there (boolean b) r default good e = absurd (false≢true good)
natural_is_there (datetime dt) r default good e = absurd (false≢true good)
natural_is_there (array ds) r default good e = absurd (false≢true good)
natural_is_there (table ms) r default good e = absurd (false≢true good)

-- a number that a key takes is in its range
pub record IsNumber (least most : ℕ) (d : Data) : Type 0 where
  pub number : ℕ
  pub is : d ≡ integer (pos number)
  pub above : least ≤ number
  pub below : number ≤ most

pub number_read : (least most : ℕ) (d : Data) → is_number least most d ≡ true → IsNumber least most d
number_read least most (integer (pos n)) good =
    let both = and_parts (nat_le least n) (nat_le n most) good in
    record { number = n; is = refl; above = leb-true _ _ both.0; below = leb-true _ _ both.1 }
number_read least most (integer (negsuc n)) good = absurd (false≢true good)
number_read least most (string s) good = absurd (false≢true good)
number_read least most (float x) good = absurd (false≢true good)
number_read least most (boolean b) good = absurd (false≢true good)
number_read least most (datetime dt) good = absurd (false≢true good)
number_read least most (array ds) good = absurd (false≢true good)
number_read least most (table ms) good = absurd (false≢true good)

pub number_is_there : (least most : ℕ) (d : Data) → is_number least most d ≡ true → natural d ≡ None → ⊥
number_is_there least most d good e =
    let read = number_read least most d good in
    let e' : Some read.number ≡ None = rw read.is at e in
    cc

pub number_in_range : (least most n : ℕ) (d : Data) → is_number least most d ≡ true → natural d ≡ Some n → (least ≤ n) × (n ≤ most)
number_in_range least most n d good e =
    let read = number_read least most d good in
    let same : Some read.number ≡ Some n = rw read.is at e in
    let is : read.number ≡ n = cc in
    (omega arith, omega arith)

pub array_is_there : (d : Data) → are_outputs d ≡ true → as_array d ≡ None → ⊥
array_is_there (array ds) good e = cc
array_is_there (string s) good e = false≢true good
array_is_there (integer z) good e = false≢true good
array_is_there (float x) good e = false≢true good
array_is_there (boolean b) good e = false≢true good
array_is_there (datetime dt) good e = false≢true good
array_is_there (table ms) good e = false≢true good

pub table_is_there : (d : Data) → is_output d ≡ true → as_table d ≡ None → ⊥
table_is_there (table ms) good e = cc
table_is_there (string s) good e = false≢true good
table_is_there (integer z) good e = false≢true good
table_is_there (float x) good e = false≢true good
table_is_there (boolean b) good e = false≢true good
table_is_there (datetime dt) good e = false≢true good
table_is_there (array ds) good e = false≢true good

-- ---- the items of an array

pub item_count_of_view : (vs : List Value) → item_count (items_view vs) ≡ length vs
item_count_of_view [] = refl
item_count_of_view (v ∷ vs) = omega (arith, item_count_of_view vs)

-- ---- a key of a table with no bad key

module _ (keys : List Key) (name : List ℕ) where
  step : (o : Ordering) (b : Bool) (l : List ℕ) (e d : Data) (rest : List (List ℕ)) (found : Option Data) → slice_cmp nat_cmp name l ≡ o → is_good keys l e ≡ b
      → cond b rest (l ∷ rest) ≡ [] → match_ordering o found (Some e) found ≡ Some d → (rest ≡ [] → found ≡ Some d → is_good keys name d ≡ true) → is_good keys name d ≡ true
  step o false l e d rest found order good none is more = absurd (omega (arith, ap length none))
  step Less true l e d rest found order good none is more = more none is
  step Greater true l e d rest found order good none is more = more none is
  step Equal true l e d rest found order good none is more =
      let same : name ≡ l = slice_cmp-IsAntisymmetric nat_cmp-IsAntisymmetric name l order in
      let value : e ≡ d = cc in
      rw (same, ← value) good

  -- it takes its value
  pub good_at : (ms : Members) → bad keys ms ≡ [] → (d : Data) → get_member name ms ≡ Some d → is_good keys name d ≡ true
  good_at no_members none d is = cc
  good_at (member l e ms) none d is = step (slice_cmp nat_cmp name l) (is_good keys l e) l e d (bad keys ms) (get_member name ms) refl refl none is (λ n f. good_at ms n d f)

pub none_from_test : (names : List (List ℕ)) → are_none names ≡ true → names ≡ []
none_from_test [] e = refl
none_from_test (x ∷ xs) e = absurd (false≢true e)

-- ---- outputs

pub record HasGoodKeys (keys : List Key) (ms : Members) : Type 0 where
  pub good : bad keys ms ≡ []
  pub whole : absent keys ms ≡ []

pub output_keys_are_good : (d : Data) (ms : Members) → is_output d ≡ true → as_table d ≡ Some ms → HasGoodKeys output_keys ms
output_keys_are_good (table entries) ms e is =
    let both = and_parts (are_none (bad output_keys entries)) (are_none (absent output_keys entries)) e in
    let same : entries ≡ ms = cc in
    subst (HasGoodKeys output_keys) same (record { good = none_from_test _ both.0; whole = none_from_test _ both.1 })
output_keys_are_good (string s) ms e is = absurd (false≢true e)
output_keys_are_good (integer z) ms e is = absurd (false≢true e)
output_keys_are_good (float x) ms e is = absurd (false≢true e)
output_keys_are_good (boolean b) ms e is = absurd (false≢true e)
output_keys_are_good (datetime dt) ms e is = absurd (false≢true e)
output_keys_are_good (array ds) ms e is = absurd (false≢true e)

pub output_is : (d : Data) (ms : Members) (o : OutputSettings) → as_table d ≡ Some ms → SaysOutput ms o → IsOutput d o
output_is (table entries) ms o is says =
    let same : entries ≡ ms = cc in
    subst (λ es. SaysOutput es o) (sym same) says
output_is (string s) ms o is says = absurd (none≢some is)
output_is (integer z) ms o is says = absurd (none≢some is)
output_is (float x) ms o is says = absurd (none≢some is)
output_is (boolean b) ms o is says = absurd (none≢some is)
output_is (datetime dt) ms o is says = absurd (none≢some is)
output_is (array ds) ms o is says = absurd (none≢some is)

push_output : (ds : Items) (d : Data) (os : List OutputSettings) (o : OutputSettings) → AreOutputs ds os → IsOutput d o → AreOutputs (push_item ds d) (os ++ o ∷ [])
push_output no_items d [] o are is = (is, tt)
push_output no_items d (x ∷ xs) o are is = absurd are
push_output (item e rest) d [] o are is = absurd are
push_output (item e rest) d (x ∷ xs) o are is = (are.0, push_output rest d xs o are.1 is)

pub one_more_output : (vs : List Value) (v : Value) (os : List OutputSettings) (o : OutputSettings) → AreOutputs (items_view vs) os → IsOutput (view v) o → AreOutputs (items_view (vs ++ v ∷ [])) (os ++ o ∷ [])
one_more_output vs v os o are is = rw (items_view-push vs v) (push_output (items_view vs) (view v) os o are is)

-- the item at an index of outputs, and those after it
pub outputs_left : (vs : List Value) (i : ℕ) (d : Value) → i < length vs → each_output (items_view (drop i vs)) ≡ true → (is_output (view (get_or vs i d)) ≡ true) × (each_output (items_view (drop (i + 1) vs)) ≡ true)
outputs_left vs i d within each =
    let here : each_output (item (view (get_or vs i d)) (items_view (drop (i + 1) vs))) ≡ true = rw (items_view-drop vs i d within) at each in
    and_parts (is_output (view (get_or vs i d))) (each_output (items_view (drop (i + 1) vs))) here

pub outputs_are_good : (d : Data) (vs : List Value) → are_outputs d ≡ true → as_array d ≡ Some (items_view vs)
    → (length vs ≤ 8) × (each_output (items_view vs) ≡ true) × (all_differ (names_of (items_view vs)) ≡ true)
outputs_are_good (array ds) vs e is =
    let same : ds ≡ items_view vs = cc in
    let both = and_parts (nat_le (item_count ds) 8 && each_output ds) (all_differ (names_of ds)) e in
    let first = and_parts (nat_le (item_count ds) 8) (each_output ds) both.0 in
    let few : item_count ds ≤ 8 = leb-true _ _ first.0 in
    let count : item_count ds ≡ length vs = ap item_count same ∙ item_count_of_view vs in
    (omega arith, subst (λ xs. each_output xs ≡ true) same first.1, subst (λ xs. all_differ (names_of xs) ≡ true) same both.1)
outputs_are_good (string s) vs e is = absurd (false≢true e)
outputs_are_good (integer z) vs e is = absurd (false≢true e)
outputs_are_good (float x) vs e is = absurd (false≢true e)
outputs_are_good (boolean b) vs e is = absurd (false≢true e)
outputs_are_good (datetime dt) vs e is = absurd (false≢true e)
outputs_are_good (table ms) vs e is = absurd (false≢true e)

-- one more output of a list
pub outputs_so_far : (vs : List Value) (i : ℕ) (v : Value) (os new : List OutputSettings) (o : OutputSettings) → i < length vs → v ≡ get_or vs i v → new ≡ os ++ o ∷ []
    → AreOutputs (items_view (take i vs)) os → IsOutput (view v) o → AreOutputs (items_view (take (i + 1) vs)) new
outputs_so_far vs i v os new o within at pushed are is =
    let one : take (i + 1) vs ≡ take i vs ++ v ∷ [] = take_more vs i v within ∙ ap (λ x. take i vs ++ x ∷ []) (sym at) in
    rw (one, pushed) (one_more_output (take i vs) v os o are is)

-- no more than the items that there are
pub few_if_ok : {A E : Type 0} (r : Result (Vec A Global) E) (n most : ℕ) → IfOk r (λ v. vec_len v ≡ n) → n ≤ most → IfOk r (λ v. vec_len v ≤ most)
few_if_ok (Ok v) n most is few = omega arith
few_if_ok (Err e) n most is few = tt
