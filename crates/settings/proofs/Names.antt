-- The names of outputs, of which no two are the same.
use Rattle.std.proofs.Common.{◌≡◌, ◌≢◌, ◌∙◌, ℕ, List, [], ◌∷◌, codes, ◌||◌, not, true, false, refl, sym, ap, arith, Option, Some, None, Result, Ok, Err, Vec, Global, string_bytes}
use Rattle.std.specs.Prelude.{IfOk, option_and_then, unwrap_or}
use Rattle.std.specs.List.{AllByRecursion, list_any}
use Rattle.std.specs.Str.{bytes_eq}
use Rattle.std.proofs.lemmas.Bool.{and_parts, false≢true, not-true, or_parts}
use Rattle.std.proofs.lemmas.List.Elements.{All-from_recursion}
use Rattle.std.proofs.lemmas.List.Kept.{AllPairs-cons}
use Rattle.std.proofs.lemmas.Slice.Eq.{bytes_eq-Decides}
use Rattle.toml.specs.Data.{Data, string, integer, float, boolean, datetime, array, table, Items, no_items, item, as_str, get_member}
use Rattle.toml.specs.View.{items_view, view}
use Rattle.toml.specs.declared.value.Value.{Value}
use Rattle.settings.specs.Keys.{all_differ, name_of, names_of, refused}
use Rattle.settings.specs.Values.{AreOutputs, HaveOwnNames, IsOutput, found_or}
use Rattle.settings.specs.declared.values.OutputSettings.{OutputSettings}
use Rattle.settings.proofs.Taken.{none≢some}

-- a name is among those of the values where a value has it
pub any_of_names : (name : List ℕ) (vs : List Value) → list_any (bytes_eq name) (names_of (items_view vs)) ≡ list_any (λ v. bytes_eq name (name_of (view v))) vs
any_of_names name [] = refl
any_of_names name (v ∷ vs) = ap (λ more. bytes_eq name (name_of (view v)) || more) (any_of_names name vs)

-- ---- the names of the outputs that items say

named_so : (found : Option Data) (name : List ℕ) → found_or found refused ≡ Some (string name) → unwrap_or (option_and_then as_str found) [] ≡ name
named_so None name is = absurd (none≢some is)
named_so (Some d) name is =
    let same : d ≡ string name = cc in
    rw same refl

is_name : (d : Data) (o : OutputSettings) → IsOutput d o → name_of d ≡ string_bytes o.name
is_name (table entries) o says = named_so (get_member (codes "name") entries) (string_bytes o.name) says.name
is_name (string s) o says = absurd says
is_name (integer z) o says = absurd says
is_name (float x) o says = absurd says
is_name (boolean b) o says = absurd says
is_name (datetime dt) o says = absurd says
is_name (array ds) o says = absurd says

abbrev HasAnotherName : OutputSettings → OutputSettings → Type 0
HasAnotherName one other = string_bytes one.name ≢ string_bytes other.name

differs : (one other : List ℕ) → bytes_eq one other ≡ false → one ≢ other
differs one other apart same = false≢true (sym apart ∙ (bytes_eq-Decides one other).1 same)

-- an output whose name is not among those of others has another name than each
none_named : (d : Data) (o : OutputSettings) (ds : Items) (os : List OutputSettings) → IsOutput d o → AreOutputs ds os
    → list_any (bytes_eq (name_of d)) (names_of ds) ≡ false → AllByRecursion (HasAnotherName o) os
none_named d o no_items [] is are none = tt
none_named d o no_items (x ∷ os) is are none = absurd are
none_named d o (item e ds) [] is are none = absurd are
none_named d o (item e ds) (x ∷ os) is are none =
    let both = or_parts (bytes_eq (name_of d) (name_of e)) (list_any (bytes_eq (name_of d)) (names_of ds)) none in
    let here : bytes_eq (string_bytes o.name) (string_bytes x.name) ≡ false = rw (← is_name d o is, ← is_name e x are.0) both.0 in
    (differs _ _ here, none_named d o ds os is are.1 both.1)

-- outputs that are said by items of different names have names of their own
own_names : (ds : Items) (os : List OutputSettings) → AreOutputs ds os → all_differ (names_of ds) ≡ true → HaveOwnNames os
own_names no_items [] are differ = λ i j d before within. absurd (omega arith)
own_names no_items (x ∷ os) are differ = absurd are
own_names (item d ds) [] are differ = absurd are
own_names (item d ds) (o ∷ os) are differ =
    let both = and_parts (not (list_any (bytes_eq (name_of d)) (names_of ds))) (all_differ (names_of ds)) differ in
    let others = none_named d o ds os are.0 are.1 (not-true _ both.0) in
    AllPairs-cons HasAnotherName o os (All-from_recursion (HasAnotherName o) os others) (own_names ds os are.1 both.1)

-- the same of outputs that are read, if there was memory for them
pub own_names_if_ok : {E : Type 0} (r : Result (Vec OutputSettings Global) E) (ds : Items) → IfOk r (λ outputs. AreOutputs ds outputs.items)
    → all_differ (names_of ds) ≡ true → IfOk r (λ outputs. HaveOwnNames outputs.items)
own_names_if_ok (Ok outputs) ds are differ = own_names ds outputs.items are differ
own_names_if_ok (Err e) ds are differ = tt
