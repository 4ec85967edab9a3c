-- The first bad key of a table, whose keys ascend.
use Rattle.std.proofs.Common.{◌≡◌, ℕ, List, [], ◌∷◌, Bool, cond, true, false, refl, arith, Less, Greater, nat_cmp, string_bytes, subst}
use Rattle.std.specs.Cmp.Lexicographic.{slice_cmp}
use Rattle.std.specs.List.{AllByRecursion}
use Rattle.std.specs.List.Sorted.{IsStrictlySortedBy}
use Rattle.std.specs.Map.{keys_of}
use Rattle.std.specs.String.{string_cmp}
use Rattle.std.proofs.lemmas.Cmp.{nat_list_cmp_total}
use Rattle.std.proofs.lemmas.List.Elements.{All-contains, All-from_recursion}
use Rattle.std.specs.Cmp.{tied_itself}
use Rattle.toml.specs.View.{members_view, view}
use Rattle.toml.proofs.Views.{Entry}
use Rattle.settings.specs.Keys.{Key, bad, is_good}
use Rattle.settings.specs.Refusals.{IsFirst}

-- not below
abbrev pub IsNotBelow : List ℕ → List ℕ → Type 0
IsNotBelow name other = ¬ (slice_cmp nat_cmp other name ≡ Less)

pub not_below_itself : (name : List ℕ) → IsNotBelow name name
not_below_itself name e = let t = tied_itself nat_list_cmp_total name in cc

not_below_above : (name other : List ℕ) → slice_cmp nat_cmp name other ≡ Less → IsNotBelow name other
not_below_above name other above e =
    let back = nat_list_cmp_total.antisymm name other in
    let flipped : slice_cmp nat_cmp name other ≡ Greater = rw e at back in
    cc

module _ (keys : List Key) where
  step : (b : Bool) (name key : List ℕ) (rest : List (List ℕ)) → slice_cmp nat_cmp name key ≡ Less → AllByRecursion (IsNotBelow name) rest → AllByRecursion (IsNotBelow name) (cond b rest (key ∷ rest))
  step true name key rest above more = more
  step false name key rest above more = (not_below_above name key above, more)

  bad_not_below : (name : List ℕ) (es : List Entry) → AllByRecursion (λ y. slice_cmp nat_cmp name (string_bytes y) ≡ Less) (keys_of es) → AllByRecursion (IsNotBelow name) (bad keys (members_view es))
  bad_not_below name [] above = tt
  bad_not_below name (e ∷ es) above = step (is_good keys (string_bytes e.0) (view e.1)) name (string_bytes e.0) _ above.0 (bad_not_below name es above.1)

  -- a bad key before which there is none
  pub first_here : (e : Entry) (es : List Entry) → IsStrictlySortedBy string_cmp (keys_of (e ∷ es)) → is_good keys (string_bytes e.0) (view e.1) ≡ false → IsFirst (bad keys (members_view (e ∷ es))) (string_bytes e.0)
  unfolding IsStrictlySortedBy
  first_here e es sorted not_good =
      let name = string_bytes e.0 in
      let later = bad_not_below name es sorted.0 in
      let names : List (List ℕ) = name ∷ bad keys (members_view es) in
      let is : bad keys (members_view (e ∷ es)) ≡ names = rw not_good in
      let all = All-from_recursion (IsNotBelow name) names (not_below_itself name, later) in
      rw is (record { one = (0, omega arith, refl); least = λ other there. All-contains (IsNotBelow name) names other all there })

  pub first_of : (e : Entry) (es iter : List Entry) (names : List (List ℕ)) → iter ≡ e ∷ es → IsStrictlySortedBy string_cmp (keys_of iter)
      → is_good keys (string_bytes e.0) (view e.1) ≡ false → bad keys (members_view iter) ≡ names → IsFirst names (string_bytes e.0)
  first_of e es iter names is sorted not_good all =
      let here = first_here e es (rw is at sorted) not_good in
      let same : bad keys (members_view (e ∷ es)) ≡ names = rw is at all in
      subst (λ ns. IsFirst ns (string_bytes e.0)) same here

  -- a good key is left out
  pub good_is_left_out : (e : Entry) (es iter : List Entry) (names : List (List ℕ)) → iter ≡ e ∷ es → is_good keys (string_bytes e.0) (view e.1) ≡ true → bad keys (members_view iter) ≡ names → bad keys (members_view es) ≡ names
  good_is_left_out e es iter names is good all =
      let here : bad keys (members_view (e ∷ es)) ≡ names = rw is at all in
      rw good at here
