-- What a shelf in memory lists is what its contents list.
use Rattle.std.proofs.Common.{◌≡◌, ◌⊎◌, inl, inr, ℕ, Bool, true, false, cond, ◌&&◌, ◌||◌, List, [], ◌∷◌, map, filter, Option, Some, None, is_some, IsSome, bytes_eq, refl, sym, ap, subst, ◌∙◌, if◌then◌else◌}
use Rattle.std.specs.Prelude.{T}
use Rattle.std.specs.FinMap as finite
use Rattle.std.specs.FinMap.{FinMap, find, get-entries, get-from_entries, entries_sorted, contains_key-keys}
use Rattle.std.specs.FinMap.Entries.{below_all, is_sorted, same_entries}
use Rattle.std.specs.List.{AllByRecursion, list_any}
use Rattle.std.specs.List.Sorted.{IsStrictlySortedBy}
use Rattle.std.specs.Map.{lookup}
use Rattle.std.specs.Ordering.{eq_by_cmp, is_lt}
use Rattle.std.specs.declared.cmp.Ordering.{Ordering}
use Rattle.std.specs.declared.cmp.Ordering.TheVariants.{Less, Equal, Greater}
use Rattle.std.proofs.lemmas.Bool.{cases_Bool}
use Rattle.shelf.specs.Maps.{AreEntries, AreKeys}
use Rattle.daemon_script.specs.Contents.{Stickers, by_bytes, by_target_and_name, has_stickers, stickers_named, stickers_of}
use Rattle.daemon_script.proofs.Held.{itself, pair_ties, text_same, text_ties, text_total}

-- ---- keys that rise

both : (a b : Bool) → T a → T b → T (a && b)
both true b p q = q
both false b p q = p

below : {X : Type 0} (x : List ℕ) (es : List (List ℕ × X)) → AllByRecursion (λ y. by_bytes x y ≡ Less) (map (λ e. e.0) es) → T (below_all by_bytes x es)
below x [] all = tt
below x (e ∷ es) all = both (is_lt (by_bytes x e.0)) (below_all by_bytes x es) (subst (λ o. T (is_lt o)) (sym all.0) tt) (below x es all.1)

rises : {X : Type 0} (es : List (List ℕ × X)) → IsStrictlySortedBy by_bytes (map (λ e. e.0) es) → T (is_sorted by_bytes es)
unfolding IsStrictlySortedBy
rises [] sorted = tt
rises (e ∷ es) sorted = both (below_all by_bytes e.0 es) (is_sorted by_bytes es) (below e.0 es sorted.0) (rises es sorted.1)

first : (a b : Bool) → T (a && b) → T a
first true b p = tt
first false b p = p

second : (a b : Bool) → T (a && b) → T b
second true b p = p
second false b p = absurd p

less : (o : Ordering) → T (is_lt o) → o ≡ Less
less Less p = refl
less Equal p = absurd p
less Greater p = absurd p

above : {X : Type 0} (x : List ℕ) (es : List (List ℕ × X)) → T (below_all by_bytes x es) → AllByRecursion (λ y. by_bytes x y ≡ Less) (map (λ e. e.0) es)
above x [] p = tt
above x (e ∷ es) p = (less (by_bytes x e.0) (first (is_lt (by_bytes x e.0)) (below_all by_bytes x es) p), above x es (second (is_lt (by_bytes x e.0)) (below_all by_bytes x es) p))

keys_rise : {X : Type 0} (es : List (List ℕ × X)) → T (is_sorted by_bytes es) → IsStrictlySortedBy by_bytes (map (λ e. e.0) es)
unfolding IsStrictlySortedBy
keys_rise [] p = tt
keys_rise (e ∷ es) p = (above e.0 es (first (below_all by_bytes e.0 es) (is_sorted by_bytes es) p), keys_rise es (second (below_all by_bytes e.0 es) (is_sorted by_bytes es) p))

-- ---- one list of the same keys

abbrev unit : Unit {0}
unit = record {}

abbrev unit_at : List ℕ → List ℕ × Unit {0}
unit_at key = (key, unit)

abbrev unit_if : Bool → Option (Unit {0})
unit_if b = cond b (Some unit) None

keys_back : (ks : List (List ℕ)) → map (λ e. e.0) (map unit_at ks) ≡ ks
keys_back [] = refl
keys_back (k ∷ ks) = ap (λ l. k ∷ l) (keys_back ks)

unit_found : (q : List ℕ) (ks : List (List ℕ)) → find by_bytes q (map unit_at ks) ≡ unit_if (list_any (bytes_eq q) ks)
unit_found q [] = refl
unit_found q (k ∷ ks) =
    ap (λ b. cond {A = Option (Unit {0})} b (Some unit) (find by_bytes q (map unit_at ks))) (text_ties q k) ∙ ap (cond {A = Option (Unit {0})} (bytes_eq q k) (Some unit)) (unit_found q ks)
    ∙ elim (bytes_eq q k) as (λ b. cond {A = Option (Unit {0})} b (Some unit) (unit_if (list_any (bytes_eq q) ks)) ≡ unit_if (b || list_any (bytes_eq q) ks)) [ true ↦ refl | false ↦ refl ]

one_list : (ks ls : List (List ℕ)) → IsStrictlySortedBy by_bytes ks → IsStrictlySortedBy by_bytes ls → ((q : List ℕ) → list_any (bytes_eq q) ks ≡ list_any (bytes_eq q) ls) → ks ≡ ls
one_list ks ls k l same =
    let entries = same_entries by_bytes text_total text_same (map unit_at ks) (map unit_at ls)
    (rises (map unit_at ks) (subst (IsStrictlySortedBy by_bytes) (sym (keys_back ks)) k))
    (rises (map unit_at ls) (subst (IsStrictlySortedBy by_bytes) (sym (keys_back ls)) l))
    (λ q. unit_found q ks ∙ ap unit_if (same q) ∙ sym (unit_found q ls)) in
    sym (keys_back ks) ∙ ap (map (λ e. e.0)) entries ∙ keys_back ls

any_tie : (q : List ℕ) (ks : List (List ℕ)) → list_any (eq_by_cmp by_bytes q) ks ≡ list_any (bytes_eq q) ks
any_tie q [] = refl
any_tie q (k ∷ ks) = λ i. text_ties q k i || any_tie q ks i

-- the keys of a map are those of a finite map that answers as it does
pub keys_are : {X : Type 0} (m : FinMap by_bytes X) (f : List ℕ → Option X) (names : List (List ℕ)) → ((q : List ℕ) → f q ≡ finite.get m q) → AreKeys f names → names ≡ finite.keys m
keys_are m f names same are =
    one_list names (finite.keys m) are.rising (keys_rise (finite.entries m) (entries_sorted m))
    (λ q. are.whole q ∙ ap is_some (same q) ∙ contains_key-keys m q ∙ any_tie q (finite.keys m))

looked_up : (q : List ℕ) (es : List (List ℕ × List ℕ)) → find by_bytes q es ≡ lookup (bytes_eq q) es
looked_up q [] = refl
looked_up q (e ∷ es) = λ i. cond (text_ties q e.0 i) (Some e.1) (looked_up q es i)

-- and so are its entries
pub entries_are : (m : FinMap by_bytes (List ℕ)) (f : List ℕ → Option (List ℕ)) (es : List (List ℕ × List ℕ)) → ((q : List ℕ) → f q ≡ finite.get m q) → AreEntries f es → es ≡ finite.entries m
entries_are m f es same are =
    same_entries by_bytes text_total text_same es (finite.entries m) (rises es are.rising) (entries_sorted m)
    (λ q. looked_up q es ∙ are.whole q ∙ same q ∙ get-entries m q)

-- ---- stickers of a target, and with a name

of_target : (target name : List ℕ) (es : List ((List ℕ × List ℕ) × List ℕ))
    → find by_bytes name (map {B = List ℕ × List ℕ} (λ e. (e.0.1, e.1)) (filter (λ e. bytes_eq target e.0.0) es)) ≡ find by_target_and_name (target, name) es
of_target target name [] = refl
of_target target name (e ∷ es) = at (filter (λ e. bytes_eq target e.0.0) es) (cases_Bool (bytes_eq target e.0.0)) (of_target target name es)
  where
    at : (left : List ((List ℕ × List ℕ) × List ℕ)) → (bytes_eq target e.0.0 ≡ true) ⊎ (bytes_eq target e.0.0 ≡ false)
        → find by_bytes name (map {B = List ℕ × List ℕ} (λ e. (e.0.1, e.1)) left) ≡ find by_target_and_name (target, name) es
        → find by_bytes name (map {B = List ℕ × List ℕ} (λ e. (e.0.1, e.1)) (if bytes_eq target e.0.0 then e ∷ left else left))
        ≡ cond (eq_by_cmp by_target_and_name (target, name) e.0) (Some e.1) (find by_target_and_name (target, name) es)
    at left (inl is) same = rw (is, pair_ties target name e.0, is, text_ties name e.0.1) (ap (cond (bytes_eq name e.0.1) (Some e.1)) same)
    at left (inr apart) same = rw (apart, pair_ties target name e.0, apart) same

flipped : (a b : Bool) (x y : Option (List ℕ)) → cond (a && b) x y ≡ cond (b && a) x y
flipped true true x y = refl
flipped true false x y = refl
flipped false true x y = refl
flipped false false x y = refl

of_name : (target name : List ℕ) (es : List ((List ℕ × List ℕ) × List ℕ))
    → find by_bytes target (map {B = List ℕ × List ℕ} (λ e. (e.0.0, e.1)) (filter (λ e. bytes_eq name e.0.1) es)) ≡ find by_target_and_name (target, name) es
of_name target name [] = refl
of_name target name (e ∷ es) = at (filter (λ e. bytes_eq name e.0.1) es) (cases_Bool (bytes_eq name e.0.1)) (of_name target name es)
  where
    at : (left : List ((List ℕ × List ℕ) × List ℕ)) → (bytes_eq name e.0.1 ≡ true) ⊎ (bytes_eq name e.0.1 ≡ false)
        → find by_bytes target (map {B = List ℕ × List ℕ} (λ e. (e.0.0, e.1)) left) ≡ find by_target_and_name (target, name) es
        → find by_bytes target (map {B = List ℕ × List ℕ} (λ e. (e.0.0, e.1)) (if bytes_eq name e.0.1 then e ∷ left else left))
        ≡ cond (eq_by_cmp by_target_and_name (target, name) e.0) (Some e.1) (find by_target_and_name (target, name) es)
    at left (inl is) same =
        rw (is, pair_ties target name e.0) (ap (λ b. cond b (Some e.1) (find by_bytes target (map {B = List ℕ × List ℕ} (λ e. (e.0.0, e.1)) left))) (text_ties target e.0.0) ∙ ap (cond (bytes_eq target e.0.0) (Some e.1)) same
        ∙ ap (λ b. cond (b && bytes_eq target e.0.0) (Some e.1) (find by_target_and_name (target, name) es)) (sym is)
        ∙ flipped (bytes_eq name e.0.1) (bytes_eq target e.0.0) (Some e.1) (find by_target_and_name (target, name) es))
    at left (inr apart) same =
        rw (apart, pair_ties target name e.0) (same ∙ ap (λ b. cond (b && bytes_eq target e.0.0) (Some e.1) (find by_target_and_name (target, name) es)) (sym apart)
        ∙ flipped (bytes_eq name e.0.1) (bytes_eq target e.0.0) (Some e.1) (find by_target_and_name (target, name) es))

-- what is found among a target's stickers is the text of the target and the name
pub stickers_of-find : (m : Stickers) (target name : List ℕ) → find by_bytes name (stickers_of m target) ≡ finite.get m (target, name)
stickers_of-find m target name =
    let listed : List (List ℕ × List ℕ) = map (λ e. (e.0.1, e.1)) (filter (λ e. bytes_eq target e.0.0) (finite.entries m)) in
    sym (get-entries (finite.from_entries {R = by_bytes} listed) name) ∙ get-from_entries text_total listed name
    ∙ of_target target name (finite.entries m) ∙ sym (get-entries m (target, name))

pub stickers_are : (m : Stickers) (target : List ℕ) (f : List ℕ → Option (List ℕ)) (es : List (List ℕ × List ℕ)) → ((name : List ℕ) → f name ≡ finite.get m (target, name)) → AreEntries f es → es ≡ stickers_of m target
stickers_are m target f es same are =
    let listed : List (List ℕ × List ℕ) = map (λ e. (e.0.1, e.1)) (filter (λ e. bytes_eq target e.0.0) (finite.entries m)) in
    entries_are (finite.from_entries listed) f es
    (λ name. same name ∙ get-entries m (target, name) ∙ sym (of_target target name (finite.entries m)) ∙ sym (get-from_entries text_total listed name)) are

pub named_are : (m : Stickers) (name : List ℕ) (f : List ℕ → Option (List ℕ)) (es : List (List ℕ × List ℕ)) → ((target : List ℕ) → f target ≡ finite.get m (target, name)) → AreEntries f es → es ≡ stickers_named m name
named_are m name f es same are =
    let listed : List (List ℕ × List ℕ) = map (λ e. (e.0.0, e.1)) (filter (λ e. bytes_eq name e.0.1) (finite.entries m)) in
    entries_are (finite.from_entries listed) f es
    (λ target. same target ∙ get-entries m (target, name) ∙ sym (of_name target name (finite.entries m)) ∙ sym (get-from_entries text_total listed target)) are

-- ---- whether a target has stickers

abbrev has : List ℕ → List ((List ℕ × List ℕ) × List ℕ) → Bool
has target es = list_any (λ e. bytes_eq target e.0.0) es

one_has : (target name : List ℕ) (es : List ((List ℕ × List ℕ) × List ℕ)) (o : Option (List ℕ)) → find by_target_and_name (target, name) es ≡ o → IsSome o → has target es ≡ true
one_has target name [] o is some = (let clash : false ≡ true = subst IsSome (sym is) some in cc)
one_has target name (e ∷ es) o is some = at (cases_Bool (bytes_eq target e.0.0)) (λ found. one_has target name es o found some)
  where
    at : (bytes_eq target e.0.0 ≡ true) ⊎ (bytes_eq target e.0.0 ≡ false) → (find by_target_and_name (target, name) es ≡ o → has target es ≡ true) → (bytes_eq target e.0.0 || has target es) ≡ true
    at (inl here) rest = rw here refl
    at (inr apart) rest = rw apart (rest (sym (rw (pair_ties target name e.0, apart) refl) ∙ is))

none_has : (target : List ℕ) (es : List ((List ℕ × List ℕ) × List ℕ)) → ((name : List ℕ) → find by_target_and_name (target, name) es ≡ None) → has target es ≡ false
none_has target [] none = refl
none_has target (e ∷ es) none = at (cases_Bool (bytes_eq target e.0.0)) (λ rest. none_has target es rest)
  where
    at : (bytes_eq target e.0.0 ≡ true) ⊎ (bytes_eq target e.0.0 ≡ false) → (((name : List ℕ) → find by_target_and_name (target, name) es ≡ None) → has target es ≡ false) → (bytes_eq target e.0.0 || has target es) ≡ false
    at (inl here) rest =
        let own : cond (eq_by_cmp by_target_and_name (target, e.0.1) e.0) (Some e.1) (find by_target_and_name (target, e.0.1) es) ≡ Some e.1 = rw (pair_ties target e.0.1 e.0, here, itself e.0.1) refl in
        let clash : Some e.1 ≡ None = sym own ∙ none e.0.1 in
        cc
    at (inr apart) rest = rw apart (rest (λ name. sym (rw (pair_ties target name e.0, apart) refl) ∙ none name))

pub some_stickers : (m : Stickers) (target name : List ℕ) → IsSome (finite.get m (target, name)) → has_stickers m target ≡ true
some_stickers m target name some = one_has target name (finite.entries m) _ (sym (get-entries m (target, name))) some

pub no_stickers_at : (m : Stickers) (target : List ℕ) → ((name : List ℕ) → finite.get m (target, name) ≡ None) → has_stickers m target ≡ false
no_stickers_at m target none = none_has target (finite.entries m) (λ name. sym (get-entries m (target, name)) ∙ none name)
