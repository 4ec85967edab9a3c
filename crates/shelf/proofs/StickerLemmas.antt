-- What a change of one target does to the stickers of a kind, and what a walk over all of them lists.
use Rattle.std.proofs.Common.{◌≡◌, ◌≢◌, ℕ, List, [], ◌∷◌, ◌++◌, map, flat_map, length, true, false, cond, Option, Some, None, option_map, IsSome, string_bytes, bytes_eq, Less, refl, sym, ap, subst, ◌∙◌, arith, inl, inr, ◌⊎◌}
use Rattle.std.specs.Prelude.{if◌then◌else◌}
use Rattle.std.specs.Option.{option_to_list}
use Rattle.std.specs.Map.{update, lookup, keys_of}
use Rattle.std.specs.List.{AllByRecursion}
use Rattle.std.specs.List.Sorted.{IsStrictlySortedBy}
use Rattle.std.specs.Cmp.Lexicographic.{slice_cmp}
use Rattle.std.specs.Ordering.{nat_cmp, is_eq}
use Rattle.std.specs.BTreeMap.{BTreeMap, UpdatesBy, Updates, IsUnchanged, btree_map_len, get_by_text, is_at}
use Rattle.std.specs.String.{string_cmp}
use Rattle.std.specs.declared.string.String.{String}
use Rattle.std.specs.declared.alloc.Global.{Global}
use Rattle.std.proofs.lemmas.Bool.{cases_Bool}
use Rattle.std.proofs.lemmas.Slice.Eq.{bytes_eq-Decides}
use Rattle.std.proofs.lemmas.Map.Text.{btree_map_updates_text, is_eq-slice_cmp}
use Rattle.shelf.specs.Maps.{AreEntries, no_stickers}
use Rattle.shelf.specs.Memory.{Texts, text_in, stickers_in, moved}

abbrev pub Targets : Type 0
Targets = BTreeMap (String Global) Texts

map_update : {X Y : Type 0} (f : X → Y) (g : List ℕ → Option X) (key other : List ℕ) (w : Option X)
    → option_map f (update bytes_eq g key w other) ≡ update bytes_eq (λ k. option_map f (g k)) key (option_map f w) other
map_update f g key other w = elim (cases_Bool (bytes_eq key other)) [ inl is ↦ rw is refl | inr apart ↦ rw apart refl ]

abbrev pub UpdatesByText : {X : Type 0} → List ℕ → BTreeMap (String Global) X → BTreeMap (String Global) X → Option X → Type 0
UpdatesByText key old new w = UpdatesBy string_cmp (λ k. slice_cmp nat_cmp key (string_bytes k)) old new w

pub texts_changed : (key : List ℕ) (old new : Texts) (w : Option (String Global)) → UpdatesByText key old new w
    → (other : List ℕ) → text_in (Some new) other ≡ update bytes_eq (text_in (Some old)) key (option_map string_bytes w) other
texts_changed key old new w h other = ap (option_map string_bytes) (btree_map_updates_text key old new w h other) ∙ map_update string_bytes (get_by_text old) key other w

pub stickers_changed : (key : List ℕ) (old new : Targets) (w : Option Texts) → UpdatesByText key old new w
    → (other name : List ℕ) → stickers_in new other name ≡ (if bytes_eq key other then text_in w else stickers_in old other) name
stickers_changed key old new w h other name = ap (λ names. text_in names name) (btree_map_updates_text key old new w h other) ∙ at (cases_Bool (bytes_eq key other))
  where
    at : (bytes_eq key other ≡ true) ⊎ (bytes_eq key other ≡ false) → text_in (update bytes_eq (get_by_text old) key w other) name ≡ (if bytes_eq key other then text_in w else stickers_in old other) name
    at (inl is) = rw is refl
    at (inr apart) = rw apart refl

-- what stands at a target, where the map of texts at it is another one
module _ (target : List ℕ) (old new : Targets) where
  -- the texts at the target are these now, and all others are as before
  abbrev pub Given : (List ℕ → Option (List ℕ)) → Type 0
  Given named = (other name : List ℕ) → stickers_in new other name ≡ (if bytes_eq target other then named else stickers_in old other) name

  pub given : (w : Option Texts) (named : List ℕ → Option (List ℕ)) → UpdatesByText target old new w → ((name : List ℕ) → text_in w name ≡ named name) → Given named
  given w named change same other name = stickers_changed target old new w change other name ∙ at (cases_Bool (bytes_eq target other))
    where
      at : (bytes_eq target other ≡ true) ⊎ (bytes_eq target other ≡ false)
          → (if bytes_eq target other then text_in w else stickers_in old other) name ≡ (if bytes_eq target other then named else stickers_in old other) name
      at (inl is) = rw is (same name)
      at (inr apart) = rw apart refl

  -- a change of the target that leaves what it shows
  pub as_before : (w : Option Texts) → UpdatesByText target old new w → ((name : List ℕ) → text_in w name ≡ stickers_in old target name)
      → (other name : List ℕ) → stickers_in new other name ≡ stickers_in old other name
  as_before w change same other name = stickers_changed target old new w change other name ∙ at (cases_Bool (bytes_eq target other))
    where
      at : (bytes_eq target other ≡ true) ⊎ (bytes_eq target other ≡ false) → (if bytes_eq target other then text_in w else stickers_in old other) name ≡ stickers_in old other name
      at (inl is) =
          let one = (bytes_eq-Decides target other).0 is in
          rw (is, ← one) (same name)
      at (inr apart) = rw apart refl

  -- a text was put into, or taken out of, the map at the target
  pub set_within : (name : List ℕ) (was now : Texts) (w : Option (String Global)) → get_by_text old target ≡ Some was → UpdatesByText target old new (Some now) → UpdatesByText name was now w
      → Given (update bytes_eq (stickers_in old target) name (option_map string_bytes w))
  set_within name was now w known outer inner = given (Some now) _ outer (λ n. rw known (texts_changed name was now w inner n))

  pub set_under : (key value : String Global) (name value_bytes : List ℕ) (was now : Texts) → get_by_text old target ≡ Some was → UpdatesByText target old new (Some now)
      → Updates string_cmp was now key (Some value) → string_bytes key ≡ name → string_bytes value ≡ value_bytes
      → Given (update bytes_eq (stickers_in old target) name (Some value_bytes))
  set_under key value name value_bytes was now known outer put named is =
      let inner : UpdatesByText name was now (Some value) = subst (λ bs. UpdatesByText bs was now (Some value)) named put in
      rw (← is) (set_within name was now (Some value) known outer inner)

  -- the target had no map
  pub set_first : (outer_key key value : String Global) (name value_bytes : List ℕ) (none names : Texts) → get_by_text old target ≡ None → none.entries ≡ []
      → Updates string_cmp old new outer_key (Some names) → string_bytes outer_key ≡ target
      → Updates string_cmp none names key (Some value) → string_bytes key ≡ name → string_bytes value ≡ value_bytes
      → Given (update bytes_eq (stickers_in old target) name (Some value_bytes))
  set_first outer_key key value name value_bytes none names known empty outer_put outer_named put named is =
      given (Some names) _ (subst (λ bs. UpdatesByText bs old new (Some names)) outer_named outer_put)
      (λ n. rw known (texts_changed name none names (Some value) (subst (λ bs. UpdatesByText bs none names (Some value)) named put) n ∙ rw (empty, is) refl))

  -- the map at the target has the entries that it had
  pub kept_entries : (was now : Texts) → get_by_text old target ≡ Some was → UpdatesByText target old new (Some now) → IsUnchanged was now
      → (other name : List ℕ) → stickers_in new other name ≡ stickers_in old other name
  kept_entries was now known outer same = as_before (Some now) outer (λ n. rw (known, same) refl)

  pub none_left : UpdatesByText target old new None → Given no_stickers
  none_left outer = given None no_stickers outer (λ n. refl)

empty_from_length : (es : List (String Global × String Global)) → length es ≡ 0 → es ≡ []
empty_from_length [] short = refl
empty_from_length (e ∷ es) short = absurd (omega (arith, short))

-- a map without entries shows nothing
pub empty_shows : (names : Texts) → btree_map_len names ≡ 0 → (name : List ℕ) → text_in (Some names) name ≡ None
empty_shows names short name = rw (empty_from_length names.entries short) refl

-- an empty map at the new target, the target's own taken out, and put in place of the empty one
module _ (target new_target : List ℕ) (key : String Global) (empty : Texts) (old first : Targets)
    (put : Updates string_cmp old first key (Some empty)) (named : string_bytes key ≡ new_target) (none : empty.entries ≡ []) (apart : target ≢ new_target) where
  differ : bytes_eq new_target target ≡ false
  differ = elim (cases_Bool (bytes_eq new_target target)) [ inl is ↦ absurd (apart (sym ((bytes_eq-Decides new_target target).0 is))) | inr is ↦ is ]

  first_at : (other : List ℕ) → get_by_text first other ≡ update bytes_eq (get_by_text old) new_target (Some empty) other
  first_at other = btree_map_updates_text new_target old first (Some empty) (subst (λ bs. UpdatesByText bs old first (Some empty)) named put) other

  -- what is at the target stands there still
  pub still_there : get_by_text first target ≡ get_by_text old target
  still_there = first_at target ∙ rw differ refl

  pub moved_to : (names : Texts) (second new : Targets) → get_by_text first target ≡ Some names → UpdatesByText target first second None → UpdatesByText new_target second new (Some names)
      → (other name : List ℕ) → stickers_in new other name ≡ moved target new_target (stickers_in old) other name
  moved_to names second new known gone given other name =
      ap (λ names. text_in names name) (btree_map_updates_text new_target second new (Some names) given other) ∙ at (cases_Bool (bytes_eq new_target other)) (cases_Bool (bytes_eq target other))
    where
      was : get_by_text old target ≡ Some names
      was = sym still_there ∙ known

      at : (bytes_eq new_target other ≡ true) ⊎ (bytes_eq new_target other ≡ false) → (bytes_eq target other ≡ true) ⊎ (bytes_eq target other ≡ false)
          → text_in (update bytes_eq (get_by_text second) new_target (Some names) other) name ≡ moved target new_target (stickers_in old) other name
      at (inl is) h = rw (is, was) refl
      at (inr not_new) (inl is) = rw (not_new, is, btree_map_updates_text target first second None gone other, is) refl
      at (inr not_new) (inr not_old) = rw (not_new, not_old, btree_map_updates_text target first second None gone other, not_old, first_at other, not_new) refl

  -- the empty map still stands there
  pub has_room : (second : Targets) → UpdatesByText target first second None → get_by_text second new_target ≡ Some empty
  has_room second gone =
      let apart_too : bytes_eq target new_target ≡ false = elim (cases_Bool (bytes_eq target new_target)) [ inl is ↦ absurd (apart ((bytes_eq-Decides target new_target).0 is)) | inr is ↦ is ] in
      let same : bytes_eq new_target new_target ≡ true = (bytes_eq-Decides new_target new_target).1 refl in
      btree_map_updates_text target first second None gone new_target ∙ rw (apart_too, first_at new_target, same) refl

  -- the target had no map
  pub none_to_move : (new : Targets) → get_by_text first target ≡ None → UpdatesByText target first new None
      → (other name : List ℕ) → stickers_in new other name ≡ moved target new_target (stickers_in old) other name
  none_to_move new known gone other name =
      ap (λ names. text_in names name) (btree_map_updates_text target first new None gone other) ∙ at (cases_Bool (bytes_eq new_target other)) (cases_Bool (bytes_eq target other))
    where
      was : get_by_text old target ≡ None
      was = sym still_there ∙ known

      at : (bytes_eq new_target other ≡ true) ⊎ (bytes_eq new_target other ≡ false) → (bytes_eq target other ≡ true) ⊎ (bytes_eq target other ≡ false)
          → text_in (update bytes_eq (get_by_text first) target None other) name ≡ moved target new_target (stickers_in old) other name
      at (inl is) (inl also) = absurd (apart ((bytes_eq-Decides target other).0 also ∙ sym ((bytes_eq-Decides new_target other).0 is)))
      at (inl is) (inr not_old) = rw (is, not_old, first_at other, is, was, none) refl
      at (inr not_new) (inl is) = rw (not_new, is) refl
      at (inr not_new) (inr not_old) = rw (not_new, not_old, first_at other, not_new) refl

-- a map that is not empty has a text at some name
pub some_text : (names : Texts) → (btree_map_len names ≡ 0 → ⊥) → (name : List ℕ) × IsSome (text_in (Some names) name)
some_text names full = at names.entries refl
  where
    at : (es : List (String Global × String Global)) → names.entries ≡ es → (name : List ℕ) × IsSome (text_in (Some names) name)
    at [] is = absurd (full (ap length is))
    at (e ∷ es) is =
        let here : bytes_eq (string_bytes e.0) (string_bytes e.0) ≡ true = (bytes_eq-Decides (string_bytes e.0) (string_bytes e.0)).1 refl in
        (string_bytes e.0, rw (is, is_eq-slice_cmp, here) refl)

-- ---- listings

less_texts : (k : String Global) (ks : List (String Global)) → AllByRecursion (λ y. string_cmp k y ≡ Less) ks → AllByRecursion (λ y. slice_cmp nat_cmp (string_bytes k) y ≡ Less) (map string_bytes ks)
less_texts k [] all = tt
less_texts k (y ∷ ks) all = (all.0, less_texts k ks all.1)

pub sorted_texts : (ks : List (String Global)) → IsStrictlySortedBy string_cmp ks → IsStrictlySortedBy (slice_cmp nat_cmp) (map string_bytes ks)
unfolding IsStrictlySortedBy
sorted_texts [] rising = tt
sorted_texts (k ∷ ks) rising = (less_texts k ks rising.0, sorted_texts ks rising.1)

abbrev pub pair_texts : String Global × String Global → List ℕ × List ℕ
pair_texts e = (string_bytes e.0, string_bytes e.1)

first_texts : (es : List (String Global × String Global)) → map (λ e. e.0) (map pair_texts es) ≡ map string_bytes (keys_of es)
first_texts [] = refl
first_texts (e ∷ es) = ap (λ more. string_bytes e.0 ∷ more) (first_texts es)

entries_whole : (key : List ℕ) (es : List (String Global × String Global))
    → lookup (bytes_eq key) (map pair_texts es) ≡ option_map string_bytes (lookup (is_at (λ k. slice_cmp nat_cmp key (string_bytes k))) es)
entries_whole key [] = refl
entries_whole key (e ∷ es) = rw is_eq-slice_cmp (elim (cases_Bool (bytes_eq key (string_bytes e.0))) [
  | inl is ↦ rw is refl
  | inr apart ↦ rw apart (entries_whole key es)
])

pub entries_listed : (names : Texts) → IsStrictlySortedBy string_cmp (keys_of names.entries) → AreEntries (text_in (Some names)) (map pair_texts names.entries)
entries_listed names rising = record {
  rising = rw first_texts (sorted_texts (keys_of names.entries) rising);
  whole = λ key. entries_whole key names.entries;
}

pub none_listed : AreEntries (text_in None) []
unfolding IsStrictlySortedBy
none_listed = record { rising = tt; whole = λ key. refl }

-- the stickers of one name among those of all targets
abbrev pub found_at : List ℕ → String Global × Texts → List (List ℕ × List ℕ)
found_at name e = option_to_list (option_map (λ value. (string_bytes e.0, string_bytes value)) (get_by_text e.1 name))

abbrev pub found_in : List ℕ → List (String Global × Texts) → List (List ℕ × List ℕ)
found_in name es = flat_map (found_at name) es

less_found : (name : List ℕ) (k : String Global) (es : List (String Global × Texts)) → AllByRecursion (λ y. string_cmp k y ≡ Less) (keys_of es)
    → AllByRecursion (λ y. slice_cmp nat_cmp (string_bytes k) y ≡ Less) (map (λ e. e.0) (found_in name es))
less_found name k [] all = tt
less_found name k (e ∷ es) all = at (less_found name k es all.1) (get_by_text e.1 name)
  where
    at : AllByRecursion (λ y. slice_cmp nat_cmp (string_bytes k) y ≡ Less) (map (λ e. e.0) (found_in name es)) → (o : Option (String Global)) → AllByRecursion (λ y. slice_cmp nat_cmp (string_bytes k) y ≡ Less) (map (λ e. e.0) (option_to_list (option_map (λ value. (string_bytes e.0, string_bytes value)) o) ++ found_in name es))
    at more None = more
    at more (Some value) = (all.0, more)

found_rising : (name : List ℕ) (es : List (String Global × Texts)) → IsStrictlySortedBy string_cmp (keys_of es) → IsStrictlySortedBy (slice_cmp nat_cmp) (map (λ e. e.0) (found_in name es))
unfolding IsStrictlySortedBy
found_rising name [] rising = tt
found_rising name (e ∷ es) rising = at (found_rising name es rising.1) (get_by_text e.1 name)
  where
    at : IsStrictlySortedBy (slice_cmp nat_cmp) (map (λ e. e.0) (found_in name es)) → (o : Option (String Global)) → IsStrictlySortedBy (slice_cmp nat_cmp) (map (λ e. e.0) (option_to_list (option_map (λ value. (string_bytes e.0, string_bytes value)) o) ++ found_in name es))
    at more None = more
    at more (Some value) = (less_found name e.0 es rising.0, more)

none_below : (key : List ℕ) (es : List (List ℕ × List ℕ)) → AllByRecursion (λ y. slice_cmp nat_cmp key y ≡ Less) (map (λ e. e.0) es) → lookup (bytes_eq key) es ≡ None
none_below key [] all = refl
none_below key (e ∷ es) all =
    let apart : bytes_eq key e.0 ≡ false = sym (is_eq-slice_cmp key e.0) ∙ ap is_eq all.0 in
    rw apart (none_below key es all.1)

found_whole : (name uri : List ℕ) (es : List (String Global × Texts)) → IsStrictlySortedBy string_cmp (keys_of es)
    → lookup (bytes_eq uri) (found_in name es) ≡ text_in (lookup (is_at (λ k. slice_cmp nat_cmp uri (string_bytes k))) es) name
unfolding IsStrictlySortedBy
found_whole name uri [] rising = refl
found_whole name uri (e ∷ es) rising = rw is_eq-slice_cmp (at (found_whole name uri es rising.1) (get_by_text e.1 name) refl (cases_Bool (bytes_eq uri (string_bytes e.0))))
  where
    at : lookup (bytes_eq uri) (found_in name es) ≡ text_in (lookup (is_at (λ k. slice_cmp nat_cmp uri (string_bytes k))) es) name → (o : Option (String Global)) → get_by_text e.1 name ≡ o → (bytes_eq uri (string_bytes e.0) ≡ true) ⊎ (bytes_eq uri (string_bytes e.0) ≡ false)
        → lookup (bytes_eq uri) (option_to_list (option_map (λ value. (string_bytes e.0, string_bytes value)) o) ++ found_in name es) ≡ text_in (cond (bytes_eq uri (string_bytes e.0)) (Some e.1) (lookup (is_at (λ k. slice_cmp nat_cmp uri (string_bytes k))) es)) name
    at more None known (inl is) =
        let same : uri ≡ string_bytes e.0 = (bytes_eq-Decides uri (string_bytes e.0)).0 is in
        rw (is, known) (subst (λ key. lookup (bytes_eq key) (found_in name es) ≡ None) (sym same) (none_below (string_bytes e.0) (found_in name es) (less_found name e.0 es rising.0)))
    at more (Some value) known (inl is) = rw (is, known) refl
    at more None known (inr apart) = rw apart more
    at more (Some value) known (inr apart) = rw apart more

pub found_listed : (name : List ℕ) (stickers : Targets) → IsStrictlySortedBy string_cmp (keys_of stickers.entries) → AreEntries (λ uri. stickers_in stickers uri name) (found_in name stickers.entries)
found_listed name stickers rising = record { rising = found_rising name stickers.entries rising; whole = λ uri. found_whole name uri stickers.entries rising }
