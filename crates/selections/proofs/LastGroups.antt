-- Groups at the end of words.
use Rattle.std.proofs.Common.{◌≡◌, ℕ, ◌+◌, ◌-◌, ◌<◌, ◌≤◌, Bool, true, false, List, [], ◌∷◌, ◌++◌, length, reverse, map, take, drop, get_or, take_all, cond, Ok, codes, refl, ap, sym, ◌∙◌, append_assoc, arith}
use Rattle.std.specs.Str.{bytes_eq}
use Rattle.std.proofs.lemmas.List.{reverse-append, map-append, length-map, length-reverse, take_more}
use Rattle.known_tags.specs.declared.known_tag.KnownTag.{KnownTag}
use Rattle.selections.specs.Groupings.{from_the_right, groups_start, other_tag_of, with_groups}

-- words without their last two, and these two
apart : {X : Type 0} → (xs : List X) (name : X) → 2 ≤ length xs → name ≡ get_or xs (length xs - 2) name
    → xs ≡ take (length xs - 2) xs ++ name ∷ get_or xs (length xs - 1) name ∷ []
apart xs name enough is =
    let all : take (length xs - 2 + 1 + 1) xs ≡ xs = take_all (length xs - 2 + 1 + 1) xs (omega arith) in
    let last : take (length xs - 2 + 1 + 1) xs ≡ take (length xs - 2 + 1) xs ++ get_or xs (length xs - 2 + 1) name ∷ [] = take_more xs (length xs - 2 + 1) name (omega arith) in
    let before : take (length xs - 2 + 1) xs ≡ take (length xs - 2) xs ++ get_or xs (length xs - 2) name ∷ [] = take_more xs (length xs - 2) name (omega arith) in
    let index : length xs - 2 + 1 ≡ length xs - 1 = omega arith in
    sym all ∙ last ∙ ap (λ front. front ++ get_or xs (length xs - 2 + 1) name ∷ []) before
    ∙ append_assoc (take (length xs - 2) xs) (get_or xs (length xs - 2) name ∷ []) (get_or xs (length xs - 2 + 1) name ∷ [])
    ∙ (λ i. take (length xs - 2) xs ++ sym is i ∷ get_or xs (index i) name ∷ [])

mapped : {X : Type 0} → (f : X → List ℕ) (xs : List X) (name : X) → 2 ≤ length xs → name ≡ get_or xs (length xs - 2) name
    → map f xs ≡ map f (take (length xs - 2) xs) ++ f name ∷ f (get_or xs (length xs - 1) name) ∷ []
mapped f xs name enough is = ap (map f) (apart xs name enough is) ∙ map-append f (take (length xs - 2) xs) (name ∷ get_or xs (length xs - 1) name ∷ [])

reversed : (front : List (List ℕ)) (name tag : List ℕ) → reverse (front ++ name ∷ tag ∷ []) ≡ tag ∷ name ∷ reverse front
reversed front name tag = reverse-append front (name ∷ tag ∷ [])

start : (front : List (List ℕ)) (name tag : List ℕ) → groups_start (front ++ name ∷ tag ∷ []) ≡ cond (bytes_eq name (codes "group")) (groups_start front) (length (tag ∷ name ∷ reverse front))
start front name tag = ap from_the_right (reversed front name tag)

-- a group at the end
pub taken : (tag : List ℕ) (front : List (List ℕ)) → groups_start (front ++ codes "group" ∷ tag ∷ []) ≡ groups_start front
taken tag front = start front (codes "group") tag

-- two other words at the end
pub others : (name tag : List ℕ) (front : List (List ℕ)) → bytes_eq name (codes "group") ≡ false → groups_start (front ++ name ∷ tag ∷ []) ≡ length front + 2
others name tag front other =
    start front name tag ∙ ap (λ (b : Bool). cond b (groups_start front) (length (tag ∷ name ∷ reverse front))) other ∙ omega (arith, length-reverse {A = List ℕ})

-- the last group is taken off
pub group_last : {X : Type 0} → (f : X → List ℕ) (xs : List X) (name : X) → 2 ≤ length xs → name ≡ get_or xs (length xs - 2) name → bytes_eq (f name) (codes "group") ≡ true
    → groups_start (map f (take (length xs - 2) xs)) ≡ groups_start (map f xs)
group_last f xs name enough is group =
    let front = map f (take (length xs - 2) xs) in
    let tag = f (get_or xs (length xs - 1) name) in
    sym (ap groups_start (mapped f xs name enough is) ∙ start front (f name) tag ∙ ap (λ (b : Bool). cond b (groups_start front) (length (tag ∷ f name ∷ reverse front))) group)

-- no group is last
pub no_group_last : {X : Type 0} → (f : X → List ℕ) (xs : List X) (name : X) → 2 ≤ length xs → name ≡ get_or xs (length xs - 2) name → bytes_eq (f name) (codes "group") ≡ false
    → length xs ≡ groups_start (map f xs)
no_group_last f xs name enough is other =
    let front = map f (take (length xs - 2) xs) in
    let tag = f (get_or xs (length xs - 1) name) in
    let counted : groups_start (map f xs) ≡ length (tag ∷ f name ∷ reverse front) =
    ap groups_start (mapped f xs name enough is) ∙ start front (f name) tag ∙ ap (λ (b : Bool). cond b (groups_start front) (length (tag ∷ f name ∷ reverse front))) other in
    let reversed_length : length (tag ∷ f name ∷ reverse front) ≡ length (map f xs) = sym (ap length (reversed front (f name) tag)) ∙ length-reverse (front ++ f name ∷ tag ∷ []) ∙ sym (ap length (mapped f xs name enough is)) in
    sym (counted ∙ reversed_length ∙ length-map xs f)

-- one word or none is before no group
pub few_words : {X : Type 0} → (f : X → List ℕ) (xs : List X) → length xs < 2 → length xs ≡ groups_start (map f xs)
few_words f [] few = refl
few_words f (x ∷ []) few = refl
few_words f (x ∷ y ∷ xs) few = absurd (omega arith)

first : (name word : List ℕ) (words : List (List ℕ)) (tags : List KnownTag) (tag : KnownTag) → other_tag_of tags word ≡ Ok tag
    → with_groups (name ∷ word ∷ words) tags ≡ with_groups words (tags ++ tag ∷ [])
first name word words tags tag e = rw e refl

-- the first of the groups that are left is read
pub next_group : {X : Type 0} → (f : X → List ℕ) (xs : List X) (word : X) → 2 ≤ length xs → word ≡ get_or xs 1 word → (tags : List KnownTag) (tag : KnownTag)
    → other_tag_of tags (f word) ≡ Ok tag → with_groups (map f (take (length xs - 2) (drop 2 xs))) (tags ++ tag ∷ []) ≡ with_groups (map f xs) tags
next_group f [] word enough is tags tag e = absurd (omega arith)
next_group f (x ∷ []) word enough is tags tag e = absurd (omega arith)
next_group f (x ∷ y ∷ xs) word enough is tags tag e =
    let rest : take (length (x ∷ y ∷ xs) - 2) xs ≡ xs = take_all (length (x ∷ y ∷ xs) - 2) xs (omega arith) in
    ap (λ words. with_groups (map f words) (tags ++ tag ∷ [])) rest ∙ sym (first (f x) (f y) (map f xs) tags tag (ap (λ w. other_tag_of tags (f w)) (sym is) ∙ e))
