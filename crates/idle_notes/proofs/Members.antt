-- What is known of clients, where one of them changes.
use Rattle.std.proofs.Common.{◌≡◌, ◌∙◌, ℕ, suc, ◌+◌, ◌<◌, ◌≤◌, ◌==◌, Bool, true, false, cond, not, List, [], ◌∷◌, ◌++◌, map, filter, length, get_or, set, take, drop, Some, None, refl, sym, ap, subst, count_by, arith}
use Rattle.std.specs.List.{position_or_len}
use Rattle.std.proofs.lemmas.List.{map-set, length-map, get_or-map, get_or-drop, drop-set-lt, drop_more}
use Rattle.std.proofs.lemmas.List.Sums.{sum_by-drop_more}
use Rattle.std.proofs.lemmas.List.Edits.{map_over_more}
use Rattle.idle_notes.specs.declared.channels.Member.{Member}
use Rattle.idle_notes.specs.Channels.{MemberData, data_of, member_of, changed, left}

abbrev pub index : ℕ → List Member → ℕ
index client members = position_or_len (λ (m : Member). m.client == client) members

one : (n : ℕ) → suc n ≡ 1 + n
one n = omega arith

pub found : (client : ℕ) (ms : List Member) (d : Member) → index client ms < length ms → member_of client (map data_of ms) ≡ Some (data_of (get_or ms (index client ms) d))
found client [] d h = absurd (omega arith)
found client (x ∷ xs) d h =
    let goes : (b : Bool) → cond (not b) (1 + index client xs) 0 < suc (length xs) → cond b (Some (data_of x)) (member_of client (map data_of xs)) ≡ Some (data_of (get_or (x ∷ xs) (cond (not b) (1 + index client xs) 0) d))
    = λ b. elim b as (λ b. cond (not b) (1 + index client xs) 0 < suc (length xs) → cond b (Some (data_of x)) (member_of client (map data_of xs)) ≡ Some (data_of (get_or (x ∷ xs) (cond (not b) (1 + index client xs) 0) d))) [ true ↦ λ k. refl | false ↦ (let P : ℕ → Type 0 = λ j. j < suc (length xs) → member_of client (map data_of xs) ≡ Some (data_of (get_or (x ∷ xs) j d)) in subst P (one (index client xs)) (λ k. found client xs d (omega arith))) ] in
    goes (x.client == client) h

pub absent : (client : ℕ) (ms : List Member) → length ms ≤ index client ms → member_of client (map data_of ms) ≡ None
absent client [] h = refl
absent client (x ∷ xs) h =
    let goes : (b : Bool) → suc (length xs) ≤ cond (not b) (1 + index client xs) 0 → cond b (Some (data_of x)) (member_of client (map data_of xs)) ≡ None
    = λ b. elim b as (λ b. suc (length xs) ≤ cond (not b) (1 + index client xs) 0 → cond b (Some (data_of x)) (member_of client (map data_of xs)) ≡ None) [ true ↦ λ k. absurd (omega arith) | false ↦ λ k. absent client xs (omega arith) ] in
    goes (x.client == client) h

-- a change of the one at the index
pub changes : (client : ℕ) (f : MemberData → MemberData) (ms : List Member) (m d : Member) → index client ms < length ms → data_of m ≡ f (data_of (get_or ms (index client ms) d)) → map data_of (set ms (index client ms) m) ≡ changed client f (map data_of ms)
changes client f [] m d h e = refl
changes client f (x ∷ xs) m d h e =
    let goes : (b : Bool) → cond (not b) (1 + index client xs) 0 < suc (length xs) → data_of m ≡ f (data_of (get_or (x ∷ xs) (cond (not b) (1 + index client xs) 0) d)) → map data_of (set (x ∷ xs) (cond (not b) (1 + index client xs) 0) m) ≡ cond b (f (data_of x) ∷ map data_of xs) (data_of x ∷ changed client f (map data_of xs))
    = λ b. elim b as (λ b. cond (not b) (1 + index client xs) 0 < suc (length xs) → data_of m ≡ f (data_of (get_or (x ∷ xs) (cond (not b) (1 + index client xs) 0) d)) → map data_of (set (x ∷ xs) (cond (not b) (1 + index client xs) 0) m) ≡ cond b (f (data_of x) ∷ map data_of xs) (data_of x ∷ changed client f (map data_of xs))) [
      | true ↦ λ k g. ap (λ (y : MemberData). y ∷ map data_of xs) g
      | false ↦ (
          let P : ℕ → Type 0 = λ j. j < suc (length xs) → data_of m ≡ f (data_of (get_or (x ∷ xs) j d)) → map data_of (set (x ∷ xs) j m) ≡ data_of x ∷ changed client f (map data_of xs) in
          subst P (one (index client xs)) (λ k g. ap (λ (rest : List MemberData). data_of x ∷ rest) (changes client f xs m d (omega arith) g))
          )
    ] in
    goes (x.client == client) h e

pub stays : (client : ℕ) (f : MemberData → MemberData) (ms : List Member) → length ms ≤ index client ms → map data_of ms ≡ changed client f (map data_of ms)
stays client f [] h = refl
stays client f (x ∷ xs) h =
    let goes : (b : Bool) → suc (length xs) ≤ cond (not b) (1 + index client xs) 0 → data_of x ∷ map data_of xs ≡ cond b (f (data_of x) ∷ map data_of xs) (data_of x ∷ changed client f (map data_of xs))
    = λ b. elim b as (λ b. suc (length xs) ≤ cond (not b) (1 + index client xs) 0 → data_of x ∷ map data_of xs ≡ cond b (f (data_of x) ∷ map data_of xs) (data_of x ∷ changed client f (map data_of xs))) [ true ↦ λ k. absurd (omega arith) | false ↦ λ k. ap (λ (rest : List MemberData). data_of x ∷ rest) (stays client f xs (omega arith)) ] in
    goes (x.client == client) h

pub left-data : (client : ℕ) (ms : List Member) → map data_of (filter (λ (m : Member). not (m.client == client)) ms) ≡ left client (map data_of ms)
unfolding left
left-data client [] = refl
left-data client (x ∷ xs) =
    elim (x.client == client) as (λ b. map data_of (cond (not b) (x ∷ filter (λ (m : Member). not (m.client == client)) xs) (filter (λ (m : Member). not (m.client == client)) xs)) ≡ cond (not b) (data_of x ∷ filter (λ (m : MemberData). not (m.client == client)) (map data_of xs)) (filter (λ (m : MemberData). not (m.client == client)) (map data_of xs))) [
      | true ↦ left-data client xs
      | false ↦ ap (λ (rest : List MemberData). data_of x ∷ rest) (left-data client xs)
    ]

-- the same at an index that is known to be the client's
pub found-at : (client : ℕ) (ms : List Member) (n : ℕ) (d : Member) → n ≡ index client ms → n < length ms → member_of client (map data_of ms) ≡ Some (data_of (get_or ms n d))
found-at client ms n d e h = let P : ℕ → Type 0 = λ k. k < length ms → member_of client (map data_of ms) ≡ Some (data_of (get_or ms k d)) in subst P (sym e) (found client ms d) h

pub absent-at : (client : ℕ) (ms : List Member) (n : ℕ) → n ≡ index client ms → length ms ≤ n → member_of client (map data_of ms) ≡ None
absent-at client ms n e h = let P : ℕ → Type 0 = λ k. length ms ≤ k → member_of client (map data_of ms) ≡ None in subst P (sym e) (absent client ms) h

pub stays-at : (client : ℕ) (f : MemberData → MemberData) (ms : List Member) (n : ℕ) → n ≡ index client ms → length ms ≤ n → map data_of ms ≡ changed client f (map data_of ms)
stays-at client f ms n e h = let P : ℕ → Type 0 = λ k. length ms ≤ k → map data_of ms ≡ changed client f (map data_of ms) in subst P (sym e) (stays client f ms) h

pub changes-at : (client : ℕ) (f : MemberData → MemberData) (ms : List Member) (n : ℕ) (m d : Member) → n ≡ index client ms → n < length ms → data_of m ≡ f (data_of (get_or ms n d)) → map data_of (set ms n m) ≡ changed client f (map data_of ms)
changes-at client f ms n m d e h g =
    let P : ℕ → Type 0 = λ k. k < length ms → data_of m ≡ f (data_of (get_or ms k d)) → map data_of (set ms k m) ≡ changed client f (map data_of ms) in
    subst P (sym e) (changes client f ms m d) h g

-- a step of a loop that changes what is known of each in turn
pub one-more : (f : MemberData → MemberData) (xs ys : List Member) (i : ℕ) (n d : Member) → i < length xs → i < length ys → data_of n ≡ f (data_of (get_or ys i d)) → map data_of ys ≡ map f (take i (map data_of xs)) ++ drop i (map data_of xs)
    → map data_of (set ys i n) ≡ map f (take (i + 1) (map data_of xs)) ++ drop (i + 1) (map data_of xs)
one-more f xs ys i n d within inside e done =
    let l : i < length (map data_of xs) = omega (arith, length-map xs data_of) in
    map-set data_of ys i n ∙ ap (λ (y : MemberData). set (map data_of ys) i y) e
    ∙ map_over_more f (map data_of xs) (map data_of ys) i (data_of (get_or ys i d)) l done (sym (get_or-map data_of ys i d (data_of (get_or ys i d)) inside))

-- what two lists have from an index on is the same
pub same-here : (xs ys : List Member) (i : ℕ) (d : Member) → drop i ys ≡ drop i xs → get_or ys i d ≡ get_or xs i d
same-here xs ys i d e =
    let a : get_or (drop i ys) 0 d ≡ get_or ys (i + 0) d = get_or-drop i ys 0 d in
    let b : get_or (drop i xs) 0 d ≡ get_or xs (i + 0) d = get_or-drop i xs 0 d in
    let z : i + 0 ≡ i = omega arith in
    ap (λ k. get_or ys k d) (sym z) ∙ sym a ∙ ap (λ (r : List Member). get_or r 0 d) e ∙ b ∙ ap (λ k. get_or xs k d) z

tail : List Member → List Member
tail [] = []
tail (x ∷ xs) = xs

pub same-beyond : (xs ys : List Member) (i : ℕ) (n d : Member) → i < length xs → i < length ys → drop i ys ≡ drop i xs → drop (i + 1) (set ys i n) ≡ drop (i + 1) xs
unfolding tail
same-beyond xs ys i n d within inside e =
    drop-set-lt (i + 1) ys i n (omega arith) ∙ ap tail (sym (drop_more ys i d inside) ∙ e ∙ drop_more xs i d within)

-- what is still wanted, after one
pub one-less : (p : Member → Bool) (xs ys : List Member) (i : ℕ) (d : Member) (n old : ℕ) → i < length xs → get_or ys i d ≡ get_or xs i d → n + cond (p (get_or ys i d)) 1 0 ≡ old → count_by p (drop i xs) ≤ old → count_by p (drop (i + 1) xs) ≤ n
one-less p xs ys i d n old within here e h =
    omega (arith, sum_by-drop_more (λ (m : Member). cond (p m) 1 0) xs i d within, ap {B = ℕ} (λ (m : Member). cond (p m) 1 0) here, e, h)
