-- Lists of ids and of ranks: what is found in them, and what a removal leaves.
use Rattle.std.proofs.Common.{◌≡◌, ℕ, true, false, not, ◌==◌, ◌||◌, List, [], ◌∷◌, ◌++◌, filter, find, Option, Some, None, refl, ap, sym, ◌∙◌, arith, cond}
use Rattle.std.specs.Option.{option_map, option_or}
use Rattle.std.proofs.lemmas.Bool.{eq-eqb, eqb-false, eqb-true, ne_eqb}
use Rattle.std.proofs.lemmas.List.Elements.{filter-append}
use Rattle.std.proofs.lemmas.List.Folds.{list_any-append}
use Rattle.play_order.specs.declared.modes.Rank.{Rank}
use Rattle.play_order.proofs.Lists.{filter-swap}
use Rattle.play_order.specs.Draws.{is_among, others, moved_last}
use Rattle.play_order.specs.Ends.{last_of}

pub last_of-push : (xs : List ℕ) (x : ℕ) → last_of (xs ++ x ∷ []) ≡ Some x
last_of-push [] x = refl
last_of-push (y ∷ []) x = refl
last_of-push (y ∷ z ∷ more) x = last_of-push (z ∷ more) x

-- the ids without one have each other
pub among-others : (q id : ℕ) (ids : List ℕ) → is_among q (others id ids) ≡ cond (id == q) false (is_among q ids)
among-others q id [] = grind arith
among-others q id (x ∷ ids) = grind (arith, among-others q id ids)

pub among-moved_last : (q id : ℕ) (ids : List ℕ) → is_among q (moved_last ids id) ≡ cond (id == q) true (is_among q ids)
among-moved_last q id ids = list_any-append (λ other. other == q) (others id ids) (id ∷ []) ∙ (grind (arith, among-others q id ids))

-- what a removal leaves
pub among-left : (q : ℕ) (gone ids : List ℕ) → is_among q (filter (λ id. not (is_among id gone)) ids) ≡ cond (is_among q gone) false (is_among q ids)
among-left q gone [] = grind arith
among-left q gone (x ∷ ids) =
    elim (x == q) as (λ v. (x == q) ≡ v → is_among q (cond (not (is_among x gone)) (x ∷ filter (λ id. not (is_among id gone)) ids) (filter (λ id. not (is_among id gone)) ids)) ≡ cond (is_among q gone) false (v || is_among q ids)) [
      | true ↦ λ e. let same : x ≡ q = eqb-true x q e in
          (elim (is_among x gone) as (λ w. is_among x gone ≡ w → is_among q (cond (not w) (x ∷ filter (λ id. not (is_among id gone)) ids) (filter (λ id. not (is_among id gone)) ids)) ≡ cond (is_among q gone) false true) [
            | true ↦ λ g. let there : is_among q gone ≡ true = ap (λ (y : ℕ). is_among y gone) (sym same) ∙ g in among-left q gone ids ∙ (rw there refl)
            | false ↦ λ g. let there : is_among q gone ≡ false = ap (λ (y : ℕ). is_among y gone) (sym same) ∙ g in rw (e, there) refl
          ] refl)
      | false ↦ λ e.
          (elim (is_among x gone) as (λ w. is_among q (cond (not w) (x ∷ filter (λ id. not (is_among id gone)) ids) (filter (λ id. not (is_among id gone)) ids)) ≡ cond (is_among q gone) false (is_among q ids)) [
            | true ↦ among-left q gone ids
            | false ↦ rw e (among-left q gone ids)
          ])
    ] refl

-- one more id leaves
pub left-more : (id : ℕ) (gone ids : List ℕ) → others id (filter (λ other. not (is_among other gone)) ids) ≡ filter (λ other. not (is_among other (gone ++ id ∷ []))) ids
left-more id gone [] = refl
left-more id gone (x ∷ ids) =
    let rest : List ℕ = filter (λ other. not (is_among other gone)) ids in
    let more = left-more id gone ids in
    let split : is_among x (gone ++ id ∷ []) ≡ (is_among x gone || is_among x (id ∷ [])) = list_any-append (λ other. other == x) gone (id ∷ []) in
    elim (is_among x gone) as (λ v. is_among x gone ≡ v → others id (cond (not v) (x ∷ rest) rest) ≡ filter (λ other. not (is_among other (gone ++ id ∷ []))) (x ∷ ids)) [
      | true ↦ λ e. let there : is_among x (gone ++ id ∷ []) ≡ true = split ∙ ap (λ b. b || is_among x (id ∷ [])) e in rw there more
      | false ↦ λ e. elim (x == id) as (λ w. (x == id) ≡ w → cond (not w) (x ∷ others id rest) (others id rest) ≡ filter (λ other. not (is_among other (gone ++ id ∷ []))) (x ∷ ids)) [
        | true ↦ λ g.
            let there : is_among x (gone ++ id ∷ []) ≡ true = split ∙ ap (λ b. b || is_among x (id ∷ [])) e ∙ ap (λ b. b || false) (eq-eqb id x (sym (eqb-true x id g))) in
            rw there more
        | false ↦ λ g.
            let stays : is_among x (gone ++ id ∷ []) ≡ false = split ∙ ap (λ b. b || is_among x (id ∷ [])) e ∙ ap (λ b. b || false) (ne_eqb id x (λ t. eqb-false x id g (sym t))) in
            rw stays (ap (λ (r : List ℕ). x ∷ r) more)
      ] refl
    ] refl

abbrev pub rank_at : List Rank → ℕ → Option ℕ
rank_at ranks id = option_map (λ r. r.rank) (find (λ r. r.id == id) ranks)

pub find-left : (q : ℕ) (gone : List ℕ) (ranks : List Rank) → find (λ r. r.id == q) (filter (λ r. not (is_among r.id gone)) ranks) ≡ cond (is_among q gone) None (find (λ r. r.id == q) ranks)
find-left q gone [] = elim (is_among q gone) as (λ v. ◌≡◌ {A = Option Rank} None (cond v None None)) [ true ↦ refl | false ↦ refl ]
find-left q gone (x ∷ ranks) =
    let rest : List Rank = filter (λ r. not (is_among r.id gone)) ranks in
    elim (x.id == q) as (λ v. (x.id == q) ≡ v → find (λ r. r.id == q) (cond (not (is_among x.id gone)) (x ∷ rest) rest) ≡ cond (is_among q gone) None (cond v (Some x) (find (λ r. r.id == q) ranks))) [
      | true ↦ λ e. let same : x.id ≡ q = eqb-true x.id q e in
          (elim (is_among x.id gone) as (λ w. is_among x.id gone ≡ w → find (λ r. r.id == q) (cond (not w) (x ∷ rest) rest) ≡ cond (is_among q gone) None (Some x)) [
            | true ↦ λ g. let there : is_among q gone ≡ true = ap (λ (y : ℕ). is_among y gone) (sym same) ∙ g in find-left q gone ranks ∙ (rw there refl)
            | false ↦ λ g. let there : is_among q gone ≡ false = ap (λ (y : ℕ). is_among y gone) (sym same) ∙ g in rw (e, there) refl
          ] refl)
      | false ↦ λ e.
          (elim (is_among x.id gone) as (λ w. find (λ r. r.id == q) (cond (not w) (x ∷ rest) rest) ≡ cond (is_among q gone) None (find (λ r. r.id == q) ranks)) [
            | true ↦ find-left q gone ranks
            | false ↦ rw e (find-left q gone ranks)
          ])
    ] refl

pub rank-left : (q : ℕ) (gone : List ℕ) (ranks : List Rank) → rank_at (filter (λ r. not (is_among r.id gone)) ranks) q ≡ cond (is_among q gone) None (rank_at ranks q)
rank-left q gone ranks =
    ap (option_map (λ (r : Rank). r.rank)) (find-left q gone ranks)
    ∙ (elim (is_among q gone) as (λ v. option_map (λ (r : Rank). r.rank) (cond v None (find (λ r. r.id == q) ranks)) ≡ cond v None (rank_at ranks q)) [ true ↦ refl | false ↦ refl ])

pub rank-push : (q : ℕ) (ranks : List Rank) (r : Rank) → rank_at (ranks ++ r ∷ []) q ≡ option_or (rank_at ranks q) (cond (r.id == q) (Some r.rank) None)
rank-push q [] r = elim (r.id == q) as (λ v. option_map (λ (y : Rank). y.rank) (cond v (Some r) None) ≡ cond v (Some r.rank) None) [ true ↦ refl | false ↦ refl ]
rank-push q (x ∷ ranks) r =
    elim (x.id == q) as (λ v. option_map (λ (y : Rank). y.rank) (cond v (Some x) (find (λ y. y.id == q) (ranks ++ r ∷ []))) ≡ option_or (option_map (λ (y : Rank). y.rank) (cond v (Some x) (find (λ y. y.id == q) ranks))) (cond (r.id == q) (Some r.rank) None)) [
      | true ↦ refl
      | false ↦ rank-push q ranks r
    ]

-- one id leaves, and another one becomes the last, or the other way round
pub moved-then-others : (ids : List ℕ) (id other : ℕ) → (other == id) ≡ false → others id (moved_last ids other) ≡ moved_last (others id ids) other
moved-then-others ids id other h =
    let stays : others id (other ∷ []) ≡ other ∷ [] = rw h refl in
    filter-append (λ (x : ℕ). not (x == id)) (others other ids) (other ∷ []) ∙ ap (λ (xs : List ℕ). others id (others other ids) ++ xs) stays
    ∙ ap (λ (xs : List ℕ). xs ++ other ∷ []) (filter-swap (λ (x : ℕ). not (x == id)) (λ (x : ℕ). not (x == other)) ids)

others-twice : (ids : List ℕ) (id : ℕ) → others id (others id ids) ≡ others id ids
others-twice [] id = refl
others-twice (x ∷ ids) id =
    elim (x == id) as (λ v. (x == id) ≡ v → others id (cond (not v) (x ∷ others id ids) (others id ids)) ≡ cond (not v) (x ∷ others id ids) (others id ids)) [
      | true ↦ λ e. others-twice ids id
      | false ↦ λ e. rw e (ap (λ (xs : List ℕ). x ∷ xs) (others-twice ids id))
    ] refl

pub moved-same : (ids : List ℕ) (id : ℕ) → moved_last (others id ids) id ≡ moved_last ids id
moved-same ids id = ap (λ (xs : List ℕ). xs ++ id ∷ []) (others-twice ids id)
