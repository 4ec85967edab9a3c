-- The ranks that were drawn, of which those are left whose ids are known.
use Rattle.std.proofs.Common.{◌≡◌, ℕ, ◌<◌, ◌≤◌, ◌+◌, ◌*◌, ◌⊎◌, inl, inr, length, Bool, true, false, not, ◌==◌, List, [], ◌∷◌, ◌++◌, filter, Option, Some, None, is_some, refl, ap, sym, ◌∙◌, arith, cond}
use Rattle.std.specs.Prelude.{All}
use Rattle.std.specs.List.{list_any}
use Rattle.std.specs.Option.{option_or}
use Rattle.std.proofs.lemmas.Bool.{eqb-true, eqb-false, eq-eqb, ne_eqb, false_from_ne_true, false≢true, or_from, or_parts}
use Rattle.std.proofs.lemmas.List.Elements.{All-cons, All-head, All-nil, All-tail, filter-append, filter_agree}
use Rattle.std.proofs.lemmas.List.Folds.{list_any-append}
use Rattle.rand_pcg.specs.Lcg.{Lcg}
use Rattle.rand_pcg.specs.Pcg.{pcg32}
use Rattle.play_order.specs.declared.modes.Rank.{Rank}
use Rattle.play_order.specs.Draws.{is_among, ranks_drawn}
use Rattle.play_order.proofs.Ids.{rank_at}

-- the ranks of the known ids
abbrev pub left_of : (ℕ → Option ℕ) → List Rank → List Rank
left_of known drawn = filter (λ r. is_some (known r.id)) drawn

-- an id drew one of the ranks
abbrev pub has_drawn : ℕ → List Rank → Bool
has_drawn id drawn = list_any (λ r. r.id == id) drawn

-- where an id is not known, it drew none of the ranks
abbrev pub KeepsNone : (ℕ → Option ℕ) → List Rank → ℕ → Type 0
KeepsNone known drawn id = known id ≡ None → has_drawn id drawn ≡ false

-- an id is known by a rank, if it was not known, and each other one is as before
abbrev pub Notes : (ℕ → Option ℕ) → (ℕ → Option ℕ) → ℕ → ℕ → Type 0
Notes known after id rank = (q : ℕ) → after q ≡ option_or (known q) (cond (id == q) (Some rank) None)

-- what is left once is left again
pub left-twice : (known : ℕ → Option ℕ) (drawn : List Rank) → left_of known (left_of known drawn) ≡ left_of known drawn
left-twice known [] = refl
left-twice known (x ∷ drawn) =
    elim (is_some (known x.id)) as (λ v. is_some (known x.id) ≡ v → left_of known (cond v (x ∷ left_of known drawn) (left_of known drawn)) ≡ cond v (x ∷ left_of known drawn) (left_of known drawn)) [
      | true ↦ λ e. rw e (ap (λ (r : List Rank). x ∷ r) (left-twice known drawn))
      | false ↦ λ e. left-twice known drawn
    ] refl

-- an id that is not known drew none of what is left
pub left-known : (known : ℕ → Option ℕ) (drawn : List Rank) (q : ℕ) → KeepsNone known (left_of known drawn) q
left-known known [] q none = refl
left-known known (x ∷ drawn) q none =
    elim (is_some (known x.id)) as (λ v. is_some (known x.id) ≡ v → has_drawn q (cond v (x ∷ left_of known drawn) (left_of known drawn)) ≡ false) [
      | true ↦ λ e. or_from (x.id == q) (has_drawn q (left_of known drawn))
          (false_from_ne_true (x.id == q) (λ same. false≢true (sym (ap is_some none) ∙ sym (ap (λ (id : ℕ). is_some (known id)) (eqb-true x.id q same)) ∙ e)))
          (left-known known drawn q none)
      | false ↦ λ e. left-known known drawn q none
    ] refl

-- an id above each that drew has drawn none
pub none-above : (drawn : List Rank) (greatest q : ℕ) → All (λ r. r.id ≤ greatest) drawn → greatest < q → has_drawn q drawn ≡ false
none-above [] greatest q h above = refl
none-above (x ∷ drawn) greatest q h above =
    let first : x.id ≤ greatest = All-head (λ (r : Rank). r.id ≤ greatest) x drawn h in
    or_from (x.id == q) (has_drawn q drawn) (ne_eqb x.id q (λ e. omega (arith, e, first, above))) (none-above drawn greatest q (All-tail (λ (r : Rank). r.id ≤ greatest) x drawn h) above)

pub drawn-within : (g : Lcg) (ids : List ℕ) (greatest : ℕ) → All (λ id. id ≤ greatest) ids → All (λ r. r.id ≤ greatest) (ranks_drawn g ids)
drawn-within g [] greatest h = All-nil (λ (r : Rank). r.id ≤ greatest)
drawn-within g (id ∷ ids) greatest h =
    All-cons (λ (r : Rank). r.id ≤ greatest) (record { id = id; rank = (pcg32 g).0 }) (ranks_drawn (pcg32 g).1 ids) (All-head (λ (n : ℕ). n ≤ greatest) id ids h)
    (drawn-within (pcg32 g).1 ids greatest (All-tail (λ (n : ℕ). n ≤ greatest) id ids h))

noted : (o : Option ℕ) (b : Bool) (rank : ℕ) → (o ≡ None → b ≡ false) → is_some (option_or o (cond b (Some rank) None)) ≡ is_some o
noted None b rank h = let no : b ≡ false = h refl in rw no refl
noted (Some v) b rank h = refl

noted-none : (o : Option ℕ) (b : Bool) (rank : ℕ) → option_or o (cond b (Some rank) None) ≡ None → (o ≡ None) × (b ≡ false)
noted-none None true rank h = absurd (false≢true (sym (ap is_some h)))
noted-none None false rank h = (refl, refl)
noted-none (Some v) b rank h = absurd (false≢true (sym (ap is_some h)))

-- a note leaves the ranks of others as they are
pub left-noted : (known after : ℕ → Option ℕ) (id rank : ℕ) (drawn : List Rank) → Notes known after id rank → KeepsNone known drawn id → left_of after drawn ≡ left_of known drawn
left-noted known after id rank [] h lacks = refl
left-noted known after id rank (x ∷ drawn) h lacks =
    let apart : known x.id ≡ None → (id == x.id) ≡ false = λ none. false_from_ne_true (id == x.id) (λ t.
    let same : id ≡ x.id = eqb-true id x.id t in
    eqb-false x.id id (or_parts (x.id == id) (has_drawn id drawn) (lacks (ap known same ∙ none))).0 (sym same)) in
    let alike : is_some (after x.id) ≡ is_some (known x.id) = ap is_some (h x.id) ∙ noted (known x.id) (id == x.id) rank apart in
    rw alike (ap (λ (r : List Rank). cond (is_some (known x.id)) (x ∷ r) r) (left-noted known after id rank drawn h (λ none. (or_parts (x.id == id) (has_drawn id drawn) (lacks none)).1)))

noted-some : (o : Option ℕ) (id rank : ℕ) → is_some (option_or o (cond (id == id) (Some rank) None)) ≡ true
noted-some None id rank = let same : (id == id) ≡ true = eq-eqb id id refl in rw same refl
noted-some (Some v) id rank = refl

-- one more rank, of an id that is then known
pub left-push : (known after : ℕ → Option ℕ) (id rank : ℕ) (drawn : List Rank) → Notes known after id rank → KeepsNone known drawn id
    → left_of after (drawn ++ record { id = id; rank = rank } ∷ []) ≡ left_of known drawn ++ record { id = id; rank = rank } ∷ []
left-push known after id rank drawn h lacks =
    let there : is_some (after id) ≡ true = ap is_some (h id) ∙ noted-some (known id) id rank in
    let one : List Rank = record { id = id; rank = rank } ∷ [] in
    let last : left_of after one ≡ one = rw there refl in
    filter-append (λ (r : Rank). is_some (after r.id)) drawn one ∙ ap (λ (r : List Rank). left_of after drawn ++ r) last
    ∙ ap (λ (r : List Rank). r ++ one) (left-noted known after id rank drawn h lacks)

pub none-push : (known after : ℕ → Option ℕ) (id rank : ℕ) (drawn : List Rank) (q : ℕ) → Notes known after id rank → KeepsNone known drawn q → KeepsNone after (drawn ++ record { id = id; rank = rank } ∷ []) q
none-push known after id rank drawn q h lacks none =
    let parts = noted-none (known q) (id == q) rank (sym (h q) ∙ none) in
    list_any-append (λ (r : Rank). r.id == q) drawn (record { id = id; rank = rank } ∷ [])
    ∙ or_from (has_drawn q drawn) (has_drawn q (record { id = id; rank = rank } ∷ [])) (lacks parts.0) (or_from (id == q) false parts.1 refl)

-- ids that are known no more leave the ranks
pub left-forgotten : (known after : ℕ → Option ℕ) (gone : List ℕ) (drawn : List Rank) → ((id : ℕ) → after id ≡ cond (is_among id gone) None (known id))
    → left_of after drawn ≡ filter (λ r. not (is_among r.id gone)) (left_of known drawn)
left-forgotten known after gone [] h = refl
left-forgotten known after gone (x ∷ drawn) h =
    let rest : List Rank = left_of known drawn in
    let more = left-forgotten known after gone drawn h in
    elim (is_some (known x.id)) as (λ v. is_some (known x.id) ≡ v → left_of after (x ∷ drawn) ≡ filter (λ r. not (is_among r.id gone)) (cond v (x ∷ rest) rest)) [
      | true ↦ λ e. elim (is_among x.id gone) as (λ w. is_among x.id gone ≡ w → left_of after (x ∷ drawn) ≡ cond (not w) (x ∷ filter (λ r. not (is_among r.id gone)) rest) (filter (λ r. not (is_among r.id gone)) rest)) [
        | true ↦ λ g. let out : is_some (after x.id) ≡ false = ap is_some (h x.id) ∙ ap (λ (b : Bool). is_some (cond b None (known x.id))) g in rw out more
        | false ↦ λ g. let here : is_some (after x.id) ≡ true = ap is_some (h x.id) ∙ ap (λ (b : Bool). is_some (cond b None (known x.id))) g ∙ e in rw here (ap (λ (r : List Rank). x ∷ r) more)
      ] refl
      | false ↦ λ e.
          let out : is_some (after x.id) ≡ false = ap is_some (h x.id) ∙ (elim (is_among x.id gone) as (λ w. is_some (cond w None (known x.id)) ≡ false) [ true ↦ refl | false ↦ e ]) in
          rw out more
    ] refl

-- maps that know the same leave the same
pub left-alike : (known after : ℕ → Option ℕ) (drawn : List Rank) → ((q : ℕ) → after q ≡ known q) → left_of after drawn ≡ left_of known drawn
left-alike known after drawn same = filter_agree (λ (r : Rank). is_some (after r.id)) (λ (r : Rank). is_some (known r.id)) (λ (r : Rank). ap is_some (same r.id)) drawn

-- a map finds the ranks that are left, where it knows the same and the same are left
pub finds-left : (known after : ℕ → Option ℕ) (old new : List Rank) → ((q : ℕ) → after q ≡ known q) → left_of after new ≡ left_of known old → ((q : ℕ) → known q ≡ rank_at (left_of known old) q)
    → (q : ℕ) → after q ≡ rank_at (left_of after new) q
finds-left known after old new same left finds q = same q ∙ finds q ∙ ap (λ (r : List Rank). rank_at r q) (sym left)

-- a list of ranks is tidy by another map too, where that knows the same and has as many entries
pub tidy-alike : (known after : ℕ → Option ℕ) (old new : List Rank) (count same_count : ℕ) → ((q : ℕ) → after q ≡ known q) → same_count ≡ count → new ≡ old
    → (left_of known old ≡ old) ⊎ (length old ≤ 2 * count + 1) → (left_of after new ≡ new) ⊎ (length new ≤ 2 * same_count + 1)
tidy-alike known after old new count same_count same counted items (inl none_gone) = inl (left-alike known after new same ∙ ap (left_of known) items ∙ none_gone ∙ sym items)
tidy-alike known after old new count same_count same counted items (inr few) = let long : length new ≡ length old = ap length items in inr (omega arith)
