-- The first of some names: there is one where there are names, and there is no other.
use Rattle.std.proofs.Common.{◌≡◌, ◌∙◌, ◌⊎◌, inl, inr, ℕ, zero, suc, List, [], ◌∷◌, length, refl, sym, ap, arith, Option, Some, None, Ordering, Less, Equal, Greater, nat_cmp, subst}
use Rattle.std.specs.Cmp.Lexicographic.{slice_cmp}
use Rattle.std.specs.FinMap.{slice_cmp-IsAntisymmetric, nat_cmp-IsAntisymmetric}
use Rattle.std.specs.List.{Contains}
use Rattle.std.proofs.lemmas.Cmp.{nat_list_cmp_total}
use Rattle.toml.specs.Data.{Members}
use Rattle.settings.specs.Keys.{absent, bad, settings_keys}
use Rattle.settings.specs.Refusals.{IsFirst, IsRefusedFor, IsTaken, IsTakenDocument, OneCause}
use Rattle.settings.proofs.First.{not_below_itself}

contains_cases : (x other : List ℕ) (xs : List (List ℕ)) → Contains (x ∷ xs) other → (x ≡ other) ⊎ Contains xs other
contains_cases x other xs (zero, within, is) = inl is
contains_cases x other xs (suc k, within, is) = inr (k, omega arith, is)

contains_more : (x other : List ℕ) (xs : List (List ℕ)) → Contains xs other → Contains (x ∷ xs) other
contains_more x other xs (k, within, is) = (suc k, omega arith, is)

flipped : (x y : List ℕ) → slice_cmp nat_cmp x y ≡ Greater → slice_cmp nat_cmp y x ≡ Less
flipped x y e = let back = nat_list_cmp_total.antisymm y x in rw e at back

-- the first of the names after x, and x
with_head : (o : Ordering) (x k : List ℕ) (xs : List (List ℕ)) → slice_cmp nat_cmp x k ≡ o → IsFirst xs k → (n : List ℕ) × IsFirst (x ∷ xs) n
with_head Less x k xs is first = (
  x,
  record {
    one = (0, omega arith, refl);
    least = λ other there below. elim (contains_cases x other xs there) [
      | inl same ↦ not_below_itself x (subst (λ z. slice_cmp nat_cmp z x ≡ Less) (sym same) below)
      | inr later ↦ first.least other later (nat_list_cmp_total.trans other x k below is)
    ];
  },
)
with_head Equal x k xs is first =
    let same = slice_cmp-IsAntisymmetric nat_cmp-IsAntisymmetric x k is in (
      k,
      record {
        one = contains_more x k xs first.one;
        least = λ other there below. elim (contains_cases x other xs there) [
          | inl head ↦ not_below_itself k (subst (λ z. slice_cmp nat_cmp z k ≡ Less) (sym head ∙ same) below)
          | inr later ↦ first.least other later below
        ];
      },
    )
with_head Greater x k xs is first = (
  k,
  record {
    one = contains_more x k xs first.one;
    least = λ other there below. elim (contains_cases x other xs there) [
      | inl head ↦ above_is_not_below (subst (λ z. slice_cmp nat_cmp z k ≡ Less) (sym head) below)
      | inr later ↦ first.least other later below
    ];
  },
)
  where
    above_is_not_below : slice_cmp nat_cmp x k ≡ Less → ⊥
    above_is_not_below e = cc

nothing_there : (other : List ℕ) → Contains {X = List ℕ} [] other → ⊥
nothing_there other (k, within, is) = omega arith

pub first_alone : (x : List ℕ) → IsFirst (x ∷ []) x
first_alone x = record {
  one = (0, omega arith, refl);
  least = λ other there below. elim (contains_cases x other [] there) [
    | inl head ↦ not_below_itself x (subst (λ z. slice_cmp nat_cmp z x ≡ Less) (sym head) below)
    | inr later ↦ nothing_there other later
  ];
}

pub first_of_two : (x y : List ℕ) → slice_cmp nat_cmp y x ≡ Greater → IsFirst (x ∷ y ∷ []) x
first_of_two x y above = record {
  one = (0, omega arith, refl);
  least = λ other there below. elim (contains_cases x other (y ∷ []) there) [
    | inl head ↦ not_below_itself x (subst (λ z. slice_cmp nat_cmp z x ≡ Less) (sym head) below)
    | inr later ↦ elim (contains_cases y other [] later) [
      | inl head ↦ not_below (subst (λ z. slice_cmp nat_cmp z x ≡ Less) (sym head) below)
      | inr later ↦ nothing_there other later
    ]
  ];
}
  where
    not_below : slice_cmp nat_cmp y x ≡ Less → ⊥
    not_below e = cc

first_in : (x : List ℕ) (xs : List (List ℕ)) → (n : List ℕ) × IsFirst (x ∷ xs) n
first_in x [] = (x, first_alone x)
first_in x (y ∷ ys) = let (k, first) = first_in y ys in with_head (slice_cmp nat_cmp x k) x k (y ∷ ys) refl first

-- there is no other
same_first : (names : List (List ℕ)) (one other : List ℕ) → IsFirst names one → IsFirst names other → one ≡ other
same_first names one other a b = go (slice_cmp nat_cmp one other) refl
  where
    go : (o : Ordering) → slice_cmp nat_cmp one other ≡ o → one ≡ other
    go Less e = absurd (b.least one a.one e)
    go Equal e = slice_cmp-IsAntisymmetric nat_cmp-IsAntisymmetric one other e
    go Greater e = absurd (a.least other b.one (flipped one other e))

none_is_first : (names : List (List ℕ)) (name : List ℕ) → names ≡ [] → IsFirst names name → ⊥
none_is_first names name none first =
    let (k, within, is) = first.one in
    omega (arith, ap length none)

either_absent : (entries : Members) (names : List (List ℕ)) → bad settings_keys entries ≡ [] → absent settings_keys entries ≡ names
    → IsTaken entries ⊎ ((name : List ℕ) × IsRefusedFor (Some entries) name)
either_absent entries [] good e = inl (record { good = good; whole = e })
either_absent entries (x ∷ xs) good e = let (k, first) = first_in x xs in inr (k, inr (good, subst (λ names. IsFirst names k) (sym e) first))

either_bad : (entries : Members) (names : List (List ℕ)) → bad settings_keys entries ≡ names → IsTaken entries ⊎ ((name : List ℕ) × IsRefusedFor (Some entries) name)
either_bad entries [] e = either_absent entries (absent settings_keys entries) e refl
either_bad entries (x ∷ xs) e = let (k, first) = first_in x xs in inr (k, inl (subst (λ names. IsFirst names k) (sym e) first))

either : (document : Option Members) → IsTakenDocument document ⊎ ((name : List ℕ) × IsRefusedFor document name)
either None = inr ([], refl)
either (Some entries) = either_bad entries (bad settings_keys entries) refl

not_both : (document : Option Members) (name : List ℕ) → IsTakenDocument document → ¬ IsRefusedFor document name
not_both None name taken refused = taken
not_both (Some entries) name taken (inl first) = none_is_first _ name taken.good first
not_both (Some entries) name taken (inr later) = none_is_first _ name taken.whole later.1

alone : (document : Option Members) (one other : List ℕ) → IsRefusedFor document one → IsRefusedFor document other → one ≡ other
alone None one other a b = a ∙ sym b
alone (Some entries) one other (inl a) (inl b) = same_first _ one other a b
alone (Some entries) one other (inl a) (inr b) = absurd (none_is_first _ one b.0 a)
alone (Some entries) one other (inr a) (inl b) = absurd (none_is_first _ other a.0 b)
alone (Some entries) one other (inr a) (inr b) = same_first _ one other a.1 b.1

pub one_cause : OneCause
one_cause = record { either = either; not_both = not_both; alone = alone }
