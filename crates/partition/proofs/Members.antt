-- What is in a list, and which subsystems are in a set.
use Rattle.std.proofs.Common.{◌≡◌, ◌↔◌, ◌⊎◌, inl, inr, ℕ, zero, suc, Bool, true, false, ◌&&◌, ◌||◌, List, [], ◌∷◌, ◌++◌, map, refl, ap, sym, ◌∙◌, if◌then◌else◌}
use Rattle.std.specs.Prelude.{filter, insert}
use Rattle.std.specs.List.{flat_map, list_any}
use Rattle.idle_notes.specs.declared.sets.Subsystems.{Subsystems}
use Rattle.idle_notes.specs.declared.subsystem.Subsystem.{Subsystem}
use Rattle.idle_notes.specs.declared.subsystem.Subsystem.TheVariants.{Database, Update, StoredPlaylist, Playlist, Player, Mixer, Output, Options, Sticker, Subscription, Message, Partition}
use Rattle.idle_notes.specs.Sets.{meet, has, is_nonempty}
use Rattle.partition.specs.Notices.{IsIn}

module _ {A : Type 0} where
  pub in_left : (x : A) (xs ys : List A) → IsIn x xs → IsIn x (xs ++ ys)
  in_left x [] ys e = absurd e
  in_left x (z ∷ zs) ys (inl e) = inl e
  in_left x (z ∷ zs) ys (inr e) = inr (in_left x zs ys e)

  pub in_right : (x : A) (xs ys : List A) → IsIn x ys → IsIn x (xs ++ ys)
  in_right x [] ys e = e
  in_right x (z ∷ zs) ys e = inr (in_right x zs ys e)

  pub in_either : (x : A) (xs ys : List A) → IsIn x (xs ++ ys) → IsIn x xs ⊎ IsIn x ys
  in_either x [] ys e = inr e
  in_either x (z ∷ zs) ys (inl e) = inl (inl e)
  in_either x (z ∷ zs) ys (inr e) = elim (in_either x zs ys e) [ inl l ↦ inl (inr l) | inr r ↦ inr r ]

  pub in_filter : (p : A → Bool) (x : A) (xs : List A) → IsIn x xs → p x ≡ true → IsIn x (filter p xs)
  in_filter p x [] e t = absurd e
  in_filter p x (z ∷ zs) (inl e) t = (let is : p z ≡ true = ap p e ∙ t in rw is (inl e))
  in_filter p x (z ∷ zs) (inr e) t =
      elim (p z) as (λ b. IsIn x (if b then z ∷ filter p zs else filter p zs)) [ true ↦ inr (in_filter p x zs e t) | false ↦ in_filter p x zs e t ]

  pub of_filter : (p : A → Bool) (x : A) (xs : List A) → IsIn x (filter p xs) → IsIn x xs × (p x ≡ true)
  of_filter p x [] e = absurd e
  of_filter p x (z ∷ zs) e =
      let cases : (b : Bool) → p z ≡ b → IsIn x (if b then z ∷ filter p zs else filter p zs) → IsIn x (z ∷ zs) × (p x ≡ true) =
      λ b. elim b as (λ b. p z ≡ b → IsIn x (if b then z ∷ filter p zs else filter p zs) → IsIn x (z ∷ zs) × (p x ≡ true)) [
        | true ↦ λ t h. elim h [ inl is ↦ (inl is, ap p (sym is) ∙ t) | inr more ↦ (let rest = of_filter p x zs more in (inr rest.0, rest.1)) ]
        | false ↦ λ t h. (let rest = of_filter p x zs h in (inr rest.0, rest.1))
      ] in
      cases (p z) refl e

  pub in_insert : (x : A) (xs : List A) (i : ℕ) (y : A) → IsIn x xs → IsIn x (insert xs i y)
  in_insert x [] i y e = absurd e
  in_insert x (z ∷ zs) zero y e = inr e
  in_insert x (z ∷ zs) (suc i) y (inl e) = inl e
  in_insert x (z ∷ zs) (suc i) y (inr e) = inr (in_insert x zs i y e)

  pub any_in : (p : A → Bool) (x : A) (xs : List A) → IsIn x xs → p x ≡ true → list_any p xs ≡ true
  any_in p x [] e t = absurd e
  any_in p x (z ∷ zs) (inl e) t = ap (λ b. b || list_any p zs) (ap p e ∙ t)
  any_in p x (z ∷ zs) (inr e) t = elim (p z) as (λ b. (b || list_any p zs) ≡ true) [ true ↦ refl | false ↦ any_in p x zs e t ]

module _ {A B : Type 0} where
  pub in_map : (f : A → B) (x : A) (xs : List A) → IsIn x xs → IsIn (f x) (map f xs)
  in_map f x [] e = absurd e
  in_map f x (z ∷ zs) (inl e) = inl (ap f e)
  in_map f x (z ∷ zs) (inr e) = inr (in_map f x zs e)

  pub of_map : (f : A → B) (y : B) (xs : List A) → IsIn y (map f xs) → (x : A) × IsIn x xs × (f x ≡ y)
  of_map f y [] e = absurd e
  of_map f y (z ∷ zs) (inl e) = (z, inl refl, e)
  of_map f y (z ∷ zs) (inr e) = (let rest = of_map f y zs e in (rest.0, inr rest.1, rest.2))

  pub in_flat_map : (f : A → List B) (x : A) (y : B) (xs : List A) → IsIn x xs → IsIn y (f x) → IsIn y (flat_map f xs)
  in_flat_map f x y [] e h = absurd e
  in_flat_map f x y (z ∷ zs) (inl e) h = (let back : f x ≡ f z = ap f (sym e) in in_left y (f z) (flat_map f zs) (rw back at h))
  in_flat_map f x y (z ∷ zs) (inr e) h = in_right y (f z) (flat_map f zs) (in_flat_map f x y zs e h)

  pub of_flat_map : (f : A → List B) (y : B) (xs : List A) → IsIn y (flat_map f xs) → (x : A) × IsIn x xs × IsIn y (f x)
  of_flat_map f y [] e = absurd e
  of_flat_map f y (z ∷ zs) e =
      elim (in_either y (f z) (flat_map f zs) e) [ inl h ↦ (z, inl refl, h) | inr h ↦ (let rest = of_flat_map f y zs h in (rest.0, inr rest.1, rest.2)) ]

same_bits : (a b : Bool) → (a ≡ true) ↔ (b ≡ true) → a ≡ b
same_bits true true e = refl
same_bits true false e = sym (e.0 refl)
same_bits false true e = e.1 refl
same_bits false false e = refl

-- sets that have the same subsystems are one
pub same_sets : (s t : Subsystems) → ((x : Subsystem) → (has s x ≡ true) ↔ (has t x ≡ true)) → s ≡ t
same_sets s t e =
    let bit : (x : Subsystem) → has s x ≡ has t x = λ x. same_bits (has s x) (has t x) (e x) in
    λ i. record {
      database = bit Database i;
      update = bit Update i;
      stored_playlist = bit StoredPlaylist i;
      playlist = bit Playlist i;
      player = bit Player i;
      mixer = bit Mixer i;
      output = bit Output i;
      options = bit Options i;
      sticker = bit Sticker i;
      subscription = bit Subscription i;
      message = bit Message i;
      partition = bit Partition i;
    }

pub has_meet : (s t : Subsystems) (x : Subsystem) → has (meet s t) x ≡ (has s x && has t x)
has_meet s t Database = refl
has_meet s t Update = refl
has_meet s t StoredPlaylist = refl
has_meet s t Playlist = refl
has_meet s t Player = refl
has_meet s t Mixer = refl
has_meet s t Output = refl
has_meet s t Options = refl
has_meet s t Sticker = refl
has_meet s t Subscription = refl
has_meet s t Message = refl
has_meet s t Partition = refl

module _ (X : Type 0) where
  pick : (a b : Bool) → (a ≡ true → X) → (b ≡ true → X) → (a || b) ≡ true → X
  pick true b f g e = f refl
  pick false b f g e = g e

-- a set that is not empty has a subsystem
pub has_some : (s : Subsystems) → is_nonempty s ≡ true → (x : Subsystem) × (has s x ≡ true)
has_some s =
    let X : Type 0 = (x : Subsystem) × (has s x ≡ true) in
    pick X _ _ (pick X _ _ (pick X _ _ (pick X _ _ (pick X _ _ (pick X _ _ (pick X _ _ (pick X _ _ (pick X _ _ (pick X _ _ (pick X _ _ (λ e. (Database, e)) (λ e. (Update, e))) (λ e. (StoredPlaylist, e))) (λ e. (Playlist, e))) (λ e. (Player, e))) (λ e. (Mixer, e))) (λ e. (Output, e))) (λ e. (Options, e))) (λ e. (Sticker, e))) (λ e. (Subscription, e))) (λ e. (Message, e))) (λ e. (Partition, e))

r : (a b : Bool) → b ≡ true → (a || b) ≡ true
r true b e = refl
r false b e = e

l : (a b : Bool) → a ≡ true → (a || b) ≡ true
l true b e = refl
l false b e = cc

pub is_some : (s : Subsystems) (x : Subsystem) → has s x ≡ true → is_nonempty s ≡ true
is_some s Database e = l _ _ (l _ _ (l _ _ (l _ _ (l _ _ (l _ _ (l _ _ (l _ _ (l _ _ (l _ _ (l _ _ e))))))))))
is_some s Update e = l _ _ (l _ _ (l _ _ (l _ _ (l _ _ (l _ _ (l _ _ (l _ _ (l _ _ (l _ _ (r _ _ e))))))))))
is_some s StoredPlaylist e = l _ _ (l _ _ (l _ _ (l _ _ (l _ _ (l _ _ (l _ _ (l _ _ (l _ _ (r _ _ e)))))))))
is_some s Playlist e = l _ _ (l _ _ (l _ _ (l _ _ (l _ _ (l _ _ (l _ _ (l _ _ (r _ _ e))))))))
is_some s Player e = l _ _ (l _ _ (l _ _ (l _ _ (l _ _ (l _ _ (l _ _ (r _ _ e)))))))
is_some s Mixer e = l _ _ (l _ _ (l _ _ (l _ _ (l _ _ (l _ _ (r _ _ e))))))
is_some s Output e = l _ _ (l _ _ (l _ _ (l _ _ (l _ _ (r _ _ e)))))
is_some s Options e = l _ _ (l _ _ (l _ _ (l _ _ (r _ _ e))))
is_some s Sticker e = l _ _ (l _ _ (l _ _ (r _ _ e)))
is_some s Subscription e = l _ _ (l _ _ (r _ _ e))
is_some s Message e = l _ _ (r _ _ e)
is_some s Partition e = r _ _ e
