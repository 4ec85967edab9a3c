-- What is pending for a client, as a union and as a relation.
use Rattle.std.proofs.Common.{◌≡◌, ◌⊎◌, inl, inr, ℕ, suc, ◌+◌, Bool, true, false, not, ◌||◌, List, [], ◌∷◌, ◌++◌, take, arith, map, refl, ap, sym, ◌∙◌, if◌then◌else◌}
use Rattle.std.specs.Prelude.{take_while}
use Rattle.std.specs.List.{prefix_len}
use Rattle.idle_notes.specs.declared.sets.Subsystems.{Subsystems}
use Rattle.idle_notes.specs.declared.subsystem.Subsystem.{Subsystem}
use Rattle.idle_notes.specs.declared.subsystem.Subsystem.TheVariants.{Database, Update, StoredPlaylist, Playlist, Player, Mixer, Output, Options, Sticker, Subscription, Message, Partition}
use Rattle.idle_notes.specs.Sets.{none, union, has}
use Rattle.partition.specs.Legal.{ReadsPending}
use Rattle.partition.proofs.Parts.{raised_differ}
use Rattle.partition.specs.World.{WorldTransition, raised_at, begins_anew, union_all, pending_for, NeverAnew, IsPending}

pub has_union : (s t : Subsystems) (x : Subsystem) → has (union s t) x ≡ (has s x || has t x)
has_union s t Database = refl
has_union s t Update = refl
has_union s t StoredPlaylist = refl
has_union s t Playlist = refl
has_union s t Player = refl
has_union s t Mixer = refl
has_union s t Output = refl
has_union s t Options = refl
has_union s t Sticker = refl
has_union s t Subscription = refl
has_union s t Message = refl
has_union s t Partition = refl

pub has_none : (x : Subsystem) → has none x ≡ false
has_none Database = refl
has_none Update = refl
has_none StoredPlaylist = refl
has_none Playlist = refl
has_none Player = refl
has_none Mixer = refl
has_none Output = refl
has_none Options = refl
has_none Sticker = refl
has_none Subscription = refl
has_none Message = refl
has_none Partition = refl

first_more : (n : ℕ) → 1 + n ≡ suc n
first_more n = omega arith

passed : (p : WorldTransition → Bool) (m : WorldTransition) (ms : List WorldTransition) → p m ≡ true → take_while p (m ∷ ms) ≡ m ∷ take_while p ms
passed p m ms e = rw e (ap (λ n. take n (m ∷ ms)) (first_more (prefix_len p ms)))

stopped : (p : WorldTransition → Bool) (m : WorldTransition) (ms : List WorldTransition) → p m ≡ false → take_while p (m ∷ ms) ≡ []
stopped p m ms e = rw e refl

-- where the set begins anew nothing is pending; else what was raised joins what was
pub pending_more : (number : ℕ) (m : WorldTransition) (ms : List WorldTransition) (b : Bool) → begins_anew number m ≡ b
    → pending_for number (m ∷ ms) ≡ (if b then none else union (pending_for number ms) (raised_at number m))
pending_more number m ms true e =
    ap (λ (l : List WorldTransition). union_all (map (raised_at number) l)) (stopped (λ x. not (begins_anew number x)) m ms (ap not e))
pending_more number m ms false e =
    ap (λ (l : List WorldTransition). union_all (map (raised_at number) l)) (passed (λ x. not (begins_anew number x)) m ms (ap not e))

pub either : (a b : Bool) → (a || b) ≡ true → (b ≡ true) ⊎ (a ≡ true)
either true b e = inr refl
either false b e = inl e

pub or_right : (a b : Bool) → b ≡ true → (a || b) ≡ true
or_right true b e = refl
or_right false b e = e

pub or_left : (a b : Bool) → a ≡ true → (a || b) ≡ true
or_left true b e = refl
or_left false b e = cc

module _ (number : ℕ) (x : Subsystem) where
  joined : (m : WorldTransition) (ms : List WorldTransition) → begins_anew number m ≡ false
      → has (pending_for number (m ∷ ms)) x ≡ (has (pending_for number ms) x || has (raised_at number m) x)
  joined m ms e = ap (λ s. has s x) (pending_more number m ms false e) ∙ has_union (pending_for number ms) (raised_at number m) x

  pub longer : (m : WorldTransition) (ms : List WorldTransition) → begins_anew number m ≡ false → IsPending number x ms → IsPending number x (m ∷ ms)
  longer m ms e p = record {
    later = m ∷ p.later;
    world_transition = p.world_transition;
    earlier = p.earlier;
    order = ap (λ l. m ∷ l) p.order;
    raised = p.raised;
    since = (e, p.since);
  }

  there : (ms : List WorldTransition) → has (pending_for number ms) x ≡ true → IsPending number x ms
  there [] h = (let clash : false ≡ true = sym (has_none x) ∙ h in cc)
  there (m ∷ ms) h =
      let cases : (b : Bool) → begins_anew number m ≡ b → IsPending number x (m ∷ ms) =
      λ b. elim b as (λ b. begins_anew number m ≡ b → IsPending number x (m ∷ ms)) [
        | true ↦ λ e. (let clash : false ≡ true = sym (has_none x) ∙ sym (ap (λ s. has s x) (pending_more number m ms true e)) ∙ h in cc)
        | false ↦ λ e. elim (either _ _ (sym (joined m ms e) ∙ h)) [
          | inl r ↦ record { later = []; world_transition = m; earlier = ms; order = refl; raised = (raised_differ number m x).0 r; since = (e, tt) }
          | inr r ↦ longer m ms e (there ms r)
        ]
      ] in
      cases (begins_anew number m) refl

  back : (later : List WorldTransition) (m : WorldTransition) (earlier : List WorldTransition) → has (raised_at number m) x ≡ true → NeverAnew number (later ++ m ∷ [])
      → has (pending_for number (later ++ m ∷ earlier)) x ≡ true
  back [] m earlier r never = joined m earlier never.0 ∙ or_right _ _ r
  back (l ∷ ls) m earlier r never = joined l (ls ++ m ∷ earlier) never.0 ∙ or_left _ _ (back ls m earlier r never.1)

pub reads_pending : ReadsPending
reads_pending number x ms = (
  there number x ms,
  λ p. ap (λ l. has (pending_for number l) x) p.order ∙ back number x p.later p.world_transition p.earlier ((raised_differ number p.world_transition x).1 p.raised) p.since,
)
