-- Tests that tell whether two readings of a player are one.
use Rattle.std.proofs.Common.{◌≡◌, ℕ, ◌+◌, ◌==◌, Bool, true, false, nat_eq, List, Option, Some, None, refl, ap, arith}
use Rattle.std.specs.Bool.{beq}
use Rattle.std.specs.Str.{bytes_eq}
use Rattle.std.proofs.lemmas.Bool.Decides.{nat_tests}
use Rattle.std.proofs.lemmas.Bool.{and_parts, and_from, eq-eqb, eqb-true}
use Rattle.std.proofs.lemmas.Slice.Eq.{bytes_eq-Decides}
use Rattle.song_queue.proofs.Same.{pointwise-refl, pointwise-true}
use Rattle.play_order.specs.declared.modes.Single.{Single}
use Rattle.play_order.specs.declared.modes.Single.TheVariants as single_mode
use Rattle.play_order.specs.declared.modes.Consume.{Consume}
use Rattle.play_order.specs.declared.modes.Consume.TheVariants as consume_mode
use Rattle.player_core.specs.declared.state.Playback.{Playback}
use Rattle.player_core.specs.declared.state.Playback.TheVariants.{Stop, Play, Pause}
use Rattle.connected_clients.specs.declared.fingerprint.Options.{Options}
use Rattle.connected_clients.specs.declared.fingerprint.OutputFlags.{OutputFlags}
use Rattle.connected_clients.specs.Clients.{Playing, consume_number, id_number, playback_number, same_error, same_flags, same_names, same_options, same_outputs, same_pair, same_pairs, same_playing, single_number}

beq-one : (a b : Bool) → beq a b ≡ true → a ≡ b
beq-one true true e = refl
beq-one true false e = cc
beq-one false true e = cc
beq-one false false e = refl

beq-own : (a : Bool) → beq a a ≡ true
beq-own true = refl
beq-own false = refl

number-own : (n : ℕ) → nat_eq n n ≡ true
number-own n = eq-eqb n n refl

playback-one : (a b : Playback) → nat_eq (playback_number a) (playback_number b) ≡ true → a ≡ b
playback-one Stop Stop e = refl
playback-one Stop Play e = cc
playback-one Stop Pause e = cc
playback-one Play Stop e = cc
playback-one Play Play e = refl
playback-one Play Pause e = cc
playback-one Pause Stop e = cc
playback-one Pause Play e = cc
playback-one Pause Pause e = refl

single-one : (a b : Single) → nat_eq (single_number a) (single_number b) ≡ true → a ≡ b
single-one single_mode.Off single_mode.Off e = refl
single-one single_mode.Off single_mode.On e = cc
single-one single_mode.Off single_mode.Oneshot e = cc
single-one single_mode.On single_mode.Off e = cc
single-one single_mode.On single_mode.On e = refl
single-one single_mode.On single_mode.Oneshot e = cc
single-one single_mode.Oneshot single_mode.Off e = cc
single-one single_mode.Oneshot single_mode.On e = cc
single-one single_mode.Oneshot single_mode.Oneshot e = refl

consume-one : (a b : Consume) → nat_eq (consume_number a) (consume_number b) ≡ true → a ≡ b
consume-one consume_mode.Off consume_mode.Off e = refl
consume-one consume_mode.Off consume_mode.On e = cc
consume-one consume_mode.Off consume_mode.Oneshot e = cc
consume-one consume_mode.On consume_mode.Off e = cc
consume-one consume_mode.On consume_mode.On e = refl
consume-one consume_mode.On consume_mode.Oneshot e = cc
consume-one consume_mode.Oneshot consume_mode.Off e = cc
consume-one consume_mode.Oneshot consume_mode.On e = cc
consume-one consume_mode.Oneshot consume_mode.Oneshot e = refl

id-one : (a b : Option ℕ) → nat_eq (id_number a) (id_number b) ≡ true → a ≡ b
id-one None None e = refl
id-one None (Some b) e = let clash : 0 ≡ b + 1 = eqb-true 0 (b + 1) e in absurd (omega (arith, clash))
id-one (Some a) None e = let clash : a + 1 ≡ 0 = eqb-true (a + 1) 0 e in absurd (omega (arith, clash))
id-one (Some a) (Some b) e = let next : a + 1 ≡ b + 1 = eqb-true (a + 1) (b + 1) e in let same : a ≡ b = omega (arith, next) in ap Some same

error-one : (a b : Option (List ℕ)) → same_error a b ≡ true → a ≡ b
error-one None None e = refl
error-one None (Some b) e = cc
error-one (Some a) None e = cc
error-one (Some a) (Some b) e = ap Some ((bytes_eq-Decides a b).0 e)

error-own : (a : Option (List ℕ)) → same_error a a ≡ true
error-own None = refl
error-own (Some a) = (bytes_eq-Decides a a).1 refl

pub same_playing-true : (a b : Playing) → same_playing a b ≡ true → a ≡ b
same_playing-true a b e =
    let p = and_parts _ _ e in
    let q = and_parts _ _ p.1 in
    let r = and_parts _ _ q.1 in
    let s = and_parts _ _ r.1 in
    λ i. record {
      playback = playback-one a.playback b.playback p.0 i;
      current = id-one a.current b.current q.0 i;
      starts = eqb-true a.starts b.starts r.0 i;
      cuts = eqb-true a.cuts b.cuts s.0 i;
      error = error-one a.error b.error s.1 i;
    }

pub same_playing-refl : (a : Playing) → same_playing a a ≡ true
same_playing-refl a =
    and_from _ _ (number-own (playback_number a.playback))
    (and_from _ _ (number-own (id_number a.current)) (and_from _ _ (number-own a.starts) (and_from _ _ (number-own a.cuts) (error-own a.error))))

pub same_options-true : (a b : Options) → same_options a b ≡ true → a ≡ b
same_options-true a b e =
    let p = and_parts _ _ e in
    let q = and_parts _ _ p.1 in
    let r = and_parts _ _ q.1 in
    let s = and_parts _ _ r.1 in
    λ i. record {
      modes = record {
        repeat = beq-one a.modes.repeat b.modes.repeat p.0 i;
        random = beq-one a.modes.random b.modes.random q.0 i;
        single = single-one a.modes.single b.modes.single r.0 i;
        consume = consume-one a.modes.consume b.modes.consume s.0 i;
      };
      crossfade = eqb-true a.crossfade b.crossfade s.1 i;
    }

pub same_options-refl : (a : Options) → same_options a a ≡ true
same_options-refl a =
    and_from _ _ (beq-own a.modes.repeat)
    (and_from _ _ (beq-own a.modes.random)
    (and_from _ _ (number-own (single_number a.modes.single)) (and_from _ _ (number-own (consume_number a.modes.consume)) (number-own a.crossfade))))

pub same_names-true : (a b : List (List ℕ)) → same_names a b ≡ true → a ≡ b
unfolding same_names
same_names-true a b e = pointwise-true bytes_eq (λ x y t. (bytes_eq-Decides x y).0 t) a b e

pub same_names-refl : (a : List (List ℕ)) → same_names a a ≡ true
unfolding same_names
same_names-refl a = pointwise-refl bytes_eq (λ x. (bytes_eq-Decides x x).1 refl) a

same_flags-true : (a b : List Bool) → same_flags a b ≡ true → a ≡ b
unfolding same_flags
same_flags-true a b e = pointwise-true beq beq-one a b e

same_flags-refl : (a : List Bool) → same_flags a a ≡ true
unfolding same_flags
same_flags-refl a = pointwise-refl beq beq-own a

pub same_outputs-true : (a b : OutputFlags) → same_outputs a b ≡ true → a ≡ b
same_outputs-true a b e =
    let p = and_parts _ _ e in
    λ i. record { here = same_flags-true a.here b.here p.0 i; enabled = same_flags-true a.enabled b.enabled p.1 i }

pub same_outputs-refl : (a : OutputFlags) → same_outputs a a ≡ true
same_outputs-refl a = and_from _ _ (same_flags-refl a.here) (same_flags-refl a.enabled)

same_pair-true : (p q : ℕ × List ℕ) → same_pair p q ≡ true → p ≡ q
same_pair-true p q e =
    let both = and_parts (nat_eq p.0 q.0) (bytes_eq p.1 q.1) e in
    λ i. (eqb-true p.0 q.0 both.0 i, (bytes_eq-Decides p.1 q.1).0 both.1 i)

same_pair-refl : (p : ℕ × List ℕ) → same_pair p p ≡ true
same_pair-refl p = and_from (nat_eq p.0 p.0) (bytes_eq p.1 p.1) (eq-eqb p.0 p.0 refl) ((bytes_eq-Decides p.1 p.1).1 refl)

pub same_pairs-true : (a b : List (ℕ × List ℕ)) → same_pairs a b ≡ true → a ≡ b
unfolding same_pairs
same_pairs-true a b e = pointwise-true same_pair same_pair-true a b e

pub same_pairs-refl : (a : List (ℕ × List ℕ)) → same_pairs a a ≡ true
unfolding same_pairs
same_pairs-refl a = pointwise-refl same_pair same_pair-refl a

pub more_than_none : (n : ℕ) → (1 + n == 0) ≡ false
more_than_none n = grind (arith, nat_tests)
