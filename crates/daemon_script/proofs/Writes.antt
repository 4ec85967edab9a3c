-- What was written of some bytes, and what is left.
use Rattle.std.proofs.Common.{◌≡◌, ℕ, List, [], ◌++◌, take, drop, Option, None, Some, refl, sym, ap, ◌∙◌, append_assoc, arith}
use Rattle.std.specs.Io.KnownBytes.{Appends}
use Rattle.std.proofs.lemmas.List.{append-nil, take-append-drop}
use Rattle.counted_devices.specs.declared.call_counts.CallCounts.{CallCounts}
use Rattle.counted_devices.specs.CallCounts.{NoFewer}

pub record Written (old new : Option (List ℕ)) (bytes rest : List ℕ) (before after : CallCounts) : Type 0 where
  pub front : List ℕ
  pub whole : bytes ≡ front ++ rest
  pub written : Appends old new front
  pub calm : NoFewer before after

Appends-none : (a : Option (List ℕ)) → Appends a a []
Appends-none None = tt
Appends-none (Some x) = sym (append-nil x)

Appends-both : (a b c : Option (List ℕ)) (bs cs : List ℕ) → Appends a b bs → Appends b c cs → Appends a c (bs ++ cs)
Appends-both None b c bs cs p q = tt
Appends-both (Some x) None c bs cs p q = absurd p
Appends-both (Some x) (Some y) None bs cs p q = absurd q
Appends-both (Some x) (Some y) (Some z) bs cs p q = q ∙ ap (λ (l : List ℕ). l ++ cs) p ∙ append_assoc x bs cs

pub calm_both : (a b c : CallCounts) → NoFewer a b → NoFewer b c → NoFewer a c
calm_both a b c p q = (omega (arith, p.0, q.0), omega (arith, p.1, q.1), omega (arith, p.2, q.2))

pub none_written : (old : Option (List ℕ)) (bytes : List ℕ) (before : CallCounts) → Written old old bytes bytes before before
none_written old bytes before = record { front = []; whole = refl; written = Appends-none old; calm = (omega arith, omega arith, omega arith) }

pub more_written : (old mid new : Option (List ℕ)) (bytes rest rest' : List ℕ) (n : ℕ) (before mid_counts after : CallCounts) → Written old mid bytes rest before mid_counts
    → Appends mid new (take n rest) → rest' ≡ drop n rest → NoFewer mid_counts after → Written old new bytes rest' before after
more_written old mid new bytes rest rest' n before mid_counts after w appends is calm =
    record {
      front = w.front ++ take n rest;
      whole = w.whole ∙ ap (λ (l : List ℕ). w.front ++ l) (sym (take-append-drop n rest)) ∙ sym (append_assoc w.front (take n rest) (drop n rest)) ∙ ap (λ (l : List ℕ). (w.front ++ take n rest) ++ l) (sym is);
      written = Appends-both old mid new w.front (take n rest) w.written appends;
      calm = calm_both before mid_counts after w.calm calm;
    }
