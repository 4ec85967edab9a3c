-- For whose fault a session is ended.
use Rattle.std.proofs.Common.{◌≡◌, ℕ, ◌+◌, ◌-◌, ◌^◌, ◌<◌, ◌≤◌, min, arith, inl, inr, List, Option, None, Some, sym, subst, ◌∙◌}
use Rattle.std.specs.Prelude.{◌⊎◌}
use Rattle.std.proofs.Math.Nat.{le-min}
use Rattle.std.proofs.lemmas.Bool.{cases_lt}
use Rattle.counted_devices.specs.declared.call_counts.CallCounts.{CallCounts}
use Rattle.counted_devices.specs.CallCounts.{one_failure}
use Rattle.mpd_session.specs.declared.end.End.{End}
use Rattle.mpd_session.specs.declared.end.End.TheVariants.{Left, Killed, LongLine, LargeList, Unsent, NoPeer, ReadFault, WriteFault}
use Rattle.mpd_session.specs.Sessions.{Blames, BlamesNone, BlamesReader, BlamesWriter, HasFailedSince, SentAs}

capped : (n m : ℕ) → (n < min (n + 1) m) ⊎ (m ≤ min (n + 1) m)
capped n m = elim (cases_lt n m) [
  | inl below ↦ inl (let h : n + 1 ≤ min (n + 1) m = le-min (omega arith) (omega (arith, below)) in omega (arith, h))
  | inr above ↦ inr (le-min (omega (arith, above)) (omega arith))
]

-- a count of failures that rose, or is at its greatest value
pub one_failed : (old new : CallCounts) → new ≡ one_failure old → HasFailedSince old new
one_failed old new is = subst (λ (t : CallCounts). HasFailedSince old t) (sym is) (capped old.failures (2 ^ 64 - 1))

pub later : (a b c : CallCounts) → a.failures ≤ b.failures → HasFailedSince b c → HasFailedSince a c
later a b c fewer (inl rose) = inl (omega (arith, fewer, rose))
later a b c fewer (inr most) = inr most

pub still : (a b c : CallCounts) → b.failures ≤ c.failures → HasFailedSince a b → HasFailedSince a c
still a b c fewer (inl rose) = inl (omega (arith, fewer, rose))
still a b c fewer (inr most) = inr (omega (arith, fewer, most))

-- of a session that is open, or is ended for no device's fault

pub open_blames : (e : Option End) (a b : CallCounts) → e ≡ None → BlamesWriter e a b
open_blames e a b is = subst (λ (x : Option End). BlamesWriter x a b) (sym is) tt

pub open_blames_none : (e : Option End) (r r' w w' : CallCounts) → e ≡ None → Blames e r r' w w'
open_blames_none e r r' w w' is = subst (λ (x : Option End). Blames x r r' w w') (sym is) tt

pub none_blames : (e : Option End) (a b : CallCounts) → BlamesNone e → BlamesWriter e a b
none_blames None a b none = tt
none_blames (Some Left) a b none = tt
none_blames (Some Killed) a b none = tt
none_blames (Some LongLine) a b none = tt
none_blames (Some LargeList) a b none = tt
none_blames (Some Unsent) a b none = tt
none_blames (Some NoPeer) a b none = absurd none
none_blames (Some ReadFault) a b none = absurd none
none_blames (Some WriteFault) a b none = absurd none

-- after a write

fails_now : (e e' : Option End) (b c : CallCounts) → e ≡ None → e' ≡ Some WriteFault → (e' ≡ Some WriteFault → (e ≡ Some WriteFault) ⊎ HasFailedSince b c) → HasFailedSince b c
fails_now e e' b c goes is failed = elim (failed is) [ inl was ↦ absurd (let never : None ≡ Some WriteFault = sym goes ∙ was in cc) | inr now ↦ now ]

pub sent_blames : (e e' : Option End) (u u' : List ℕ) (a b c : CallCounts) → BlamesNone e → SentAs e u e' u' → (e' ≡ Some WriteFault → (e ≡ Some WriteFault) ⊎ HasFailedSince b c) → a.failures ≤ b.failures → BlamesWriter e' a c
sent_blames e e' u u' a b c none (inl (is, kept)) failed fewer = subst (λ (x : Option End). BlamesWriter x a c) (sym is) (none_blames e a c none)
sent_blames e e' u u' a b c none (inr (goes, inl is)) failed fewer =
    subst (λ (x : Option End). BlamesWriter x a c) (sym is) (later a b c fewer (fails_now e e' b c goes is failed))
sent_blames e e' u u' a b c none (inr (goes, inr (is, many))) failed fewer = subst (λ (x : Option End). BlamesWriter x a c) (sym is) tt

kept_blames : (e : Option End) (r r' w w' w'' : CallCounts) → w'.failures ≤ w''.failures → Blames e r r' w w' → Blames e r r' w w''
kept_blames None r r' w w' w'' fewer b = tt
kept_blames (Some Left) r r' w w' w'' fewer b = tt
kept_blames (Some Killed) r r' w w' w'' fewer b = tt
kept_blames (Some LongLine) r r' w w' w'' fewer b = tt
kept_blames (Some LargeList) r r' w w' w'' fewer b = tt
kept_blames (Some Unsent) r r' w w' w'' fewer b = tt
kept_blames (Some NoPeer) r r' w w' w'' fewer b = tt
kept_blames (Some ReadFault) r r' w w' w'' fewer b = b
kept_blames (Some WriteFault) r r' w w' w'' fewer b = still w w' w'' fewer b

pub turn_blames : (e e' : Option End) (u u' : List ℕ) (r r' w w' w'' : CallCounts) → Blames e r r' w w' → SentAs e u e' u' → (e' ≡ Some WriteFault → (e ≡ Some WriteFault) ⊎ HasFailedSince w' w'')
    → w.failures ≤ w'.failures → w'.failures ≤ w''.failures → Blames e' r r' w w''
turn_blames e e' u u' r r' w w' w'' b (inl (is, kept)) failed fewer calm = subst (λ (x : Option End). Blames x r r' w w'') (sym is) (kept_blames e r r' w w' w'' calm b)
turn_blames e e' u u' r r' w w' w'' b (inr (goes, inl is)) failed fewer calm =
    subst (λ (x : Option End). Blames x r r' w w'') (sym is) (later w w' w'' fewer (fails_now e e' w' w'' goes is failed))
turn_blames e e' u u' r r' w w' w'' b (inr (goes, inr (is, many))) failed fewer calm = subst (λ (x : Option End). Blames x r r' w w'') (sym is) tt

-- where a line was too long

pub ended_blames : (e e' : Option End) (a c : CallCounts) → BlamesWriter e a c → (e' ≡ e) ⊎ ((e ≡ None) × (e' ≡ Some LongLine)) → BlamesWriter e' a c
ended_blames e e' a c b (inl is) = subst (λ (x : Option End). BlamesWriter x a c) (sym is) b
ended_blames e e' a c b (inr (goes, is)) = subst (λ (x : Option End). BlamesWriter x a c) (sym is) tt

-- one of the two devices

pub reader_blames : (e : Option End) (r r' w w' : CallCounts) → BlamesReader e r r' → Blames e r r' w w'
reader_blames None r r' w w' b = tt
reader_blames (Some Left) r r' w w' b = tt
reader_blames (Some Killed) r r' w w' b = tt
reader_blames (Some LongLine) r r' w w' b = tt
reader_blames (Some LargeList) r r' w w' b = tt
reader_blames (Some Unsent) r r' w w' b = tt
reader_blames (Some NoPeer) r r' w w' b = tt
reader_blames (Some ReadFault) r r' w w' b = b
reader_blames (Some WriteFault) r r' w w' b = absurd b

pub writer_blames : (e : Option End) (r r' w w' : CallCounts) → BlamesWriter e w w' → Blames e r r' w w'
writer_blames None r r' w w' b = tt
writer_blames (Some Left) r r' w w' b = tt
writer_blames (Some Killed) r r' w w' b = tt
writer_blames (Some LongLine) r r' w w' b = tt
writer_blames (Some LargeList) r r' w w' b = tt
writer_blames (Some Unsent) r r' w w' b = tt
writer_blames (Some NoPeer) r r' w w' b = tt
writer_blames (Some ReadFault) r r' w w' b = absurd b
writer_blames (Some WriteFault) r r' w w' b = b

pub same_reader : (e e' : Option End) (r r' : CallCounts) → e' ≡ e → BlamesReader e r r' → BlamesReader e' r r'
same_reader e e' r r' is b = subst (λ (x : Option End). BlamesReader x r r') (sym is) b

pub fault_blames : (e : Option End) {X : Type 0} (r r' : CallCounts) → (e ≡ None) ⊎ ((e ≡ Some ReadFault) × X) → (X → r' ≡ one_failure r) → BlamesReader e r r'
fault_blames e r r' (inl is) failed = subst (λ (x : Option End). BlamesReader x r r') (sym is) tt
fault_blames e r r' (inr (is, other)) failed = subst (λ (x : Option End). BlamesReader x r r') (sym is) (one_failed r r' (failed other))
