-- What the two ends of a ring show at a settlement.
use Rattle.std.specs.Prelude.{IsSome, IfSome}
use Rattle.output_ring.specs.Ends.{end_sent}
use Rattle.std.proofs.Common.{Option, Some, None, ◌≡◌, ◌+◌, List, ◌++◌, length, take, sym, ap, ◌∙◌, subst, length-append, arith}
use Rattle.output_ring.specs.declared.frames.CutFrame.{CutFrame}
use Rattle.output_ring.specs.declared.feeder.FeederEnd.{FeederEnd}
use Rattle.output_ring.specs.declared.drainer.Drainer.{Drainer}
use Rattle.output_ring.specs.Rings.{EndTook, end_owed, fates_of, hand_of, popped_of, ring_of, totals_of}
use Rattle.frame_ledger.specs.declared.settlement.Settled.{Settled}
use Rattle.frame_ledger.specs.Balance.{Balances, all_frames}

-- how many frames there are in all
pub length-all_frames : (e : FeederEnd) (d : Drainer) (ring : List CutFrame) → length (all_frames e d ring) ≡ ((length (fates_of d) + length (hand_of d)) + length ring) + length (end_owed e)
length-all_frames e d ring =
    length-append ((fates_of d ++ hand_of d) ++ ring) (end_owed e)
    ∙ ap (λ n. n + length (end_owed e)) (length-append (fates_of d ++ hand_of d) ring ∙ ap (λ n. n + length ring) (length-append (fates_of d) (hand_of d)))

-- how many frames have no fate
pub length-left : (e : FeederEnd) (d : Drainer) (ring : List CutFrame) → length ((hand_of d ++ ring) ++ end_owed e) ≡ (length (hand_of d) + length ring) + length (end_owed e)
length-left e d ring =
    length-append (hand_of d ++ ring) (end_owed e) ∙ ap (λ n. n + length (end_owed e)) (length-append (hand_of d) ring)

-- the numbers of a drainer that has looked at its ring are those of the drainer before
pub settles : (e : FeederEnd) (d later : Drainer) (s : Settled) → totals_of later ≡ totals_of d → popped_of later ≡ popped_of d → hand_of later ≡ hand_of d
    → EndTook e (all_frames e later (ring_of later))
    → s.written ≡ (totals_of later).written → s.discarded ≡ (totals_of later).discarded → s.torn ≡ (totals_of later).torn
    → s.written + s.discarded ≡ length (fates_of later)
    → s.left ≡ (length (hand_of later) + length (ring_of later)) + length (end_owed e) → s.decoded ≡ (s.written + s.discarded) + s.left
    → Balances e d s
settles e d later s totals popped hand took written discarded torn count left decoded =
    let ring = ring_of later in
    let fates : fates_of later ≡ fates_of d = λ i. take ((totals i).written + (totals i).discarded) (popped i) in
    let all : all_frames e later ring ≡ all_frames e d ring = λ i. ((fates i ++ hand i) ++ ring) ++ end_owed e in
    let many = length-all_frames e later ring in
    let sum : s.decoded ≡ length (all_frames e later ring) = omega (arith, decoded, left, count, many) in
    record {
      ring = ring;
      took = subst (EndTook e) all took;
      decoded = sum ∙ ap length all;
      left = left ∙ sym (length-left e later ring) ∙ (λ i. length ((hand i ++ ring) ++ end_owed e));
      fates = count ∙ ap length fates;
      written = written ∙ (λ i. (totals i).written);
      discarded = discarded ∙ (λ i. (totals i).discarded);
      torn = torn ∙ (λ i. (totals i).torn);
    }

took_at : {F : Type 0} (o : Option F) (g : F → List CutFrame) (xs ys : List CutFrame) → IfSome o (λ f. g f ≡ xs) → IfSome o (λ f. g f ≡ ys) → IsSome o → xs ≡ ys
took_at None g xs ys p q s = cc
took_at (Some f) g xs ys p q s = sym p ∙ q

-- with the token there is one list of what the feeder took, so it is this long
pub taken_length : (e : FeederEnd) (d : Drainer) (taken ring : List CutFrame) → IsSome e.finished → EndTook e taken → EndTook e (all_frames e d ring)
    → length taken ≡ ((length (fates_of d) + length (hand_of d)) + length ring) + length (end_owed e)
taken_length e d taken ring some p q = ap length (took_at e.finished (λ f. end_sent f ++ end_owed e) taken (all_frames e d ring) p q some) ∙ length-all_frames e d ring
