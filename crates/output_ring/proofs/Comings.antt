-- Frames that come into a hand, and then more.
use Rattle.std.proofs.Common.{◌≡◌, ◌∙◌, ℕ, ◌+◌, ◌≤◌, ◌++◌, List, [], length, drop, ap, sym, append_assoc, length-append, arith}
use Rattle.std.proofs.Math.Seq.{drop-append_seam}
use mathlib.Core.List.{IsPrefix}
use Rattle.output_ring.specs.declared.drainer.Drainer.{Drainer}
use Rattle.output_ring.specs.declared.frames.CutFrame.{CutFrame}
use Rattle.output_ring.specs.Rings.{CanPop, CanPopRing, Comes, HandHasRoom, HandHasRoomForRing, came_of, hand_of, most_of, popped_of, ring_of}
use Rattle.output_ring.proofs.Same.{same_drainer_trans}

-- what follows a part of what was known
prefix_on : (a x b y c : List CutFrame) → IsPrefix a (x ++ b) → IsPrefix b (y ++ c) → IsPrefix a ((x ++ y) ++ c)
prefix_on a x b y c p q =
    (p.0 ++ q.0, sym (append_assoc a p.0 q.0) ∙ ap (λ l. l ++ q.0) p.1 ∙ append_assoc x b q.0 ∙ ap (λ l. x ++ l) q.1 ∙ sym (append_assoc x y c))

pub came_both : (a b c : Drainer) → Comes a b → Comes b c → came_of a c ≡ came_of a b ++ came_of b c
came_both a b c p q =
    ap (drop (length (popped_of a))) (q.popped ∙ ap (λ l. l ++ came_of b c) p.popped ∙ append_assoc (popped_of a) (came_of a b) (came_of b c))
    ∙ drop-append_seam (popped_of a) (came_of a b ++ came_of b c)

pub comes_more : (a b c : Drainer) → Comes a b → Comes b c → Comes a c
comes_more a b c p q =
    let came = came_both a b c p q in
    record {
      popped = q.popped ∙ ap (λ l. l ++ came_of b c) p.popped ∙ append_assoc (popped_of a) (came_of a b) (came_of b c) ∙ ap (λ l. popped_of a ++ l) (sym came);
      hand = q.hand ∙ ap (λ l. l ++ came_of b c) p.hand ∙ append_assoc (hand_of a) (came_of a b) (came_of b c) ∙ ap (λ l. hand_of a ++ l) (sym came);
      known = (let w = prefix_on (ring_of a) (came_of a b) (ring_of b) (came_of b c) (ring_of c) p.known q.known in (w.0, w.1 ∙ ap (λ l. l ++ ring_of c) (sym came)));
      kept = (q.kept.0 ∙ p.kept.0, q.kept.1 ∙ p.kept.1, q.kept.2 ∙ p.kept.2, q.kept.3 ∙ p.kept.3, q.kept.4 ∙ p.kept.4);
      ring = same_drainer_trans a b c p.ring q.ring;
    }

-- where the hand has room for all that is known, all of it comes
pub all_came : (a c : Drainer) (count : ℕ) → Comes a c → length (came_of a c) ≡ count → (HandHasRoom c → CanPop c → ring_of c ≡ []) → HandHasRoomForRing a → CanPopRing a → length (ring_of a) ≤ count
all_came a c count p long stops room can =
    let none : HandHasRoom c → CanPop c → length (ring_of c) ≡ 0 = λ r q. ap length (stops r q) in
    let hand : length (hand_of c) ≡ length (hand_of a) + count = ap length p.hand ∙ length-append (hand_of a) (came_of a c) ∙ ap (λ n. length (hand_of a) + n) long in
    let popped : length (popped_of c) ≡ length (popped_of a) + count = ap length p.popped ∙ length-append (popped_of a) (came_of a c) ∙ ap (λ n. length (popped_of a) + n) long in
    let most : most_of c ≡ most_of a = p.kept.3 in
    let known : length (ring_of a) + length p.known.0 ≡ count + length (ring_of c) = sym (length-append (ring_of a) p.known.0) ∙ ap length p.known.1 ∙ length-append (came_of a c) (ring_of c) ∙ ap (λ n. n + length (ring_of c)) long in
    grind (arith, none, hand, popped, most, known, room, can)
