use Rattle.std.proofs.Common.{◌≡◌, ℕ, ◌+◌, List, ◌++◌, [], ◌∷◌, ap, sym, ◌∙◌, take, arith, get_or, ◌==◌, nat_eq, Option, Some, None, cond, rules, append_assoc}
use Rattle.std.specs.HashMap.{get}
use Rattle.std.specs.Option.{option_or}
use Rattle.std.proofs.lemmas.List.Elements.{All-get_or, All-weaker}
use Rattle.rand_pcg.specs.Lcg.{Lcg}
use Rattle.rand_pcg.specs.Pcg.{pcg32}
use Rattle.play_order.specs.declared.modes.Rank.{Rank}
use Rattle.play_order.specs.Draws.{ranks_drawn, generator_after}
use Rattle.play_order.proofs.Drawing.{ranks_drawn-more, generator_after-more}
use Rattle.play_order.proofs.Ids.{rank_at, rank-push}
use Rattle.play_order.proofs.Keeping.{has_drawn, left_of, KeepsNone, left-push, none-push}
use Rattle.play_order.proofs.ranks.draw_each.Goals as goal

pub loop-id-preserved : goal.loop-id-preserved
loop-id-preserved c =
    let g : Lcg = c.args.generator.now in
    let ids : List ℕ = c.args.ids.now in
    let i : ℕ = c.loop-id.id-index in
    let id : ℕ = get_or ids i 0 in
    let word : ℕ = c.next_word-rank.result in
    let one : List Rank = record { id = id; rank = word } ∷ [] in
    let items : List Rank = c.loop-id.drawn.items in
    let old : List Rank = c.args.drawn.now.items in
    let known : ℕ → Option ℕ = get nat_eq c.loop-id.by_id in
    let after : ℕ → Option ℕ = get nat_eq c.note_rank.new.by_id in
    let kept : List Rank = left_of (get nat_eq c.args.by_id.now) old in
    let pushed : c.push.new.self.items ≡ items ++ one = search rules in
    let drawn : word ≡ (pcg32 (generator_after g (take i ids))).0 =
    ap (λ (p : ℕ × Lcg). p.0) c.next_word-rank.ensures ∙ ap (λ (h : Lcg). (pcg32 h).0) c.loop-id.invariant.generator in
    let moved = ap (λ (p : ℕ × Lcg). p.1) c.next_word-rank.ensures in
    let lacks : KeepsNone known items id = All-get_or (KeepsNone known items) ids i 0 (omega arith) c.loop-id.invariant.none_gone in
    let left : left_of after c.push.new.self.items ≡ left_of known items ++ one = ap (left_of after) pushed ∙ left-push known after id word items c.note_rank.ensures.ranks lacks in
    let more : (base : List Rank) → (base ++ ranks_drawn g (take i ids)) ++ one ≡ base ++ ranks_drawn g (take (i + 1) ids) = λ base.
    ap (λ (w : ℕ). (base ++ ranks_drawn g (take i ids)) ++ record { id = id; rank = w } ∷ []) drawn
    ∙ append_assoc base (ranks_drawn g (take i ids)) (record { id = id; rank = (pcg32 (generator_after g (take i ids))).0 } ∷ [])
    ∙ ap (λ (r : List Rank). base ++ r) (sym (ranks_drawn-more g ids i (omega arith))) in
    record {
      items = pushed ∙ ap (λ (r : List Rank). r ++ one) c.loop-id.invariant.items ∙ more old;
      ranks = left ∙ ap (λ (r : List Rank). r ++ one) c.loop-id.invariant.ranks ∙ more kept;
      generator = moved ∙ ap (λ (h : Lcg). (pcg32 h).1) c.loop-id.invariant.generator ∙ sym (generator_after-more g ids i (omega arith));
      finds = λ q.
          c.note_rank.ensures.ranks q ∙ ap (λ (r : Option ℕ). option_or r (cond (id == q) (Some word) None)) (c.loop-id.invariant.finds q)
          ∙ sym (rank-push q (left_of known items) (record { id = id; rank = word })) ∙ ap (λ (r : List Rank). rank_at r q) (sym left);
      none_gone =
          All-weaker (KeepsNone known items) (KeepsNone after c.push.new.self.items)
          (λ (q : ℕ) (none : KeepsNone known items q) k. ap (has_drawn q) pushed ∙ none-push known after id word items q c.note_rank.ensures.ranks none k) ids c.loop-id.invariant.none_gone;
      room = omega (arith, c.loop-id.invariant.room, c.push.ensures.upper_bound, c.push.ensures.capacity);
      spare = omega (arith, c.loop-id.invariant.spare, c.note_rank.ensures.spare);
    }
