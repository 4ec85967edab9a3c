use Rattle.std.proofs.Common.{◌≡◌, ℕ, [], ◌∷◌, ◌++◌, ap, sym, ◌∙◌, rules}
use Rattle.rand_pcg.specs.Lcg.{Lcg}
use Rattle.rand_pcg.specs.Pcg.{pcg32}
use Rattle.play_order.specs.Draws.{generator_after_words}
use Rattle.play_order.proofs.Drawing.{words_drawn-more, generator_after_words-more}
use Rattle.play_order.proofs.round.draw_words.Goals as goal

pub loop-preserved : goal.loop-preserved
loop-preserved c =
    let g : Lcg = c.args.generator.now in
    let n : ℕ = c.loop.counter in
    let pushed : c.push.new.self ≡ c.loop.words ++ c.next_word-word.result ∷ [] = search rules in
    let word : c.next_word-word.result ≡ (pcg32 (generator_after_words g n)).0 =
    ap (λ (p : ℕ × Lcg). p.0) c.next_word-word.ensures ∙ ap (λ (h : Lcg). (pcg32 h).0) c.loop.invariant.generator in
    record {
      words = pushed ∙ (λ i. c.loop.invariant.words i ++ word i ∷ []) ∙ sym (words_drawn-more g n);
      generator = ap (λ (p : ℕ × Lcg). p.1) c.next_word-word.ensures ∙ ap (λ (h : Lcg). (pcg32 h).1) c.loop.invariant.generator ∙ sym (generator_after_words-more g n);
    }
