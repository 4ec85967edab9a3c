use Rattle.std.proofs.Common.{◌≡◌}
use Rattle.play_order.specs.Draws.{words_drawn, generator_after_words}
use Rattle.play_order.proofs.round.draw_words.Given as goal

abbrev pub invariant-loop : goal.invariant-loop
invariant-loop l = record {
  words : l.words ≡ words_drawn l.initial.generator l.counter;
  generator : l.generator ≡ generator_after_words l.initial.generator l.counter;
}
