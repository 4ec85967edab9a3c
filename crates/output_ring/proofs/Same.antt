-- Ends that stay those of their rings.
use Rattle.std.proofs.Common.{refl, ◌∙◌, Some, None, Option}
use Rattle.std.specs.Prelude.{IfSome}
use Rattle.output_ring.specs.declared.drainer.Drainer.{Drainer}
use Rattle.output_ring.specs.declared.feeder.Feeder.{Feeder}
use Rattle.output_ring.specs.declared.feeder.FeederEnd.{FeederEnd}
use Rattle.output_ring.specs.declared.inlet.InletEnd.{InletEnd}
use Rattle.output_ring.specs.Ends.{IsTokenOf}
use Rattle.output_ring.specs.Rings.{EndsFeeder, SameDrainer, SameFeeder}

pub same_drainer : (d : Drainer) → SameDrainer d d
same_drainer d = (((refl, refl, refl, refl), refl), ((refl, refl, refl, refl), refl))

pub same_drainer_trans : (a b c : Drainer) → SameDrainer a b → SameDrainer b c → SameDrainer a c
same_drainer_trans a b c p q = (
  ((q.0.0.0 ∙ p.0.0.0, q.0.0.1 ∙ p.0.0.1, q.0.0.2 ∙ p.0.0.2, q.0.0.3 ∙ p.0.0.3), q.0.1 ∙ p.0.1),
  ((q.1.0.0 ∙ p.1.0.0, q.1.0.1 ∙ p.1.0.1, q.1.0.2 ∙ p.1.0.2, q.1.0.3 ∙ p.1.0.3), q.1.1 ∙ p.1.1),
)

pub same_feeder : (f : Feeder) → SameFeeder f f
same_feeder f = (((refl, refl, refl, refl), refl), ((refl, refl, refl, refl), refl))

pub same_feeder_trans : (f g h : Feeder) → SameFeeder f g → SameFeeder g h → SameFeeder f h
same_feeder_trans f g h p q = (
  ((q.0.0.0 ∙ p.0.0.0, q.0.0.1 ∙ p.0.0.1, q.0.0.2 ∙ p.0.0.2, q.0.0.3 ∙ p.0.0.3), q.0.1 ∙ p.0.1),
  ((q.1.0.0 ∙ p.1.0.0, q.1.0.1 ∙ p.1.0.1, q.1.0.2 ∙ p.1.0.2, q.1.0.3 ∙ p.1.0.3), q.1.1 ∙ p.1.1),
)

some_token : (o : Option InletEnd) (P Q : InletEnd → Type 0) → ((x : InletEnd) → P x → Q x) → IfSome o P → IfSome o Q
some_token None P Q f p = tt
some_token (Some x) P Q f p = f x p

-- the end of a feeder is that of the feeder before
pub ends_later : (f g : Feeder) (e : FeederEnd) → SameFeeder f g → EndsFeeder g e → EndsFeeder f e
ends_later f g e p q =
    some_token e.finished (IsTokenOf g.inlet) (IsTokenOf f.inlet) (λ t r. (
      (r.0.0 ∙ p.0.0.0, r.0.1 ∙ p.0.0.1, r.0.2 ∙ p.0.0.2, r.0.3 ∙ p.0.0.3),
      (r.1.0 ∙ p.1.0.0, r.1.1 ∙ p.1.0.1, r.1.2 ∙ p.1.0.2, r.1.3 ∙ p.1.0.3),
    )) q
