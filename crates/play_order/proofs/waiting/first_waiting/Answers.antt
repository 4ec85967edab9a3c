use Rattle.std.proofs.Common.{◌∙◌, ap, refl, sym}
use Rattle.song_queue.specs.State.{queue_of}
use Rattle.play_order.specs.Waits.{WaitingState, has_key}
use Rattle.play_order.proofs.Firsts.{distinct-from}
use Rattle.play_order.proofs.Orders.{first-waits, no-keys, none-waits}
use Rattle.play_order.proofs.waiting.first_waiting.Goals as goal

pub returns-in-Some : goal.returns-in-Some
returns-in-Some c =
    let keys = ap (λ (w : WaitingState). w.keys) c.waiting.view_is in
    c.entry_with.ensures
    ∙ first-waits c.args.ranks.now c.args.played.now (queue_of c.args.queue.now) c.args.waiting.now (c.if-not-is_of.ensures.0 refl).1 c.requires c.in-Some.key.now (distinct-from (queue_of c.args.queue.now) c.len-len.ensures.valid.distinct)
    (ap (λ keys. has_key keys c.in-Some.key.now) (sym keys) ∙ c.in-Some.ensures.member) (λ q h. c.in-Some.ensures.least q (ap (λ ks. has_key ks q) keys ∙ h))

pub returns-in-None : goal.returns-in-None
returns-in-None c =
    none-waits c.args.ranks.now c.args.played.now (queue_of c.args.queue.now) c.args.waiting.now (c.if-not-is_of.ensures.0 refl).1 c.requires
    (sym (ap (λ (w : WaitingState). w.keys) c.waiting.view_is) ∙ no-keys c.waiting.inside.keys.keys c.in-None.ensures.variant.1)
