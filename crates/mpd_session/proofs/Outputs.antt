-- What is written for what is asked, one after the other.
use Rattle.std.proofs.Common.{ℕ, List, [], ◌∷◌, ◌++◌, refl, sym, ap, subst, ◌∙◌, append_assoc, ◌+◌, Option, None, Some, append-nil}
use Rattle.std.specs.List.{flat_map}
use Rattle.std.proofs.lemmas.Grind.{flat_map-append}
use Rattle.transitions.specs.declared.reply.Next.{Next}
use Rattle.mpd_session.specs.Notices.{notice_text, AreNotices, notice_bytes}
use Rattle.mpd_session.specs.Output.{IsOutput, IsLastOutput, IsOutputOver}
use Rattle.mpd_session.specs.Requests.{Asking}
use Rattle.connected_clients.specs.declared.notices.Notice.{Notice}

pub no_notices : AreNotices []
no_notices = ([], refl)

pub notices_join : (a b : List ℕ) → AreNotices a → AreNotices b → AreNotices (a ++ b)
notices_join a b (xs, p) (ys, q) =
    (xs ++ ys, ap (λ (x : List ℕ). x ++ b) p ∙ ap (λ (y : List ℕ). flat_map notice_text xs ++ y) q ∙ sym (flat_map-append notice_text xs ys))

module _ {P : Type 0} (A : P → Asking → List ℕ → Next → P → Type 0) where
  pub notices_first : (a b : P) (asked : List Asking) (notices output : List ℕ) → AreNotices notices → IsOutput A a asked output b → IsOutput A a asked (notices ++ output) b
  notices_first a b [] notices output n (o, e) = (notices_join notices output n o, e)
  notices_first a b (r ∷ rs) notices output n (ns, text, rest, mid, is, are, answers, others) =
      (notices ++ ns, text, rest, mid, ap (λ (x : List ℕ). notices ++ x) is ∙ sym (append_assoc notices ns (text ++ rest)), notices_join notices ns n are, answers, others)

  pub join : (a b c : P) (asked more : List Asking) (output next : List ℕ) → IsOutput A a asked output b → IsOutput A b more next c → IsOutput A a (asked ++ more) (output ++ next) c
  join a b c [] more output after (n, e) o = notices_first a c more output after n (subst (λ (m : P). IsOutput A m more after c) e o)
  join a b c (r ∷ rs) more output after (ns, text, rest, mid, is, are, answers, others) o = (
    ns,
    text,
    rest ++ after,
    mid,
    ap (λ (x : List ℕ). x ++ after) is ∙ append_assoc ns (text ++ rest) after ∙ ap (λ (x : List ℕ). ns ++ x) (append_assoc text rest after),
    are,
    answers,
    join mid b c rs more rest after others o,
  )

  pub join_last : (a b c : P) (asked more : List Asking) (last : Asking) (next : Next) (output after : List ℕ) → IsOutput A a asked output b → IsLastOutput A b more last next after c → IsLastOutput A a (asked ++ more) last next (output ++ after) c
  join_last a b c asked more last next output after o (front, text, mid, is, goes, closes) =
      (output ++ front, text, mid, ap (λ (x : List ℕ). output ++ x) is ∙ sym (append_assoc output front text), join a b mid asked more output front o goes, closes)

  pub joined : (a b c : P) (asked more : List Asking) (output after : List ℕ) → IsOutput A a asked output b
      → (IsOutput A b more after c → IsOutput A a (asked ++ more) (output ++ after) c)
      × ((last : Asking) (next : Next) → IsLastOutput A b more last next after c → IsLastOutput A a (asked ++ more) last next (output ++ after) c)
  joined a b c asked more output after o = (λ p. join a b c asked more output after o p, λ last next p. join_last a b c asked more last next output after o p)

  module _ (Grown : P → P → Type 0) (stays : (p : P) → Grown p p) (grows : (p q r : P) → Grown p q → Grown q r → Grown p r) where
    module _ (B : P → Asking → List ℕ → Next → P → Type 0)
        (each : (p : P) (one : Asking) (text : List ℕ) (next : Next) (q : P) → A p one text next q → B p one text next q) where
      pub one_over : (a b : P) (asked : List Asking) (output : List ℕ) → IsOutput A a asked output b → IsOutputOver B Grown a asked output b
      one_over a b [] output (n, e) = (n, subst (λ (m : P). Grown a m) (sym e) (stays a))
      one_over a b (r ∷ rs) output (ns, text, rest, mid, is, are, (next, stays_open, answers), others) =
          (ns, text, rest, a, mid, is, are, stays a, (next, stays_open, each a r text next mid answers), one_over mid b rs rest others)

    over_first : (a b c : P) (asked : List Asking) (notices output : List ℕ) → Grown a b → AreNotices notices → IsOutputOver A Grown b asked output c → IsOutputOver A Grown a asked (notices ++ output) c
    over_first a b c [] notices output h n (o, e) = (notices_join notices output n o, grows a b c h e)
    over_first a b c (r ∷ rs) notices output h n (ns, text, rest, at, mid, is, are, later, answers, others) =
        (notices ++ ns, text, rest, at, mid, ap (λ (x : List ℕ). notices ++ x) is ∙ sym (append_assoc notices ns (text ++ rest)), notices_join notices ns n are, grows a b at h later, answers, others)

    pub both_over : (a b c d : P) (asked more : List Asking) (output next : List ℕ) → IsOutputOver A Grown a asked output b → Grown b c → IsOutputOver A Grown c more next d → IsOutputOver A Grown a (asked ++ more) (output ++ next) d
    both_over a b c d [] more output after (n, e) h o = over_first a c d more output after (grows a b c e h) n o
    both_over a b c d (r ∷ rs) more output after (ns, text, rest, at, mid, is, are, later, answers, others) h o = (
      ns,
      text,
      rest ++ after,
      at,
      mid,
      ap (λ (x : List ℕ). x ++ after) is ∙ append_assoc ns (text ++ rest) after ∙ ap (λ (x : List ℕ). ns ++ x) (append_assoc text rest after),
      are,
      later,
      answers,
      both_over mid b c d rs more rest after others h o,
    )

pub a_notice : (n : Option Notice) → AreNotices (notice_bytes n)
a_notice None = ([], refl)
a_notice (Some n) = (n ∷ [], sym (append-nil (notice_text n)))
