-- What a session writes for what its client asks (MPD protocol reference, Responses and Command lists).
use Rattle.std.specs.Prelude.{◌≡◌, ℕ, false, List, [], ◌∷◌, ◌++◌}
use Rattle.transitions.specs.Answers.{closes}
use Rattle.transitions.specs.declared.reply.Next.{Next}
use Rattle.mpd_session.specs.Notices.{AreNotices}
use Rattle.mpd_session.specs.Requests.{Asking}

-- `P` is what the caller has, and changes with each answer.
module _ {P : Type 0} (Answers : P → Asking → List ℕ → Next → P → Type 0) where
  -- an answer after which the session is open
  abbrev pub AnswersOpen : P → Asking → List ℕ → P → Type 0
  AnswersOpen p one text q = (next : Next) × (closes next ≡ false) × Answers p one text next q

  -- What is written for what leaves the session open: one answer each, in order, and notices in front of an
  -- answer or at the end.
  abbrev pub IsOutput : P → List Asking → List ℕ → P → Type 0
  IsOutput p [] output q = AreNotices output × (q ≡ p)
  IsOutput p (one ∷ more) output q =
      (notices text rest : List ℕ) × (mid : P) × (output ≡ notices ++ (text ++ rest)) × AreNotices notices × AnswersOpen p one text mid × IsOutput mid more rest q

  -- What is written where the last of these closes it: nothing stands after that answer.
  abbrev pub IsLastOutput : P → List Asking → Asking → Next → List ℕ → P → Type 0
  IsLastOutput p asked last next output q =
      (front text : List ℕ) × (mid : P) × (output ≡ front ++ text) × IsOutput p asked front mid × Answers mid last text next q

  -- an answer that is owed, with the notice that waited in front
  abbrev pub IsOwed : P → Asking → List ℕ → Next → P → Type 0
  IsOwed p one owed next q = (notices text : List ℕ) × (owed ≡ notices ++ text) × AreNotices notices × Answers p one text next q

  -- The same over many turns, between which others are served with the same seat and shelf: what the caller
  -- has may have grown before each answer.
  module _ (Grown : P → P → Type 0) where
    abbrev pub IsOutputOver : P → List Asking → List ℕ → P → Type 0
    IsOutputOver p [] output q = AreNotices output × Grown p q
    IsOutputOver p (one ∷ more) output q =
        (notices text rest : List ℕ) × (at mid : P) × (output ≡ notices ++ (text ++ rest)) × AreNotices notices × Grown p at × AnswersOpen at one text mid × IsOutputOver mid more rest q

  -- What is written for some of what is asked, and then for the rest, is what is written for all of it.
  abbrev pub OutputsJoin : Type 0
  OutputsJoin = (p q r : P) (asked more : List Asking) (output then : List ℕ) → IsOutput p asked output q
      → (IsOutput q more then r → IsOutput p (asked ++ more) (output ++ then) r)
      × ((last : Asking) (next : Next) → IsLastOutput q more last next then r → IsLastOutput p (asked ++ more) last next (output ++ then) r)

-- A turn answers by `Answers`, and each of the turns by `Sometime`.
module _ {P : Type 0} (Answers Sometime : P → Asking → List ℕ → Next → P → Type 0) where
  -- What is written in one turn is written over many turns; and what is written in some turns, and then in
  -- others, is written in all.
  abbrev pub OutputsJoinOver : (P → P → Type 0) → Type 0
  OutputsJoinOver Grown =
      ((p q : P) (asked : List Asking) (output : List ℕ) → IsOutput Answers p asked output q → IsOutputOver Sometime Grown p asked output q)
      × ((p q r s : P) (asked more : List Asking) (output then : List ℕ) → IsOutputOver Sometime Grown p asked output q → Grown q r → IsOutputOver Sometime Grown r more then s
      → IsOutputOver Sometime Grown p (asked ++ more) (output ++ then) s)
