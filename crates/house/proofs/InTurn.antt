-- Rings that are settled one after the other.
use Rattle.std.proofs.Common.{◌≡◌, ℕ, List, [], ◌++◌, append-nil, sym, subst}
use Rattle.player_state.specs.Outputs.{FrameBooks}
use Rattle.house.specs.declared.ended_ring.EndedRing.{EndedRing}
use Rattle.house.specs.declared.settlement.Settlement.{Settlement}
use Rattle.house.specs.Settling.{SettlesInTurn}

-- whatever the rings that are left will be settled with joins what those before them were settled with
abbrev pub GoesOn : {L : Type 0} → FrameBooks → List EndedRing → ℕ → FrameBooks → List EndedRing → List (Settlement L) → Type 0
GoesOn {L} first all n books items results = (later : List (Settlement L)) → SettlesInTurn n books items later → SettlesInTurn 0 first all (results ++ later)

module _ {L : Type 0} (first : FrameBooks) (all : List EndedRing) where
  -- no ring is left
  pub settles_all : (n : ℕ) (items : List EndedRing) (books : FrameBooks) (results : List (Settlement L)) → items ≡ []
      → GoesOn first all n books items results → SettlesInTurn 0 first all results
  settles_all n items books results none was =
      subst (SettlesInTurn 0 first all) (append-nil results) (was [] (subst (λ l. SettlesInTurn {L = L} n books l []) (sym none) tt))
