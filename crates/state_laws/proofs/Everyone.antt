-- A player that is told the lines of all partitions of another one is as that one was.
use Rattle.std.proofs.Common.{◌≡◌, ◌⊎◌, inl, inr, ℕ, suc, ◌+◌, ◌<◌, ◌≤◌, ◌==◌, Bool, true, false, cond, ◌||◌, List, [], ◌∷◌, ◌++◌, length, map, Option, Some, None, codes, refl, ap, sym, ◌∙◌, subst, arith, if◌then◌else◌}
use Rattle.std.specs.Prelude.{filter, find, not, slice_index_or}
use Rattle.std.specs.List.{enumerate_from, position}
use Rattle.std.specs.Str.{bytes_eq}
use Rattle.std.proofs.lemmas.Bool.{cases_lt, eqb-false, eqb-true, ne_eqb}
use Rattle.std.proofs.lemmas.List.{length-map}
use Rattle.std.proofs.lemmas.List.Folds.{list_any-append}
use Rattle.kept_state.specs.Lines.{state_steps}
use Rattle.kept_state.specs.Partitions.{Pairwise}
use Rattle.kept_state.specs.PlayerReading.{AreNew, is_named}
use Rattle.kept_state.specs.Players.{is_default}
use Rattle.kept_state.specs.declared.kept.KeptOutput.{KeptOutput}
use Rattle.kept_state.specs.declared.partitions.KeptPartition.{KeptPartition}
use Rattle.partition.specs.Image.{Image}
use Rattle.partition.specs.declared.state.Setup.{Setup}
use Rattle.player_state.specs.Outputs.{OutputsData, is_enabled, is_output}
use Rattle.player_state.specs.declared.state.Library.{Library}
use Rattle.player_state.specs.declared.state.Part.{Part}
use Rattle.song_queue.specs.State.{queue_of}
use Rattle.state_laws.specs.Having.{kept_entry, later, said_of}
use Rattle.state_laws.specs.Own.{CanComeBack}
use Rattle.state_laws.specs.Partitions.{AllPlayersComeBack, AreKeptOf, AreSetUp, CanBeTold, Each, HasPartition, HasPartitions, IsBackIn, IsPartitionOf, home, kept_output, name_of, others, IsFound, restored}
use Rattle.state_laws.specs.Saying.{HasRoom, songs_of}
use Rattle.state_laws.proofs.Among.{heads, new_default}
use Rattle.state_laws.proofs.Between.{apart_named}
use Rattle.state_laws.proofs.Bringing.{some_same}
use Rattle.state_laws.proofs.Numbers.{neither, same_text, text_same}
use Rattle.state_laws.proofs.Own.{is_back, songs_state, state_asks}
use Rattle.state_laws.proofs.Restored.{partitions_come_back}

-- ---- an output among those of a partition

one_name : (outputs : OutputsData) (n m : ℕ) → AreSetUp outputs → n < length outputs.names → m < length outputs.names
    → bytes_eq (name_of outputs n) (name_of outputs m) ≡ true → m ≡ n
one_name outputs n m sets less low same =
    some_same m n (
    sym (sets.found m low)
    ∙ ap (λ (x : List ℕ). position (λ name. bytes_eq name x) outputs.names) (sym (same_text (name_of outputs n) (name_of outputs m) same))
    ∙ sets.found n less
    )

tails : {A : Type 0} (x y : A) (xs : List A) → ◌≡◌ {A = List A} (x ∷ xs) (y ∷ []) → xs ≡ []
tails x y xs e = cc

or_so : (a : Bool) → (a || (true || false)) ≡ true
or_so true = refl
or_so false = refl

next_of : (k n : ℕ) → k ≤ n → (k == n) ≡ false → k + 1 ≤ n
next_of k n low e = elim (cases_lt k n) [ inl less ↦ omega (arith, less) | inr past ↦ absurd (eqb-false k n e (omega (arith, low, past))) ]

-- the names from a number on, among which a name is that of one number alone
abbrev PicksOut : List ℕ → ℕ → ℕ → List (List ℕ) → Type 0
PicksOut name n k names = (j : ℕ) → j < length names → bytes_eq name (slice_index_or names j []) ≡ (k + j == n)

all_picked : (outputs : OutputsData) (n : ℕ) → AreSetUp outputs → n < length outputs.names → PicksOut (name_of outputs n) n 0 outputs.names
all_picked outputs n sets less j low =
    let cases : (b : Bool) → (0 + j == n) ≡ b → bytes_eq (name_of outputs n) (name_of outputs j) ≡ b =
    λ b. elim b as (λ b. (0 + j == n) ≡ b → bytes_eq (name_of outputs n) (name_of outputs j) ≡ b) [
      | true ↦ λ e.
          let is : n ≡ j = omega (arith, eqb-true (0 + j) n e) in
          text_same (name_of outputs n) (name_of outputs j) (ap (name_of outputs) is)
      | false ↦ λ e.
          let inner : (x : Bool) → bytes_eq (name_of outputs n) (name_of outputs j) ≡ x → x ≡ false =
          λ x. elim x as (λ x. bytes_eq (name_of outputs n) (name_of outputs j) ≡ x → x ≡ false)
          [ true ↦ λ f. absurd (eqb-false (0 + j) n e (omega (arith, one_name outputs n j sets less low f))) | false ↦ λ f. refl ] in
          inner (bytes_eq (name_of outputs n) (name_of outputs j)) refl
    ] in
    cases (0 + j == n) refl

picked_after : (name : List ℕ) (n k : ℕ) (first : List ℕ) (names : List (List ℕ)) → PicksOut name n k (first ∷ names) → PicksOut name n (k + 1) names
picked_after name n k first names picks_out j low =
    let more : k + suc j ≡ k + 1 + j = omega arith in
    picks_out (suc j) (omega (arith, low)) ∙ ap (λ (i : ℕ). i == n) more

first_picked : (name : List ℕ) (n k : ℕ) (first : List ℕ) (names : List (List ℕ)) → PicksOut name n k (first ∷ names) → bytes_eq name first ≡ (k == n)
first_picked name n k first names picks_out = let same : k + 0 ≡ k = omega arith in picks_out 0 (omega arith) ∙ ap (λ (i : ℕ). i == n) same

module _ (name : List ℕ) (n : ℕ) (here : ℕ → Bool) where
  abbrev rows : ℕ → List (List ℕ) → List (ℕ × List ℕ)
  rows k names = filter (λ (row : ℕ × List ℕ). here row.0) (enumerate_from k names)

  abbrev names_in : List (ℕ × List ℕ) → List (List ℕ)
  names_in all = map (λ (row : ℕ × List ℕ). row.1) all

  not_named : (k : ℕ) (names : List (List ℕ)) → PicksOut name n k names → n < k → is_named name (names_in (rows k names)) ≡ false
  not_named k [] picks_out past = refl
  not_named k (first ∷ names) picks_out past =
      let rest : is_named name (names_in (rows (k + 1) names)) ≡ false = not_named (k + 1) names (picked_after name n k first names picks_out) (omega (arith, past)) in
      let other : bytes_eq name first ≡ false = first_picked name n k first names picks_out ∙ ne_eqb k n (λ e. omega (arith, e, past)) in
      elim (here k) as (λ b. is_named name (names_in (cond b ((k, first) ∷ rows (k + 1) names) (rows (k + 1) names))) ≡ false)
      [ true ↦ ap (λ (b : Bool). b || is_named name (names_in (rows (k + 1) names))) other ∙ rest | false ↦ rest ]

  named_if_here : (k : ℕ) (names : List (List ℕ)) → PicksOut name n k names → k ≤ n → n < k + length names → is_named name (names_in (rows k names)) ≡ here n
  named_if_here k [] picks_out low high = absurd (omega (arith, low, high))
  named_if_here k (first ∷ names) picks_out low high =
      let rest : List (List ℕ) = names_in (rows (k + 1) names) in
      let after : PicksOut name n (k + 1) names = picked_after name n k first names picks_out in
      let flag : bytes_eq name first ≡ (k == n) = first_picked name n k first names picks_out in
      let cases : (b : Bool) → (k == n) ≡ b → is_named name (names_in (cond (here k) ((k, first) ∷ rows (k + 1) names) (rows (k + 1) names))) ≡ here n =
      λ b. elim b as (λ b. (k == n) ≡ b → is_named name (names_in (cond (here k) ((k, first) ∷ rows (k + 1) names) (rows (k + 1) names))) ≡ here n) [
        | true ↦ λ e.
            let is : k ≡ n = eqb-true k n e in
            let none : is_named name rest ≡ false = not_named (k + 1) names after (omega (arith, is)) in
            let inner : (c : Bool) → is_named name (names_in (cond c ((k, first) ∷ rows (k + 1) names) (rows (k + 1) names))) ≡ c =
            λ c. elim c as (λ c. is_named name (names_in (cond c ((k, first) ∷ rows (k + 1) names) (rows (k + 1) names))) ≡ c)
            [ true ↦ ap (λ (b : Bool). b || is_named name rest) (flag ∙ e) | false ↦ none ] in
            inner (here k) ∙ ap here is
        | false ↦ λ e.
            let more : is_named name rest ≡ here n = named_if_here (k + 1) names after (next_of k n low e) (omega (arith, high)) in
            let inner : (c : Bool) → is_named name (names_in (cond c ((k, first) ∷ rows (k + 1) names) (rows (k + 1) names))) ≡ here n =
            λ c. elim c as (λ c. is_named name (names_in (cond c ((k, first) ∷ rows (k + 1) names) (rows (k + 1) names))) ≡ here n)
            [ true ↦ ap (λ (b : Bool). b || is_named name rest) (flag ∙ e) ∙ more | false ↦ more ] in
            inner (here k)
      ] in
      cases (k == n) refl

  -- what is said of it
  module _ (outputs : OutputsData) where
    abbrev said : List (ℕ × List ℕ) → List KeptOutput
    said all = map (kept_output outputs) all

    not_said : (k : ℕ) (names : List (List ℕ)) → n < k → said_of n (said (rows k names)) ≡ None
    not_said k [] past = refl
    not_said k (first ∷ names) past =
        let rest : said_of n (said (rows (k + 1) names)) ≡ None = not_said (k + 1) names (omega (arith, past)) in
        let other : (k == n) ≡ false = ne_eqb k n (λ e. omega (arith, e, past)) in
        elim (here k) as (λ b. said_of n (said (cond b ((k, first) ∷ rows (k + 1) names) (rows (k + 1) names))) ≡ None)
        [ true ↦ ap (λ (o : Option Bool). later (if k == n then Some (is_enabled outputs k) else None) o) rest ∙ ap (λ (b : Bool). if b then Some (is_enabled outputs k) else None) other | false ↦ rest ]

    said_if_here : (k : ℕ) (names : List (List ℕ)) → k ≤ n → n < k + length names → here n ≡ true → said_of n (said (rows k names)) ≡ Some (is_enabled outputs n)
    said_if_here k [] low high is = absurd (omega (arith, low, high))
    said_if_here k (first ∷ names) low high is =
        let cases : (b : Bool) → (k == n) ≡ b → said_of n (said (cond (here k) ((k, first) ∷ rows (k + 1) names) (rows (k + 1) names))) ≡ Some (is_enabled outputs n) =
        λ b. elim b as (λ b. (k == n) ≡ b → said_of n (said (cond (here k) ((k, first) ∷ rows (k + 1) names) (rows (k + 1) names))) ≡ Some (is_enabled outputs n)) [
          | true ↦ λ e.
              let same : k ≡ n = eqb-true k n e in
              let none : said_of n (said (rows (k + 1) names)) ≡ None = not_said (k + 1) names (omega (arith, same)) in
              ap (λ (c : Bool). said_of n (said (cond c ((k, first) ∷ rows (k + 1) names) (rows (k + 1) names)))) (ap here same ∙ is)
              ∙ ap (λ (o : Option Bool). later (if k == n then Some (is_enabled outputs k) else None) o) none
              ∙ ap (λ (b : Bool). if b then Some (is_enabled outputs k) else None) e ∙ ap (λ (m : ℕ). Some (is_enabled outputs m)) same
          | false ↦ λ e.
              let more : said_of n (said (rows (k + 1) names)) ≡ Some (is_enabled outputs n) = said_if_here (k + 1) names (next_of k n low e) (omega (arith, high)) is in
              elim (here k) as (λ c. said_of n (said (cond c ((k, first) ∷ rows (k + 1) names) (rows (k + 1) names))) ≡ Some (is_enabled outputs n))
              [ true ↦ ap (λ (o : Option Bool). later (if k == n then Some (is_enabled outputs k) else None) o) more | false ↦ more ]
        ] in
        cases (k == n) refl

-- ---- the partition in which an output stood

module _ (rate : ℕ) (outputs : OutputsData) (sets : AreSetUp outputs) (n : ℕ) (less : n < length outputs.names) where
  abbrev output : List ℕ
  output = name_of outputs n

  abbrev stood : Part → Bool
  stood p = is_output p.outputs n

  abbrev Known : Part → Type 0
  Known p = p.outputs.names ≡ outputs.names

  named_as_it_stood : (p : Part) (q : KeptPartition) → IsPartitionOf rate p q → Known p → is_named output q.outputs.items ≡ stood p
  named_as_it_stood p q is known =
      ap (is_named output) is.outputs
      ∙ ap (λ (names : List (List ℕ)). is_named output (map (λ (row : ℕ × List ℕ). row.1) (filter (λ (row : ℕ × List ℕ). is_output p.outputs row.0) (enumerate_from 0 names)))) known
      ∙ named_if_here output n (is_output p.outputs) 0 outputs.names (all_picked outputs n sets less) (omega arith) (omega (arith, less))

  none_first : (p : Part) (ps : List Part) → filter stood (p ∷ ps) ≡ [] → (stood p ≡ false) × (filter stood ps ≡ [])
  none_first p ps none =
      let cases : (b : Bool) → stood p ≡ b → cond b (p ∷ filter stood ps) (filter stood ps) ≡ [] → (stood p ≡ false) × (filter stood ps ≡ []) =
      λ b. elim b as (λ b. stood p ≡ b → cond b (p ∷ filter stood ps) (filter stood ps) ≡ [] → (stood p ≡ false) × (filter stood ps ≡ []))
      [ true ↦ λ e h. cc | false ↦ λ e h. (e, h) ] in
      cases (stood p) refl none

  home_none : (ps : List Part) (qs : List KeptPartition) (at : List ℕ) → Pairwise (IsPartitionOf rate) ps qs → Each Known ps → filter stood ps ≡ []
      → home output at (others qs) ≡ at
  home_none [] [] at are known none = refl
  home_none [] (q ∷ qs) at are known none = absurd are
  home_none (p ∷ ps) [] at are known none = absurd are
  home_none (p ∷ ps) (q ∷ qs) at are known none =
      let first = none_first p ps none in
      let off : is_named output q.outputs.items ≡ false = named_as_it_stood p q are.0 known.0 ∙ first.0 in
      let rest : home output at (others qs) ≡ at = home_none ps qs at are.1 known.1 first.1 in
      elim (is_default q) as (λ b. home output at (cond (not b) (q ∷ others qs) (others qs)) ≡ at)
      [ true ↦ rest | false ↦ ap (λ (b : Bool). home output (if b then q.name else at) (others qs)) off ∙ rest ]

  module _ (holder : Part) where
    abbrev IsHeld : Part → List Part → Type 0
    IsHeld p ps = ((stood p ≡ true) × (p ≡ holder) × (filter stood ps ≡ [])) ⊎ ((stood p ≡ false) × (filter stood ps ≡ holder ∷ []))

    held_by : (p : Part) (ps : List Part) → filter stood (p ∷ ps) ≡ holder ∷ [] → IsHeld p ps
    held_by p ps one =
        let cases : (b : Bool) → stood p ≡ b → cond b (p ∷ filter stood ps) (filter stood ps) ≡ holder ∷ [] → IsHeld p ps =
        λ b. elim b as (λ b. stood p ≡ b → cond b (p ∷ filter stood ps) (filter stood ps) ≡ holder ∷ [] → IsHeld p ps)
        [ true ↦ λ e h. inl (e, heads p holder (filter stood ps) [] h, tails p holder (filter stood ps) h) | false ↦ λ e h. inr (e, h) ] in
        cases (stood p) refl one

    home_one : (ps : List Part) (qs : List KeptPartition) → Pairwise (IsPartitionOf rate) ps qs → Each Known ps → filter stood ps ≡ holder ∷ []
        → home output (codes "default") (others qs) ≡ holder.name
    home_one [] qs are known one = cc
    home_one (p ∷ ps) [] are known one = absurd are
    home_one (p ∷ ps) (q ∷ qs) are known one = elim (held_by p ps one) [
      | inl h ↦
          let on : is_named output q.outputs.items ≡ true = named_as_it_stood p q are.0 known.0 ∙ h.0 in
          let own : q.name ≡ holder.name = are.0.name ∙ ap (λ (x : Part). x.name) h.1 in
          let cases : (b : Bool) → is_default q ≡ b → home output (codes "default") (cond (not b) (q ∷ others qs) (others qs)) ≡ holder.name =
          λ b. elim b as (λ b. is_default q ≡ b → home output (codes "default") (cond (not b) (q ∷ others qs) (others qs)) ≡ holder.name) [
            | true ↦ λ e. home_none ps qs (codes "default") are.1 known.1 h.2 ∙ sym (same_text q.name (codes "default") e) ∙ own
            | false ↦ λ e. ap (λ (b : Bool). home output (if b then q.name else codes "default") (others qs)) on ∙ home_none ps qs q.name are.1 known.1 h.2 ∙ own
          ] in
          cases (is_default q) refl
      | inr h ↦
          let off : is_named output q.outputs.items ≡ false = named_as_it_stood p q are.0 known.0 ∙ h.0 in
          let rest : home output (codes "default") (others qs) ≡ holder.name = home_one ps qs are.1 known.1 h.1 in
          elim (is_default q) as (λ b. home output (codes "default") (cond (not b) (q ∷ others qs) (others qs)) ≡ holder.name)
          [ true ↦ rest | false ↦ ap (λ (b : Bool). home output (if b then q.name else codes "default") (others qs)) off ∙ rest ]
    ]

    -- the name of that partition is no other's
    abbrev Owns : Part → Type 0
    Owns p = bytes_eq holder.name p.name ≡ stood p

    holder_new : (before : List (List ℕ)) (ps : List Part) (qs : List KeptPartition) → Pairwise (IsPartitionOf rate) ps qs → AreNew before qs → filter stood ps ≡ holder ∷ []
        → is_named holder.name before ≡ false
    holder_new before [] qs are new one = cc
    holder_new before (p ∷ ps) [] are new one = absurd are
    holder_new before (p ∷ ps) (q ∷ qs) are new one = elim (held_by p ps one) [
      | inl h ↦ ap (λ (x : List ℕ). is_named x before) (sym (are.0.name ∙ ap (λ (x : Part). x.name) h.1)) ∙ new.0
      | inr h ↦ (new_default holder.name before (q.name ∷ []) (holder_new (before ++ q.name ∷ []) ps qs are.1 new.1 h.1)).0
    ]

    none_owned : (before : List (List ℕ)) (ps : List Part) (qs : List KeptPartition) → Pairwise (IsPartitionOf rate) ps qs → AreNew before qs → filter stood ps ≡ []
        → is_named holder.name before ≡ true → Each Owns ps
    none_owned before [] qs are new none is = tt
    none_owned before (p ∷ ps) [] are new none is = absurd are
    none_owned before (p ∷ ps) (q ∷ qs) are new none is =
        let first = none_first p ps none in (
          ap (bytes_eq holder.name) (sym are.0.name) ∙ apart_named holder.name q.name before is new.0 ∙ sym first.0,
          none_owned (before ++ q.name ∷ []) ps qs are.1 new.1 first.1
              (list_any-append (λ other. bytes_eq holder.name other) before (q.name ∷ []) ∙ ap (λ (b : Bool). b || is_named holder.name (q.name ∷ [])) is),
        )

    one_owned : (before : List (List ℕ)) (ps : List Part) (qs : List KeptPartition) → Pairwise (IsPartitionOf rate) ps qs → AreNew before qs → filter stood ps ≡ holder ∷ []
        → Each Owns ps
    one_owned before [] qs are new one = tt
    one_owned before (p ∷ ps) [] are new one = absurd are
    one_owned before (p ∷ ps) (q ∷ qs) are new one = elim (held_by p ps one) [
      | inl h ↦
          let own : q.name ≡ holder.name = are.0.name ∙ ap (λ (x : Part). x.name) h.1 in
          let there : is_named holder.name (before ++ q.name ∷ []) ≡ true =
          list_any-append (λ other. bytes_eq holder.name other) before (q.name ∷ [])
          ∙ ap (λ (b : Bool). is_named holder.name before || (b || false)) (text_same holder.name q.name (sym own)) ∙ or_so (is_named holder.name before) in (
            text_same holder.name p.name (ap (λ (x : Part). x.name) (sym h.1)) ∙ sym h.0,
            none_owned (before ++ q.name ∷ []) ps qs are.1 new.1 h.2 there,
          )
      | inr h ↦
          let fresh : is_named holder.name (before ++ q.name ∷ []) ≡ false = holder_new (before ++ q.name ∷ []) ps qs are.1 new.1 h.1 in
          let apart : bytes_eq holder.name q.name ≡ false = (neither (bytes_eq holder.name q.name) false (new_default holder.name before (q.name ∷ []) fresh).1).0 in
          (ap (bytes_eq holder.name) (sym are.0.name) ∙ apart ∙ sym h.0, one_owned (before ++ q.name ∷ []) ps qs are.1 new.1 h.1)
    ]

-- ---- all partitions

module _ (setup : Setup) (library : Library) where
  pub each_told : (ps : List Part) (qs : List KeptPartition) → Pairwise (IsPartitionOf library.rate) ps qs → Each (CanComeBack library) ps
      → Each (λ (p : Part). HasRoom setup (length (queue_of p.queue))) ps → Each (CanBeTold setup) qs
  each_told [] [] are can room = tt
  each_told [] (q ∷ qs) are can room = absurd are
  each_told (p ∷ ps) [] are can room = absurd are
  each_told (p ∷ ps) (q ∷ qs) are can room =
      let size : songs_of (state_steps q.kept) ≡ length (queue_of p.queue) = songs_state q.kept ∙ ap length are.0.kept.queue ∙ length-map (queue_of p.queue) kept_entry in
      ((state_asks library p p can.0 q.kept are.0.kept, subst (HasRoom setup) (sym size) room.0), each_told ps qs are.1 can.1 room.1)

  -- where each output stood, and where it stands
  abbrev StandsSo : List KeptPartition → Part → Type 0
  StandsSo all p = (n : ℕ) → n < length setup.outputs.names → bytes_eq (home (name_of setup.outputs n) (codes "default") (others all)) p.name ≡ is_output p.outputs n

  each_stands : (all : List KeptPartition) (ps : List Part)
      → ((n : ℕ) → n < length setup.outputs.names → Each (λ (p : Part). bytes_eq (home (name_of setup.outputs n) (codes "default") (others all)) p.name ≡ is_output p.outputs n) ps)
      → Each (StandsSo all) ps
  each_stands all [] f = tt
  each_stands all (p ∷ ps) f = (λ n less. (f n less).0, each_stands all ps (λ n less. (f n less).1))

  owned : (all : List KeptPartition) (n : ℕ) (holder : Part) (ps : List Part) → home (name_of setup.outputs n) (codes "default") (others all) ≡ holder.name
      → Each (λ (p : Part). bytes_eq holder.name p.name ≡ is_output p.outputs n) ps
      → Each (λ (p : Part). bytes_eq (home (name_of setup.outputs n) (codes "default") (others all)) p.name ≡ is_output p.outputs n) ps
  owned all n holder [] is own = tt
  owned all n holder (p ∷ ps) is own = (ap (λ (x : List ℕ). bytes_eq x p.name) is ∙ own.0, owned all n holder ps is own.1)

  module _ (parts : List Part) (partitions : List KeptPartition) (a : AreKeptOf setup library parts partitions) where
    stand_so : Each (StandsSo partitions) parts
    stand_so = each_stands partitions parts
        (λ n less.
        let one = a.share.one n less in
        owned partitions n one.0 parts
        (home_one library.rate setup.outputs a.outputs n less one.0 parts partitions a.kept a.share.names one.1)
        (one_owned library.rate setup.outputs a.outputs n less one.0 [] parts partitions a.kept a.fine.apart one.1))

    -- a partition that is found is back
    one_back : (i : Image) (p : Part) (q : KeptPartition) → IsPartitionOf library.rate p q → CanComeBack library p → StandsSo partitions p → p.outputs.names ≡ setup.outputs.names
        → ((n : ℕ) → length setup.outputs.names ≤ n → is_output p.outputs n ≡ false)
        → ((part : Part) × IsFound q.name i part × HasPartition library setup.outputs partitions part q) → IsBackIn library.rate i p q
    one_back i p q is can so known none (other, found, has) =
        let stands : (n : ℕ) → is_output other.outputs n ≡ is_output p.outputs n =
        λ n. elim (cases_lt n (length setup.outputs.names)) [
          | inl less ↦ has.stands n less ∙ ap (bytes_eq (home (name_of setup.outputs n) (codes "default") (others partitions))) is.name ∙ so n less
          | inr past ↦ has.no_more n past ∙ sym (none n past)
        ] in
        let said : (n : ℕ) → is_output p.outputs n ≡ true → said_of n q.kept.outputs.items ≡ Some (is_enabled p.outputs n) =
        λ n on. elim (cases_lt n (length setup.outputs.names)) [
          | inl less ↦
              ap (said_of n) is.switched
              ∙ ap (λ (names : List (List ℕ)). said_of n (map (kept_output p.outputs) (filter (λ (row : ℕ × List ℕ). is_output p.outputs row.0) (enumerate_from 0 names)))) known
              ∙ said_if_here [] n (is_output p.outputs) p.outputs 0 setup.outputs.names (omega arith) (omega (arith, less)) on
          | inr past ↦ let off : is_output p.outputs n ≡ false = none n past in cc
        ] in (
          other,
          ap (λ (name : List ℕ). find (λ (p : Part). bytes_eq p.name name) i.parts) (sym is.name) ∙ found,
          record {
            back = is_back library p other can q.kept is.kept has.has;
            stands = stands;
            switched = λ n on. has.has.outputs.as_said n (is_enabled p.outputs n) (said n on) (stands n ∙ on) (has.sound n);
          },
        )

    all_back : (i : Image) (ps : List Part) (qs : List KeptPartition) → Pairwise (IsPartitionOf library.rate) ps qs → Each (CanComeBack library) ps → Each (StandsSo partitions) ps
        → Each (λ (p : Part). p.outputs.names ≡ setup.outputs.names) ps
        → Each (λ (p : Part). (n : ℕ) → length setup.outputs.names ≤ n → is_output p.outputs n ≡ false) ps
        → Each (λ (q : KeptPartition). (part : Part) × IsFound q.name i part × HasPartition library setup.outputs partitions part q) qs
        → Pairwise (IsBackIn library.rate i) ps qs
    all_back i [] [] are can so known none found = tt
    all_back i [] (q ∷ qs) are can so known none found = absurd are
    all_back i (p ∷ ps) [] are can so known none found = absurd are
    all_back i (p ∷ ps) (q ∷ qs) are can so known none found =
        (one_back i p q are.0 can.0 so.0 known.0 none.0 found.0, all_back i ps qs are.1 can.1 so.1 known.1 none.1 found.1)

as_many : (rate : ℕ) (ps : List Part) (qs : List KeptPartition) → Pairwise (IsPartitionOf rate) ps qs → length ps ≡ length qs
as_many rate [] [] are = refl
as_many rate [] (q ∷ qs) are = absurd are
as_many rate (p ∷ ps) [] are = absurd are
as_many rate (p ∷ ps) (q ∷ qs) are = ap (λ (n : ℕ). suc n) (as_many rate ps qs are.1)

pub all_players_come_back : AllPlayersComeBack
all_players_come_back seat number setup library parts partitions a =
    let i : Image = restored seat number setup library partitions in
    let has : HasPartitions library setup.outputs partitions i =
    partitions_come_back seat number setup library partitions a.outputs a.fine (each_told setup library parts partitions a.kept a.can a.room) in
    record {
      each = all_back setup library parts partitions a i parts partitions a.kept a.can (stand_so setup library parts partitions a) a.share.names a.share.no_more has.each;
      alone = has.alone ∙ sym (as_many library.rate parts partitions a.kept);
    }
