-- Which outputs stand in which partitions, and what is left of partitions after an output was moved.
use Rattle.std.proofs.Common.{◌≡◌, ◌≢◌, ℕ, ◌<◌, ◌==◌, Bool, true, false, List, [], ◌∷◌, length, map, Option, Some, None, refl, ap, sym, ◌∙◌, subst, arith, inl, inr, if◌then◌else◌}
use Rattle.std.specs.Prelude.{slice_index_or, slice_set}
use Rattle.std.specs.Str.{bytes_eq}
use Rattle.std.proofs.lemmas.Bool.{cases_lt, eqb-false, eqb-true}
use Rattle.std.proofs.lemmas.List.{get_or_past, get_or-set_other, get_or-set_same, length-set, set_past}
use Rattle.kept_state.specs.Reading.{Player}
use Rattle.kept_state.specs.declared.kept.KeptOutput.{KeptOutput}
use Rattle.partition_table.specs.Parts.{moved_output, once_more, outputs_moved}
use Rattle.player_state.specs.Outputs.{OutputsData, brought, has_failed, is_output, released}
use Rattle.player_state.specs.declared.outputs.Carried.{Carried}
use Rattle.player_state.specs.declared.state.Part.{Part}
use Rattle.state_laws.specs.Having.{AreSwitched, Has}
use Rattle.state_laws.specs.Partitions.{Each}
use Rattle.state_laws.proofs.Lines.{current_same, options_same}

-- A partition has the outputs whose homes are in it: each number has a home, the name of a partition.
pub record Fit (names : List (List ℕ)) (home : ℕ → List ℕ) (p : Part) : Type 0 where
  pub all : p.outputs.names ≡ names
  pub here : length p.outputs.here ≡ 8
  pub stands : (n : ℕ) → is_output p.outputs n ≡ bytes_eq (home n) p.name
  pub sound : (n : ℕ) → has_failed p.outputs n ≡ false

-- ---- flags

-- a flag is set to what all are
set_false : (flags : List Bool) (m n : ℕ) (v : Bool) → v ≡ false → slice_index_or flags n false ≡ false → slice_index_or (slice_set flags m v) n false ≡ false
set_false flags m n v off was =
    let cases : (b : Bool) → (n == m) ≡ b → slice_index_or (slice_set flags m v) n false ≡ false =
    λ b. elim b as (λ b. (n == m) ≡ b → slice_index_or (slice_set flags m v) n false ≡ false) [
      | true ↦ λ e. elim (cases_lt m (length flags)) [
        | inl less ↦ ap (λ (k : ℕ). slice_index_or (slice_set flags m v) k false) (eqb-true n m e) ∙ get_or-set_same flags m v false less ∙ off
        | inr past ↦ ap (λ (xs : List Bool). slice_index_or xs n false) (set_past flags m v past) ∙ was
      ]
      | false ↦ λ e. get_or-set_other flags m n v false (eqb-false n m e) ∙ was
    ] in
    cases (n == m) refl

flag_set : (flags : List Bool) (m n : ℕ) (v : Bool) → m < length flags
    → slice_index_or (slice_set flags m v) n false ≡ (if n == m then v else slice_index_or flags n false)
flag_set flags m n v less =
    let cases : (b : Bool) → (n == m) ≡ b → slice_index_or (slice_set flags m v) n false ≡ (if b then v else slice_index_or flags n false) =
    λ b. elim b as (λ b. (n == m) ≡ b → slice_index_or (slice_set flags m v) n false ≡ (if b then v else slice_index_or flags n false)) [
      | true ↦ λ e. ap (λ (k : ℕ). slice_index_or (slice_set flags m v) k false) (eqb-true n m e) ∙ get_or-set_same flags m v false less
      | false ↦ λ e. get_or-set_other flags m n v false (eqb-false n m e)
    ] in
    cases (n == m) refl

-- a flag that was so already
flag_was : (flags : List Bool) (m n : ℕ) (v : Bool) → slice_index_or flags m false ≡ v
    → slice_index_or flags n false ≡ (if n == m then v else slice_index_or flags n false)
flag_was flags m n v was =
    let cases : (b : Bool) → (n == m) ≡ b → slice_index_or flags n false ≡ (if b then v else slice_index_or flags n false) =
    λ b. elim b as (λ b. (n == m) ≡ b → slice_index_or flags n false ≡ (if b then v else slice_index_or flags n false))
    [ true ↦ λ e. ap (λ (k : ℕ). slice_index_or flags k false) (eqb-true n m e) ∙ was | false ↦ λ e. refl ] in
    cases (n == m) refl

-- ---- an output that is moved

module _ (m : ℕ) (c : Carried) where
  abbrev after : Bool → OutputsData → OutputsData
  after comes outputs = outputs_moved m comes c outputs

  -- it stands where it came, and all others stand where they stood
  here_after : (comes : Bool) (outputs : OutputsData) (n : ℕ) → m < length outputs.here
      → is_output (after comes outputs) n ≡ (if n == m then comes else is_output outputs n)
  here_after true outputs n less =
      let cases : (b : Bool) → is_output outputs m ≡ b
      → is_output (if b then outputs else brought outputs m (once_more c)) n ≡ (if n == m then true else is_output outputs n) =
      λ b. elim b as (λ b. is_output outputs m ≡ b
      → is_output (if b then outputs else brought outputs m (once_more c)) n ≡ (if n == m then true else is_output outputs n))
      [ true ↦ λ e. flag_was outputs.here m n true e | false ↦ λ e. flag_set outputs.here m n true less ] in
      cases (is_output outputs m) refl
  here_after false outputs n less =
      let cases : (b : Bool) → is_output outputs m ≡ b
      → is_output (if b then released outputs m else outputs) n ≡ (if n == m then false else is_output outputs n) =
      λ b. elim b as (λ b. is_output outputs m ≡ b
      → is_output (if b then released outputs m else outputs) n ≡ (if n == m then false else is_output outputs n))
      [ true ↦ λ e. flag_set outputs.here m n false less | false ↦ λ e. flag_was outputs.here m n false e ] in
      cases (is_output outputs m) refl

  sound_after : (comes : Bool) (outputs : OutputsData) (n : ℕ) → c.failed ≡ false → has_failed outputs n ≡ false → has_failed (after comes outputs) n ≡ false
  sound_after true outputs n off was =
      elim (is_output outputs m) as (λ b. has_failed (if b then outputs else brought outputs m (once_more c)) n ≡ false)
      [ true ↦ was | false ↦ set_false outputs.failed m n c.failed off was ]
  sound_after false outputs n off was =
      elim (is_output outputs m) as (λ b. has_failed (if b then released outputs m else outputs) n ≡ false)
      [ true ↦ set_false outputs.failed m n false refl was | false ↦ was ]

  names_after : (comes : Bool) (outputs : OutputsData) → (after comes outputs).names ≡ outputs.names
  names_after true outputs = elim (is_output outputs m) as (λ b. (if b then outputs else brought outputs m (once_more c)).names ≡ outputs.names) [ true ↦ refl | false ↦ refl ]
  names_after false outputs = elim (is_output outputs m) as (λ b. (if b then released outputs m else outputs).names ≡ outputs.names) [ true ↦ refl | false ↦ refl ]

  length_after : (comes : Bool) (outputs : OutputsData) → length (after comes outputs).here ≡ length outputs.here
  length_after true outputs =
      elim (is_output outputs m) as (λ b. length (if b then outputs else brought outputs m (once_more c)).here ≡ length outputs.here)
      [ true ↦ refl | false ↦ length-set outputs.here m true ]
  length_after false outputs =
      elim (is_output outputs m) as (λ b. length (if b then released outputs m else outputs).here ≡ length outputs.here)
      [ true ↦ length-set outputs.here m false | false ↦ refl ]

  known_after : (comes : Bool) (outputs : OutputsData) → length outputs.enabled ≡ length outputs.here
      → length (after comes outputs).enabled ≡ length (after comes outputs).here
  known_after true outputs known =
      elim (is_output outputs m) as (λ b. length (if b then outputs else brought outputs m (once_more c)).enabled ≡ length (if b then outputs else brought outputs m (once_more c)).here)
      [ true ↦ known | false ↦ length-set outputs.enabled m c.enabled ∙ known ∙ sym (length-set outputs.here m true) ]
  known_after false outputs known =
      elim (is_output outputs m) as (λ b. length (if b then released outputs m else outputs).enabled ≡ length (if b then released outputs m else outputs).here)
      [ true ↦ length-set outputs.enabled m false ∙ known ∙ sym (length-set outputs.here m false) | false ↦ known ]

released_flag : (flags : List Bool) (m n : ℕ) → slice_index_or (slice_set flags m false) n false ≡ true → n ≢ m
released_flag flags m n on same =
    let off : slice_index_or (slice_set flags m false) n false ≡ false = elim (cases_lt m (length flags)) [
      | inl less ↦ ap (λ (k : ℕ). slice_index_or (slice_set flags m false) k false) same ∙ get_or-set_same flags m false false less
      | inr past ↦ ap (λ (k : ℕ). slice_index_or (slice_set flags m false) k false) same ∙ ap (λ (xs : List Bool). slice_index_or xs m false) (set_past flags m false past) ∙ get_or_past flags m false past
    ] in
    cc

-- an output that goes leaves all others as they were
still_switched : (outputs : OutputsData) (m : ℕ) (said : List KeptOutput) → AreSwitched outputs said → AreSwitched (released outputs m) said
still_switched outputs m said h = record {
  known = length-set outputs.enabled m false ∙ h.known ∙ sym (length-set outputs.here m false);
  as_said = λ n on so here fine.
      let other : n ≢ m = released_flag outputs.here m n here in
      get_or-set_other outputs.enabled m n false false other
      ∙ h.as_said n on so (sym (get_or-set_other outputs.here m n false false other) ∙ here) (sym (get_or-set_other outputs.failed m n false false other) ∙ fine);
}

-- of outputs of which nothing was said
pub unsaid : (outputs : OutputsData) → length outputs.enabled ≡ length outputs.here → AreSwitched outputs []
unsaid outputs known = record { known = known; as_said = λ n on so here fine. cc }

pub has_outputs : (rate : ℕ) (p : Part) (player : Player) (outputs : OutputsData) → AreSwitched outputs player.outputs → Has rate p player
    → Has rate (record p { outputs = outputs }) player
has_outputs rate p player outputs switched h = record {
  options = options_same p (record p { outputs = outputs }) player.options refl refl refl h.options;
  outputs = switched;
  queue = h.queue;
  song = current_same rate p (record p { outputs = outputs }) player.song refl refl refl refl h.song;
}

-- a partition to which an output does not come has what it had
pub has_left : (rate m to : ℕ) (c : Option Carried) (p : Part) (player : Player) → (p.index == to) ≡ false → Has rate p player → Has rate (moved_output m to c p) player
has_left rate m to None p player other h = h
has_left rate m to (Some c) p player other h =
    let left : AreSwitched (outputs_moved m false c p.outputs) player.outputs =
    elim (is_output p.outputs m) as (λ b. AreSwitched (if b then released p.outputs m else p.outputs) player.outputs)
    [ true ↦ still_switched p.outputs m player.outputs h.outputs | false ↦ h.outputs ] in
    subst (λ (b : Bool). Has rate (record p { outputs = outputs_moved m b c p.outputs }) player) (sym other)
    (has_outputs rate p player (outputs_moved m false c p.outputs) left h)

-- one to which it comes has what it had, where nothing was said of outputs
pub has_more : (rate m to : ℕ) (c : Option Carried) (p : Part) (player : Player) → player.outputs ≡ [] → Has rate p player → Has rate (moved_output m to c p) player
has_more rate m to None p player none h = h
has_more rate m to (Some c) p player none h =
    has_outputs rate p player (outputs_moved m (p.index == to) c p.outputs)
    (subst (AreSwitched (outputs_moved m (p.index == to) c p.outputs)) (sym none)
    (unsaid (outputs_moved m (p.index == to) c p.outputs) (known_after m c (p.index == to) p.outputs h.outputs.known))) h

-- ---- all partitions

-- the home of an output that is moved
abbrev pub moved_home : ℕ → List ℕ → (ℕ → List ℕ) → ℕ → List ℕ
moved_home m name home n = if n == m then name else home n

home_cases : (b comes : Bool) (x : Bool) (name new old : List ℕ) → comes ≡ bytes_eq new name → x ≡ bytes_eq old name
    → (if b then comes else x) ≡ bytes_eq (if b then new else old) name
home_cases true comes x name new old e f = e
home_cases false comes x name new old e f = f

-- the partition of a name is the one of a number
abbrev pub IsNamedSo : ℕ → List ℕ → Part → Type 0
IsNamedSo to name p = (p.index == to) ≡ bytes_eq name p.name

pub fit_moved : (names : List (List ℕ)) (home : ℕ → List ℕ) (m to : ℕ) (name : List ℕ) (c : Carried) (p : Part) → m < 8 → c.failed ≡ false
    → IsNamedSo to name p → Fit names home p → Fit names (moved_home m name home) (moved_output m to (Some c) p)
fit_moved names home m to name c p low sound is h = record {
  all = names_after m c (p.index == to) p.outputs ∙ h.all;
  here = length_after m c (p.index == to) p.outputs ∙ h.here;
  stands = λ n. here_after m c (p.index == to) p.outputs n (omega (arith, low, h.here))
      ∙ home_cases (n == m) (p.index == to) (is_output p.outputs n) p.name name (home n) is (h.stands n);
  sound = λ n. sound_after m c (p.index == to) p.outputs n sound (h.sound n);
}

pub all_fit_moved : (names : List (List ℕ)) (home : ℕ → List ℕ) (m to : ℕ) (name : List ℕ) (c : Carried) (ps : List Part) → m < 8 → c.failed ≡ false
    → Each (IsNamedSo to name) ps → Each (Fit names home) ps → Each (Fit names (moved_home m name home)) (map (moved_output m to (Some c)) ps)
all_fit_moved names home m to name c [] low sound are h = tt
all_fit_moved names home m to name c (p ∷ ps) low sound are h =
    (fit_moved names home m to name c p low sound are.0 h.0, all_fit_moved names home m to name c ps low sound are.1 h.1)

-- homes that are the same for each output
fit_same : (names : List (List ℕ)) (home other : ℕ → List ℕ) (p : Part) → ((n : ℕ) → home n ≡ other n) → Fit names home p → Fit names other p
fit_same names home other p same h = record {
  all = h.all;
  here = h.here;
  stands = λ n. h.stands n ∙ ap (λ (x : List ℕ). bytes_eq x p.name) (same n);
  sound = h.sound;
}

pub all_fit_same : (names : List (List ℕ)) (home other : ℕ → List ℕ) (ps : List Part) → ((n : ℕ) → home n ≡ other n) → Each (Fit names home) ps → Each (Fit names other) ps
all_fit_same names home other [] same h = tt
all_fit_same names home other (p ∷ ps) same h = (fit_same names home other p same h.0, all_fit_same names home other ps same h.1)
