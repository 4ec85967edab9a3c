-- A player between the lines of two partitions, and among those of one.
use Rattle.std.proofs.Common.{◌≡◌, ℕ, ◌<◌, ◌≤◌, ◌==◌, Bool, true, false, ◌||◌, List, [], ◌∷◌, ◌++◌, length, map, Some, None, refl, ap, sym, ◌∙◌, inl, inr, if◌then◌else◌}
use Rattle.std.specs.Prelude.{slice_index_or}
use Rattle.std.specs.List.{position}
use Rattle.std.specs.Str.{bytes_eq}
use Rattle.std.proofs.lemmas.Bool.{cases_lt, eqb-true}
use Rattle.std.proofs.lemmas.List.{get_or-replicate, get_or_past}
use Rattle.connected_clients.specs.Clients.{client_of}
use Rattle.kept_state.specs.Lines.{Line}
use Rattle.kept_state.specs.Partitions.{Pairwise}
use Rattle.kept_state.specs.PlayerReading.{is_named}
use Rattle.kept_state.specs.PlayerReading.{PlayerStep as step}
use Rattle.kept_state.specs.Reading.{opened}
use Rattle.kept_state.specs.declared.partitions.KeptPartition.{KeptPartition}
use Rattle.mpd_command.specs.Names.{fewest}
use Rattle.mpd_command.specs.Requests.{request_of}
use Rattle.partition_table.specs.Parts.{changed, holding, known, moved_output, part_at}
use Rattle.partition.specs.Image.{Image, openings_of}
use Rattle.partition.specs.Step.{next_image}
use Rattle.partition.specs.declared.state.Setup.{Setup}
use Rattle.partition_commands.specs.Partitions.{is_partition_name, output_named, outputs_elsewhere}
use Rattle.player_events.specs.declared.event.Event.{Event}
use Rattle.player_state.specs.Effects.{part_after}
use Rattle.player_state.specs.Outputs.{all_off, no_outputs}
use Rattle.player_state.specs.declared.effect.Effect.{Effect}
use Rattle.player_state.specs.declared.outputs.Carried.{Carried}
use Rattle.player_state.specs.declared.state.Client.{Client}
use Rattle.player_state.specs.declared.state.Library.{Library}
use Rattle.player_state.specs.declared.state.Part.{Part}
use Rattle.queue_commands.specs.Queue.{CanAdd}
use Rattle.state_laws.specs.Bytes.{bytes_of, read_bytes}
use Rattle.state_laws.specs.Having.{Has}
use Rattle.state_laws.specs.Partitions.{Each, after_all, after_lines, bytes_of_step}
use Rattle.state_laws.specs.Saying.{after_step, after_steps, asking, first_options, is_refused}
use Rattle.state_laws.proofs.Alike.{HasBack, IsElsewhere}
use Rattle.state_laws.proofs.Events.{one_part}
use Rattle.state_laws.proofs.Numbers.{AreNumbered, names_of, neither, same_text, text_same}
use Rattle.state_laws.proofs.Spread.{Fit, IsNamedSo}

-- ---- lists

pub each_with : {A : Type 0} (P : A → Type 0) (xs : List A) (y : A) → Each P xs → P y → Each P (xs ++ y ∷ [])
each_with P [] y all last = (last, tt)
each_with P (x ∷ xs) y all last = (all.0, each_with P xs y all.1 last)

pub pairwise_with : {A B : Type 0} (R : A → B → Type 0) (xs : List A) (ys : List B) (x : A) (y : B) → Pairwise R xs ys → R x y → Pairwise R (xs ++ x ∷ []) (ys ++ y ∷ [])
pairwise_with R [] [] x y all last = (last, tt)
pairwise_with R [] (b ∷ ys) x y all last = absurd all
pairwise_with R (a ∷ xs) [] x y all last = absurd all
pairwise_with R (a ∷ xs) (b ∷ ys) x y all last = (all.0, pairwise_with R xs ys x y all.1 last)

or_true : (a : Bool) → (a || true) ≡ true
or_true true = refl
or_true false = refl

-- a name among the first ones
pub named_before : (name : List ℕ) (ps qs : List Part) → is_named name (names_of ps) ≡ true → is_named name (names_of (ps ++ qs)) ≡ true
named_before name [] qs is = cc
named_before name (p ∷ ps) qs is =
    let cases : (b : Bool) → bytes_eq name p.name ≡ b → (b || is_named name (names_of ps)) ≡ true → (b || is_named name (names_of (ps ++ qs))) ≡ true =
    λ b. elim b as (λ b. bytes_eq name p.name ≡ b → (b || is_named name (names_of ps)) ≡ true → (b || is_named name (names_of (ps ++ qs))) ≡ true)
    [ true ↦ λ e h. refl | false ↦ λ e h. named_before name ps qs h ] in
    cases (bytes_eq name p.name) refl is

pub named_last : (name : List ℕ) (ps : List Part) (own : Part) → own.name ≡ name → is_named name (names_of (ps ++ own ∷ [])) ≡ true
named_last name [] own is = ap (λ (b : Bool). b || false) (text_same name own.name (sym is))
named_last name (p ∷ ps) own is = ap (λ (b : Bool). bytes_eq name p.name || b) (named_last name ps own is) ∙ or_true (bytes_eq name p.name)

-- a name that is there is no new one
pub apart_named : (a b : List ℕ) (names : List (List ℕ)) → is_named a names ≡ true → is_named b names ≡ false → bytes_eq a b ≡ false
apart_named a b names is none =
    let cases : (x : Bool) → bytes_eq a b ≡ x → x ≡ false =
    λ x. elim x as (λ x. bytes_eq a b ≡ x → x ≡ false)
    [ true ↦ λ e. (let there : is_named b names ≡ true = ap (λ (n : List ℕ). is_named n names) (sym (same_text a b e)) ∙ is in cc) | false ↦ λ e. refl ] in
    cases (bytes_eq a b) refl

pub not_empty_name : (name : List ℕ) → is_partition_name name ≡ true → bytes_eq [] name ≡ false
not_empty_name [] is = cc
not_empty_name (b ∷ bs) is = refl

pub off_at : (n : ℕ) → slice_index_or all_off n false ≡ false
off_at n = elim (cases_lt n 8) [ inl less ↦ get_or-replicate 8 n false false less | inr past ↦ get_or_past all_off n false past ]

pub aligned_front : (to : ℕ) (name : List ℕ) (ps : List Part) → Each (IsElsewhere to) ps → is_named name (names_of ps) ≡ false → Each (IsNamedSo to name) ps
aligned_front to name [] away new = tt
aligned_front to name (p ∷ ps) away new =
    let both = neither (bytes_eq name p.name) (is_named name (names_of ps)) new in
    (away.0 ∙ sym both.0, aligned_front to name ps away.1 both.1)

pub aligned_moved : (m at to : ℕ) (c : Carried) (name : List ℕ) (ps : List Part) → Each (IsNamedSo to name) ps → Each (IsNamedSo to name) (map (moved_output m at (Some c)) ps)
aligned_moved m at to c name [] are = tt
aligned_moved m at to c name (p ∷ ps) are = (are.0, aligned_moved m at to c name ps are.1)

-- the first partition of a number, where there are others behind
pub found_before : (index : ℕ) (ps qs : List Part) (p : Part) → part_at index ps ≡ Some p → part_at index (ps ++ qs) ≡ Some p
found_before index [] qs p is = cc
found_before index (q ∷ ps) qs p is =
    let cases : (b : Bool) → (q.index == index) ≡ b → (if b then Some q else part_at index ps) ≡ Some p → (if b then Some q else part_at index (ps ++ qs)) ≡ Some p =
    λ b. elim b as (λ b. (q.index == index) ≡ b → (if b then Some q else part_at index ps) ≡ Some p → (if b then Some q else part_at index (ps ++ qs)) ≡ Some p)
    [ true ↦ λ e h. h | false ↦ λ e h. found_before index ps qs p h ] in
    cases (q.index == index) refl is

pub changed_before : (rate index : ℕ) (effect : Effect) (ps qs : List Part) (p : Part) → part_at index ps ≡ Some p
    → changed rate index effect (ps ++ qs) ≡ changed rate index effect ps ++ qs
changed_before rate index effect [] qs p is = cc
changed_before rate index effect (q ∷ ps) qs p is =
    let cases : (b : Bool) → (q.index == index) ≡ b → (if b then Some q else part_at index ps) ≡ Some p
    → (if b then part_after rate q effect ∷ (ps ++ qs) else q ∷ changed rate index effect (ps ++ qs))
    ≡ (if b then part_after rate q effect ∷ ps else q ∷ changed rate index effect ps) ++ qs =
    λ b. elim b as (λ b. (q.index == index) ≡ b → (if b then Some q else part_at index ps) ≡ Some p
    → (if b then part_after rate q effect ∷ (ps ++ qs) else q ∷ changed rate index effect (ps ++ qs))
    ≡ (if b then part_after rate q effect ∷ ps else q ∷ changed rate index effect ps) ++ qs)
    [ true ↦ λ e h. refl | false ↦ λ e h. ap (λ (xs : List Part). q ∷ xs) (changed_before rate index effect ps qs p h) ] in
    cases (q.index == index) refl is

pub index_found : (index : ℕ) (ps : List Part) (p : Part) → part_at index ps ≡ Some p → p.index ≡ index
index_found index [] p is = cc
index_found index (q ∷ ps) p is =
    let cases : (b : Bool) → (q.index == index) ≡ b → (if b then Some q else part_at index ps) ≡ Some p → p.index ≡ index =
    λ b. elim b as (λ b. (q.index == index) ≡ b → (if b then Some q else part_at index ps) ≡ Some p → p.index ≡ index) [
      | true ↦ λ e h. ap (λ (x : Part). x.index) (sym (one_part q p h)) ∙ eqb-true q.index index e
      | false ↦ λ e h. index_found index ps p h
    ] in
    cases (q.index == index) refl is

-- no output of a new partition is there, and it knows all names
pub elsewhere_is : (names : List (List ℕ)) (home : ℕ → List ℕ) (index : ℕ) (ps : List Part) (p : Part) → part_at index ps ≡ Some p → Each (Fit names home) ps
    → outputs_elsewhere (map known ps) ≡ record no_outputs { names = names }
elsewhere_is names home index [] p is fit = cc
elsewhere_is names home index (q ∷ ps) p is fit = ap (λ (ns : List (List ℕ)). record no_outputs { names = ns }) fit.0.all

-- the number of an output of a name
pub numbers_of : (names : List (List ℕ)) (home : ℕ → List ℕ) (name : List ℕ) (front : List Part) (own : Part) → Each (Fit names home) (front ++ own ∷ [])
    → output_named name (map known (front ++ own ∷ [])) ≡ position (λ own. bytes_eq own name) names
numbers_of names home name [] own fit = ap (position (λ own. bytes_eq own name)) fit.0.all
numbers_of names home name (p ∷ front) own fit = ap (position (λ own. bytes_eq own name)) fit.0.all

-- the partition that has an output
pub record Held (names : List (List ℕ)) (home : ℕ → List ℕ) (m to : ℕ) (name : List ℕ) (ps : List Part) : Type 0 where
  pub part : Part
  pub found : holding m (map known ps) ≡ Some (known part)
  pub here : bytes_eq (home m) part.name ≡ true
  pub aligned : IsNamedSo to name part
  pub fit : Fit names home part

pub is_held : (names : List (List ℕ)) (home : ℕ → List ℕ) (m to : ℕ) (name : List ℕ) (ps : List Part) → Each (Fit names home) ps → Each (IsNamedSo to name) ps
    → is_named (home m) (names_of ps) ≡ true → Held names home m to name ps
is_held names home m to name [] fit are is = cc
is_held names home m to name (p ∷ ps) fit are is =
    let cases : (b : Bool) → bytes_eq (home m) p.name ≡ b → (b || is_named (home m) (names_of ps)) ≡ true → Held names home m to name (p ∷ ps) =
    λ b. elim b as (λ b. bytes_eq (home m) p.name ≡ b → (b || is_named (home m) (names_of ps)) ≡ true → Held names home m to name (p ∷ ps)) [
      | true ↦ λ e h. record {
        part = p;
        found = ap (λ (b : Bool). if b then Some (known p) else holding m (map known ps)) (fit.0.stands m ∙ e);
        here = e;
        aligned = are.0;
        fit = fit.0;
      }
      | false ↦ λ e h.
          let more : Held names home m to name ps = is_held names home m to name ps fit.1 are.1 h in
          record {
            part = more.part;
            found = ap (λ (b : Bool). if b then Some (known p) else holding m (map known ps)) (fit.0.stands m ∙ e) ∙ more.found;
            here = more.here;
            aligned = more.aligned;
            fit = more.fit;
          }
    ] in
    cases (bytes_eq (home m) p.name) refl is

-- ---- lines

pub one_line : (seat number : ℕ) (line : List ℕ) (i : Image) → after_lines seat number (line ∷ []) i ≡ next_image seat i (asking number (request_of line fewest))
one_line seat number line i =
    let next : Image = next_image seat i (asking number (request_of line fewest)) in
    elim (is_refused i (asking number (request_of line fewest))) as (λ b. (if b then next else next) ≡ next) [ true ↦ refl | false ↦ refl ]

pub lines_joined : (seat number : ℕ) (xs ys : List (List (List ℕ))) (i : Image) → after_all seat number (xs ++ ys) i ≡ after_all seat number ys (after_all seat number xs i)
lines_joined seat number [] ys i = refl
lines_joined seat number (x ∷ xs) ys i = lines_joined seat number xs ys (after_lines seat number x i)

own_lines : (seat number : ℕ) (lines : List Line) (i : Image) → after_lines seat number (map bytes_of lines) i ≡ after_step seat number read_bytes lines i
own_lines seat number [] i = refl
own_lines seat number (line ∷ lines) i =
    let event : Event = asking number (read_bytes line) in
    let next : Image = next_image seat i event in
    ap (λ (j : Image). if is_refused i event then next else j) (own_lines seat number lines next)

pub own_all : (seat number : ℕ) (steps : List (List Line)) (i : Image) → after_all seat number (map bytes_of_step (map step.Own steps)) i ≡ after_steps seat number read_bytes steps i
own_all seat number [] i = refl
own_all seat number (lines ∷ steps) i =
    ap (after_all seat number (map bytes_of_step (map step.Own steps))) (own_lines seat number lines i)
    ∙ own_all seat number steps (after_step seat number read_bytes lines i)

-- ---- a player between the lines of two partitions, and among those of one

-- partitions that have what is kept of these, and in which outputs stand as their homes say
pub record Ready (number : ℕ) (library : Library) (setup : Setup) (home : ℕ → List ℕ) (kept : List KeptPartition) (i : Image) : Type 0 where
  pub same : i.shared.library ≡ library
  pub openings : i.shared.openings ≡ openings_of setup
  pub client : Client
  pub there : client_of number i.clients ≡ Some client
  pub listens : client.pending.waiting ≡ None
  pub part : Part
  pub placed : part_at client.index i.parts ≡ Some part
  pub numbered : AreNumbered 0 i.parts
  pub fit : Each (Fit setup.outputs.names home) i.parts
  pub have : Pairwise (HasBack library) i.parts kept
  pub inside : (n : ℕ) → n < length setup.outputs.names → is_named (home n) (names_of i.parts) ≡ true
  pub outside : (n : ℕ) → length setup.outputs.names ≤ n → home n ≡ []

-- the same, and the client is in the last one, which is new
pub record Filling (number : ℕ) (library : Library) (setup : Setup) (home : ℕ → List ℕ) (kept : List KeptPartition) (name : List ℕ) (songs : ℕ) (i : Image) : Type 0 where
  pub same : i.shared.library ≡ library
  pub openings : i.shared.openings ≡ openings_of setup
  pub client : Client
  pub there : client_of number i.clients ≡ Some client
  pub listens : client.pending.waiting ≡ None
  pub front : List Part
  pub own : Part
  pub index : own.index ≡ client.index
  pub parts : i.parts ≡ front ++ own ∷ []
  pub numbered : AreNumbered 0 (front ++ own ∷ [])
  pub apart : part_at own.index front ≡ None
  pub fit : Each (Fit setup.outputs.names home) (front ++ own ∷ [])
  pub have : Pairwise (HasBack library) front kept
  pub named : own.name ≡ name
  pub aligned : Each (IsNamedSo own.index name) (front ++ own ∷ [])
  pub has : Has library.rate own (opened first_options)
  pub room : CanAdd own songs
  pub inside : (n : ℕ) → n < length setup.outputs.names → is_named (home n) (names_of (front ++ own ∷ [])) ≡ true
  pub outside : (n : ℕ) → length setup.outputs.names ≤ n → home n ≡ []
