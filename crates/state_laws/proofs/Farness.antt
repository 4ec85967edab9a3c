-- The lines of partitions pass no limit, where there is one left for each.
use Rattle.std.proofs.Common.{◌≡◌, ℕ, suc, ◌+◌, ◌≤◌, ◌==◌, Bool, true, false, not, ◌&&◌, ◌||◌, nat_le, List, [], ◌∷◌, length, map, Option, Some, None, refl, ap, sym, ◌∙◌, subst, arith, inl, inr, if◌then◌else◌}
use Rattle.std.specs.Prelude.{slice_index_or, slice_set}
use Rattle.std.proofs.lemmas.Bool.{cases_lt, eqb-false, eqb-true, lt-leb}
use Rattle.std.proofs.lemmas.List.{get_or-replicate, get_or-set_other, get_or-set_same, get_or_past, set_past}
use Rattle.connected_clients.specs.Clients.{client_of}
use Rattle.kept_state.specs.Partitions.{Pairwise}
use Rattle.mpd_command.specs.declared.command.Command.TheVariants as command
use Rattle.mpd_command.specs.declared.name.Name.{Name}
use Rattle.mpd_command.specs.declared.partitions.PartitionCommand.{PartitionCommand}
use Rattle.mpd_command.specs.declared.request.Request.TheVariants.{Run}
use Rattle.partition_table.specs.Parts.{Known, crosses_beyond, holding, is_within_in, known, moved_output, once_more, outputs_moved, part_at}
use Rattle.partition.specs.Image.{Image}
use Rattle.partition.specs.Step.{counts_frames, keeps_limits, limit_by, limit_of, next_image, index_at, told}
use Rattle.partition.specs.declared.partition.PartitionFault.TheVariants.{AtLimit, CutsAtLimit}
use Rattle.player_core.specs.Player.{PlayerState, is_within}
use Rattle.player_events.specs.declared.event.Event.{Event}
use Rattle.player_events.specs.declared.event.LogEntry.{LogEntry}
use Rattle.player_state.specs.Effects.{begins_beyond, player_after}
use Rattle.player_state.specs.Outputs.{OutputsData, books_after, brought, can_count_all, is_output, no_moves, released}
use Rattle.player_state.specs.declared.effect.CommandEffect.{CommandEffect}
use Rattle.player_state.specs.declared.effect.Effect.{Effect}
use Rattle.player_state.specs.declared.effect.Effect.TheVariants.{ByCommand}
use Rattle.player_state.specs.declared.outputs.Carried.{Carried}
use Rattle.player_state.specs.declared.scan.ScanMove.{ScanMove}
use Rattle.player_state.specs.declared.scan.ScanMove.TheVariants.{Stay}
use Rattle.player_state.specs.declared.state.Client.{Client}
use Rattle.player_state.specs.declared.state.Library.{Library}
use Rattle.player_state.specs.declared.state.Part.{Part}
use Rattle.transitions.specs.Transitions.{TransitionData, keeps_all_numbers, max_cut_in, report_of}
use Rattle.transitions.specs.declared.shelf_calls.ShelfWrite.TheVariants.{Nothing}
use Rattle.state_laws.specs.Limits.{HasLeft, LeadsWithin}
use Rattle.state_laws.specs.Partitions.{Each}
use Rattle.state_laws.specs.Saying.{asking}
use Rattle.state_laws.proofs.Alike.{Alike}
use Rattle.state_laws.proofs.Crossings.{Plans}
use Rattle.state_laws.proofs.Events.{event_makes, index_made}
use Rattle.state_laws.proofs.Limits.{one_more, same_books, within}
use Rattle.state_laws.proofs.Within.{joined}

-- ---- one line

module _ (seat number : ℕ) (i : Image) (client : Client) (part : Part) (name : Name) (it : PartitionCommand) (t : TransitionData) (effect : CommandEffect)
    (there : client_of number i.clients ≡ Some client) (listens : client.pending.waiting ≡ None) (placed : part_at client.index i.parts ≡ Some part)
    (plans : Plans seat number i client part name it there listens placed t) (written : t.written ≡ Nothing) (scan : t.scan ≡ Stay)
    (is : t.effect ≡ ByCommand effect) (still : player_after i.shared.library.rate part (ByCommand effect) ≡ part.player)
    (fine : crosses_beyond part.player.max_cut t.crossing (map known i.parts) ≡ false) where
  abbrev said : Event
  said = asking number (Run name (command.Partitions it))

  abbrev library : Library
  library = i.shared.library

  frames : can_count_all i.shared.books ≡ true → counts_frames i said t ≡ true
  frames books =
      ap (λ (e : Effect). can_count_all (books_after i.shared.books e (report_of (index_at i said) i.parts library t))) is
      ∙ same_books i.shared.books effect (report_of (index_at i said) i.parts library t) ∙ books

  numbers : is_within part.player ≡ true → keeps_limits i said t ≡ true
  numbers inside =
      let crosses : ℕ → Bool = λ most. not (crosses_beyond most t.crossing (map known i.parts)) in
      ap (λ (index : ℕ). keeps_all_numbers index i.parts library t) (index_made seat number i client part name (command.Partitions it) t there listens placed refl plans written)
      ∙ ap (λ (o : Option Part). is_within_in library.rate o t.effect && (not (begins_beyond (max_cut_in o) library.scan t.scan) && crosses (max_cut_in o))) placed
      ∙ ap (λ (e : Effect). is_within (player_after library.rate part e) && (not (begins_beyond part.player.max_cut library.scan t.scan) && crosses part.player.max_cut)) is
      ∙ ap (λ (p : PlayerState). is_within p && (not (begins_beyond part.player.max_cut library.scan t.scan) && crosses part.player.max_cut)) still
      ∙ ap (λ (b : Bool). b && (not (begins_beyond part.player.max_cut library.scan t.scan) && crosses part.player.max_cut)) inside
      ∙ ap (λ (m : ScanMove). not (begins_beyond part.player.max_cut library.scan m) && crosses part.player.max_cut) scan
      ∙ ap not fine

  pub no_limit : HasLeft seat 1 i part.player → limit_of seat i said ≡ None
  unfolding limit_of
  no_limit h =
      let inside : is_within part.player ≡ true = within part.player (omega (arith, h.cuts)) (omega (arith, h.starts)) h.jobs in
      let counted : nat_le 9223372036854775807 (slice_index_or i.shared.made seat 0) ≡ false = lt-leb 9223372036854775807 (slice_index_or i.shared.made seat 0) (omega (arith, h.made)) in
      ap (limit_by seat i said) (event_makes seat number i client part name (command.Partitions it) t there listens placed refl plans written)
      ∙ ap (λ (b : Bool). if b || not (counts_frames i said t) then Some AtLimit else (if keeps_limits i said t then None else Some CutsAtLimit)) counted
      ∙ ap (λ (b : Bool). if not b then Some AtLimit else (if keeps_limits i said t then None else Some CutsAtLimit)) (frames h.books)
      ∙ ap (λ (b : Bool). if b then None else Some CutsAtLimit) (numbers inside)

  made_is : (next_image seat i said).shared.made ≡ slice_set i.shared.made seat (slice_index_or i.shared.made seat 0 + 1)
  unfolding next_image
  made_is = refl

  books_are : can_count_all (next_image seat i said).shared.books ≡ can_count_all i.shared.books
  unfolding next_image
  books_are =
      ap (λ (t : TransitionData). can_count_all (books_after i.shared.books t.effect (report_of (index_at i said) i.parts library t)))
      (event_makes seat number i client part name (command.Partitions it) t there listens placed refl plans written)
      ∙ ap (λ (e : Effect). can_count_all (books_after i.shared.books e (report_of (index_at i said) i.parts library t))) is
      ∙ same_books i.shared.books effect (report_of (index_at i said) i.parts library t)

  -- what is left then for a player
  pub left_for : (left : ℕ) (q : PlayerState) → HasLeft seat (suc left) i part.player → q.cuts + left ≤ q.max_cut → q.starts + left ≤ q.max_cut → q.jobs ≤ q.max_cut
      → HasLeft seat left (next_image seat i said) q
  left_for left q h cuts starts jobs =
      let more : slice_index_or (next_image seat i said).shared.made seat 0 ≤ slice_index_or i.shared.made seat 0 + 1 =
      subst (λ (xs : List ℕ). slice_index_or xs seat 0 ≤ slice_index_or i.shared.made seat 0 + 1) (sym made_is) (one_more i.shared.made seat) in
      record { made = omega (arith, h.made, more); books = books_are ∙ h.books; cuts = cuts; starts = starts; jobs = jobs }

pub one_left : (seat left : ℕ) (i : Image) (p : PlayerState) → HasLeft seat (suc left) i p → HasLeft seat 1 i p
one_left seat left i p h = record { made = omega (arith, h.made); books = h.books; cuts = omega (arith, h.cuts); starts = omega (arith, h.starts); jobs = h.jobs }

-- ---- moves of outputs

-- each output of a partition may be moved so often still
abbrev pub CanMove : ℕ → ℕ → Part → Type 0
CanMove left most p = (n : ℕ) → slice_index_or p.outputs.moves n 0 + left ≤ most

-- a client's player, and the outputs of all partitions, are so far from their limits
pub record IsFarFrom (seat left most : ℕ) (part : Part) (i : Image) : Type 0 where
  pub has : HasLeft seat left i part.player
  pub cuts : part.player.max_cut ≡ most
  pub moves : Each (CanMove left most) i.parts

pub fewer_moves : (less more most : ℕ) (ps : List Part) → less ≤ more → Each (CanMove more most) ps → Each (CanMove less most) ps
fewer_moves less more most [] low all = tt
fewer_moves less more most (p ∷ ps) low all = (λ n. (let now = all.0 n in omega (arith, low, now)), fewer_moves less more most ps low all.1)

pub never_moved : (n : ℕ) → slice_index_or no_moves n 0 ≡ 0
never_moved n = elim (cases_lt n 8) [ inl less ↦ get_or-replicate 8 n 0 0 less | inr past ↦ get_or_past no_moves n 0 past ]

pub moves_alike : (left most : ℕ) (ps qs : List Part) → Pairwise Alike ps qs → Each (CanMove left most) ps → Each (CanMove left most) qs
moves_alike left most [] [] a all = tt
moves_alike left most [] (q ∷ qs) a all = absurd a
moves_alike left most (p ∷ ps) [] a all = absurd a
moves_alike left most (p ∷ ps) (q ∷ qs) a all =
    (subst (λ (o : OutputsData). (n : ℕ) → slice_index_or o.moves n 0 + left ≤ most) (sym a.0.outputs) all.0, moves_alike left most ps qs a.1 all.1)

set_low : (numbers : List ℕ) (m n v left most : ℕ) → v + left ≤ most → slice_index_or numbers n 0 + left ≤ most → slice_index_or (slice_set numbers m v) n 0 + left ≤ most
set_low numbers m n v left most new old =
    let cases : (b : Bool) → (n == m) ≡ b → slice_index_or (slice_set numbers m v) n 0 + left ≤ most =
    λ b. elim b as (λ b. (n == m) ≡ b → slice_index_or (slice_set numbers m v) n 0 + left ≤ most) [
      | true ↦ λ e. elim (cases_lt m (length numbers)) [
        | inl less ↦ subst (λ (x : ℕ). x + left ≤ most) (sym (ap (λ (k : ℕ). slice_index_or (slice_set numbers m v) k 0) (eqb-true n m e) ∙ get_or-set_same numbers m v 0 less)) new
        | inr past ↦ subst (λ (xs : List ℕ). slice_index_or xs n 0 + left ≤ most) (sym (set_past numbers m v past)) old
      ]
      | false ↦ λ e. subst (λ (x : ℕ). x + left ≤ most) (sym (get_or-set_other numbers m n v 0 (eqb-false n m e))) old
    ] in
    cases (n == m) refl

moved_low : (m left most : ℕ) (comes : Bool) (c : Carried) (o : OutputsData) (n : ℕ) → c.moves + 1 + left ≤ most → slice_index_or o.moves n 0 + left ≤ most
    → slice_index_or (outputs_moved m comes c o).moves n 0 + left ≤ most
moved_low m left most true c o n new old =
    elim (is_output o m) as (λ b. slice_index_or (if b then o else brought o m (once_more c)).moves n 0 + left ≤ most)
    [ true ↦ old | false ↦ set_low o.moves m n (c.moves + 1) left most new old ]
moved_low m left most false c o n new old =
    elim (is_output o m) as (λ b. slice_index_or (if b then released o m else o).moves n 0 + left ≤ most)
    [ true ↦ set_low o.moves m n 0 left most (omega (arith, new)) old | false ↦ old ]

pub moves_moved : (m to left most : ℕ) (c : Carried) (ps : List Part) → c.moves + 1 + left ≤ most → Each (CanMove left most) ps
    → Each (CanMove left most) (map (moved_output m to (Some c)) ps)
moves_moved m to left most c [] new all = tt
moves_moved m to left most c (p ∷ ps) new all =
    (λ n. moved_low m left most (p.index == to) c p.outputs n new (all.0 n), moves_moved m to left most c ps new all.1)

one_known : (a b : Known) → ◌≡◌ {A = Option Known} (Some a) (Some b) → a ≡ b
one_known a b e = cc

-- the partition that has an output
pub held_low : (m left most : ℕ) (ps : List Part) (f : Known) → Each (CanMove left most) ps → holding m (map known ps) ≡ Some f → slice_index_or f.outputs.moves m 0 + left ≤ most
held_low m left most [] f all is = cc
held_low m left most (p ∷ ps) f all is =
    let cases : (b : Bool) → is_output p.outputs m ≡ b → (if b then Some (known p) else holding m (map known ps)) ≡ Some f → slice_index_or f.outputs.moves m 0 + left ≤ most =
    λ b. elim b as (λ b. is_output p.outputs m ≡ b → (if b then Some (known p) else holding m (map known ps)) ≡ Some f → slice_index_or f.outputs.moves m 0 + left ≤ most) [
      | true ↦ λ e h. subst (λ (x : Known). slice_index_or x.outputs.moves m 0 + left ≤ most) (one_known (known p) f h) (all.0 m)
      | false ↦ λ e h. held_low m left most ps f all.1 h
    ] in
    cases (is_output p.outputs m) refl is

-- ---- events

pub one_within : (seat : ℕ) (i : Image) (event : Event) → limit_of seat i event ≡ None → LeadsWithin i (next_image seat i event)
one_within seat i event fine =
    let entry : LogEntry = record { seat = seat; event = event; told = told i event } in
    (entry ∷ [], refl, (refl, tt), (fine, tt))

pub within_on : (i j k : Image) → LeadsWithin i j → LeadsWithin j k → LeadsWithin i k
within_on i j k first rest = joined first.0 i j k first.1 first.2 first.3 rest
