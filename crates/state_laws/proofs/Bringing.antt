-- The lines by which outputs come to the partition of a client.
use Rattle.std.proofs.Common.{◌≡◌, ℕ, suc, ◌+◌, ◌≤◌, ◌<◌, ◌==◌, Bool, true, false, ◌&&◌, nat_lt, List, [], ◌∷◌, ◌++◌, length, map, Option, Some, None, is_some, codes, refl, ap, sym, ◌∙◌, subst, arith, if◌then◌else◌}
use Rattle.std.specs.List.{position}
use Rattle.std.specs.Str.{bytes_eq}
use Rattle.std.proofs.lemmas.Bool.{eqb-false, eqb-true, le-ltb, lt-leb, lt-ltb, ltb-true}
use Rattle.std.proofs.lemmas.List.{map-append}
use Rattle.std.proofs.lemmas.List.Quantifiers.{position-Some}
use Rattle.kept_state.specs.PlayerReading.{is_named}
use Rattle.kept_state.specs.PlayerReading.{PlayerStep as step}
use Rattle.kept_state.specs.Reading.{opened}
use Rattle.kept_state.specs.declared.partitions.KeptPartition.{KeptPartition}
use Rattle.mpd_command.specs.declared.command.Command.TheVariants as command
use Rattle.mpd_command.specs.declared.name.Name.{Name}
use Rattle.mpd_command.specs.declared.partitions.PartitionCommand.TheVariants as partitions
use Rattle.mpd_command.specs.declared.request.Request.{Request}
use Rattle.mpd_command.specs.declared.request.Request.TheVariants.{Run}
use Rattle.mpd_text.specs.Lines.Quoted.{quoted_text}
use Rattle.partition_table.specs.declared.crossing.Crossing.TheVariants.{Brings, Stays}
use Rattle.partition_table.specs.Parts.{Known, carried_from, carried_in, crosses_beyond, has_index, holding, is_beyond, known, moved_output, part_at, parts_moved, index_of, shown_outputs}
use Rattle.partition.specs.Image.{Image}
use Rattle.partition.specs.Step.{asked_by, limit_of, next_image}
use Rattle.partition.specs.declared.state.Setup.{Setup}
use Rattle.partition_commands.specs.Partitions.{brings, done, move_output, moves, no_output, planned, seated}
use Rattle.player_state.specs.Outputs.{OutputsData, carried}
use Rattle.player_state.specs.declared.outputs.Carried.{Carried}
use Rattle.player_state.specs.declared.state.Library.{Library}
use Rattle.player_state.specs.declared.state.Part.{Part}
use Rattle.transitions.specs.Transitions.{TransitionData, crosses}
use Rattle.transitions.specs.declared.asked.Asked.{Asked}
use Rattle.transitions.specs.declared.asked.ListPlace.TheVariants.{Alone}
use Rattle.state_laws.specs.Partitions.{AreSetUp, Each, after_all, after_lines, bytes_of_step, name_of}
use Rattle.state_laws.specs.Saying.{asking, first_options}
use Rattle.state_laws.proofs.Alike.{elsewhere, have_moved, names_moved, none_moved, numbered_moved}
use Rattle.state_laws.proofs.Apart.{found_behind}
use Rattle.state_laws.proofs.Bytes.{IsRead, moving_read}
use Rattle.state_laws.proofs.Crossings.{IsCalm, Passes, passes}
use Rattle.state_laws.proofs.Numbers.{AreNumbered, has_number, names_of, same_text}
use Rattle.state_laws.proofs.Spread.{Fit, IsNamedSo, all_fit_moved, all_fit_same, has_more, moved_home}
use Rattle.state_laws.proofs.Between.{Filling, Held, aligned_moved, is_held, named_last, numbers_of, one_line}
use Rattle.partition_table.specs.declared.crossing.Crossing.{Crossing}
use Rattle.player_events.specs.declared.event.Event.{Event}
use Rattle.player_state.specs.declared.effect.CommandEffect.TheVariants.{Rests}
use Rattle.state_laws.specs.Limits.{HasLeft, LeadsWithin}
use Rattle.state_laws.proofs.Farness.{CanMove, IsFarFrom, fewer_moves, held_low, left_for, moves_moved, no_limit, one_left, one_within, within_on}

-- the home of an output that is moved by its name
abbrev pub is_this : OutputsData → List ℕ → ℕ → Bool
is_this outputs name n = nat_lt n (length outputs.names) && bytes_eq (name_of outputs n) name

abbrev pub home_by : OutputsData → List ℕ → List ℕ → (ℕ → List ℕ) → ℕ → List ℕ
home_by outputs output name home n = if is_this outputs output n then name else home n

abbrev pub home_by_all : OutputsData → List (List ℕ) → List ℕ → (ℕ → List ℕ) → ℕ → List ℕ
home_by_all outputs [] name home = home
home_by_all outputs (output ∷ more) name home = home_by_all outputs more name (home_by outputs output name home)

pub some_same : (a b : ℕ) → ◌≡◌ {A = Option ℕ} (Some a) (Some b) → a ≡ b
some_same a b e = cc

both_so : (a b : Bool) → (a && b) ≡ true → (a ≡ true) × (b ≡ true)
both_so true b e = (refl, e)
both_so false b e = cc

module _ (outputs : OutputsData) (sets : AreSetUp outputs) where
  abbrev at : List ℕ → Option ℕ
  at output = position (λ own. bytes_eq own output) outputs.names

  this_at : (output : List ℕ) (n : ℕ) → is_this outputs output n ≡ true → at output ≡ Some n
  this_at output n is =
      let both = both_so (nat_lt n (length outputs.names)) (bytes_eq (name_of outputs n) output) is in
      ap at (sym (same_text (name_of outputs n) output both.1)) ∙ sets.found n (ltb-true n (length outputs.names) both.0)

  pub none_this : (output : List ℕ) → at output ≡ None → (n : ℕ) → is_this outputs output n ≡ false
  none_this output none n =
      let cases : (b : Bool) → is_this outputs output n ≡ b → b ≡ false =
      λ b. elim b as (λ b. is_this outputs output n ≡ b → b ≡ false)
      [ true ↦ λ e. (let some : at output ≡ Some n = this_at output n e in cc) | false ↦ λ e. refl ] in
      cases (is_this outputs output n) refl

  pub inside_names : (output : List ℕ) (m : ℕ) → at output ≡ Some m → m < length outputs.names
  inside_names output m some = (position-Some (λ own. bytes_eq own output) outputs.names m [] some).0

  pub this_is : (output : List ℕ) (m : ℕ) → at output ≡ Some m → (n : ℕ) → is_this outputs output n ≡ (n == m)
  this_is output m some n =
      let found = position-Some (λ own. bytes_eq own output) outputs.names m [] some in
      let self : is_this outputs output m ≡ true =
      ap (λ (b : Bool). b && bytes_eq (name_of outputs m) output) (lt-ltb m (length outputs.names) found.0) ∙ found.1 in
      let cases : (b : Bool) → (n == m) ≡ b → is_this outputs output n ≡ b =
      λ b. elim b as (λ b. (n == m) ≡ b → is_this outputs output n ≡ b) [
        | true ↦ λ e. ap (is_this outputs output) (eqb-true n m e) ∙ self
        | false ↦ λ e.
            let inner : (x : Bool) → is_this outputs output n ≡ x → x ≡ false =
            λ x. elim x as (λ x. is_this outputs output n ≡ x → x ≡ false)
            [ true ↦ λ f. absurd (eqb-false n m e (some_same n m (sym (this_at output n f) ∙ some))) | false ↦ λ f. refl ] in
            inner (is_this outputs output n) refl ∙ refl
      ] in
      cases (n == m) refl

module _ (seat number : ℕ) (library : Library) (setup : Setup) (sets : AreSetUp setup.outputs) (kept : List KeptPartition) (name : List ℕ) (songs : ℕ) where
  abbrev names : List (List ℕ)
  names = setup.outputs.names

  abbrev Fills : (ℕ → List ℕ) → Image → Type 0
  Fills home i = Filling number library setup home kept name songs i

  module _ (home : ℕ → List ℕ) (i : Image) (f : Fills home i) (output : List ℕ) (line : Name) where
    abbrev all : List Part
    all = f.front ++ f.own ∷ []

    abbrev to : ℕ
    to = f.own.index

    abbrev asked : Asked
    asked = asked_by f.client line Alone

    abbrev now : ℕ → List ℕ
    now = home_by setup.outputs output name home

    abbrev after : Image
    after = next_image seat i (asking number (Run line (command.Partitions (partitions.MoveOutput output))))

    placed : part_at f.client.index i.parts ≡ Some f.own
    placed =
        ap (part_at f.client.index) f.parts ∙ ap (λ (n : ℕ). part_at n all) (sym f.index) ∙ found_behind to f.front f.own [] f.apart refl

    abbrev Plans : TransitionData → Type 0
    Plans t = planned (map known i.parts) (map seated i.clients) i.shared.openings asked to (partitions.MoveOutput output) ≡ t

    passed : (t : TransitionData) → Plans t → IsCalm t → Passes number t.crossing f.client i after
    passed t plans calm = passes seat number i f.client f.own line (partitions.MoveOutput output) f.there f.listens placed t plans calm

    -- the output's home is where it was, and nothing is moved
    abbrev rests : Passes number Stays f.client i after → ((n : ℕ) → home n ≡ now n) → Fills now after
    rests p same = record {
      same = p.library ∙ f.same;
      openings = p.openings ∙ f.openings;
      client = p.own;
      there = p.there;
      listens = p.listens;
      front = f.front;
      own = f.own;
      index = f.index ∙ sym p.index;
      parts = p.parts ∙ f.parts;
      numbered = f.numbered;
      apart = f.apart;
      fit = all_fit_same names home now all same f.fit;
      have = f.have;
      named = f.named;
      aligned = f.aligned;
      has = f.has;
      room = f.room;
      inside = λ n less. ap (λ (h : List ℕ). is_named h (names_of all)) (sym (same n)) ∙ f.inside n less;
      outside = λ n past. sym (same n) ∙ f.outside n past;
    }

    -- its home is here from now on
    module _ (m : ℕ) (is : position (λ own. bytes_eq own output) names ≡ Some m) where
      low : m < length names
      low = inside_names setup.outputs sets output m is

      held : Held names home m to name all
      held = is_held names home m to name all f.fit f.aligned (f.inside m low)

      abbrev carries : Carried
      carries = carried (shown_outputs held.part.outputs) m

      moved_so : (n : ℕ) → moved_home m name home n ≡ now n
      moved_so n = ap (λ (b : Bool). if b then name else home n) (sym (this_is setup.outputs sets output m is n))

      is_here : (held.part.index == to) ≡ true → (n : ℕ) → home n ≡ now n
      is_here here n =
          let own_name : name ≡ held.part.name = same_text name held.part.name (sym held.aligned ∙ here) in
          let old : home m ≡ name = same_text (home m) held.part.name held.here ∙ sym own_name in
          let cases : (b : Bool) → (n == m) ≡ b → home n ≡ (if b then name else home n) =
          λ b. elim b as (λ b. (n == m) ≡ b → home n ≡ (if b then name else home n)) [ true ↦ λ e. ap home (eqb-true n m e) ∙ old | false ↦ λ e. refl ] in
          cases (n == m) refl ∙ moved_so n

      plans_as : (t : TransitionData) → brings asked m to (Some held.part.index) ≡ t → Plans t
      unfolding planned
      plans_as t e =
          ap (λ (ps : List Part). move_output (map known ps) asked to output) f.parts
          ∙ ap (moves (map known all) asked to) (numbers_of names home output f.front f.own f.fit ∙ is)
          ∙ ap (λ (o : Option Known). brings asked m to (index_of o)) held.found ∙ e

      has_own : has_index to (map known all) ≡ true
      has_own = has_number to all ∙ ap is_some (found_behind to f.front f.own [] f.apart refl)

      comes_from : (held.part.index == to) ≡ false → carried_in m to (map known all) ≡ Some carries
      comes_from other =
          ap (λ (b : Bool). if b then carried_from m to (holding m (map known all)) else None) has_own
          ∙ ap (carried_from m to) held.found
          ∙ ap (λ (b : Bool). if b then None else Some carries) other

      abbrev move : Part → Part
      move = moved_output m to (Some carries)

      front_first : map move all ≡ map move f.front ++ move f.own ∷ []
      front_first = map-append move f.front (f.own ∷ [])

      abbrev brings_it : (held.part.index == to) ≡ false → Passes number (Brings m to) f.client i after → Fills now after
      brings_it other p =
          let eight : m < 8 = omega (arith, low, sets.few) in
          let sound : carries.failed ≡ false = held.fit.sound m in
          let names_stay : names_of (map move f.front ++ move f.own ∷ []) ≡ names_of all = ap names_of (sym front_first) ∙ names_moved m to (Some carries) all in
          record {
            same = p.library ∙ f.same;
            openings = p.openings ∙ f.openings;
            client = p.own;
            there = p.there;
            listens = p.listens;
            front = map move f.front;
            own = move f.own;
            index = f.index ∙ sym p.index;
            parts = p.parts ∙ ap (parts_moved (Brings m to)) f.parts ∙ ap (λ (c : Option Carried). map (moved_output m to c) all) (comes_from other) ∙ front_first;
            numbered = subst (AreNumbered 0) front_first (numbered_moved 0 m to (Some carries) all f.numbered);
            apart = none_moved to m to (Some carries) f.front f.apart;
            fit = subst (Each (Fit names now)) front_first
                (all_fit_same names (moved_home m name home) now (map move all) moved_so
                (all_fit_moved names home m to name carries all eight sound f.aligned f.fit));
            have = have_moved library m to (Some carries) f.front kept (elsewhere to f.front f.apart) f.have;
            named = f.named;
            aligned = subst (Each (IsNamedSo to name)) front_first (aligned_moved m to to carries name all f.aligned);
            has = has_more library.rate m to (Some carries) f.own (opened first_options) refl f.has;
            room = f.room;
            inside = λ n less.
                let cases : (b : Bool) → is_named (if b then name else home n) (names_of all) ≡ true =
                λ b. elim b as (λ b. is_named (if b then name else home n) (names_of all) ≡ true) [ true ↦ named_last name f.front f.own f.named | false ↦ f.inside n less ] in
                ap (is_named (now n)) names_stay ∙ cases (is_this setup.outputs output n);
            outside = λ n past.
                ap (λ (b : Bool). if b && bytes_eq (name_of setup.outputs n) output then name else home n) (le-ltb n (length names) past) ∙ f.outside n past;
          }

      found_it : Fills now after
      found_it =
          let cases : (b : Bool) → (held.part.index == to) ≡ b → Fills now after =
          λ b. elim b as (λ b. (held.part.index == to) ≡ b → Fills now after) [
            | true ↦ λ e. rests (passed (done asked) (plans_as (done asked) (ap (λ (b : Bool). if b then done asked else crosses asked (Brings m to)) e))
                (record { effect = refl; scan = refl; written = refl; response = refl; goes = refl })) (is_here e)
            | false ↦ λ e. brings_it e (passed (crosses asked (Brings m to)) (plans_as (crosses asked (Brings m to)) (ap (λ (b : Bool). if b then done asked else crosses asked (Brings m to)) e))
                (record { effect = refl; scan = refl; written = refl; response = refl; goes = refl }))
          ] in
          cases (held.part.index == to) refl

    abbrev most : ℕ
    most = setup.limits.max_cut

    -- an output comes, or nothing happens, and no limit is passed
    abbrev Goes : ℕ → Type 0
    Goes left = (g : Fills now after) × (LeadsWithin i after × IsFarFrom seat left most g.own after)

    rests_far : (left : ℕ) (t : TransitionData) (plans : Plans t) (calm : IsCalm t) → t.crossing ≡ Stays → (same : (n : ℕ) → home n ≡ now n)
        → IsFarFrom seat (suc left) most f.own i → Goes left
    rests_far left t plans calm none same h =
        let said : Event = asking number (Run line (command.Partitions (partitions.MoveOutput output))) in
        let crossing : crosses_beyond f.own.player.max_cut t.crossing (map known i.parts) ≡ false = ap (λ (c : Crossing). crosses_beyond f.own.player.max_cut c (map known i.parts)) none in
        let p : Passes number Stays f.client i after = subst (λ (c : Crossing). Passes number c f.client i after) none (passed t plans calm) in
        let fine : limit_of seat i said ≡ None =
        no_limit seat number i f.client f.own line (partitions.MoveOutput output) t Rests f.there f.listens placed plans calm.written calm.scan calm.effect refl crossing (one_left seat left i f.own.player h.has) in
        let left_then : HasLeft seat left after f.own.player =
        left_for seat number i f.client f.own line (partitions.MoveOutput output) t Rests f.there f.listens placed plans calm.written calm.scan calm.effect refl crossing
        left f.own.player h.has (omega (arith, h.has.cuts)) (omega (arith, h.has.starts)) h.has.jobs in (
          rests p same,
          (
            one_within seat i said fine,
            record { has = left_then; cuts = h.cuts; moves = subst (Each (CanMove left most)) (sym p.parts) (fewer_moves left (suc left) most i.parts (omega arith) h.moves) },
          ),
        )

    brings_far : (left m : ℕ) (is : position (λ own. bytes_eq own output) names ≡ Some m) (other : ((held m is).part.index == to) ≡ false)
        → IsFarFrom seat (suc left) most f.own i → Goes left
    brings_far left m is other h =
        let said : Event = asking number (Run line (command.Partitions (partitions.MoveOutput output))) in
        let t : TransitionData = crosses asked (Brings m to) in
        let plans : Plans t = plans_as m is t (ap (λ (b : Bool). if b then done asked else crosses asked (Brings m to)) other) in
        let c : Carried = carries m is in
        let low : c.moves + suc left ≤ most = held_low m (suc left) most all (known (held m is).part) (subst (Each (CanMove (suc left) most)) f.parts h.moves) (held m is).found in
        let from : carried_in m to (map known i.parts) ≡ Some c = ap (λ (ps : List Part). carried_in m to (map known ps)) f.parts ∙ comes_from m is other in
        let crossing : crosses_beyond f.own.player.max_cut (Brings m to) (map known i.parts) ≡ false =
        ap (is_beyond f.own.player.max_cut) from ∙ lt-leb f.own.player.max_cut c.moves (omega (arith, low, h.cuts)) in
        let p : Passes number (Brings m to) f.client i after = passed t plans (record { effect = refl; scan = refl; written = refl; response = refl; goes = refl }) in
        let fine : limit_of seat i said ≡ None =
        no_limit seat number i f.client f.own line (partitions.MoveOutput output) t Rests f.there f.listens placed plans refl refl refl refl crossing (one_left seat left i f.own.player h.has) in
        let left_then : HasLeft seat left after f.own.player =
        left_for seat number i f.client f.own line (partitions.MoveOutput output) t Rests f.there f.listens placed plans refl refl refl refl crossing
        left f.own.player h.has (omega (arith, h.has.cuts)) (omega (arith, h.has.starts)) h.has.jobs in
        let parts_then : after.parts ≡ map (moved_output m to (Some c)) i.parts = p.parts ∙ ap (λ (x : Option Carried). map (moved_output m to x) i.parts) from in (
          brings_it m is other p,
          (
            one_within seat i said fine,
            record {
              has = left_then;
              cuts = h.cuts;
              moves = subst (Each (CanMove left most)) (sym parts_then)
                  (moves_moved m to left most c i.parts (omega (arith, low)) (fewer_moves left (suc left) most i.parts (omega arith) h.moves));
            },
          ),
        )

    found_far : (left m : ℕ) (is : position (λ own. bytes_eq own output) names ≡ Some m) → IsFarFrom seat (suc left) most f.own i → Goes left
    found_far left m is h =
        let cases : (b : Bool) → ((held m is).part.index == to) ≡ b → Goes left =
        λ b. elim b as (λ b. ((held m is).part.index == to) ≡ b → Goes left) [
          | true ↦ λ e. rests_far left (done asked) (plans_as m is (done asked) (ap (λ (b : Bool). if b then done asked else crosses asked (Brings m to)) e))
              (record { effect = refl; scan = refl; written = refl; response = refl; goes = refl }) refl (is_here m is e) h
          | false ↦ λ e. brings_far left m is e h
        ] in
        cases ((held m is).part.index == to) refl

    refuses_it : position (λ own. bytes_eq own output) names ≡ None → Plans (no_output asked)
    unfolding planned
    refuses_it none =
        ap (λ (ps : List Part). move_output (map known ps) asked to output) f.parts
        ∙ ap (moves (map known all) asked to) (numbers_of names home output f.front f.own f.fit ∙ none)

    by_index : (o : Option ℕ) → position (λ own. bytes_eq own output) names ≡ o → Fills now after
    by_index None e =
        rests (passed (no_output asked) (refuses_it e) (record { effect = refl; scan = refl; written = refl; response = refl; goes = refl }))
        (λ n. sym (ap (λ (b : Bool). if b then name else home n) (none_this setup.outputs sets output e n)))
    by_index (Some m) e = found_it m e

    far_by_index : (left : ℕ) (o : Option ℕ) → position (λ own. bytes_eq own output) names ≡ o → IsFarFrom seat (suc left) most f.own i → Goes left
    far_by_index left None e h =
        rests_far left (no_output asked) (refuses_it e) (record { effect = refl; scan = refl; written = refl; response = refl; goes = refl }) refl
        (λ n. sym (ap (λ (b : Bool). if b then name else home n) (none_this setup.outputs sets output e n))) h
    far_by_index left (Some m) e h = found_far left m e h

    pub one_far : (left : ℕ) → IsFarFrom seat (suc left) most f.own i → Goes left
    one_far left h = far_by_index left (position (λ own. bytes_eq own output) names) refl h

    pub brings_one : Fills now after
    brings_one = by_index (position (λ own. bytes_eq own output) names) refl

  pub brings_all : (outputs : List (List ℕ)) (home : ℕ → List ℕ) (i : Image) → Fills home i
      → Fills (home_by_all setup.outputs outputs name home) (after_all seat number (map bytes_of_step (map step.Bring outputs)) i)
  brings_all [] home i f = f
  brings_all (output ∷ more) home i f =
      let read : IsRead (codes "moveoutput " ++ quoted_text output) (command.Partitions (partitions.MoveOutput output)) = moving_read output in
      let next : Image = next_image seat i (asking number (Run read.0 (command.Partitions (partitions.MoveOutput output)))) in
      let one : after_lines seat number (bytes_of_step (step.Bring output)) i ≡ next =
      one_line seat number (codes "moveoutput " ++ quoted_text output) i ∙ ap (λ (q : Request). next_image seat i (asking number q)) read.1 in
      subst (λ (j : Image). Fills (home_by_all setup.outputs (output ∷ more) name home) (after_all seat number (map bytes_of_step (map step.Bring more)) j)) (sym one)
      (brings_all more (home_by setup.outputs output name home) next (brings_one home i f output read.0))

  abbrev pub BringsWithin : (ℕ → List ℕ) → ℕ → Image → Image → Type 0
  BringsWithin home left i j = (f : Fills home j) × (LeadsWithin i j × IsFarFrom seat left setup.limits.max_cut f.own j)

  pub brings_within : (outputs : List (List ℕ)) (left : ℕ) (home : ℕ → List ℕ) (i : Image) (f : Fills home i)
      → IsFarFrom seat (length outputs + left) setup.limits.max_cut f.own i
      → BringsWithin (home_by_all setup.outputs outputs name home) left i (after_all seat number (map bytes_of_step (map step.Bring outputs)) i)
  brings_within [] left home i f h = (f, (([], refl, tt, tt), subst (λ (n : ℕ). IsFarFrom seat n setup.limits.max_cut f.own i) (omega arith) h))
  brings_within (output ∷ more) left home i f h =
      let read : IsRead (codes "moveoutput " ++ quoted_text output) (command.Partitions (partitions.MoveOutput output)) = moving_read output in
      let next : Image = next_image seat i (asking number (Run read.0 (command.Partitions (partitions.MoveOutput output)))) in
      let one : after_lines seat number (bytes_of_step (step.Bring output)) i ≡ next =
      one_line seat number (codes "moveoutput " ++ quoted_text output) i ∙ ap (λ (q : Request). next_image seat i (asking number q)) read.1 in
      let first : BringsWithin (home_by setup.outputs output name home) (length more + left) i next =
      one_far home i f output read.0 (length more + left) (subst (λ (n : ℕ). IsFarFrom seat n setup.limits.max_cut f.own i) (omega arith) h) in
      let rest = brings_within more left (home_by setup.outputs output name home) next first.0 first.1.1 in
      subst (λ (j : Image). BringsWithin (home_by_all setup.outputs (output ∷ more) name home) left i (after_all seat number (map bytes_of_step (map step.Bring more)) j)) (sym one)
      (rest.0, (within_on i next (after_all seat number (map bytes_of_step (map step.Bring more)) next) first.1.0 rest.1.0, rest.1.1))
