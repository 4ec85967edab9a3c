-- The lines by which a partition comes, and the client goes there.
use Rattle.std.proofs.Common.{◌≡◌, ℕ, suc, ◌≤◌, ◌<◌, ◌==◌, Bool, true, false, nat_le, List, [], ◌∷◌, ◌++◌, length, map, Option, Some, None, is_some, codes, refl, ap, sym, ◌∙◌, subst, arith, inl, inr, if◌then◌else◌}
use Rattle.std.specs.Str.{bytes_eq}
use Rattle.std.proofs.lemmas.Bool.{cases_lt, eq-eqb, lt-leb, lt-ltb, ne_eqb}
use Rattle.kept_state.specs.Partitions.{Pairwise}
use Rattle.kept_state.specs.PlayerReading.{is_named}
use Rattle.kept_state.specs.PlayerReading.{PlayerStep as step}
use Rattle.kept_state.specs.declared.partitions.KeptPartition.{KeptPartition}
use Rattle.mpd_command.specs.declared.command.Command.TheVariants as command
use Rattle.mpd_command.specs.declared.name.Name.{Name}
use Rattle.mpd_command.specs.declared.partitions.PartitionCommand.TheVariants as partitions
use Rattle.mpd_command.specs.declared.request.Request.{Request}
use Rattle.mpd_command.specs.declared.request.Request.TheVariants.{Run}
use Rattle.mpd_text.specs.Lines.Quoted.{quoted_text}
use Rattle.mpd_text.specs.declared.answers.answer.ErrorNumber.TheVariants.{Exist}
use Rattle.partition_table.specs.declared.crossing.Crossing.TheVariants.{Opens}
use Rattle.partition_table.specs.Openings.{OpeningsData}
use Rattle.partition_table.specs.Parts.{Known, changed, free_index, known, named, opening_part, part_at}
use Rattle.partition_table.proofs.Looks.{length-map_known}
use Rattle.partition.specs.Image.{Image, openings_of}
use Rattle.partition.specs.Step.{asked_by, limit_of, next_image}
use Rattle.partition.specs.declared.state.Setup.{Setup}
use Rattle.partition_commands.specs.Partitions.{begins, done, goes, is_partition_name, outputs_elsewhere, planned, refused, seated}
use Rattle.player_state.specs.Outputs.{OutputsData, no_outputs}
use Rattle.player_state.specs.declared.effect.CommandEffect.TheVariants.{Leaves, Rests}
use Rattle.player_state.specs.declared.effect.Effect.{Effect}
use Rattle.player_state.specs.declared.effect.Effect.TheVariants.{ByCommand}
use Rattle.player_state.specs.declared.state.Library.{Library}
use Rattle.player_state.specs.declared.state.Part.{Part}
use Rattle.transitions.specs.CommandResults.{bad_name}
use Rattle.transitions.specs.Transitions.{TransitionData, crosses, enters, transition_by}
use Rattle.transitions.specs.declared.asked.Asked.{Asked}
use Rattle.transitions.specs.declared.asked.ListPlace.TheVariants.{Alone}
use Rattle.state_laws.specs.Partitions.{Each, after_all, after_lines, bytes_of_step}
use Rattle.state_laws.specs.Saying.{HasRoom, asking}
use Rattle.state_laws.proofs.Alike.{Alike, elsewhere, fit_alike, have_alike, left_all, length_alike, names_alike, numbered_alike}
use Rattle.state_laws.proofs.Bytes.{IsRead, going_read, new_read}
use Rattle.state_laws.proofs.Crossings.{GoesTo, Passes, goes_to, passes}
use Rattle.state_laws.proofs.Numbers.{AreNumbered, free_number, last_named, names_of, no_one_named, none_at, numbered_with, text_same}
use Rattle.state_laws.proofs.Opened.{has_opening}
use Rattle.state_laws.proofs.Spread.{Fit, IsNamedSo}
use Rattle.state_laws.proofs.Between.{Filling, Ready, aligned_front, apart_named, changed_before, each_with, elsewhere_is, found_before, named_before, not_empty_name, off_at, one_line, index_found}
use Rattle.player_events.specs.declared.event.Event.{Event}
use Rattle.state_laws.specs.Limits.{HasLeft, LeadsWithin}
use Rattle.state_laws.proofs.Farness.{CanMove, IsFarFrom, fewer_moves, left_for, moves_alike, never_moved, no_limit, one_left, one_within, within_on}

module _ (seat number : ℕ) (library : Library) (setup : Setup) (home : ℕ → List ℕ) (kept : List KeptPartition) (name : List ℕ) (songs : ℕ) (i : Image)
    (r : Ready number library setup home kept i) (valid : is_partition_name name ≡ true) (new : is_named name (names_of i.parts) ≡ false)
    (few : length i.parts < 16) (room : HasRoom setup songs) where
  abbrev index : ℕ
  index = length i.parts

  abbrev nowhere : OutputsData
  nowhere = record no_outputs { names = setup.outputs.names }

  abbrev fresh : Part
  fresh = opening_part (openings_of setup) index name nowhere

  abbrev all_known : List Known
  all_known = map known i.parts

  -- ---- the partition comes

  module _ (first : Name) where
    abbrev asked : Asked
    asked = asked_by r.client first Alone

    opens_it : planned all_known (map seated i.clients) i.shared.openings asked r.part.index (partitions.NewPartition name) ≡ crosses asked (Opens fresh)
    unfolding planned
    opens_it =
        let index_of_new : Option ℕ = if nat_le 16 (length all_known) then None else free_index all_known in
        let made : TransitionData = begins all_known i.shared.openings asked name index_of_new in
        let whole : TransitionData = if is_some (named name all_known) then refused asked Exist (codes "partition exists") else made in
        ap (λ (b : Bool). if b then whole else transition_by (bad_name asked name)) valid
        ∙ ap (λ (o : Option ℕ). if is_some o then refused asked Exist (codes "partition exists") else made) (no_one_named name i.parts new)
        ∙ ap (λ (b : Bool). begins all_known i.shared.openings asked name (if b then None else free_index all_known)) (lt-leb 16 (length all_known) (omega (arith, few, length-map_known i.parts)))
        ∙ ap (begins all_known i.shared.openings asked name) (free_number i.parts r.numbered few)
        ∙ ap (λ (o : OpeningsData). crosses asked (Opens (opening_part o index name (outputs_elsewhere all_known)))) r.openings
        ∙ ap (λ (o : OutputsData). crosses asked (Opens (opening_part (openings_of setup) index name o))) (elsewhere_is setup.outputs.names home r.client.index i.parts r.part r.placed r.fit)

    abbrev opened_image : Image
    opened_image = next_image seat i (asking number (Run first (command.Partitions (partitions.NewPartition name))))

    comes : Passes number (Opens fresh) r.client i opened_image
    comes = passes seat number i r.client r.part first (partitions.NewPartition name) r.there r.listens r.placed (crosses asked (Opens fresh)) opens_it
        (record { effect = refl; scan = refl; written = refl; response = refl; goes = refl })

    comes_last : opened_image.parts ≡ i.parts ++ fresh ∷ []
    comes_last = comes.parts ∙ ap (λ (b : Bool). if b then i.parts ++ fresh ∷ [] else i.parts) (lt-ltb index 16 few)

    -- ---- the client goes there

    still_placed : part_at comes.own.index opened_image.parts ≡ Some r.part
    still_placed =
        ap (λ (n : ℕ). part_at n opened_image.parts) comes.index ∙ ap (part_at r.client.index) comes_last
        ∙ found_before r.client.index i.parts (fresh ∷ []) r.part r.placed

    -- it is in another one
    not_there : (index == r.part.index) ≡ false
    not_there =
        ne_eqb index r.part.index (λ e.
        let gone : part_at r.client.index i.parts ≡ None =
        ap (λ (n : ℕ). part_at n i.parts) (sym (index_found r.client.index i.parts r.part r.placed) ∙ sym e) ∙ none_at index 0 i.parts r.numbered (omega arith) in
        cc)

    module _ (second : Name) where
      abbrev asked_then : Asked
      asked_then = asked_by comes.own second Alone

      goes_it : planned (map known opened_image.parts) (map seated opened_image.clients) opened_image.shared.openings asked_then r.part.index (partitions.Partition name)
          ≡ enters asked_then index
      unfolding planned
      goes_it =
          ap (λ (b : Bool). if b then goes asked_then r.part.index (named name (map known opened_image.parts)) else transition_by (bad_name asked_then name)) valid
          ∙ ap (λ (ps : List Part). goes asked_then r.part.index (named name (map known ps))) comes_last
          ∙ ap (goes asked_then r.part.index) (last_named name i.parts fresh new refl)
          ∙ ap (λ (b : Bool). if b then done asked_then else enters asked_then index) not_there

      abbrev entered_image : Image
      entered_image = next_image seat opened_image (asking number (Run second (command.Partitions (partitions.Partition name))))

      went : GoesTo number index comes.own opened_image entered_image
      went = goes_to seat number opened_image comes.own r.part second (partitions.Partition name) comes.there comes.listens still_placed index goes_it

      -- the other partitions, one of which the client has left
      abbrev others : List Part
      others = changed opened_image.shared.library.rate comes.own.index (ByCommand (Leaves comes.own.number)) i.parts

      alike : Pairwise Alike i.parts others
      alike = left_all opened_image.shared.library.rate comes.own.index comes.own.number i.parts

      there_before : part_at comes.own.index i.parts ≡ Some r.part
      there_before = ap (λ (n : ℕ). part_at n i.parts) comes.index ∙ r.placed

      others_first : entered_image.parts ≡ others ++ fresh ∷ []
      others_first =
          let effect : Effect = ByCommand (Leaves comes.own.number) in
          let rate : ℕ = opened_image.shared.library.rate in
          went.parts ∙ ap (changed rate comes.own.index effect) comes_last ∙ changed_before rate comes.own.index effect i.parts (fresh ∷ []) r.part there_before

      as_many : length others ≡ length i.parts
      as_many = length_alike i.parts others alike

      others_numbered : AreNumbered 0 others
      others_numbered = numbered_alike 0 i.parts others alike r.numbered

      free : part_at index others ≡ None
      free = none_at index 0 others others_numbered (omega (arith, as_many))

      names_stay : names_of others ≡ names_of i.parts
      names_stay = names_alike i.parts others alike

      no_home : (n : ℕ) → bytes_eq (home n) name ≡ false
      no_home n = elim (cases_lt n (length setup.outputs.names)) [
        | inl less ↦ apart_named (home n) name (names_of i.parts) (r.inside n less) new
        | inr past ↦ ap (λ (h : List ℕ). bytes_eq h name) (r.outside n past) ∙ not_empty_name name valid
      ]

      abbrev fills : Filling number library setup home kept name songs entered_image
      fills = record {
        same = went.library ∙ comes.library ∙ r.same;
        openings = went.openings ∙ comes.openings ∙ r.openings;
        client = went.own;
        there = went.there;
        listens = went.listens;
        front = others;
        own = fresh;
        index = sym went.index;
        parts = others_first;
        numbered = numbered_with 0 others fresh others_numbered (omega (arith, as_many));
        apart = free;
        fit = each_with (Fit setup.outputs.names home) others fresh (fit_alike setup.outputs.names home i.parts others alike r.fit)
            (record { all = refl; here = refl; stands = λ n. off_at n ∙ sym (no_home n); sound = off_at });
        have = have_alike library i.parts others kept alike r.have;
        named = refl;
        aligned = each_with (IsNamedSo index name) others fresh
            (aligned_front index name others (elsewhere index others free) (ap (is_named name) names_stay ∙ new))
            (eq-eqb index index refl ∙ sym (text_same name name refl));
        has = has_opening library.rate (openings_of setup) index name nowhere refl;
        room = (omega (arith, room.queue), omega (arith, room.ids));
        inside = λ n less. named_before (home n) others (fresh ∷ []) (ap (is_named (home n)) names_stay ∙ r.inside n less);
        outside = r.outside;
      }

      -- no line passes a limit
      abbrev most : ℕ
      most = setup.limits.max_cut

      far : (left : ℕ) → IsFarFrom seat (suc (suc left)) most r.part i → LeadsWithin i entered_image × IsFarFrom seat left most fresh entered_image
      far left h =
          let one : Image = opened_image in
          let first_said : Event = asking number (Run first (command.Partitions (partitions.NewPartition name))) in
          let then_said : Event = asking number (Run second (command.Partitions (partitions.Partition name))) in
          let enough : left ≤ most = omega (arith, h.has.cuts, h.cuts) in
          let zero : CanMove (suc left) most fresh = λ n. (let none = never_moved n in omega (arith, none, h.has.cuts, h.cuts)) in
          let comes_fine : limit_of seat i first_said ≡ None =
          no_limit seat number i r.client r.part first (partitions.NewPartition name) (crosses asked (Opens fresh)) Rests r.there r.listens r.placed opens_it refl refl refl refl refl
          (one_left seat (suc left) i r.part.player h.has) in
          let left_then : HasLeft seat (suc left) one r.part.player =
          left_for seat number i r.client r.part first (partitions.NewPartition name) (crosses asked (Opens fresh)) Rests r.there r.listens r.placed opens_it refl refl refl refl refl
          (suc left) r.part.player h.has (omega (arith, h.has.cuts)) (omega (arith, h.has.starts)) h.has.jobs in
          let moves_then : Each (CanMove (suc left) most) i.parts = fewer_moves (suc left) (suc (suc left)) most i.parts (omega arith) h.moves in
          let goes_fine : limit_of seat one then_said ≡ None =
          no_limit seat number one comes.own r.part second (partitions.Partition name) (enters asked_then index) (Leaves comes.own.number) comes.there comes.listens still_placed goes_it refl refl refl refl refl
          (one_left seat left one r.part.player left_then) in
          let left_last : HasLeft seat left entered_image fresh.player =
          left_for seat number one comes.own r.part second (partitions.Partition name) (enters asked_then index) (Leaves comes.own.number) comes.there comes.listens still_placed goes_it refl refl refl refl refl
          left fresh.player left_then (omega (arith, enough)) (omega (arith, enough)) (omega arith) in
          let moves_last : Each (CanMove left most) (others ++ fresh ∷ []) =
          each_with (CanMove left most) others fresh (moves_alike left most i.parts others alike (fewer_moves left (suc left) most i.parts (omega arith) moves_then))
          (λ n. (let now = zero n in omega (arith, now))) in (
            within_on i one entered_image (one_within seat i first_said comes_fine) (one_within seat one then_said goes_fine),
            record { has = left_last; cuts = refl; moves = subst (Each (CanMove left most)) (sym others_first) moves_last },
          )

  pub opens_and_fills : Filling number library setup home kept name songs
      (after_all seat number (map bytes_of_step (step.Open name ∷ step.Go name ∷ [])) i)
  opens_and_fills =
      let first : IsRead (codes "newpartition " ++ quoted_text name) (command.Partitions (partitions.NewPartition name)) = new_read name in
      let second : IsRead (codes "partition " ++ quoted_text name) (command.Partitions (partitions.Partition name)) = going_read name in
      let one : after_lines seat number (bytes_of_step (step.Open name)) i ≡ opened_image first.0 =
      one_line seat number (codes "newpartition " ++ quoted_text name) i ∙ ap (λ (q : Request). next_image seat i (asking number q)) first.1 in
      let two : after_lines seat number (bytes_of_step (step.Go name)) (opened_image first.0) ≡ entered_image first.0 second.0 =
      one_line seat number (codes "partition " ++ quoted_text name) (opened_image first.0) ∙ ap (λ (q : Request). next_image seat (opened_image first.0) (asking number q)) second.1 in
      subst (Filling number library setup home kept name songs) (sym (ap (after_lines seat number (bytes_of_step (step.Go name))) one ∙ two)) (fills first.0 second.0)

  -- the partition, where its lines pass no limit
  abbrev pub FillsWithin : ℕ → Image → Type 0
  FillsWithin left j = (f : Filling number library setup home kept name songs j) × (LeadsWithin i j × IsFarFrom seat left setup.limits.max_cut f.own j)

  pub opens_within : (left : ℕ) → IsFarFrom seat (suc (suc left)) setup.limits.max_cut r.part i
      → FillsWithin left (after_all seat number (map bytes_of_step (step.Open name ∷ step.Go name ∷ [])) i)
  opens_within left h =
      let first : IsRead (codes "newpartition " ++ quoted_text name) (command.Partitions (partitions.NewPartition name)) = new_read name in
      let second : IsRead (codes "partition " ++ quoted_text name) (command.Partitions (partitions.Partition name)) = going_read name in
      let one : after_lines seat number (bytes_of_step (step.Open name)) i ≡ opened_image first.0 =
      one_line seat number (codes "newpartition " ++ quoted_text name) i ∙ ap (λ (q : Request). next_image seat i (asking number q)) first.1 in
      let two : after_lines seat number (bytes_of_step (step.Go name)) (opened_image first.0) ≡ entered_image first.0 second.0 =
      one_line seat number (codes "partition " ++ quoted_text name) (opened_image first.0) ∙ ap (λ (q : Request). next_image seat (opened_image first.0) (asking number q)) second.1 in
      subst (FillsWithin left) (sym (ap (after_lines seat number (bytes_of_step (step.Go name))) one ∙ two)) (fills first.0 second.0, far first.0 second.0 left h)
