-- A player that was just opened, and is told the lines of all partitions.
use Rattle.std.proofs.Common.{◌≡◌, ℕ, suc, ◌+◌, ◌<◌, ◌≤◌, Bool, true, false, not, cond, ◌&&◌, ◌||◌, nat_lt, List, [], ◌∷◌, ◌++◌, length, map, Some, codes, refl, ap, sym, ◌∙◌, subst, arith, append_assoc, if◌then◌else◌}
use Rattle.std.specs.Prelude.{filter, find, slice_index_or}
use Rattle.std.specs.List.{flat_map}
use Rattle.std.specs.Str.{bytes_eq}
use Rattle.std.proofs.lemmas.Bool.{le-ltb, lt-ltb}
use Rattle.std.proofs.lemmas.List.{append-nil, length-append, length-map, map-append}
use Rattle.connected_clients.specs.Clients.{newcomer}
use Rattle.kept_state.specs.Lines.{Line, state_steps}
use Rattle.kept_state.specs.Partitions.{Pairwise}
use Rattle.kept_state.specs.PlayerReading.{AreNew, PlayerStep, is_named, own_steps, partition_steps, player_steps}
use Rattle.kept_state.specs.PlayerReading.{PlayerStep as step}
use Rattle.kept_state.specs.Players.{is_default}
use Rattle.kept_state.specs.Reading.{given_back, opened}
use Rattle.kept_state.specs.declared.partitions.KeptPartition.{KeptPartition}
use Rattle.partition_table.specs.Parts.{part_at}
use Rattle.partition.specs.Image.{Image, first_part, no_events, openings_of}
use Rattle.partition.specs.Step.{next_image}
use Rattle.partition.specs.declared.state.Setup.{Setup}
use Rattle.partition_commands.specs.Partitions.{is_partition_name}
use Rattle.player_state.specs.declared.state.Client.{Client}
use Rattle.player_state.specs.declared.state.Library.{Library}
use Rattle.player_state.specs.declared.state.Part.{Part}
use Rattle.state_laws.specs.Bytes.{bytes_of, read_bytes}
use Rattle.state_laws.specs.Having.{Has}
use Rattle.state_laws.specs.Partitions.{AreSetUp, CanBeTold, Each, HasPartition, PartitionsComeBack, after_all, bytes_of_step, home, name_of, others, IsFound, restored}
use Rattle.state_laws.specs.Saying.{EachAsks, HasRoom, PlayerHas, after_steps, begun, first_options, is_song, songs_of}
use Rattle.state_laws.proofs.Alike.{HasBack, fit_kept}
use Rattle.state_laws.proofs.Apart.{ChangesAlone, IsIn, found_behind, steps_alone}
use Rattle.state_laws.proofs.Between.{Filling, Ready, each_with, lines_joined, not_empty_name, own_all, pairwise_with}
use Rattle.state_laws.proofs.Bringing.{brings_all, brings_within, home_by, home_by_all, is_this}
use Rattle.state_laws.proofs.Bytes.{bytes_are_read}
use Rattle.state_laws.proofs.Events.{one_client, one_part}
use Rattle.state_laws.proofs.Numbers.{AreNumbered, either_way, names_of, neither, same_text, text_same}
use Rattle.state_laws.proofs.Opened.{has_opening, own}
use Rattle.state_laws.proofs.Opening.{opens_and_fills, opens_within}
use Rattle.state_laws.proofs.Spread.{Fit}
use Rattle.state_laws.proofs.Whole.{state_comes_back, state_fits}
use Rattle.state_laws.proofs.Among.{both_each, each_both, each_of, length_both, others_new, passes_first, steps_are}
use Rattle.state_laws.specs.Limits.{AllStayWithin, HasLeft, IsFar, LeadsWithin, count_lines, lines_of}
use Rattle.state_laws.proofs.Farness.{CanMove, IsFarFrom, fewer_moves, within_on}
use Rattle.state_laws.proofs.Limits.{one_more}
use Rattle.state_laws.proofs.Within.{EndsFar, none_made, steps_within}

-- ---- the state of a partition

-- the last partition keeps its number
last_numbered : (n : ℕ) (front : List Part) (p q : Part) → q.index ≡ p.index → AreNumbered n (front ++ p ∷ []) → AreNumbered n (front ++ q ∷ [])
last_numbered n [] p q same are = (same ∙ are.0, tt)
last_numbered n (f ∷ front) p q same are = (are.0, last_numbered (suc n) front p q same are.1)

last_of : {A : Type 0} (P : A → Type 0) (xs : List A) (y : A) → Each P (xs ++ y ∷ []) → P y
last_of P [] y all = all.0
last_of P (x ∷ xs) y all = last_of P xs y all.1

first_of : {A : Type 0} (P : A → Type 0) (xs : List A) (y : A) → Each P (xs ++ y ∷ []) → Each P xs
first_of P [] y all = tt
first_of P (x ∷ xs) y all = (all.0, first_of P xs y all.1)

names_with : (front : List Part) (p q : Part) → q.name ≡ p.name → names_of (front ++ q ∷ []) ≡ names_of (front ++ p ∷ [])
names_with [] p q same = ap (λ (n : List ℕ). n ∷ []) same
names_with (f ∷ front) p q same = ap (λ (ns : List (List ℕ)). f.name ∷ ns) (names_with front p q same)

module _ (seat number : ℕ) (library : Library) (setup : Setup) where
  abbrev names : List (List ℕ)
  names = setup.outputs.names

  module _ (homes : ℕ → List ℕ) (kept : List KeptPartition) (q : KeptPartition) (i : Image)
      (f : Filling number library setup homes kept q.name (songs_of (state_steps q.kept)) i) (ask : EachAsks (state_steps q.kept)) where
    abbrev songs : ℕ
    songs = songs_of (state_steps q.kept)

    abbrev after : Image
    after = after_steps seat number read_bytes (state_steps q.kept) i

    begins_with : PlayerHas library number (songs + 0) i (opened first_options)
    begins_with = record {
      same = f.same;
      client = f.client;
      there = f.there;
      listens = f.listens;
      part = f.own;
      placed = ap (part_at f.client.index) f.parts ∙ ap (λ (n : ℕ). part_at n (f.front ++ f.own ∷ [])) (sym f.index) ∙ found_behind f.own.index f.front f.own [] f.apart refl;
      has = f.has;
      room = (omega (arith, f.room.0), omega (arith, f.room.1));
    }

    alone : ChangesAlone number f.front f.own [] i after
    alone = steps_alone seat number library read_bytes bytes_are_read f.front [] (state_steps q.kept) 0 f.own i (opened first_options) ask
        (state_fits seat number library read_bytes bytes_are_read q.kept first_options) begins_with
        (record { client = f.client; there = f.there; index = f.index; apart = f.apart; parts = f.parts })

    comes_back : PlayerHas library number 0 after (given_back (is_song library) q.kept)
    comes_back = state_comes_back seat number 0 library read_bytes i q.kept first_options bytes_are_read ask begins_with

    abbrev there : IsIn number f.front alone.other [] after
    there = alone.there

    there_now : part_at there.client.index after.parts ≡ Some alone.other
    there_now =
        ap (part_at there.client.index) there.parts ∙ ap (λ (n : ℕ). part_at n (f.front ++ alone.other ∷ [])) (sym there.index)
        ∙ found_behind alone.other.index f.front alone.other [] there.apart refl

    same_part : comes_back.part ≡ alone.other
    same_part =
        let same_client : comes_back.client ≡ there.client = one_client comes_back.client there.client (sym comes_back.there ∙ there.there) in
        one_part comes_back.part alone.other (sym comes_back.placed ∙ ap (λ (k : Client). part_at k.index after.parts) same_client ∙ there_now)

    parts_are : after.parts ≡ f.front ++ alone.other ∷ []
    parts_are = there.parts

    abbrev is_filled : Ready number library setup homes (kept ++ q ∷ []) after
    is_filled = record {
      same = comes_back.same;
      openings = alone.openings ∙ f.openings;
      client = comes_back.client;
      there = comes_back.there;
      listens = comes_back.listens;
      part = comes_back.part;
      placed = comes_back.placed;
      numbered = subst (AreNumbered 0) (sym parts_are) (last_numbered 0 f.front f.own alone.other alone.keeps.index f.numbered);
      fit = subst (Each (Fit names homes)) (sym parts_are)
          (each_with (Fit names homes) f.front alone.other (first_of (Fit names homes) f.front f.own f.fit)
          (fit_kept names homes f.own alone.other alone.keeps (last_of (Fit names homes) f.front f.own f.fit)));
      have = subst (λ (ps : List Part). Pairwise (HasBack library) ps (kept ++ q ∷ [])) (sym parts_are)
          (pairwise_with (HasBack library) f.front kept alone.other q f.have
          (record {
            name = alone.keeps.name ∙ f.named;
            has = subst (λ (p : Part). Has library.rate p (given_back (is_song library) q.kept)) same_part comes_back.has;
          }));
      inside = λ n less.
          ap (λ (ps : List Part). is_named (homes n) (names_of ps)) parts_are
          ∙ ap (is_named (homes n)) (names_with f.front f.own alone.other alone.keeps.name) ∙ f.inside n less;
      outside = f.outside;
    }

    -- its lines pass no limit
    own_far : (left : ℕ) → IsFarFrom seat (lines_of (state_steps q.kept) + left) setup.limits.max_cut f.own i
        → LeadsWithin i after × IsFarFrom seat left setup.limits.max_cut is_filled.part after
    unfolding begins_with
    own_far left h =
        let far : IsFar seat number (lines_of (state_steps q.kept) + left) i = (f.client, f.own, f.there, begins_with.placed, h.has) in
        let ends : EndsFar seat number left i after =
        steps_within seat number library read_bytes bytes_are_read (state_steps q.kept) 0 left i (opened first_options) ask
        (state_fits seat number library read_bytes bytes_are_read q.kept first_options) begins_with far in
        let client : ends.1.0 ≡ comes_back.client = one_client ends.1.0 comes_back.client (sym ends.1.2 ∙ comes_back.there) in
        let part : ends.1.1 ≡ comes_back.part =
        one_part ends.1.1 comes_back.part (sym ends.1.3 ∙ ap (λ (k : Client). part_at k.index after.parts) client ∙ comes_back.placed) in
        let low : Each (CanMove left setup.limits.max_cut) (f.front ++ f.own ∷ []) =
        subst (Each (CanMove left setup.limits.max_cut)) f.parts (fewer_moves left (lines_of (state_steps q.kept) + left) setup.limits.max_cut i.parts (omega arith) h.moves) in
        let last : CanMove left setup.limits.max_cut alone.other =
        subst (λ (moves : List ℕ). (n : ℕ) → slice_index_or moves n 0 + left ≤ setup.limits.max_cut) (sym alone.keeps.moves) (last_of (CanMove left setup.limits.max_cut) f.front f.own low) in (
          ends.0,
          record {
            has = subst (λ (p : Part). HasLeft seat left after p.player) part ends.1.4;
            cuts = ap (λ (p : Part). p.player.max_cut) same_part ∙ alone.keeps.max_cut ∙ h.cuts;
            moves = subst (Each (CanMove left setup.limits.max_cut)) (sym parts_are)
                (each_with (CanMove left setup.limits.max_cut) f.front alone.other (first_of (CanMove left setup.limits.max_cut) f.front f.own low) last);
          },
        )

  -- ---- a partition, and all of them

  abbrev told : List PlayerStep → Image → Image
  told steps i = after_all seat number (map bytes_of_step steps) i

  told_joined : (xs ys : List PlayerStep) (i : Image) → told (xs ++ ys) i ≡ told ys (told xs i)
  told_joined xs ys i =
      ap (λ (lines : List (List (List ℕ))). after_all seat number lines i) (map-append bytes_of_step xs ys)
      ∙ lines_joined seat number (map bytes_of_step xs) (map bytes_of_step ys) i

  module _ (sets : AreSetUp setup.outputs) where
    one_told : (homes : ℕ → List ℕ) (kept : List KeptPartition) (q : KeptPartition) (i : Image) → Ready number library setup homes kept i
        → is_partition_name q.name ≡ true → is_named q.name (names_of i.parts) ≡ false → length i.parts < 16 → CanBeTold setup q
        → Ready number library setup (home_by_all setup.outputs q.outputs.items q.name homes) (kept ++ q ∷ []) (told (partition_steps q) i)
    one_told homes kept q i r valid new few can =
        let songs : ℕ = songs_of (state_steps q.kept) in
        let now : ℕ → List ℕ = home_by_all setup.outputs q.outputs.items q.name homes in
        let opening : List PlayerStep = step.Open q.name ∷ step.Go q.name ∷ [] in
        let bringing : List PlayerStep = map step.Bring q.outputs.items in
        let first : Image = told opening i in
        let second : Image = told bringing first in
        let fills : Filling number library setup homes kept q.name songs first =
        opens_and_fills seat number library setup homes kept q.name songs i r valid new few can.1 in
        let brought : Filling number library setup now kept q.name songs second =
        brings_all seat number library setup sets kept q.name songs q.outputs.items homes first fills in
        let last : told (partition_steps q) i ≡ after_steps seat number read_bytes (state_steps q.kept) second =
        told_joined bringing (own_steps q) first ∙ own_all seat number (state_steps q.kept) second in
        subst (Ready number library setup now (kept ++ q ∷ [])) (sym last) (is_filled now kept q second brought can.0)

    -- the same, where its lines pass no limit
    abbrev ReadyWithin : (ℕ → List ℕ) → List KeptPartition → ℕ → Image → Image → Type 0
    ReadyWithin homes kept left i j = (r : Ready number library setup homes kept j) × (LeadsWithin i j × IsFarFrom seat left setup.limits.max_cut r.part j)

    abbrev lines_of_one : KeptPartition → ℕ
    lines_of_one q = length q.outputs.items + lines_of (state_steps q.kept)

    one_within : (left : ℕ) (homes : ℕ → List ℕ) (kept : List KeptPartition) (q : KeptPartition) (i : Image) (r : Ready number library setup homes kept i)
        → is_partition_name q.name ≡ true → is_named q.name (names_of i.parts) ≡ false → length i.parts < 16 → CanBeTold setup q
        → IsFarFrom seat (suc (suc (length q.outputs.items + (lines_of (state_steps q.kept) + left)))) setup.limits.max_cut r.part i
        → ReadyWithin (home_by_all setup.outputs q.outputs.items q.name homes) (kept ++ q ∷ []) left i (told (partition_steps q) i)
    one_within left homes kept q i r valid new few can h =
        let songs : ℕ = songs_of (state_steps q.kept) in
        let now : ℕ → List ℕ = home_by_all setup.outputs q.outputs.items q.name homes in
        let bringing : List PlayerStep = map step.Bring q.outputs.items in
        let first : Image = told (step.Open q.name ∷ step.Go q.name ∷ []) i in
        let second : Image = told bringing first in
        let third : Image = after_steps seat number read_bytes (state_steps q.kept) second in
        let opens = opens_within seat number library setup homes kept q.name songs i r valid new few can.1 (length q.outputs.items + (lines_of (state_steps q.kept) + left)) h in
        let brings = brings_within seat number library setup sets kept q.name songs q.outputs.items (lines_of (state_steps q.kept) + left) homes first opens.0 opens.1.1 in
        let owns = own_far now kept q second brings.0 can.0 left brings.1.1 in
        let last : told (partition_steps q) i ≡ third = told_joined bringing (own_steps q) first ∙ own_all seat number (state_steps q.kept) second in
        subst (ReadyWithin now (kept ++ q ∷ []) left i) (sym last)
        (is_filled now kept q second brings.0 can.0, (within_on i first third opens.1.0 (within_on first second third brings.1.0 owns.0), owns.1))

    -- the homes that partitions give to outputs, one after the other
    abbrev homes_by : List KeptPartition → (ℕ → List ℕ) → ℕ → List ℕ
    homes_by [] homes = homes
    homes_by (q ∷ more) homes = homes_by more (home_by_all setup.outputs q.outputs.items q.name homes)

    abbrev CanFollow : KeptPartition → Type 0
    CanFollow q = (is_partition_name q.name ≡ true) × CanBeTold setup q

    names_kept : (ps : List Part) (qs : List KeptPartition) → Pairwise (HasBack library) ps qs → names_of ps ≡ map (λ (q : KeptPartition). q.name) qs
    names_kept [] [] all = refl
    names_kept [] (q ∷ qs) all = absurd all
    names_kept (p ∷ ps) [] all = absurd all
    names_kept (p ∷ ps) (q ∷ qs) all = λ i. all.0.name i ∷ names_kept ps qs all.1 i

    length_kept : (ps : List Part) (qs : List KeptPartition) → Pairwise (HasBack library) ps qs → length ps ≡ length qs
    length_kept [] [] all = refl
    length_kept [] (q ∷ qs) all = absurd all
    length_kept (p ∷ ps) [] all = absurd all
    length_kept (p ∷ ps) (q ∷ qs) all = ap (λ (n : ℕ). suc n) (length_kept ps qs all.1)

    abbrev called : List KeptPartition → List (List ℕ)
    called qs = map (λ (q : KeptPartition). q.name) qs

    all_told : (more : List KeptPartition) (homes : ℕ → List ℕ) (kept : List KeptPartition) (i : Image) → Ready number library setup homes kept i
        → AreNew (called kept) more → length kept + length more ≤ 16 → Each CanFollow more
        → Ready number library setup (homes_by more homes) (kept ++ more) (told (flat_map partition_steps more) i)
    all_told [] homes kept i r new few can = subst (λ (qs : List KeptPartition). Ready number library setup homes qs i) (sym (append-nil kept)) r
    all_told (q ∷ more) homes kept i r new few can =
        let next : Image = told (partition_steps q) i in
        let now : ℕ → List ℕ = home_by_all setup.outputs q.outputs.items q.name homes in
        let so : names_of i.parts ≡ called kept = names_kept i.parts kept r.have in
        let many : length i.parts ≡ length kept = length_kept i.parts kept r.have in
        let one : Ready number library setup now (kept ++ q ∷ []) next =
        one_told homes kept q i r can.0.0 (ap (is_named q.name) so ∙ new.0) (omega (arith, few, many)) can.0.1 in
        let longer : called (kept ++ q ∷ []) ≡ called kept ++ q.name ∷ [] = map-append (λ (q : KeptPartition). q.name) kept (q ∷ []) in
        let rest : Ready number library setup (homes_by more now) ((kept ++ q ∷ []) ++ more) (told (flat_map partition_steps more) next) =
        all_told more now (kept ++ q ∷ []) next one (subst (λ (ns : List (List ℕ)). AreNew ns more) (sym longer) new.1)
        (omega (arith, few, length-append kept (q ∷ []))) can.1 in
        subst (Ready number library setup (homes_by more now) (kept ++ q ∷ more)) (sym (told_joined (partition_steps q) (flat_map partition_steps more) i))
        (subst (λ (qs : List KeptPartition). Ready number library setup (homes_by more now) qs (told (flat_map partition_steps more) next)) (append_assoc kept (q ∷ []) more) rest)

    -- how many lines these partitions have
    abbrev lines_of_all : List KeptPartition → ℕ
    lines_of_all [] = 0
    lines_of_all (q ∷ more) = suc (suc (lines_of_one q)) + lines_of_all more

    all_within : (more : List KeptPartition) (left : ℕ) (homes : ℕ → List ℕ) (kept : List KeptPartition) (i : Image) (r : Ready number library setup homes kept i)
        → AreNew (called kept) more → length kept + length more ≤ 16 → Each CanFollow more
        → IsFarFrom seat (lines_of_all more + left) setup.limits.max_cut r.part i → LeadsWithin i (told (flat_map partition_steps more) i)
    all_within [] left homes kept i r new few can h = ([], refl, tt, tt)
    all_within (q ∷ more) left homes kept i r new few can h =
        let next : Image = told (partition_steps q) i in
        let now : ℕ → List ℕ = home_by_all setup.outputs q.outputs.items q.name homes in
        let so : names_of i.parts ≡ called kept = names_kept i.parts kept r.have in
        let many : length i.parts ≡ length kept = length_kept i.parts kept r.have in
        let far : IsFarFrom seat (suc (suc (length q.outputs.items + (lines_of (state_steps q.kept) + (lines_of_all more + left))))) setup.limits.max_cut r.part i =
        subst (λ (n : ℕ). IsFarFrom seat n setup.limits.max_cut r.part i) (omega arith) h in
        let one : ReadyWithin now (kept ++ q ∷ []) (lines_of_all more + left) i next =
        one_within (lines_of_all more + left) homes kept q i r can.0.0 (ap (is_named q.name) so ∙ new.0) (omega (arith, few, many)) can.0.1 far in
        let longer : called (kept ++ q ∷ []) ≡ called kept ++ q.name ∷ [] = map-append (λ (q : KeptPartition). q.name) kept (q ∷ []) in
        let rest : LeadsWithin next (told (flat_map partition_steps more) next) =
        all_within more left now (kept ++ q ∷ []) next one.0 (subst (λ (ns : List (List ℕ)). AreNew ns more) (sym longer) new.1)
        (omega (arith, few, length-append kept (q ∷ []))) can.1 one.1.1 in
        subst (LeadsWithin i) (sym (told_joined (partition_steps q) (flat_map partition_steps more) i))
        (within_on i next (told (flat_map partition_steps more) next) one.1.0 rest)

    -- ---- the first partition

    abbrev first_homes : ℕ → List ℕ
    first_homes n = if nat_lt n (length names) then codes "default" else []

    begins_filling : (number_of_songs : ℕ) (q : KeptPartition) → is_default q ≡ true → HasRoom setup number_of_songs
        → Filling number library setup first_homes [] q.name number_of_songs (begun seat number setup library)
    unfolding next_image
    begins_filling songs q is room =
        let by_flag : (b : Bool) → b ≡ bytes_eq (if b then codes "default" else []) (codes "default") =
        λ b. elim b as (λ b. b ≡ bytes_eq (if b then codes "default" else []) (codes "default")) [ true ↦ refl | false ↦ refl ] in
        record {
          same = refl;
          openings = refl;
          client = newcomer number;
          there = own number;
          listens = refl;
          front = [];
          own = first_part setup;
          index = refl;
          parts = refl;
          numbered = (refl, tt);
          apart = refl;
          fit = (record { all = refl; here = sets.here; stands = λ n. sets.first n ∙ by_flag (nat_lt n (length names)); sound = sets.sound }, tt);
          have = tt;
          named = sym (same_text q.name (codes "default") is);
          aligned = (sym is, tt);
          has = has_opening library.rate (openings_of setup) 0 (codes "default") setup.outputs room.known;
          room = (omega (arith, room.queue), omega (arith, room.ids));
          inside = λ n less. ap (λ (b : Bool). is_named (if b then codes "default" else []) (codes "default" ∷ [])) (lt-ltb n (length names) less);
          outside = λ n past. ap (λ (b : Bool). if b then codes "default" else []) (le-ltb n (length names) past);
        }

    first_told : (q : KeptPartition) → is_default q ≡ true → CanBeTold setup q
        → Ready number library setup first_homes (q ∷ []) (told (own_steps q) (begun seat number setup library))
    first_told q is can =
        let start : Image = begun seat number setup library in
        subst (Ready number library setup first_homes (q ∷ [])) (sym (own_all seat number (state_steps q.kept) start))
        (is_filled first_homes [] q start (begins_filling (songs_of (state_steps q.kept)) q is can.1) can.0)

    begins_far : (left number_of_songs : ℕ) (q : KeptPartition) (is : is_default q ≡ true) (room : HasRoom setup number_of_songs)
        → ((output : ℕ) → slice_index_or setup.outputs.moves output 0 ≡ 0) → left ≤ setup.limits.max_cut → left < 9223372036854775806
        → IsFarFrom seat left setup.limits.max_cut (begins_filling number_of_songs q is room).own (begun seat number setup library)
    unfolding next_image begins_filling
    begins_far left songs q is room unmoved cuts made = record {
      has = record {
        made = omega (arith, made, one_more no_events seat, none_made seat);
        books = refl;
        cuts = omega (arith, cuts);
        starts = omega (arith, cuts);
        jobs = omega arith;
      };
      cuts = refl;
      moves = (λ n. (let none = unmoved n in omega (arith, none, cuts)), tt);
    }

    -- the first partition, where its lines pass no limit
    first_within : (left : ℕ) (q : KeptPartition) → is_default q ≡ true → CanBeTold setup q → ((output : ℕ) → slice_index_or setup.outputs.moves output 0 ≡ 0)
        → lines_of (state_steps q.kept) + left ≤ setup.limits.max_cut → lines_of (state_steps q.kept) + left < 9223372036854775806
        → ReadyWithin first_homes (q ∷ []) left (begun seat number setup library) (told (own_steps q) (begun seat number setup library))
    first_within left q is can unmoved cuts made =
        let start : Image = begun seat number setup library in
        let f : Filling number library setup first_homes [] q.name (songs_of (state_steps q.kept)) start = begins_filling (songs_of (state_steps q.kept)) q is can.1 in
        let far = begins_far (lines_of (state_steps q.kept) + left) (songs_of (state_steps q.kept)) q is can.1 unmoved cuts made in
        let owns = own_far first_homes [] q start f can.0 left far in
        subst (ReadyWithin first_homes (q ∷ []) left start) (sym (own_all seat number (state_steps q.kept) start))
        (is_filled first_homes [] q start f can.0, owns)

    -- ---- how many lines there are

    count_joined : (xs ys : List (List (List ℕ))) → count_lines (xs ++ ys) ≡ count_lines xs + count_lines ys
    count_joined [] ys = omega arith
    count_joined (x ∷ xs) ys = let more = count_joined xs ys in omega (arith, more)

    abbrev count : List PlayerStep → ℕ
    count steps = count_lines (map bytes_of_step steps)

    count_both : (xs ys : List PlayerStep) → count (xs ++ ys) ≡ count xs + count ys
    count_both xs ys = ap count_lines (map-append bytes_of_step xs ys) ∙ count_joined (map bytes_of_step xs) (map bytes_of_step ys)

    count_own : (steps : List (List Line)) → count (map step.Own steps) ≡ lines_of steps
    count_own [] = refl
    count_own (lines ∷ steps) = let more = count_own steps in let size = length-map lines bytes_of in omega (arith, more, size)

    count_brings : (outputs : List (List ℕ)) → count (map step.Bring outputs) ≡ length outputs
    count_brings [] = refl
    count_brings (output ∷ outputs) = let more = count_brings outputs in omega (arith, more)

    count_all : (qs : List KeptPartition) → count (flat_map partition_steps qs) ≡ lines_of_all qs
    count_all [] = refl
    count_all (q ∷ qs) =
        let both = count_both (partition_steps q) (flat_map partition_steps qs) in
        let inner = count_both (map step.Bring q.outputs.items) (own_steps q) in
        let outs = count_brings q.outputs.items in
        let owns = count_own (state_steps q.kept) in
        let more = count_all qs in
        omega (arith, both, inner, outs, owns, more)

    -- ---- homes

    home_once : (output : List ℕ) (outs : List (List ℕ)) (name old : List ℕ) (n : ℕ) (at : ℕ → List ℕ) → n < length names → name_of setup.outputs n ≡ output → at n ≡ old
        → home_by_all setup.outputs outs name at n ≡ (if is_named output outs then name else old)
    home_once output [] name old n at less is was = was
    home_once output (o ∷ outs) name old n at less is was =
        let this : is_this setup.outputs o n ≡ bytes_eq output o =
        ap (λ (b : Bool). b && bytes_eq (name_of setup.outputs n) o) (lt-ltb n (length names) less) ∙ ap (λ (x : List ℕ). bytes_eq x o) is in
        let first : home_by setup.outputs o name at n ≡ (if bytes_eq output o then name else old) =
        ap (λ (b : Bool). if b then name else at n) this ∙ ap (λ (x : List ℕ). if bytes_eq output o then name else x) was in
        let twice : (b c : Bool) → (if c then name else (if b then name else old)) ≡ (if b || c then name else old) =
        λ b c. elim b as (λ b. (if c then name else (if b then name else old)) ≡ (if b || c then name else old))
        [ true ↦ elim c as (λ c. (if c then name else name) ≡ name) [ true ↦ refl | false ↦ refl ] | false ↦ refl ] in
        home_once output outs name (if bytes_eq output o then name else old) n (home_by setup.outputs o name at) less is first ∙ twice (bytes_eq output o) (is_named output outs)

    home_always : (output : List ℕ) (n : ℕ) (qs : List KeptPartition) (at : ℕ → List ℕ) (old : List ℕ) → n < length names → name_of setup.outputs n ≡ output → at n ≡ old
        → homes_by qs at n ≡ home output old qs
    home_always output n [] at old less is was = was
    home_always output n (q ∷ qs) at old less is was =
        home_always output n qs (home_by_all setup.outputs q.outputs.items q.name at) (if is_named output q.outputs.items then q.name else old) less is
        (home_once output q.outputs.items q.name old n at less is was)

    -- ---- all partitions are found

    abbrev Found : List KeptPartition → Image → KeptPartition → Type 0
    Found all i q = (part : Part) × IsFound q.name i part × HasPartition library setup.outputs all part q

    module _ (all : List KeptPartition) (i : Image) (at : ℕ → List ℕ)
        (inside : (n : ℕ) → n < length names → at n ≡ home (name_of setup.outputs n) (codes "default") (others all))
        (outside : (n : ℕ) → length names ≤ n → at n ≡ []) where
      -- what a partition has
      has_it : (p : Part) (q : KeptPartition) → HasBack library p q → Fit names at p → is_partition_name q.name ≡ true → HasPartition library setup.outputs all p q
      has_it p q h f valid = record {
        has = h.has;
        stands = λ n less. f.stands n ∙ ap (λ (x : List ℕ). bytes_eq x p.name) (inside n less) ∙ ap (bytes_eq (home (name_of setup.outputs n) (codes "default") (others all))) h.name;
        no_more = λ n past. f.stands n ∙ ap (λ (x : List ℕ). bytes_eq x p.name) (outside n past) ∙ ap (bytes_eq []) h.name ∙ not_empty_name q.name valid;
        sound = f.sound;
      }

      abbrev by_name : List ℕ → Part → Bool
      by_name name p = bytes_eq p.name name

      not_among : (name : List ℕ) (front rest : List Part) → is_named name (names_of front) ≡ false → find (by_name name) (front ++ rest) ≡ find (by_name name) rest
      not_among name [] rest new = refl
      not_among name (p ∷ front) rest new =
          let both = neither (bytes_eq name p.name) (is_named name (names_of front)) new in
          ap (λ (b : Bool). cond b (Some p) (find (by_name name) (front ++ rest))) (either_way p.name name ∙ both.0) ∙ not_among name front rest both.1

      each_found : (front ps : List Part) (qs : List KeptPartition) → i.parts ≡ front ++ ps → Pairwise (HasBack library) ps qs → AreNew (names_of front) qs
          → Each (Fit names at) ps → Each (λ (q : KeptPartition). is_partition_name q.name ≡ true) qs → Each (Found all i) qs
      each_found front [] [] are have new fit valid = tt
      each_found front [] (q ∷ qs) are have new fit valid = absurd have
      each_found front (p ∷ ps) [] are have new fit valid = absurd have
      each_found front (p ∷ ps) (q ∷ qs) are have new fit valid =
          let found : find (by_name q.name) i.parts ≡ Some p =
          ap (find (by_name q.name)) are ∙ not_among q.name front (p ∷ ps) new.0
          ∙ ap (λ (b : Bool). cond b (Some p) (find (by_name q.name) ps)) (text_same p.name q.name have.0.name) in
          let longer : names_of (front ++ p ∷ []) ≡ names_of front ++ q.name ∷ [] =
          map-append (λ (p : Part). p.name) front (p ∷ []) ∙ ap (λ (n : List ℕ). names_of front ++ n ∷ []) have.0.name in (
            (p, found, has_it p q have.0 fit.0 valid.0),
            each_found (front ++ p ∷ []) ps qs (are ∙ sym (append_assoc front (p ∷ []) ps)) have.1 (subst (λ (ns : List (List ℕ)). AreNew ns qs) (sym longer) new.1) fit.1 valid.1,
          )

pub partitions_come_back : PartitionsComeBack
partitions_come_back seat number setup library partitions sets are can =
    let first : KeptPartition = are.first in
    let rest : List KeptPartition = others partitions in
    let is : is_default first ≡ true = passes_first partitions first are.default in
    let first_name : first.name ≡ codes "default" = same_text first.name (codes "default") is in
    let of_first : Each (CanBeTold setup) (first ∷ []) =
    subst (Each (CanBeTold setup)) are.default (each_of (CanBeTold setup) is_default partitions can) in
    let valid_first : Each (λ (q : KeptPartition). is_partition_name q.name ≡ true) (first ∷ []) =
    subst (Each (λ (q : KeptPartition). is_partition_name q.name ≡ true)) are.default
    (each_of (λ (q : KeptPartition). is_partition_name q.name ≡ true) is_default partitions are.named) in
    let valid_rest : Each (λ (q : KeptPartition). is_partition_name q.name ≡ true) rest =
    each_of (λ (q : KeptPartition). is_partition_name q.name ≡ true) (λ (q : KeptPartition). not (is_default q)) partitions are.named in
    let can_rest : Each (CanBeTold setup) rest = each_of (CanBeTold setup) (λ (q : KeptPartition). not (is_default q)) partitions can in
    let new : AreNew (first.name ∷ []) rest =
    others_new partitions [] (first.name ∷ [])
    (λ x other fresh. ap (λ (n : List ℕ). bytes_eq x n || false) first_name ∙ ap (λ (b : Bool). b || false) other) are.apart in
    let split : length (filter is_default partitions) + length rest ≡ length partitions = length_both is_default partitions in
    let sum : length (first ∷ rest) ≡ length partitions = omega (arith, split, ap (λ (qs : List KeptPartition). length qs) are.default) in
    let begun_with : Ready number library setup (first_homes seat number library setup sets) (first ∷ []) (told seat number library setup (own_steps first) (begun seat number setup library)) =
    first_told seat number library setup sets first is of_first.0 in
    let i : Image = restored seat number setup library partitions in
    let at : ℕ → List ℕ = homes_by seat number library setup sets rest (first_homes seat number library setup sets) in
    let same : i ≡ told seat number library setup (flat_map partition_steps rest) (told seat number library setup (own_steps first) (begun seat number setup library)) =
    ap (λ (s : List PlayerStep). told seat number library setup s (begun seat number setup library)) (steps_are partitions first are.default)
    ∙ told_joined seat number library setup (own_steps first) (flat_map partition_steps rest) (begun seat number setup library) in
    let r : Ready number library setup at (first ∷ rest) i =
    subst (Ready number library setup at (first ∷ rest)) (sym same)
    (all_told seat number library setup sets rest (first_homes seat number library setup sets) (first ∷ []) (told seat number library setup (own_steps first) (begun seat number setup library))
    begun_with new (omega (arith, sum, are.few)) (both_each (λ (q : KeptPartition). is_partition_name q.name ≡ true) (CanBeTold setup) rest valid_rest can_rest)) in
    let inside : (n : ℕ) → n < length setup.outputs.names → at n ≡ home (name_of setup.outputs n) (codes "default") rest =
    λ n less. home_always seat number library setup sets (name_of setup.outputs n) n rest (first_homes seat number library setup sets) (codes "default") less refl
    (ap (λ (b : Bool). if b then codes "default" else []) (lt-ltb n (length setup.outputs.names) less)) in
    let found : Each (Found seat number library setup sets partitions i) (first ∷ rest) =
    each_found seat number library setup sets partitions i at inside r.outside [] i.parts (first ∷ rest) refl r.have (refl, new) r.fit (valid_first.0, valid_rest) in
    record {
      each = each_both (Found seat number library setup sets partitions i) is_default partitions
          (subst (Each (Found seat number library setup sets partitions i)) (sym are.default) (found.0, tt)) found.1;
      alone = length_kept seat number library setup sets i.parts (first ∷ rest) r.have ∙ sum;
    }

pub all_stay_within : AllStayWithin
all_stay_within seat number setup library partitions sets unmoved are can cuts made =
    let first : KeptPartition = are.first in
    let rest : List KeptPartition = others partitions in
    let is : is_default first ≡ true = passes_first partitions first are.default in
    let first_name : first.name ≡ codes "default" = same_text first.name (codes "default") is in
    let of_first : Each (CanBeTold setup) (first ∷ []) = subst (Each (CanBeTold setup)) are.default (each_of (CanBeTold setup) is_default partitions can) in
    let valid_rest : Each (λ (q : KeptPartition). is_partition_name q.name ≡ true) rest =
    each_of (λ (q : KeptPartition). is_partition_name q.name ≡ true) (λ (q : KeptPartition). not (is_default q)) partitions are.named in
    let can_rest : Each (CanBeTold setup) rest = each_of (CanBeTold setup) (λ (q : KeptPartition). not (is_default q)) partitions can in
    let new : AreNew (first.name ∷ []) rest =
    others_new partitions [] (first.name ∷ [])
    (λ x other fresh. ap (λ (n : List ℕ). bytes_eq x n || false) first_name ∙ ap (λ (b : Bool). b || false) other) are.apart in
    let split : length (filter is_default partitions) + length rest ≡ length partitions = length_both is_default partitions in
    let sum : length (first ∷ rest) ≡ length partitions = omega (arith, split, ap (λ (qs : List KeptPartition). length qs) are.default) in
    let start : Image = begun seat number setup library in
    let middle : Image = told seat number library setup (own_steps first) start in
    let so = steps_are partitions first are.default in
    let many : count seat number library setup sets (player_steps partitions) ≡ lines_of (state_steps first.kept) + lines_of_all seat number library setup sets rest =
    ap (count seat number library setup sets) so ∙ count_both seat number library setup sets (own_steps first) (flat_map partition_steps rest)
    ∙ omega (arith, count_own seat number library setup sets (state_steps first.kept), count_all seat number library setup sets rest) in
    let begun_within = first_within seat number library setup sets (lines_of_all seat number library setup sets rest) first is of_first.0 unmoved (omega (arith, many, cuts)) (omega (arith, many, made)) in
    let same : restored seat number setup library partitions ≡ told seat number library setup (flat_map partition_steps rest) middle =
    ap (λ (s : List PlayerStep). told seat number library setup s start) so ∙ told_joined seat number library setup (own_steps first) (flat_map partition_steps rest) start in
    let more : LeadsWithin middle (told seat number library setup (flat_map partition_steps rest) middle) =
    all_within seat number library setup sets rest 0 (first_homes seat number library setup sets) (first ∷ []) middle begun_within.0 new (omega (arith, sum, are.few))
    (both_each (λ (q : KeptPartition). is_partition_name q.name ≡ true) (CanBeTold setup) rest valid_rest can_rest)
    (subst (λ (n : ℕ). IsFarFrom seat n setup.limits.max_cut begun_within.0.part middle) (omega arith) begun_within.1.1) in
    subst (LeadsWithin start) (sym same) (within_on start middle (told seat number library setup (flat_map partition_steps rest) middle) begun_within.1.0 more)
