-- A player with partitions that reads the lines of its state has in each what is kept.
use Rattle.std.proofs.Common.{◌≡◌, ◌∙◌, ◌||◌, ℕ, Bool, true, false, List, [], ◌∷◌, ◌++◌, map, refl, sym, ap, subst, append_assoc, codes, if◌then◌else◌}
use Rattle.std.specs.List.{flat_map}
use Rattle.std.specs.Str.{bytes_eq}
use Rattle.std.proofs.lemmas.Grind.{flat_map-append}
use Rattle.std.proofs.lemmas.List.{append-nil, map-append}
use Rattle.std.proofs.lemmas.List.Folds.{flat_map-map}
use Rattle.std.proofs.lemmas.Slice.Eq.{bytes_eq-Decides}
use Rattle.kept_state.specs.Lines.{Line, state_steps}
use Rattle.kept_state.specs.PlayerReading.{AreNew, Named, PartitionsGiveBack, PlayerStep, Players, back, begun, changed, default_steps, is_named, names, other_steps, own_steps, partition_steps, player_steps, read_player, read_players, standing, text_of_player_step}
use Rattle.kept_state.specs.PlayerReading.{PlayerStep as step}
use Rattle.kept_state.specs.Players.{bring_text, default_text, is_default, other_text, partition_text, player_text}
use Rattle.kept_state.specs.Reading.{Player, given_back, opened, read_step, read_steps}
use Rattle.kept_state.specs.Texts.{line, state_text}
use Rattle.kept_state.specs.declared.kept.KeptOptions.{KeptOptions}
use Rattle.kept_state.specs.declared.partitions.KeptPartition.{KeptPartition}
use Rattle.kept_state.proofs.Back.{gives_back}
use Rattle.kept_state.proofs.Texts.{tells_steps}
use Rattle.mpd_text.specs.Lines.Quoted.{quoted_text}

-- ---- names

same : (n : List ℕ) → bytes_eq n n ≡ true
same n = (bytes_eq-Decides n n).1 refl

or_false : (a b : Bool) → (a || b) ≡ false → (a ≡ false) × (b ≡ false)
or_false true b is = cc
or_false false b is = (refl, is)

or_true : (a : Bool) → (a || true) ≡ true
or_true true = refl
or_true false = refl

-- ---- a change of one partition

unchanged_at : (n : List ℕ) (f : Player → Player) (b : Bool) (p : Named) → bytes_eq n p.name ≡ b → (b ≡ true → f p.player ≡ p.player) → changed n f p ≡ p
unchanged_at n f true p is same = ap (λ (b : Bool). record p { player = if b then f p.player else p.player }) is ∙ ap (λ x. record p { player = x }) (same refl)
unchanged_at n f false p is same = ap (λ (b : Bool). record p { player = if b then f p.player else p.player }) is

unchanged : (n : List ℕ) (f : Player → Player) → ((x : Player) → f x ≡ x) → (all : List Named) → map (changed n f) all ≡ all
unchanged n f same [] = refl
unchanged n f same (p ∷ ps) =
    ap (λ q. q ∷ map (changed n f) ps) (unchanged_at n f (bytes_eq n p.name) p refl (λ is. same p.player))
    ∙ ap (λ qs. p ∷ qs) (unchanged n f same ps)

twice_at : (f g : Player → Player) (b : Bool) (x : Player)
    → (if b then g (if b then f x else x) else (if b then f x else x)) ≡ (if b then g (f x) else x)
twice_at f g true x = refl
twice_at f g false x = refl

twice : (n : List ℕ) (f g : Player → Player) (all : List Named) → map (changed n g) (map (changed n f) all) ≡ map (changed n (λ x. g (f x))) all
twice n f g [] = refl
twice n f g (p ∷ ps) =
    ap (λ x. record p { player = x } ∷ map (changed n g) (map (changed n f) ps)) (twice_at f g (bytes_eq n p.name) p.player)
    ∙ ap (λ qs. changed n (λ x. g (f x)) p ∷ qs) (twice n f g ps)

abbrev called : List ℕ → Player → Named
called n player = record { name = n; player = player }

-- the last partition is the only one of its name
at_end : (n : List ℕ) (f : Player → Player) (x : Player) (all : List Named) → is_named n (names all) ≡ false
    → map (changed n f) (all ++ called n x ∷ []) ≡ all ++ called n (f x) ∷ []
at_end n f x [] new = ap (λ (b : Bool). called n (if b then f x else x) ∷ []) (same n)
at_end n f x (q ∷ qs) new =
    let no : (bytes_eq n q.name ≡ false) × (is_named n (names qs) ≡ false) = or_false (bytes_eq n q.name) (is_named n (names qs)) new in
    ap (λ (b : Bool). record q { player = if b then f q.player else q.player } ∷ map (changed n f) (qs ++ called n x ∷ [])) no.0
    ∙ ap (λ rest. q ∷ rest) (at_end n f x qs no.1)

there_at : (n : List ℕ) (x : Player) (all : List Named) → is_named n (names (all ++ called n x ∷ [])) ≡ true
there_at n x [] = ap (λ (b : Bool). b || false) (same n)
there_at n x (q ∷ qs) = ap (λ (b : Bool). bytes_eq n q.name || b) (there_at n x qs) ∙ or_true (bytes_eq n q.name)

-- ---- steps that are read

joined : (has : List ℕ → Bool) (o : KeptOptions) (xs ys : List PlayerStep) (p : Players)
    → read_players has o (xs ++ ys) p ≡ read_players has o ys (read_players has o xs p)
joined has o [] ys p = refl
joined has o (x ∷ xs) ys p = joined has o xs ys (read_player has o p x)

own_all : (has : List ℕ → Bool) (o : KeptOptions) (steps : List (List Line)) (p : Players)
    → read_players has o (map step.Own steps) p ≡ record p { all = map (changed p.here (read_steps has steps)) p.all }
own_all has o [] p = sym (ap (λ all. record p { all = all }) (unchanged p.here (read_steps has []) (λ x. refl) p.all))
own_all has o (s ∷ steps) p =
    own_all has o steps (record p { all = map (changed p.here (read_step has s)) p.all })
    ∙ ap (λ all. record p { all = all }) (twice p.here (read_step has s) (read_steps has steps) p.all)

bring_all : (has : List ℕ → Bool) (o : KeptOptions) (outputs : List (List ℕ)) (p : Players)
    → read_players has o (map step.Bring outputs) p ≡ record p { brought = p.brought ++ map (λ output. (output, p.here)) outputs }
bring_all has o [] p = sym (ap (λ brought. record p { brought = brought }) (append-nil p.brought))
bring_all has o (output ∷ outputs) p =
    bring_all has o outputs (record p { brought = p.brought ++ (output, p.here) ∷ [] })
    ∙ ap (λ brought. record p { brought = brought }) (append_assoc p.brought ((output, p.here) ∷ []) (map (λ output. (output, p.here)) outputs))

abbrev with_back : (List ℕ → Bool) → KeptPartition → Players → Players
with_back has q p = record p { all = p.all ++ back has q ∷ []; here = q.name; brought = p.brought ++ standing q }

partition_read : (has : List ℕ → Bool) (o : KeptOptions) (q : KeptPartition) (p : Players) → is_named q.name (names p.all) ≡ false
    → read_players has o (partition_steps q) p ≡ with_back has q p
partition_read has o q p new =
    let n = q.name in
    let p1 : Players = record p { all = p.all ++ called n (opened o) ∷ [] } in
    let p2 : Players = record p1 { here = n } in
    let p3 : Players = record p2 { brought = p.brought ++ standing q } in
    let one : read_player has o p (step.Open n) ≡ p1 = ap (λ (b : Bool). if b then p else p1) new in
    let two : read_player has o p1 (step.Go n) ≡ p2 = ap (λ (b : Bool). if b then p2 else p1) (there_at n (opened o) p.all) in
    let rest = map step.Bring q.outputs.items ++ own_steps q in
    ap (read_players has o (step.Go n ∷ rest)) one
    ∙ ap (read_players has o rest) two
    ∙ joined has o (map step.Bring q.outputs.items) (own_steps q) p2
    ∙ ap (read_players has o (own_steps q)) (bring_all has o q.outputs.items p2)
    ∙ own_all has o (state_steps q.kept) p3
    ∙ ap (λ all. record p3 { all = all }) (at_end n (read_steps has (state_steps q.kept)) (opened o) p.all new)
    ∙ ap (λ x. record p3 { all = p.all ++ called n x ∷ [] }) (gives_back.player has q.kept o)

others_read : (has : List ℕ → Bool) (o : KeptOptions) (others : List KeptPartition) (p : Players) → AreNew (names p.all) others
    → ((read_players has o (flat_map partition_steps others) p).all ≡ p.all ++ map (back has) others)
    × ((read_players has o (flat_map partition_steps others) p).brought ≡ p.brought ++ flat_map standing others)
others_read has o [] p new = (sym (append-nil p.all), sym (append-nil p.brought))
others_read has o (q ∷ more) p new =
    let next = with_back has q p in
    let e : read_players has o (flat_map partition_steps (q ∷ more)) p ≡ read_players has o (flat_map partition_steps more) next =
    joined has o (partition_steps q) (flat_map partition_steps more) p
    ∙ ap (read_players has o (flat_map partition_steps more)) (partition_read has o q p new.0) in
    let are : names next.all ≡ names p.all ++ q.name ∷ [] = map-append (λ (x : Named). x.name) p.all (back has q ∷ []) in
    let rest = others_read has o more next (subst (λ ns. AreNew ns more) (sym are) new.1) in (
      ap (λ (x : Players). x.all) e ∙ rest.0 ∙ append_assoc p.all (back has q ∷ []) (map (back has) more),
      ap (λ (x : Players). x.brought) e ∙ rest.1 ∙ append_assoc p.brought (standing q) (flat_map standing more),
    )

-- ---- the partition `default` comes first

abbrev AreOthers : List KeptPartition → Type 0
AreOthers ps = (flat_map default_steps ps ≡ []) × (flat_map other_steps ps ≡ flat_map partition_steps ps)

others_steps : (rest : List (List ℕ)) (ps : List KeptPartition) → AreNew (codes "default" ∷ rest) ps → AreOthers ps
others_steps rest [] new = (refl, refl)
others_steps rest (p ∷ more) new =
    let no : is_default p ≡ false = (or_false (is_default p) (is_named p.name rest) new.0).0 in
    let others = others_steps (rest ++ p.name ∷ []) more new.1 in (
      ap (λ (b : Bool). (if b then own_steps p else []) ++ flat_map default_steps more) no ∙ others.0,
      ap (λ (b : Bool). (if b then [] else partition_steps p) ++ flat_map other_steps more) no ∙ ap (λ s. partition_steps p ++ s) others.1,
    )

abbrev IsWhole : List KeptPartition → KeptPartition → List KeptPartition → Type 0
IsWhole before first after =
    (flat_map default_steps (before ++ first ∷ after) ≡ own_steps first)
    × (flat_map other_steps (before ++ first ∷ after) ≡ flat_map partition_steps (before ++ after))

whole_at : (rest : List (List ℕ)) (before after : List KeptPartition) (first : KeptPartition) → is_default first ≡ true
    → AreNew (codes "default" ∷ rest) (before ++ after) → IsWhole before first after
whole_at rest [] after first is new =
    let others = others_steps rest after new in (
      ap (λ (b : Bool). (if b then own_steps first else []) ++ flat_map default_steps after) is
          ∙ ap (λ s. own_steps first ++ s) others.0 ∙ append-nil (own_steps first),
      ap (λ (b : Bool). (if b then [] else partition_steps first) ++ flat_map other_steps after) is ∙ others.1,
    )
whole_at rest (p ∷ before) after first is new =
    let no : is_default p ≡ false = (or_false (is_default p) (is_named p.name rest) new.0).0 in
    let more = whole_at (rest ++ p.name ∷ []) before after first is new.1 in (
      ap (λ (b : Bool). (if b then own_steps p else []) ++ flat_map default_steps (before ++ first ∷ after)) no ∙ more.0,
      ap (λ (b : Bool). (if b then [] else partition_steps p) ++ flat_map other_steps (before ++ first ∷ after)) no
          ∙ ap (λ s. partition_steps p ++ s) more.1,
    )

-- a player that has the partition `default` alone, with what is kept of it
abbrev first_back : (List ℕ → Bool) → KeptOptions → KeptPartition → Players
first_back has o first = record (begun o) { all = called (codes "default") (given_back has first.kept) ∷ [] }

first_read : (has : List ℕ → Bool) (o : KeptOptions) (first : KeptPartition) → read_players has o (own_steps first) (begun o) ≡ first_back has o first
first_read has o first =
    own_all has o (state_steps first.kept) (begun o)
    ∙ ap (λ all. record (begun o) { all = all }) (at_end (codes "default") (read_steps has (state_steps first.kept)) (opened o) [] refl)
    ∙ ap (λ x. record (begun o) { all = called (codes "default") x ∷ [] }) (gives_back.player has first.kept o)

player_read : (has : List ℕ → Bool) (o : KeptOptions) (before after : List KeptPartition) (first : KeptPartition) → is_default first ≡ true
    → AreNew (codes "default" ∷ []) (before ++ after)
    → read_players has o (player_steps (before ++ first ∷ after)) (begun o)
    ≡ read_players has o (flat_map partition_steps (before ++ after)) (first_back has o first)
player_read has o before after first is new =
    let others = flat_map partition_steps (before ++ after) in
    let whole = whole_at [] before after first is new in
    let steps : player_steps (before ++ first ∷ after) ≡ own_steps first ++ others =
    ap (λ s. s ++ flat_map other_steps (before ++ first ∷ after)) whole.0 ∙ ap (λ s. own_steps first ++ s) whole.1 in
    ap (λ s. read_players has o s (begun o)) steps ∙ joined has o (own_steps first) others (begun o)
    ∙ ap (read_players has o others) (first_read has o first)

-- ---- the text

own_text : (q : KeptPartition) → flat_map text_of_player_step (own_steps q) ≡ state_text q.kept
own_text q = flat_map-map text_of_player_step step.Own (state_steps q.kept) ∙ sym (tells_steps q.kept)

text_of_partition : (q : KeptPartition) → flat_map text_of_player_step (partition_steps q) ≡ partition_text q
text_of_partition q =
    let opening = line (codes "newpartition") (quoted_text q.name) in
    let going = line (codes "partition") (quoted_text q.name) in
    let brings = flat_map bring_text q.outputs.items in
    let rest : flat_map text_of_player_step (map step.Bring q.outputs.items ++ own_steps q) ≡ brings ++ state_text q.kept =
    flat_map-append text_of_player_step (map step.Bring q.outputs.items) (own_steps q)
    ∙ ap (λ s. s ++ flat_map text_of_player_step (own_steps q)) (flat_map-map text_of_player_step step.Bring q.outputs.items)
    ∙ ap (λ s. brings ++ s) (own_text q) in
    ap (λ s. opening ++ (going ++ s)) rest ∙ sym (append_assoc opening going (brings ++ state_text q.kept))

default_at : (b : Bool) (q : KeptPartition) → is_default q ≡ b → flat_map text_of_player_step (default_steps q) ≡ default_text q
default_at true q is =
    ap (λ (b : Bool). flat_map text_of_player_step (if b then own_steps q else [])) is ∙ own_text q
    ∙ sym (ap (λ (b : Bool). if b then state_text q.kept else []) is)
default_at false q is =
    ap (λ (b : Bool). flat_map text_of_player_step (if b then own_steps q else [])) is
    ∙ sym (ap (λ (b : Bool). if b then state_text q.kept else []) is)

other_at : (b : Bool) (q : KeptPartition) → is_default q ≡ b → flat_map text_of_player_step (other_steps q) ≡ other_text q
other_at true q is =
    ap (λ (b : Bool). flat_map text_of_player_step (if b then [] else partition_steps q)) is
    ∙ sym (ap (λ (b : Bool). if b then [] else partition_text q) is)
other_at false q is =
    ap (λ (b : Bool). flat_map text_of_player_step (if b then [] else partition_steps q)) is ∙ text_of_partition q
    ∙ sym (ap (λ (b : Bool). if b then [] else partition_text q) is)

texts_of_each : (steps : KeptPartition → List PlayerStep) (text : KeptPartition → List ℕ)
    → ((q : KeptPartition) → flat_map text_of_player_step (steps q) ≡ text q) → (ps : List KeptPartition)
    → flat_map text_of_player_step (flat_map steps ps) ≡ flat_map text ps
texts_of_each steps text one [] = refl
texts_of_each steps text one (p ∷ ps) =
    flat_map-append text_of_player_step (steps p) (flat_map steps ps)
    ∙ ap (λ s. s ++ flat_map text_of_player_step (flat_map steps ps)) (one p)
    ∙ ap (λ s. text p ++ s) (texts_of_each steps text one ps)

text_is_steps : (ps : List KeptPartition) → player_text ps ≡ flat_map text_of_player_step (player_steps ps)
text_is_steps ps =
    sym (
    flat_map-append text_of_player_step (flat_map default_steps ps) (flat_map other_steps ps)
    ∙ ap (λ s. s ++ flat_map text_of_player_step (flat_map other_steps ps)) (texts_of_each default_steps default_text (λ q. default_at (is_default q) q refl) ps)
    ∙ ap (λ s. flat_map default_text ps ++ s) (texts_of_each other_steps other_text (λ q. other_at (is_default q) q refl) ps)
    )

pub partitions_give_back : PartitionsGiveBack
partitions_give_back = record {
  text = text_is_steps;
  partitions = λ has o before after first is new.
      ap (λ (x : Players). x.all) (player_read has o before after first is new)
      ∙ (others_read has o (before ++ after) (first_back has o first) new).0;
  outputs = λ has o before after first is new.
      ap (λ (x : Players). x.brought) (player_read has o before after first is new)
      ∙ (others_read has o (before ++ after) (first_back has o first) new).1;
}
