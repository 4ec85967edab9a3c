-- What is found while folders are listed.
use Rattle.std.proofs.Common.{◌≡◌, ◌∙◌, ℕ, ◌+◌, ◌≤◌, ◌<◌, inl, inr, drop, add-one, drop-cons, length-append, Bool, true, false, List, [], ◌∷◌, ◌++◌, length, take, Option, Some, None, sym, ap, subst, refl, arith, append_assoc}
use Rattle.std.specs.Prelude.{slice_get}
use Rattle.std.specs.List.{flat_map}
use Rattle.mpd_text.specs.Songs.Song.{SongData}
use Rattle.std.proofs.lemmas.List.{append-nil, take-append-drop, length-map, take-append-le, take_all, take_more, flat_map_more}
use Rattle.std.proofs.lemmas.Option.{slice_get_within, get_or_from_slice_get, slice_get_cases}
use Rattle.library_scan.specs.declared.disk.Entry.{Entry}
use Rattle.library_scan.specs.declared.disk.Entry.TheVariants.{Name, NotText, Broken}
use Rattle.library_scan.specs.declared.found.Found.{Found}
use Rattle.library_scan.specs.Steps.{path_of}
use Rattle.library_scan.specs.Trees.{Tree, Tells, Kept, IsOver, IsOverWith, IsTooLarge, told_in, Keeps, Adds, Holds, RootListed, nothing, kept_at, kept_of_entry, kept_in, kept_heard, never_breaks, songs_in, refused_in, folders_in}

-- one name more was counted, and nothing else changed
pub record IsCounted (old new : Found) : Type 0 where
  pub songs : new.songs ≡ old.songs
  pub refused : new.refused ≡ old.refused
  pub folders : new.folders ≡ old.folders
  pub names : new.names ≡ old.names + 1

-- what a folder tells is the first of what it had to tell
pub told : (old new : List Entry) (entry : Entry) (given : Option Entry) → Tells old new given → given ≡ Some entry → old ≡ entry ∷ new
told old new entry given tells is = subst (λ g. Tells old new g) is tells

pub told_nothing : (old new : List Entry) (given : Option Entry) → Tells old new given → given ≡ None → old ≡ []
told_nothing old new given tells is = subst (λ g. Tells old new g) is tells

abbrev songs_of : List Kept → List SongData
songs_of kept = flat_map (λ (k : Kept). k.songs) kept

-- what is left is less by one name
less : (kept : Kept) (more : List Kept) (now counted next : Found) → IsCounted now counted → Keeps kept counted next → (total : ℕ) → length now.songs.items + length (songs_of (kept ∷ more)) ≡ total → length next.songs.items + length (songs_of more) ≡ total
less kept more now counted next is keeps total sum =
    let a = ap length keeps.songs ∙ length-append counted.songs.items kept.songs in
    let b = ap (λ v. length v.items) is.songs in
    let d = length-append kept.songs (songs_of more) in
    omega arith

gained : {X : Type 0} (old next final piece rest : List X) → next ≡ old ++ piece → final ≡ next ++ rest → final ≡ old ++ (piece ++ rest)
gained old next final piece rest n f = f ∙ ap (λ s. s ++ rest) n ∙ append_assoc old piece rest

-- what is kept of a name, and then of more
pub one_more : (kept : Kept) (more : List Kept) (old counted next final : Found) → IsCounted old counted → Keeps kept counted next → Adds more next final → Adds (kept ∷ more) old final
one_more kept more old counted next final is keeps adds = record {
  songs = gained old.songs.items next.songs.items final.songs.items kept.songs _ (keeps.songs ∙ ap (λ v. v.items ++ kept.songs) is.songs) adds.songs;
  refused = gained old.refused.items next.refused.items final.refused.items kept.refused _ (keeps.refused ∙ ap (λ v. v.items ++ kept.refused) is.refused) adds.refused;
  folders = gained old.folders.items next.folders.items final.folders.items kept.folders _ (keeps.folders ∙ ap (λ v. v.items ++ kept.folders) is.folders) adds.folders;
  names = (let a = adds.names in let b = keeps.names in let d = is.names in omega arith);
}

pub no_more : (found : Found) → Adds [] found found
no_more found = record {
  songs = sym (append-nil found.songs.items);
  refused = sym (append-nil found.refused.items);
  folders = sym (append-nil found.folders.items);
  names = omega arith;
}

pub keeps_nothing : (found : Found) → Keeps nothing found found
keeps_nothing found = record {
  songs = sym (append-nil found.songs.items);
  refused = sym (append-nil found.refused.items);
  folders = sym (append-nil found.folders.items);
  names = refl;
}

module _ (tree : Tree) (everyday : Bool) (rate : ℕ) (folder : List ℕ) where
  -- what is found now is what was kept of the names that were told: with what is left, it makes all
  pub record Goes (left all : List Entry) (first now : Found) : Type 0 where
    pub gains : (final : Found) → Adds (kept_heard tree everyday rate folder left) now final → Adds (kept_heard tree everyday rate folder all) first final
    pub whole : never_breaks left ≡ never_breaks all
    pub songs : length now.songs.items + length (songs_of (kept_heard tree everyday rate folder left)) ≡ length first.songs.items + length (songs_of (kept_heard tree everyday rate folder all))
    pub names : now.names + length (kept_heard tree everyday rate folder left) ≡ first.names + length (kept_heard tree everyday rate folder all)

  pub begun : (all : List Entry) (first : Found) → Goes all all first first
  begun all first = record { gains = λ final adds. adds; whole = refl; songs = refl; names = refl }

  module _ (left all more : List Entry) (first now counted next : Found) (goes : Goes left all first now) (is : IsCounted now counted) where
    pub named : (name : List ℕ) → left ≡ Name name ∷ more → Keeps (kept_at tree everyday rate (path_of folder name)) counted next → Goes more all first next
    named name told keeps = record {
      gains = λ final adds. goes.gains final (subst (λ l. Adds (kept_heard tree everyday rate folder l) now final) (sym told) (one_more (kept_at tree everyday rate (path_of folder name)) (kept_heard tree everyday rate folder more) now counted next final is keeps adds));
      whole = ap never_breaks (sym told) ∙ goes.whole;
      songs = less (kept_at tree everyday rate (path_of folder name)) (kept_heard tree everyday rate folder more) now counted next is keeps _ (subst (λ l. length now.songs.items + length (songs_of (kept_heard tree everyday rate folder l)) ≡ length first.songs.items + length (songs_of (kept_heard tree everyday rate folder all))) told goes.songs);
      names = (let n = ap (λ l. length (kept_heard tree everyday rate folder l)) told in let a = goes.names in let b = is.names in let d = keeps.names in omega arith);
    }

    pub passed : left ≡ NotText ∷ more → Goes more all first counted
    passed told = record {
      gains = λ final adds. goes.gains final (subst (λ l. Adds (kept_heard tree everyday rate folder l) now final) (sym told) (one_more nothing (kept_heard tree everyday rate folder more) now counted counted final is (keeps_nothing counted) adds));
      whole = ap never_breaks (sym told) ∙ goes.whole;
      songs = less nothing (kept_heard tree everyday rate folder more) now counted counted is (keeps_nothing counted) _ (subst (λ l. length now.songs.items + length (songs_of (kept_heard tree everyday rate folder l)) ≡ length first.songs.items + length (songs_of (kept_heard tree everyday rate folder all))) told goes.songs);
      names = (let n = ap (λ l. length (kept_heard tree everyday rate folder l)) told in let a = goes.names in let b = is.names in omega arith);
    }

    pub broken : left ≡ Broken ∷ more → Adds (kept_heard tree everyday rate folder all) first counted
    broken told = goes.gains counted (subst (λ l. Adds (kept_heard tree everyday rate folder l) now counted) (sym told) (one_more nothing [] now counted counted counted is (keeps_nothing counted) (no_more counted)))

    pub broke : left ≡ Broken ∷ more → false ≡ never_breaks all
    broke told = ap never_breaks (sym told) ∙ goes.whole

  pub ended : (left all : List Entry) (first now : Found) → Goes left all first now → left ≡ [] → Adds (kept_heard tree everyday rate folder all) first now
  ended left all first now goes told = goes.gains now (subst (λ l. Adds (kept_heard tree everyday rate folder l) now now) (sym told) (no_more now))

  pub ended_whole : (left all : List Entry) (first now : Found) → Goes left all first now → left ≡ [] → true ≡ never_breaks all
  ended_whole left all first now goes told = ap never_breaks (sym told) ∙ goes.whole

taken : {X : Type 0} (old new more : List X) (at : ℕ) (x : X) → slice_get old at ≡ Some x → new ≡ old ++ more → take (at + 1) new ≡ take at old ++ x ∷ []
taken old new more at x is n =
    let within : at < length old = slice_get_within old at x is in
    ap (take (at + 1)) n ∙ take-append-le (at + 1) old more (omega arith) ∙ take_more old at x within ∙ ap (λ y. take at old ++ y ∷ []) (get_or_from_slice_get old at x x is)

around : {X : Type 0} (xs : List X) (at : ℕ) (x : X) → slice_get xs at ≡ Some x → xs ≡ take at xs ++ x ∷ drop (at + 1) xs
around xs at x is = sym (take-append-drop at xs) ∙ ap (λ r. take at xs ++ r) (rw add-one (drop-cons xs at x (slice_get_within xs at x is)) ∙ ap (λ y. y ∷ drop (at + 1) xs) (get_or_from_slice_get xs at x x is))

counted_more : (tree : Tree) (listed : List (List ℕ)) (uri : List ℕ) → length (flat_map (told_in tree) listed) + length (told_in tree uri) ≡ length (flat_map (told_in tree) (listed ++ uri ∷ []))
counted_more tree listed uri = sym (length-append (flat_map (told_in tree) listed) (told_in tree uri)) ∙ ap length (flat_map_more (told_in tree) [] listed uri)

over_of : (tree : Tree) (everyday : Bool) (rate : ℕ) (listed : List (List ℕ)) (uri : List ℕ) (old : Found) → Holds tree everyday rate listed old → IsOverWith old (kept_in tree everyday rate uri)
    → IsOver (length (flat_map (songs_in tree everyday rate) (listed ++ uri ∷ []))) (length (flat_map (told_in tree) (listed ++ uri ∷ [])))
over_of tree everyday rate listed uri old holds over = elim over [
  | inl songs ↦ inl (
      let a = ap length holds.songs in
      let b = length-append (flat_map (songs_in tree everyday rate) listed) (songs_in tree everyday rate uri) in
      let d = ap length (flat_map_more (songs_in tree everyday rate) [] listed uri) in
      omega arith)
  | inr names ↦ inr (
      let a = holds.names in
      let b = counted_more tree listed uri in
      let d = length-map (told_in tree uri) (kept_of_entry tree everyday rate uri) in
      omega arith)
]

-- one folder more was listed
pub listed : (tree : Tree) (everyday : Bool) (rate at : ℕ) (uri : List ℕ) (old new : Found) → Holds tree everyday rate (take at old.folders.items) old → slice_get old.folders.items at ≡ Some uri → Adds (kept_in tree everyday rate uri) old new
    → Holds tree everyday rate (take (at + 1) new.folders.items) new
listed tree everyday rate at uri old new holds is adds =
    subst (λ l. Holds tree everyday rate l new) (sym (taken old.folders.items new.folders.items _ at uri is adds.folders)) (record {
      folders = adds.folders ∙ ap (λ s. s ++ folders_in tree everyday rate uri) holds.folders ∙ flat_map_more (folders_in tree everyday rate) ([] ∷ []) (take at old.folders.items) uri;
      songs = adds.songs ∙ ap (λ s. s ++ songs_in tree everyday rate uri) holds.songs ∙ flat_map_more (songs_in tree everyday rate) [] (take at old.folders.items) uri;
      refused = adds.refused ∙ ap (λ s. s ++ refused_in tree everyday rate uri) holds.refused ∙ flat_map_more (refused_in tree everyday rate) [] (take at old.folders.items) uri;
      names = adds.names ∙ ap (λ n. n + length (kept_in tree everyday rate uri)) holds.names ∙ ap (λ n. length (flat_map (told_in tree) (take at old.folders.items)) + n) (length-map (told_in tree uri) (kept_of_entry tree everyday rate uri)) ∙ counted_more tree (take at old.folders.items) uri;
    })

-- the folder of an index has too much with those before it
pub too_large : (tree : Tree) (everyday : Bool) (rate at : ℕ) (uri : List ℕ) (old : Found) → Holds tree everyday rate (take at old.folders.items) old → slice_get old.folders.items at ≡ Some uri → IsOverWith old (kept_in tree everyday rate uri) → IsTooLarge tree everyday rate
too_large tree everyday rate at uri old holds is over = record {
  before = take at old.folders.items;
  folder = uri;
  after = drop (at + 1) old.folders.items;
  reached = sym holds.folders ∙ around old.folders.items at uri is;
  over = over_of tree everyday rate (take at old.folders.items) uri old holds over;
}

-- the scanned folder is the first
pub first_listed : (tree : Tree) (everyday : Bool) (rate : ℕ) (found : Found) → RootListed tree everyday rate found → Holds tree everyday rate (take 1 found.folders.items) found
first_listed tree everyday rate found root = subst (λ l. Holds tree everyday rate l found) (sym (ap (take 1) root.folders)) root

-- no folder is left
pub all_listed : (tree : Tree) (everyday : Bool) (rate at : ℕ) (found : Found) → Holds tree everyday rate (take at found.folders.items) found → slice_get found.folders.items at ≡ None → Holds tree everyday rate found.folders.items found
all_listed tree everyday rate at found holds none =
    let past : length found.folders.items ≤ at = grind (arith, slice_get_cases found.folders.items at) in
    subst (λ l. Holds tree everyday rate l found) (take_all at found.folders.items past) holds
