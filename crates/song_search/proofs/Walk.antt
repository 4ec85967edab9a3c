-- A walk over the songs of a folder, which passes over each folder below at once.
use Rattle.std.proofs.Common.{◌≡◌, ◌∙◌, ℕ, zero, suc, ◌+◌, ◌<◌, ◌≤◌, Bool, true, false, cond, not, ◌&&◌, ◌||◌, List, [], ◌∷◌, ◌++◌, map, length, take, drop, get_or, Some, None, Option, refl, sym, ap, subst, Bor, inl, inr, arith}
use Rattle.std.specs.Prelude.{eqb}
use Rattle.std.specs.List.{filter_map, cons_option, prefix_len, position_or_len, before_first, after_first, All}
use Rattle.std.specs.List.Sorted.{IsPartitionedBy, IsPartitionPoint}
use Rattle.std.specs.Ordering.{eq_by_cmp}
use Rattle.std.specs.Str.{IsCharBoundary}
use Rattle.std.proofs.lemmas.Bool.{cases_Bool, cond-true, cond-false, and_from, and_left, and_right, not_from_true, not_from_false, or_left, or_right, or_from, ne_eqb, eq-eqb, eqb-true}
use Rattle.std.proofs.lemmas.List.{append-nil, append_assoc, map-append, take_at, drop_at, get_or-drop, length-drop}
use Rattle.std.proofs.lemmas.List.Sums.{position_or_len_is, split_at_first, passes_at_first, take_while-cons, prefix_len_is}
use Rattle.std.proofs.Math.Seq.{take-add}
use Rattle.std.proofs.lemmas.Str.{IsCharBoundary-before_ascii}
use Rattle.std.proofs.lemmas.List.Elements.{All-drop, filter_passes}
use Rattle.mpd_text.specs.Songs.Song.{SongData}
use Rattle.song_db.specs.Library.{InByteOrder}
use Rattle.song_search.specs.Truth.{front_of, is_under}
use Rattle.song_search.specs.Folders.{path_in, has_slash, is_direct, lies_in, folder_below, under, direct_songs, direct_folders}
use Rattle.mpd_text.specs.Texts.{by_bytes, ascending}
use Rattle.mpd_text.proofs.Ascending.{among, same_ascending}
use Rattle.song_search.proofs.Between.{order_drop, in_first_part}
use Rattle.song_search.proofs.Fronts.{begins_from, begins_rest}

abbrev pub below_of : List ℕ → SongData → Option (List ℕ)
below_of folder song = folder_below folder song.uri

abbrev pub belows : List ℕ → List SongData → List (List ℕ)
belows folder songs = filter_map (below_of folder) songs

abbrev slash : ℕ → Bool
slash b = eqb b 47

has_one : (xs rest : List ℕ) → has_slash (xs ++ 47 ∷ rest) ≡ true
has_one [] rest = refl
has_one (x ∷ xs) rest = or_right (eqb x 47) (has_slash (xs ++ 47 ∷ rest)) (has_one xs rest)

pub no_slash : (path : List ℕ) → ((k : ℕ) → k < length path → get_or path k 0 ≡ 47 → ⊥) → has_slash path ≡ false
no_slash [] h = refl
no_slash (x ∷ xs) h = or_from (eqb x 47) (has_slash xs) (ne_eqb x 47 (h 0 (omega arith))) (no_slash xs (λ k l. h (suc k) (omega arith)))

slash_there : (path : List ℕ) (offset : ℕ) → offset < length path → get_or path offset 0 ≡ 47 → has_slash path ≡ true
slash_there [] offset l e = absurd (omega arith)
slash_there (x ∷ xs) zero l e = or_left (eqb x 47) (has_slash xs) (eq-eqb x 47 e)
slash_there (x ∷ xs) (suc offset) l e = or_right (eqb x 47) (has_slash xs) (slash_there xs offset (omega arith) e)

pub slash_at : (path : List ℕ) (offset : ℕ) → offset < length path → get_or path offset 0 ≡ 47 → ((k : ℕ) → k < offset → get_or path k 0 ≡ 47 → ⊥)
    → (has_slash path ≡ true) × (offset ≡ position_or_len slash path) × (offset < length path)
slash_at path offset l e h =
    (slash_there path offset l e, sym (position_or_len_is slash path offset 0 (omega arith) (λ k b. ne_eqb (get_or path k 0) 47 (h k b)) (λ _. eq-eqb (get_or path offset 0) 47 e)), l)

has_first : (path : List ℕ) → has_slash path ≡ true → position_or_len slash path < length path
has_first [] h = cc
has_first (x ∷ xs) h = by_case (eqb x 47) h (has_first xs)
  where
    by_case : (b : Bool) → b || has_slash xs ≡ true → (has_slash xs ≡ true → position_or_len slash xs < length xs) → cond (not b) (1 + position_or_len slash xs) 0 < suc (length xs)
    by_case true h deeper = omega arith
    by_case false h deeper = let low : position_or_len slash xs < length xs = deeper h in omega arith

-- a text with a slash is what stands before the first one, the slash, and what stands after it
at_first : (path : List ℕ) → has_slash path ≡ true → path ≡ before_first slash path ++ 47 ∷ after_first slash path
at_first path h =
    split_at_first slash path 0 (has_first path h)
    ∙ ap (λ (b : ℕ). before_first slash path ++ b ∷ after_first slash path) (eqb-true (get_or path (position_or_len slash path) 0) 47 (passes_at_first slash path 0 (has_first path h)))

-- what stands before the first slash is found again
before_next : (x : ℕ) (xs : List ℕ) → eqb x 47 ≡ false → before_first slash (x ∷ xs) ≡ x ∷ before_first slash xs
before_next x xs e = take_while-cons (λ b. not (slash b)) x xs ∙ cond-true (not (eqb x 47)) (x ∷ before_first slash xs) [] (not_from_false (eqb x 47) e)

before_none : (x : ℕ) (xs : List ℕ) → eqb x 47 ≡ true → before_first slash (x ∷ xs) ≡ []
before_none x xs e = take_while-cons (λ b. not (slash b)) x xs ∙ cond-false (not (eqb x 47)) (x ∷ before_first slash xs) [] (not_from_true (eqb x 47) e)

before_again : (xs rest : List ℕ) → before_first slash (before_first slash xs ++ 47 ∷ rest) ≡ before_first slash xs
before_again [] rest = refl
before_again (x ∷ xs) rest = elim (cases_Bool (eqb x 47)) [
  | inl e ↦ ap (λ (t : List ℕ). before_first slash (t ++ 47 ∷ rest)) (before_none x xs e) ∙ sym (before_none x xs e)
  | inr e ↦
      ap (λ (t : List ℕ). before_first slash (t ++ 47 ∷ rest)) (before_next x xs e) ∙ before_next x (before_first slash xs ++ 47 ∷ rest) e
      ∙ ap (λ (t : List ℕ). x ∷ t) (before_again xs rest) ∙ sym (before_next x xs e)
]

-- where the folder below ends in the URI
pub below_is : (folder uri : List ℕ) (start offset : ℕ) → is_under folder uri ≡ true → start ≡ length (front_of folder) → has_slash (drop start uri) ≡ true → offset ≡ start + position_or_len slash (drop start uri)
    → Some (take offset uri) ≡ folder_below folder uri
below_is folder uri start offset inside is one at =
    let whole = begins_rest uri (front_of folder) inside in
    let front : take start uri ≡ front_of folder = ap (take start) whole ∙ take_at (front_of folder) (drop (length (front_of folder)) uri) start (sym is) in
    let path : drop start uri ≡ path_in folder uri = ap (λ n. drop n uri) is in
    let slashed : has_slash (path_in folder uri) ≡ true = ap has_slash (sym path) ∙ one in
    ap Some (ap (λ n. take n uri) at ∙ take-add start (position_or_len slash (drop start uri)) uri ∙ (λ i. front i ++ before_first slash (path i)))
    ∙ sym (cond-true (is_under folder uri && has_slash (path_in folder uri)) (Some (front_of folder ++ before_first slash (path_in folder uri))) None (and_from (is_under folder uri) (has_slash (path_in folder uri)) inside slashed))

pub not_below : (folder uri : List ℕ) → is_under folder uri ≡ false → None ≡ folder_below folder uri
not_below folder uri h =
    sym (cond-false (is_under folder uri && has_slash (path_in folder uri)) (Some (front_of folder ++ before_first slash (path_in folder uri))) None (and_left (is_under folder uri) (has_slash (path_in folder uri)) h))

pub direct_none : (folder uri : List ℕ) (start : ℕ) → start ≡ length (front_of folder) → has_slash (drop start uri) ≡ false → None ≡ folder_below folder uri
direct_none folder uri start is h =
    sym (cond-false (is_under folder uri && has_slash (path_in folder uri)) (Some (front_of folder ++ before_first slash (path_in folder uri))) None
    (and_right (is_under folder uri) (has_slash (path_in folder uri)) (ap (λ n. has_slash (drop n uri)) (sym is) ∙ h)))

pub ends_before_slash : (uri : List ℕ) (start offset : ℕ) → start ≤ length uri → has_slash (drop start uri) ≡ true → offset ≡ start + position_or_len slash (drop start uri) → IsCharBoundary uri offset
ends_before_slash uri start offset low h is =
    let first = has_first (drop start uri) h in
    let size = length-drop start uri in
    let here : offset < length uri = omega arith in
    let byte : get_or uri offset 0 ≡ 47 =
    ap (λ k. get_or uri k 0) is ∙ sym (get_or-drop start uri (position_or_len slash (drop start uri)) 0)
    ∙ eqb-true (get_or (drop start uri) (position_or_len slash (drop start uri)) 0) 47 (passes_at_first slash (drop start uri) 0 first) in
    IsCharBoundary-before_ascii uri offset here (omega arith)

-- a URI in the folder below
module _ (folder below uri : List ℕ) (inside : is_under folder uri ≡ true) (is : folder_below folder uri ≡ Some below) where
  slashed : has_slash (path_in folder uri) ≡ true
  slashed = by_case (has_slash (path_in folder uri)) refl
    where
      by_case : (b : Bool) → has_slash (path_in folder uri) ≡ b → b ≡ true
      by_case true e = refl
      by_case false e = let none : Some below ≡ None = sym is ∙ sym (direct_none folder uri (length (front_of folder)) refl e) in cc

  named : below ≡ front_of folder ++ before_first slash (path_in folder uri)
  named =
      let e : Some below ≡ Some (front_of folder ++ before_first slash (path_in folder uri)) =
      sym is ∙ cond-true (is_under folder uri && has_slash (path_in folder uri)) (Some (front_of folder ++ before_first slash (path_in folder uri))) None (and_from (is_under folder uri) (has_slash (path_in folder uri)) inside slashed) in
      cc

  pub lies_below : lies_in below uri ≡ true
  lies_below =
      begins_from uri (below ++ 47 ∷ []) (after_first slash (path_in folder uri))
      (begins_rest uri (front_of folder) inside
      ∙ ap (λ (t : List ℕ). front_of folder ++ t) (at_first (path_in folder uri) slashed)
      ∙ sym (append_assoc (front_of folder) (before_first slash (path_in folder uri)) (47 ∷ after_first slash (path_in folder uri)))
      ∙ ap (λ (t : List ℕ). t ++ 47 ∷ after_first slash (path_in folder uri)) (sym named)
      ∙ sym (append_assoc below (47 ∷ []) (after_first slash (path_in folder uri))))

  pub below_not_direct : is_direct folder uri ≡ false
  below_not_direct = and_right (is_under folder uri) (not (has_slash (path_in folder uri))) (not_from_true (has_slash (path_in folder uri)) slashed)

  -- another URI in it has the same folder below
  pub same_below : (other : List ℕ) → is_under folder other ≡ true → lies_in below other ≡ true → folder_below folder other ≡ Some below
  same_below other within lies =
      let name = before_first slash (path_in folder uri) in
      let rest = drop (length (below ++ 47 ∷ [])) other in
      let whole : other ≡ front_of folder ++ (name ++ 47 ∷ rest) =
      begins_rest other (below ++ 47 ∷ []) lies ∙ append_assoc below (47 ∷ []) rest ∙ ap (λ (t : List ℕ). t ++ 47 ∷ rest) named ∙ append_assoc (front_of folder) name (47 ∷ rest) in
      let path : path_in folder other ≡ name ++ 47 ∷ rest = ap (drop (length (front_of folder))) whole ∙ drop_at (front_of folder) (name ++ 47 ∷ rest) (length (front_of folder)) refl in
      cond-true (is_under folder other && has_slash (path_in folder other)) (Some (front_of folder ++ before_first slash (path_in folder other))) None
      (and_from (is_under folder other) (has_slash (path_in folder other)) within (ap has_slash path ∙ has_one name rest))
      ∙ ap Some (ap (λ (t : List ℕ). front_of folder ++ before_first slash t) path ∙ ap (λ (t : List ℕ). front_of folder ++ t) (before_again (path_in folder uri) rest) ∙ sym named)

-- the songs that stand first and lie in a folder are passed over
pub passed_is : (folder : List ℕ) (xs rest : List SongData) (end : ℕ) → rest ≡ drop end xs → end ≤ length xs
    → IsPartitionPoint (λ (s : SongData). lies_in folder s.uri ≡ true) (λ (s : SongData). lies_in folder s.uri ≡ false) xs end
    → rest ≡ drop (prefix_len (λ (s : SongData). lies_in folder s.uri) xs) xs
passed_is folder xs rest end is low both =
    let none : SongData = record { uri = []; tags = []; frames = 0 } in
    is ∙ ap (λ n. drop n xs) (sym (prefix_len_is (λ (s : SongData). lies_in folder s.uri) xs end none low (λ k l. both.0 k none (omega arith) l) (λ l. both.1 end none (omega arith) l)))

-- a song and those that follow it, where some of them are passed over
drop_prefix : (p : SongData → Bool) (x : SongData) (xs : List SongData) → p x ≡ true → drop (prefix_len p (x ∷ xs)) (x ∷ xs) ≡ drop (prefix_len p xs) xs
drop_prefix p x xs h =
    ap (λ n. drop n (x ∷ xs)) (cond-true (p x) (1 + prefix_len p xs) 0 h)
    ∙ ap (λ n. drop n (x ∷ xs)) (let e : 1 + prefix_len p xs ≡ suc (prefix_len p xs) = omega arith in e)

drop_none : (p : SongData → Bool) (x : SongData) (xs : List SongData) → p x ≡ false → drop (prefix_len p (x ∷ xs)) (x ∷ xs) ≡ x ∷ xs
drop_none p x xs h = ap (λ n. drop n (x ∷ xs)) (cond-false (p x) (1 + prefix_len p xs) 0 h)

or_itself : (a b : Bool) → a || (a || b) ≡ a || b
or_itself true b = refl
or_itself false b = refl

among_append : (text : List ℕ) (xs ys : List (List ℕ)) → among text (xs ++ ys) ≡ among text xs || among text ys
among_append text [] ys = refl
among_append text (x ∷ xs) ys = elim (eq_by_cmp by_bytes text x) as (λ b. b || among text (xs ++ ys) ≡ (b || among text xs) || among text ys) [ true ↦ refl | false ↦ among_append text xs ys ]

-- how far a walk over a folder's songs has come: what is left, and what was found
pub record Walk (folder : List ℕ) (songs rest : List SongData) (folders : List (List ℕ)) (direct : List SongData) : Type 0 where
  pub order : InByteOrder rest
  pub inside : All (λ (s : SongData). is_under folder s.uri ≡ true) rest
  pub folders_are : (text : List ℕ) → among text (folders ++ belows folder rest) ≡ among text (belows folder songs)
  pub songs_are : direct ++ direct_songs folder rest ≡ direct_songs folder songs

walk_start : (folder : List ℕ) (songs : List SongData) → InByteOrder (under folder songs) → Walk folder (under folder songs) (under folder songs) [] []
walk_start folder songs h = record {
  order = h;
  inside = filter_passes (λ (s : SongData). is_under folder s.uri) songs;
  folders_are = λ text. refl;
  songs_are = refl;
}

module _ (folder : List ℕ) (songs : List SongData) (x : SongData) (xs : List SongData) (folders : List (List ℕ)) (direct : List SongData) (w : Walk folder songs (x ∷ xs) folders direct) where
  under_here : is_under folder x.uri ≡ true
  under_here = w.inside 0 x (omega arith)

  under_rest : All (λ (s : SongData). is_under folder s.uri ≡ true) xs
  under_rest k d l = w.inside (suc k) d (omega arith)

  order_rest : InByteOrder xs
  order_rest i j d low within = w.order (suc i) (suc j) d (omega arith) (omega arith)

  walk_song : folder_below folder x.uri ≡ None → Walk folder songs xs folders (direct ++ x ∷ [])
  walk_song e = record {
    order = order_rest;
    inside = under_rest;
    folders_are = λ text. ap (λ (o : Option (List ℕ)). among text (folders ++ cons_option o (belows folder xs))) (sym e) ∙ w.folders_are text;
    songs_are =
        append_assoc direct (x ∷ []) (direct_songs folder xs)
        ∙ ap (λ (rest : List SongData). direct ++ rest) (sym (cond-true (is_direct folder x.uri) (x ∷ direct_songs folder xs) (direct_songs folder xs) is_here)) ∙ w.songs_are;
  }
    where
      is_here : is_direct folder x.uri ≡ true
      is_here = elim (cases_Bool (has_slash (path_in folder x.uri))) [
        | inl t ↦ absurd (let found : Some (front_of folder ++ before_first slash (path_in folder x.uri)) ≡ None =
            sym (cond-true (is_under folder x.uri && has_slash (path_in folder x.uri)) (Some (front_of folder ++ before_first slash (path_in folder x.uri))) None (and_from (is_under folder x.uri) (has_slash (path_in folder x.uri)) under_here t)) ∙ e in cc)
        | inr f ↦ and_from (is_under folder x.uri) (not (has_slash (path_in folder x.uri))) under_here (not_from_false (has_slash (path_in folder x.uri)) f)
      ]

  module _ (below : List ℕ) (e : folder_below folder x.uri ≡ Some below) where
    -- the songs in the folder below add no folder, and none of them is direct
    skip_folders : (ys : List SongData) → All (λ (s : SongData). is_under folder s.uri ≡ true) ys → (text : List ℕ)
        → among text (below ∷ belows folder ys) ≡ among text (below ∷ belows folder (drop (prefix_len (λ (s : SongData). lies_in below s.uri) ys) ys))
    skip_folders [] all text = refl
    skip_folders (y ∷ ys) all text = elim (cases_Bool (lies_in below y.uri)) [
      | inl t ↦
          ap (λ (o : Option (List ℕ)). among text (below ∷ cons_option o (belows folder ys))) (same_below folder below x.uri under_here e y.uri (all 0 y (omega arith)) t)
          ∙ or_itself (eq_by_cmp by_bytes text below) (among text (belows folder ys)) ∙ skip_folders ys (λ k d l. all (suc k) d (omega arith)) text
          ∙ ap (λ (rest : List SongData). among text (below ∷ belows folder rest)) (sym (drop_prefix (λ (s : SongData). lies_in below s.uri) y ys t))
      | inr f ↦ ap (λ (rest : List SongData). among text (below ∷ belows folder rest)) (sym (drop_none (λ (s : SongData). lies_in below s.uri) y ys f))
    ]

    skip_direct : (ys : List SongData) → All (λ (s : SongData). is_under folder s.uri ≡ true) ys
        → direct_songs folder (drop (prefix_len (λ (s : SongData). lies_in below s.uri) ys) ys) ≡ direct_songs folder ys
    skip_direct [] all = refl
    skip_direct (y ∷ ys) all = elim (cases_Bool (lies_in below y.uri)) [
      | inl t ↦
          ap (direct_songs folder) (drop_prefix (λ (s : SongData). lies_in below s.uri) y ys t) ∙ skip_direct ys (λ k d l. all (suc k) d (omega arith))
          ∙ sym (cond-false (is_direct folder y.uri) (y ∷ direct_songs folder ys) (direct_songs folder ys)
          (below_not_direct folder below y.uri (all 0 y (omega arith)) (same_below folder below x.uri under_here e y.uri (all 0 y (omega arith)) t)))
      | inr f ↦ ap (direct_songs folder) (drop_none (λ (s : SongData). lies_in below s.uri) y ys f)
    ]

    walk_folder : Walk folder songs (drop (prefix_len (λ (s : SongData). lies_in below s.uri) xs) xs) (folders ++ below ∷ []) direct
    walk_folder = record {
      order = order_drop xs (prefix_len (λ (s : SongData). lies_in below s.uri) xs) order_rest;
      inside = All-drop (λ (s : SongData). is_under folder s.uri ≡ true) (prefix_len (λ (s : SongData). lies_in below s.uri) xs) xs under_rest;
      folders_are = λ text.
          ap (among text) (append_assoc folders (below ∷ []) (belows folder (drop (prefix_len (λ (s : SongData). lies_in below s.uri) xs) xs)))
          ∙ among_append text folders (below ∷ belows folder (drop (prefix_len (λ (s : SongData). lies_in below s.uri) xs) xs))
          ∙ ap (λ b. among text folders || b) (sym (skip_folders xs under_rest text)) ∙ sym (among_append text folders (below ∷ belows folder xs))
          ∙ ap (λ (o : Option (List ℕ)). among text (folders ++ cons_option o (belows folder xs))) (sym e) ∙ w.folders_are text;
      songs_are =
          ap (λ (rest : List SongData). direct ++ rest) (skip_direct xs under_rest
          ∙ sym (cond-false (is_direct folder x.uri) (x ∷ direct_songs folder xs) (direct_songs folder xs) (below_not_direct folder below x.uri under_here e))) ∙ w.songs_are;
    }

    -- what may be passed over
    may_pass : IsPartitionedBy (λ (s : SongData). lies_in below s.uri) xs
    may_pass = in_first_part below x xs w.order (lies_below folder below x.uri under_here e)

-- where nothing is left
only_under : (folder : List ℕ) (songs : List SongData) → belows folder (under folder songs) ≡ belows folder songs
only_under folder [] = refl
only_under folder (x ∷ xs) = elim (cases_Bool (is_under folder x.uri)) [
  | inl t ↦ ap (belows folder) (cond-true (is_under folder x.uri) (x ∷ under folder xs) (under folder xs) t) ∙ ap (cons_option (below_of folder x)) (only_under folder xs)
  | inr f ↦
      ap (belows folder) (cond-false (is_under folder x.uri) (x ∷ under folder xs) (under folder xs) f) ∙ only_under folder xs
      ∙ ap (λ (o : Option (List ℕ)). cons_option o (belows folder xs)) (not_below folder x.uri f)
]

direct_under : (folder : List ℕ) (songs : List SongData) → direct_songs folder (under folder songs) ≡ direct_songs folder songs
direct_under folder [] = refl
direct_under folder (x ∷ xs) = elim (cases_Bool (is_under folder x.uri)) [
  | inl t ↦
      ap (direct_songs folder) (cond-true (is_under folder x.uri) (x ∷ under folder xs) (under folder xs) t)
      ∙ ap (λ (rest : List SongData). cond (is_direct folder x.uri) (x ∷ rest) rest) (direct_under folder xs)
  | inr f ↦
      ap (direct_songs folder) (cond-false (is_under folder x.uri) (x ∷ under folder xs) (under folder xs) f) ∙ direct_under folder xs
      ∙ sym (cond-false (is_direct folder x.uri) (x ∷ direct_songs folder xs) (direct_songs folder xs) (and_left (is_under folder x.uri) (not (has_slash (path_in folder x.uri))) f))
]

pub walk_folders : (folder : List ℕ) (songs rest : List SongData) (folders : List (List ℕ)) (direct : List SongData) → Walk folder (under folder songs) rest folders direct → length rest ≡ 0
    → ascending folders ≡ direct_folders folder songs
walk_folders folder songs [] folders direct w none =
    same_ascending folders (belows folder songs)
    (λ text. ap (among text) (sym (append-nil folders)) ∙ w.folders_are text ∙ ap (among text) (only_under folder songs))
walk_folders folder songs (x ∷ xs) folders direct w none = absurd (omega arith)

pub walk_songs : (folder : List ℕ) (songs rest : List SongData) (folders : List (List ℕ)) (direct : List SongData) → Walk folder (under folder songs) rest folders direct → length rest ≡ 0
    → direct ≡ direct_songs folder songs
walk_songs folder songs [] folders direct w none = sym (append-nil direct) ∙ w.songs_are ∙ direct_under folder songs
walk_songs folder songs (x ∷ xs) folders direct w none = absurd (omega arith)

-- the same of the references that the code holds
pub walk_begins : (folder : List ℕ) (songs rest : List SongData) (texts : List (Bor (List ℕ))) (refs : List (Bor SongData)) → rest ≡ under folder songs → InByteOrder rest → texts ≡ [] → refs ≡ []
    → Walk folder (under folder songs) rest (map (λ t. t.now) texts) (map (λ s. s.now) refs)
walk_begins folder songs rest texts refs is h no_texts no_refs =
    subst (λ (r : List SongData). Walk folder (under folder songs) r (map (λ t. t.now) texts) (map (λ s. s.now) refs)) (sym is)
    (subst (λ (ts : List (Bor (List ℕ))). Walk folder (under folder songs) (under folder songs) (map (λ t. t.now) ts) (map (λ s. s.now) refs)) (sym no_texts)
    (subst (λ (rs : List (Bor SongData)). Walk folder (under folder songs) (under folder songs) [] (map (λ s. s.now) rs)) (sym no_refs) (walk_start folder songs (subst InByteOrder is h))))

module _ (folder : List ℕ) (songs rest others : List SongData) (x : SongData) (texts : List (Bor (List ℕ))) (refs : List (Bor SongData)) (is : rest ≡ x ∷ others)
    (w : Walk folder songs rest (map (λ t. t.now) texts) (map (λ s. s.now) refs)) where
  here : Walk folder songs (x ∷ others) (map (λ t. t.now) texts) (map (λ s. s.now) refs)
  here = subst (λ (r : List SongData). Walk folder songs r (map (λ t. t.now) texts) (map (λ s. s.now) refs)) is w

  pub walks_on : (s : Bor SongData) (more : List (Bor SongData)) → s.now ≡ x → None ≡ folder_below folder x.uri → more ≡ refs ++ s ∷ [] → Walk folder songs others (map (λ t. t.now) texts) (map (λ r. r.now) more)
  walks_on s more same e pushed =
      subst (λ (ss : List SongData). Walk folder songs others (map (λ t. t.now) texts) ss)
      (ap (λ (y : SongData). map (λ (r : Bor SongData). r.now) refs ++ y ∷ []) (sym same) ∙ sym (map-append (λ (r : Bor SongData). r.now) refs (s ∷ [])) ∙ ap (map (λ (r : Bor SongData). r.now)) (sym pushed))
      (walk_song folder songs x others (map (λ t. t.now) texts) (map (λ r. r.now) refs) here (sym e))

  module _ (below : Bor (List ℕ)) (e : Some below.now ≡ folder_below folder x.uri) where
    pub passes : IsPartitionedBy (λ (s : SongData). lies_in below.now s.uri) others
    passes = may_pass folder songs x others (map (λ t. t.now) texts) (map (λ r. r.now) refs) here below.now (sym e)

    pub walks_past : (more : List (Bor (List ℕ))) (after : List SongData) → more ≡ texts ++ below ∷ [] → after ≡ drop (prefix_len (λ (s : SongData). lies_in below.now s.uri) others) others
        → Walk folder songs after (map (λ t. t.now) more) (map (λ r. r.now) refs)
    walks_past more after pushed left =
        subst (λ (a : List SongData). Walk folder songs a (map (λ t. t.now) more) (map (λ r. r.now) refs)) (sym left)
        (subst (λ (ts : List (List ℕ)). Walk folder songs (drop (prefix_len (λ (s : SongData). lies_in below.now s.uri) others) others) ts (map (λ r. r.now) refs))
        (sym (map-append (λ (t : Bor (List ℕ)). t.now) texts (below ∷ [])) ∙ ap (map (λ (t : Bor (List ℕ)). t.now)) (sym pushed))
        (walk_folder folder songs x others (map (λ t. t.now) texts) (map (λ r. r.now) refs) here below.now (sym e)))
