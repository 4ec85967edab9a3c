-- The texts that are listed of a tag are those that the found songs have.
use Rattle.std.proofs.Common.{◌≡◌, ◌≢◌, ◌∙◌, ◌⊎◌, inl, inr, ℕ, zero, suc, ◌<◌, Bool, true, false, cond, List, [], ◌∷◌, map, length, get_or, Option, Some, None, refl, sym, ap, subst, arith}
use Rattle.std.specs.Prelude.{IsTrue, nat_lt}
use Rattle.std.specs.List.{Contains, filter, flat_map}
use Rattle.std.specs.List.Sorted.{IsStrictlySortedBy}
use Rattle.std.proofs.lemmas.Bool.Decides.{nat_tests}
use Rattle.mpd_text.specs.Answers.Answer.{pair_line}
use Rattle.mpd_text.specs.Songs.Song.{SongData}
use Rattle.mpd_text.specs.Texts.{ascending, by_bytes}
use Rattle.mpd_text.specs.declared.songs.song.TagName.{TagName}
use Rattle.mpd_text.proofs.Ascending.{ascending-rises, has-each}
use Rattle.known_tags.specs.KnownTags.{read_of, text_of}
use Rattle.known_tags.specs.declared.known_tag.KnownTag.{KnownTag}
use Rattle.filters.specs.declared.matching.Case.TheVariants.{Heeded}
use Rattle.song_search.specs.Answers.{found, tag_texts}
use Rattle.song_groups.specs.Columns.{text_in}
use Rattle.song_groups.specs.Tuples.{has_last, lines_of_tuples, tuple_of, tuples}
use Rattle.song_groups.proofs.TupleLists.{tuples-have}
use Rattle.command_arguments.specs.declared.criteria.Criteria.{Criteria}
use Rattle.command_arguments.specs.declared.criteria.Criteria.TheVariants.{Meeting, Refused}
use Rattle.player_state.specs.declared.state.Library.{Library}
use Rattle.transitions.specs.CommandResults.{shows}
use Rattle.transitions.specs.declared.asked.Asked.{Asked}
use Rattle.library_commands.specs.Database.{list_met, list_texts, result_of}
use Rattle.command_laws.proofs.OneColumn.{column-lines}
use Rattle.library_laws.specs.Found.{CanBeRead}
use Rattle.library_laws.specs.Listed.{AreTextsOf, ListsTheFound}
use Rattle.library_laws.proofs.PickedSongs.{expression_of, criteria-is}

-- what a list contains
pub here : {X : Type 0} (x y : X) (xs : List X) → x ≡ y → Contains (x ∷ xs) y
here x y xs e = (0, omega arith, e)

pub there : {X : Type 0} (x y : X) (xs : List X) → Contains xs y → Contains (x ∷ xs) y
there x y xs c = (suc c.0, (let low : c.0 < length xs = c.1 in omega arith), c.2)

at-index : {X : Type 0} (x y : X) (xs : List X) (index : ℕ) → index < suc (length xs) → get_or (x ∷ xs) index y ≡ y → (x ≡ y) ⊎ Contains xs y
at-index x y xs zero low e = inl e
at-index x y xs (suc index) low e = inr (index, omega arith, e)

pub either : {X : Type 0} (x y : X) (xs : List X) → Contains (x ∷ xs) y → (x ≡ y) ⊎ Contains xs y
either x y xs c = at-index x y xs c.0 c.1 c.2

pub nowhere : {X : Type 0} (y : X) → Contains [] y → ⊥
nowhere y c = let low : c.0 < 0 = c.1 in absurd (omega arith)

empty : {X : Type 0} (xs : List X) → ((x : X) → Contains xs x → ⊥) → xs ≡ []
empty [] h = refl
empty (x ∷ xs) h = absurd (h x (here x x xs refl))

-- the texts of songs that pass a test
abbrev HasIt : (SongData → List ℕ) → List SongData → List ℕ → Type 0
HasIt text_of songs text = (song : SongData) × Contains songs song × (text_of song ≡ text)

later : (text_of : SongData → List ℕ) (song : SongData) (songs : List SongData) (text : List ℕ) → HasIt text_of songs text → HasIt text_of (song ∷ songs) text
later text_of song songs text h = (h.0, there song h.0 songs h.1, h.2)

kept : (test : List ℕ → Bool) (text_of : SongData → List ℕ) (songs : List SongData) (text : List ℕ) → Contains (filter test (map text_of songs)) text → (test text ≡ true) × HasIt text_of songs text
kept test text_of [] text c = absurd (nowhere text c)
kept test text_of (song ∷ songs) text c =
    let rest : List (List ℕ) = filter test (map text_of songs) in
    let goes : (b : Bool) → test (text_of song) ≡ b → Contains (cond b (text_of song ∷ rest) rest) text → (test text ≡ true) × HasIt text_of (song ∷ songs) text
    = λ b. elim b as (λ b. test (text_of song) ≡ b → Contains (cond b (text_of song ∷ rest) rest) text → (test text ≡ true) × HasIt text_of (song ∷ songs) text) [
      | true ↦ λ e k. elim (either (text_of song) text rest k) [
        | inl is ↦ (ap test (sym is) ∙ e, (song, here song song songs refl, is))
        | inr more ↦ (let it = kept test text_of songs text more in (it.0, later text_of song songs text it.1))
      ]
      | false ↦ λ e k. (let it = kept test text_of songs text k in (it.0, later text_of song songs text it.1))
    ] in
    goes (test (text_of song)) refl c

passes : (test : List ℕ → Bool) (text_of : SongData → List ℕ) (songs : List SongData) (text : List ℕ) (song : SongData) → Contains songs song → text_of song ≡ text → test text ≡ true → Contains (filter test (map text_of songs)) text
passes test text_of [] text song c e h = absurd (nowhere song c)
passes test text_of (first ∷ songs) text song c e h =
    let rest : List (List ℕ) = filter test (map text_of songs) in
    let goes : (b : Bool) → test (text_of first) ≡ b → Contains (cond b (text_of first ∷ rest) rest) text
    = λ b. elim b as (λ b. test (text_of first) ≡ b → Contains (cond b (text_of first ∷ rest) rest) text) [
      | true ↦ λ k. elim (either first song songs c) [
        | inl is ↦ here (text_of first) text rest (ap text_of is ∙ e)
        | inr more ↦ there (text_of first) text rest (passes test text_of songs text song more e h)
      ]
      | false ↦ λ k. elim (either first song songs c) [
        | inl is ↦ (let no : false ≡ true = sym k ∙ ap test (ap text_of is ∙ e) ∙ h in absurd (cc))
        | inr more ↦ passes test text_of songs text song more e h
      ]
    ] in
    goes (test (text_of first)) refl

-- a text that is not empty
abbrev is_text : List ℕ → Bool
is_text text = nat_lt 0 (length text)

not-empty : (text : List ℕ) → is_text text ≡ true → text ≢ []
not-empty [] h e = absurd (cc)
not-empty (b ∷ bs) h e = absurd (cc)

below : (n : ℕ) → nat_lt 0 (suc n) ≡ true
below n = grind (arith, nat_tests)

some-text : (text : List ℕ) → (text ≢ []) → is_text text ≡ true
some-text [] h = absurd (h refl)
some-text (b ∷ bs) h = below (length bs)

texts-of-tag : (name : TagName) (songs : List SongData) → AreTextsOf (Some name) songs (ascending (tag_texts name songs))
texts-of-tag name songs =
    record {
      rising = ascending-rises (tag_texts name songs);
      whole = λ text. (
        (λ c. (let it = kept is_text (text_in (Some name)) songs text ((has-each (tag_texts name songs) text).0 c) in (not-empty text it.0, it.1))),
        (λ h. (has-each (tag_texts name songs) text).1 (passes is_text (text_in (Some name)) songs text h.1.0 h.1.1 h.1.2 (some-text text h.0))),
      );
    }

-- a tag that no song has
no-rising : IsStrictlySortedBy by_bytes []
no-rising = subst (λ (xs : List (List ℕ)). IsStrictlySortedBy by_bytes xs) (empty (ascending []) (λ text c. nowhere text ((has-each [] text).0 c))) (ascending-rises [])

no-texts : (songs : List SongData) → AreTextsOf None songs []
no-texts songs = record {
  rising = no-rising;
  whole = λ text. ((λ c. absurd (nowhere text c)), (λ h. absurd (h.0 (sym h.1.2))));
}

blank : (tuple : List (List ℕ)) (songs : List SongData) → Contains (map (tuple_of (None ∷ [])) songs) tuple → tuple ≡ [] ∷ []
blank tuple [] c = absurd (nowhere tuple c)
blank tuple (song ∷ songs) c = elim (either ([] ∷ []) tuple (map (tuple_of (None ∷ [])) songs) c) [
  | inl is ↦ sym is
  | inr more ↦ blank tuple songs more
]

no-tuples : (songs : List SongData) → tuples (None ∷ []) songs ≡ []
no-tuples songs = empty (tuples (None ∷ []) songs) (λ tuple c.
    let h = (tuples-have (None ∷ []) songs tuple).0 c in
    let no : false ≡ true = subst (λ (t : List (List ℕ)). IsTrue (has_last t)) (blank tuple songs h.0) h.1 in
    absurd (cc))

-- the lines of one tag
abbrev Lists : Option TagName → List ℕ → List SongData → Type 0
Lists tag label songs = (texts : List (List ℕ)) × AreTextsOf tag songs texts × (lines_of_tuples (label ∷ []) (tuples (tag ∷ []) songs) ≡ flat_map (pair_line label) texts)

lists : (tag : Option TagName) (label : List ℕ) (songs : List SongData) → Lists tag label songs
lists None label songs = ([], no-texts songs, ap (lines_of_tuples (label ∷ [])) (no-tuples songs))
lists (Some name) label songs = (ascending (tag_texts name songs), texts-of-tag name songs, column-lines label name songs)

list-by : (asked : Asked) (library : Library) (tag : KnownTag) (criteria : Option Criteria) → CanBeRead criteria → list_met asked library (tag ∷ []) criteria ≡ list_texts asked library (tag ∷ []) (expression_of criteria)
list-by asked library tag None can = refl
list-by asked library tag (Some (Meeting e)) can = refl
list-by asked library tag (Some (Refused text)) can = absurd can

pub found_texts_are_listed : ListsTheFound
unfolding result_of list_texts
found_texts_are_listed asked part library read grouping tag songs one can picks =
    let met : List SongData = found Heeded (expression_of grouping.criteria) library.songs in
    let is : songs ≡ met = criteria-is grouping.criteria library.songs songs can picks in
    let all : Lists (read_of tag) (text_of tag) songs = lists (read_of tag) (text_of tag) songs in (
      all.0,
      all.1,
      ap (λ (tags : List KnownTag). list_met asked library tags grouping.criteria) one
          ∙ list-by asked library tag grouping.criteria can
          ∙ ap (λ (them : List SongData). shows asked (lines_of_tuples (text_of tag ∷ []) (tuples (read_of tag ∷ []) them))) (sym is)
          ∙ ap (shows asked) all.2,
    )
