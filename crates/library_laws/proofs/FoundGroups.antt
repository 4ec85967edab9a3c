-- The groups that are counted are those of the found songs.
use Rattle.std.proofs.Common.{◌≡◌, ◌∙◌, inl, inr, ℕ, List, [], ◌∷◌, ◌++◌, map, Option, Some, None, refl, sym, ap, subst}
use Rattle.std.specs.Prelude.{◌↔◌}
use Rattle.std.specs.List.{Contains, flat_map}
use Rattle.std.specs.List.Sorted.{IsStrictlySortedBy}
use Rattle.std.proofs.lemmas.List.Elements.{All-from_recursion, All-map}
use Rattle.std.proofs.lemmas.Slice.Eq.{bytes_eq-Decides}
use Rattle.mpd_text.specs.Songs.Song.{SongData}
use Rattle.mpd_text.specs.Texts.{ascending, by_bytes}
use Rattle.mpd_text.specs.declared.songs.song.TagName.{TagName}
use Rattle.mpd_text.proofs.Ascending.{ascending-rises, has-each}
use Rattle.known_tags.specs.KnownTags.{read_of, text_of}
use Rattle.known_tags.specs.declared.known_tag.KnownTag.{KnownTag}
use Rattle.filters.specs.declared.matching.Case.TheVariants.{Heeded}
use Rattle.song_search.specs.Answers.{found}
use Rattle.song_groups.specs.Columns.{has_text, text_in, texts_in, with_text}
use Rattle.song_groups.specs.Counts.{group_lines, group_of, lines_of_groups}
use Rattle.song_groups.proofs.Rows.{each_one}
use Rattle.command_arguments.specs.declared.criteria.Criteria.{Criteria}
use Rattle.command_arguments.specs.declared.criteria.Criteria.TheVariants.{Meeting, Refused}
use Rattle.player_state.specs.declared.state.Library.{Library}
use Rattle.transitions.specs.CommandResults.{shows}
use Rattle.transitions.specs.declared.asked.Asked.{Asked}
use Rattle.library_commands.specs.Database.{count_met, counts_of, result_of}
use Rattle.library_laws.specs.Found.{CanBeRead, Picks}
use Rattle.library_laws.specs.Grouped.{AreGroupsOf, CountsTheFoundByText, Group, lines_of_group}
use Rattle.library_laws.specs.Listed.{SomeHas}
use Rattle.library_laws.proofs.FoundTexts.{either, here, nowhere, there}
use Rattle.library_laws.proofs.PickedSongs.{expression_of, picks, criteria-is}

-- the groups of songs
group-at : Option TagName → List SongData → List ℕ → Group
group-at tag songs text = record { text = text; songs = with_text tag text songs }

texts-are : (tag : Option TagName) (songs : List SongData) (texts : List (List ℕ)) → texts ≡ map (λ (group : Group). group.text) (map (group-at tag songs) texts)
unfolding group-at
texts-are tag songs [] = refl
texts-are tag songs (text ∷ texts) = ap (λ (rest : List (List ℕ)). text ∷ rest) (texts-are tag songs texts)

lines-are : (tag : Option TagName) (rate : ℕ) (label : List ℕ) (songs : List SongData) (texts : List (List ℕ)) → lines_of_groups label (map (group_of tag rate songs) texts) ≡ flat_map (lines_of_group rate label) (map (group-at tag songs) texts)
unfolding group-at
lines-are tag rate label songs [] = refl
lines-are tag rate label songs (text ∷ texts) = ap (λ (rest : List ℕ). group_lines label (group_of tag rate songs text) ++ rest) (lines-are tag rate label songs texts)

picked-each : (tag : Option TagName) (songs : List SongData) (text : List ℕ) → Picks (λ song. text_in tag song ≡ (group-at tag songs text).text) songs (group-at tag songs text).songs
unfolding group-at
picked-each tag songs text = picks (λ song. text_in tag song ≡ text) (has_text tag text) (λ song. bytes_eq-Decides (text_in tag song) text) songs

-- the texts that songs have
had : (tag : Option TagName) (songs : List SongData) (text : List ℕ) → Contains (texts_in tag songs) text → SomeHas tag songs text
had tag [] text c = absurd (nowhere text c)
had tag (song ∷ songs) text c = elim (either (text_in tag song) text (texts_in tag songs) c) [
  | inl is ↦ (song, here song song songs refl, is)
  | inr more ↦ (let it : SomeHas tag songs text = had tag songs text more in (it.0, there song it.0 songs it.1, it.2))
]

has : (tag : Option TagName) (songs : List SongData) (text : List ℕ) (song : SongData) → Contains songs song → text_in tag song ≡ text → Contains (texts_in tag songs) text
has tag [] text song c e = absurd (nowhere song c)
has tag (first ∷ songs) text song c e = elim (either first song songs c) [
  | inl is ↦ here (text_in tag first) text (texts_in tag songs) (ap (text_in tag) is ∙ e)
  | inr more ↦ there (text_in tag first) text (texts_in tag songs) (has tag songs text song more e)
]

groups-of : (tag : Option TagName) (songs : List SongData) → AreGroupsOf tag songs (map (group-at tag songs) (ascending (texts_in tag songs)))
groups-of tag songs =
    let texts : List (List ℕ) = ascending (texts_in tag songs) in
    let P : Group → Type 0 = λ group. Picks (λ song. text_in tag song ≡ group.text) songs group.songs in
    let Q : List ℕ → Type 0 = λ text. P (group-at tag songs text) in
    record {
      rising = subst (λ (xs : List (List ℕ)). IsStrictlySortedBy by_bytes xs) (texts-are tag songs texts) (ascending-rises (texts_in tag songs));
      whole = λ text. subst (λ (xs : List (List ℕ)). Contains xs text ↔ SomeHas tag songs text) (texts-are tag songs texts) (
        (λ c. had tag songs text ((has-each (texts_in tag songs) text).0 c)),
        (λ h. (has-each (texts_in tag songs) text).1 (has tag songs text h.0 h.1 h.2)),
      );
      each = All-map P (group-at tag songs) texts (All-from_recursion Q texts (each_one Q (picked-each tag songs) texts));
    }

counted : (asked : Asked) (library : Library) (tag : KnownTag) (criteria : Option Criteria) → CanBeRead criteria
    → count_met asked library (Some tag) criteria ≡ shows asked (counts_of (Some tag) library.rate (found Heeded (expression_of criteria) library.songs))
counted asked library tag None can = refl
counted asked library tag (Some (Meeting e)) can = refl
counted asked library tag (Some (Refused text)) can = absurd can

pub found_songs_are_counted_by_text : CountsTheFoundByText
unfolding result_of
found_songs_are_counted_by_text asked part library read counting tag songs grouped can picks =
    let texts : List (List ℕ) = ascending (texts_in (read_of tag) songs) in (
      map (group-at (read_of tag) songs) texts,
      groups-of (read_of tag) songs,
      ap (λ (group : Option KnownTag). count_met asked library group counting.criteria) grouped
          ∙ counted asked library tag counting.criteria can
          ∙ ap (λ (them : List SongData). shows asked (counts_of (Some tag) library.rate them)) (sym (criteria-is counting.criteria library.songs songs can picks))
          ∙ ap (shows asked) (lines-are (read_of tag) library.rate (text_of tag) songs texts),
    )
