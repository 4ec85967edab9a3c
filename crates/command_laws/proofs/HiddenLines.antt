-- Lines less those of hidden tags.
use Rattle.std.proofs.Common.{◌≡◌, ◌∙◌, ℕ, Bool, true, false, cond, not, ◌||◌, List, [], ◌∷◌, ◌++◌, Option, Some, None, refl, sym, ap, subst, codes, decimal}
use Rattle.std.specs.List.{filter, flat_map}
use Rattle.std.proofs.lemmas.List.{append-nil}
use Rattle.std.proofs.lemmas.List.Concat.{flat_map-append}
use Rattle.mpd_text.specs.Answers.Answer.{pair_line}
use Rattle.mpd_text.specs.Songs.Song.{SongData, TagData}
use Rattle.mpd_text.specs.Songs.Tags.{tag_names, tag_text}
use Rattle.mpd_text.specs.declared.songs.song.TagName.{TagName}
use Rattle.mpd_text.specs.declared.songs.song.TagName.TheVariants.{Title, Artist, Album, Date, Genre, Comment, AlbumArtist, Track, Disc, Composer}
use Rattle.song_db.specs.Lines.{duration_text, first_tag, line_for, millis, seconds_rounded, tag_line}
use Rattle.known_tags.specs.Lines.{song_lines_with, tag_lines_of}
use Rattle.known_tags.specs.Sets.{has}
use Rattle.command_laws.specs.HiddenTags.{IsTagSet, LessTags, Line, SongsShowLess, is_hidden, line, lines_for, lines_of_song, shown, text_of}

pub less-nil : (set : List TagName) → LessTags set [] [] []
less-nil set = (refl, refl)

shown-append : (set : List TagName) (xs ys : List Line) → shown set (xs ++ ys) ≡ shown set xs ++ shown set ys
shown-append set [] ys = refl
shown-append set (x ∷ xs) ys =
    elim (not (is_hidden set x)) as (λ b. cond b (x ∷ shown set (xs ++ ys)) (shown set (xs ++ ys)) ≡ cond b (x ∷ shown set xs) (shown set xs) ++ shown set ys) [
      | true ↦ ap (λ (rest : List Line). x ∷ rest) (shown-append set xs ys)
      | false ↦ shown-append set xs ys
    ]

text-append : (xs ys : List Line) → text_of (xs ++ ys) ≡ text_of xs ++ text_of ys
text-append xs ys = flat_map-append (λ (it : Line). pair_line it.name it.text) xs ys

pub less-append : (set : List TagName) (xs ys : List Line) (a b c d : List ℕ) → LessTags set xs a b → LessTags set ys c d → LessTags set (xs ++ ys) (a ++ c) (b ++ d)
less-append set xs ys a b c d p q = (
  (λ i. p.0 i ++ q.0 i) ∙ sym (text-append xs ys),
  (λ i. p.1 i ++ q.1 i) ∙ sym (text-append (shown set xs) (shown set ys)) ∙ ap text_of (sym (shown-append set xs ys)),
)

-- what is said of each of a list
pub less-each : {A : Type 0} (set : List TagName) (lines : A → List Line) (less whole : A → List ℕ) → ((x : A) → LessTags set (lines x) (less x) (whole x))
    → (xs : List A) → LessTags set (flat_map lines xs) (flat_map less xs) (flat_map whole xs)
less-each set lines less whole h [] = less-nil set
less-each set lines less whole h (x ∷ xs) =
    less-append set (lines x) (flat_map lines xs) (less x) (whole x) (flat_map less xs) (flat_map whole xs) (h x) (less-each set lines less whole h xs)

-- a line that is not hidden, and one that is
pub less-line : (set : List TagName) (name text : List ℕ) → is_hidden set (line name text) ≡ false → LessTags set (line name text ∷ []) (pair_line name text) (pair_line name text)
less-line set name text seen =
    let it : List Line = line name text ∷ [] in (
      sym (append-nil (pair_line name text)),
      sym (append-nil (pair_line name text)) ∙ ap (λ (b : Bool). text_of (cond (not b) it [])) (sym seen),
    )

less-hidden : (set : List TagName) (name text : List ℕ) → is_hidden set (line name text) ≡ true → LessTags set (line name text ∷ []) [] (pair_line name text)
less-hidden set name text hidden =
    let it : List Line = line name text ∷ [] in
    (sym (append-nil (pair_line name text)), ap (λ (b : Bool). text_of (cond (not b) it [])) (sym hidden))

or-false : (b : Bool) → (b || false) ≡ b
or-false true = refl
or-false false = refl

-- the line of a tag is hidden where the tag is not in the set
tag-hidden : (set : List TagName) (name : TagName) (text : List ℕ) → is_hidden set (line (tag_text name) text) ≡ not (has name set)
tag-hidden set Title text = or-false (not (has Title set))
tag-hidden set Artist text = or-false (not (has Artist set))
tag-hidden set Album text = or-false (not (has Album set))
tag-hidden set Date text = or-false (not (has Date set))
tag-hidden set Genre text = or-false (not (has Genre set))
tag-hidden set Comment text = or-false (not (has Comment set))
tag-hidden set AlbumArtist text = or-false (not (has AlbumArtist set))
tag-hidden set Track text = or-false (not (has Track set))
tag-hidden set Disc text = or-false (not (has Disc set))
tag-hidden set Composer text = or-false (not (has Composer set))

tag-kept : (set : List TagName) (name : TagName) (o : Option TagData) → has name set ≡ true → LessTags set (lines_for name o) (line_for name o) (line_for name o)
tag-kept set name None e = less-nil set
tag-kept set name (Some tag) e = less-line set (tag_text name) tag.text (tag-hidden set name tag.text ∙ ap not e)

tag-left : (set : List TagName) (name : TagName) (o : Option TagData) → has name set ≡ false → LessTags set (lines_for name o) [] (line_for name o)
tag-left set name None e = less-nil set
tag-left set name (Some tag) e = less-hidden set (tag_text name) tag.text (tag-hidden set name tag.text ∙ ap not e)

abbrev lines-of : List TagData → TagName → List Line
lines-of tags name = lines_for name (first_tag name tags)

tags-less : (set : List TagName) (tags : List TagData) (names : List TagName)
    → LessTags set (flat_map (lines-of tags) names) (tag_lines_of (filter (λ name. has name set) names) tags) (tag_lines_of names tags)
tags-less set tags [] = less-nil set
tags-less set tags (name ∷ names) =
    let rest : List TagName = filter (λ other. has other set) names in
    let it : List ℕ = tag_line name tags in
    let lines : List Line = flat_map (lines-of tags) names in
    let goes : (b : Bool) → has name set ≡ b → LessTags set (lines-of tags name ++ lines) (tag_lines_of (cond b (name ∷ rest) rest) tags) (it ++ tag_lines_of names tags)
    = λ b. elim b as (λ b. has name set ≡ b → LessTags set (lines-of tags name ++ lines) (tag_lines_of (cond b (name ∷ rest) rest) tags) (it ++ tag_lines_of names tags)) [
      | true ↦ (λ e. less-append set (lines-of tags name) lines it it (tag_lines_of rest tags) (tag_lines_of names tags) (tag-kept set name (first_tag name tags) e) (tags-less set tags names))
      | false ↦ (λ e. less-append set (lines-of tags name) lines [] it (tag_lines_of rest tags) (tag_lines_of names tags) (tag-left set name (first_tag name tags) e) (tags-less set tags names))
    ] in
    goes (has name set) refl

pub song-less : (set : List TagName) → IsTagSet set
    → (rate : ℕ) (song : SongData) → LessTags set (lines_of_song rate song) (song_lines_with set rate song) (song_lines_with tag_names rate song)
song-less set is rate song =
    let lines : List Line = flat_map (lines-of song.tags) tag_names in
    let tags : LessTags set lines (tag_lines_of set song.tags) (tag_lines_of tag_names song.tags)
    = subst (λ (s : List TagName). LessTags set lines (tag_lines_of s song.tags) (tag_lines_of tag_names song.tags)) (sym is) (tags-less set song.tags tag_names) in
    let rounded : List ℕ = decimal (seconds_rounded (millis rate song.frames)) in
    let exact : List ℕ = duration_text (millis rate song.frames) in
    let file : List ℕ = pair_line (codes "file") song.uri in
    let time : List ℕ = pair_line (codes "Time") rounded in
    let long : List ℕ = pair_line (codes "duration") exact in
    let last : List Line = line (codes "Time") rounded ∷ line (codes "duration") exact ∷ [] in
    less-append set (line (codes "file") song.uri ∷ []) (lines ++ last) file file (tag_lines_of set song.tags ++ (time ++ long)) (tag_lines_of tag_names song.tags ++ (time ++ long))
    (less-line set (codes "file") song.uri refl)
    (less-append set lines last (tag_lines_of set song.tags) (tag_lines_of tag_names song.tags) (time ++ long) (time ++ long) tags
    (less-append set (line (codes "Time") rounded ∷ []) (line (codes "duration") exact ∷ []) time time long long
    (less-line set (codes "Time") rounded refl) (less-line set (codes "duration") exact refl)))

pub songs_show_less : SongsShowLess
songs_show_less set is rate song = song-less set is rate song
