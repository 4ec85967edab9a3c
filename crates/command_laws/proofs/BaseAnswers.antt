-- What the base profile shows.
use Rattle.std.proofs.Common.{◌≡◌, ◌∙◌, ℕ, true, false, List, [], ◌∷◌, Option, Some, refl, ap, sym, subst}
use Rattle.std.specs.List.{flat_map}
use Rattle.mpd_text.specs.Answers.Answer.{pair_line}
use Rattle.mpd_text.specs.Songs.Song.{SongData}
use Rattle.mpd_text.specs.Songs.Tags.{tag_names, tag_text}
use Rattle.mpd_text.specs.declared.songs.song.TagName.{TagName}
use Rattle.mpd_text.specs.declared.songs.song.TagName.TheVariants as songs
use Rattle.known_tags.specs.KnownTags.{base_of, read_of, text_of}
use Rattle.known_tags.specs.Lines.{song_lines_with}
use Rattle.known_tags.specs.declared.known_tag.KnownTag.{KnownTag}
use Rattle.known_tags.specs.declared.known_tag.KnownTag.TheVariants as known
use Rattle.song_search.specs.Answers.{found, listed}
use Rattle.filters.specs.declared.matching.Case.TheVariants.{Heeded}
use Rattle.song_groups.specs.Tuples.{lines_of_tuples, tuples}
use Rattle.transitions.specs.CommandResults.{shows}
use Rattle.transitions.specs.Transitions.{TransitionData, transition_by}
use Rattle.transitions.specs.declared.asked.Asked.{Asked}
use Rattle.library_commands.specs.Database.{list_texts}
use Rattle.status_commands.specs.Status.{result_of as status_result}
use Rattle.command_laws.proofs.Shown.{status_shows_world}
use Rattle.command_laws.specs.HiddenLines.{IsShownLess, unchosen}
use Rattle.command_laws.specs.HiddenTags.{IsTagSet}
use Rattle.command_laws.specs.Results.{result_of}
use Rattle.command_laws.specs.ShownSongs.{Lines, Showing, showing_of}
use Rattle.command_laws.proofs.HiddenAnswers.{hidden_tags_are_left_out}
use Rattle.command_laws.specs.BaseTags.{BaseListHasTheTexts, BaseShowsAllLines, BaseShowsWholeSongs, BaseStatusHasNoTime, IsShownWhole}
use Rattle.command_laws.proofs.OneColumn.{column-lines}

pub base_shows_whole_songs : BaseShowsWholeSongs
base_shows_whole_songs asked all rate song = ap (λ (tags : List TagName). song_lines_with tags rate song) all

-- a client that is shown all tags asks as one that has chosen none
same-asked : (asked : Asked) → asked.tags ≡ tag_names → unchosen asked ≡ asked
same-asked asked all = λ i. record asked { tags = (sym all) i }

whole-of : (asked : Asked) (set : List TagName) (showing : Showing) (less whole : TransitionData) → IsShownLess asked set showing less whole → IsShownWhole asked showing whole
whole-of asked set (Lines lines) less whole h = h.0
whole-of asked set _ less whole h = tt

pub base_shows_all_lines : BaseShowsAllLines
base_shows_all_lines every asked part library read it all =
    let showing : Showing = showing_of part library read it in
    subst (λ (a : Asked). IsShownWhole asked showing (result_of every a part library read it)) (same-asked asked all)
    (whole-of asked asked.tags showing (result_of every asked part library read it) (result_of every (unchosen asked) part library read it)
    (hidden_tags_are_left_out every asked part library read it (subst IsTagSet (sym all) refl)))

pub base_status_has_no_time : BaseStatusHasNoTime
unfolding status_result
base_status_has_no_time every asked part library read false base =
    let it = status_shows_world asked false part library in
    (it.0, it.2.time, it.2, ap transition_by it.1)
base_status_has_no_time every asked part library read true base = absurd (cc)

-- one of the ten is read and shown as itself
as-named : (tag : KnownTag) (name : TagName) → base_of tag ≡ Some name → (read_of tag ≡ Some name) × (text_of tag ≡ tag_text name)
as-named known.Artist name e = let is : songs.Artist ≡ name = cc in (e, ap tag_text is)
as-named known.Album name e = let is : songs.Album ≡ name = cc in (e, ap tag_text is)
as-named known.Title name e = let is : songs.Title ≡ name = cc in (e, ap tag_text is)
as-named known.Genre name e = let is : songs.Genre ≡ name = cc in (e, ap tag_text is)
as-named known.Date name e = let is : songs.Date ≡ name = cc in (e, ap tag_text is)
as-named known.Comment name e = let is : songs.Comment ≡ name = cc in (e, ap tag_text is)
as-named known.AlbumArtist name e = let is : songs.AlbumArtist ≡ name = cc in (e, ap tag_text is)
as-named known.Track name e = let is : songs.Track ≡ name = cc in (e, ap tag_text is)
as-named known.Disc name e = let is : songs.Disc ≡ name = cc in (e, ap tag_text is)
as-named known.Composer name e = let is : songs.Composer ≡ name = cc in (e, ap tag_text is)
as-named _ name e = absurd (cc)

pub base_list_has_the_texts : BaseListHasTheTexts
unfolding list_texts
base_list_has_the_texts asked library tag name e is =
    let named = as-named tag name is in
    let songs : List SongData = found Heeded e library.songs in
    ap (shows asked)
    (ap (λ (column : Option TagName). lines_of_tuples (text_of tag ∷ []) (tuples (column ∷ []) songs)) named.0
    ∙ column-lines (text_of tag) name songs
    ∙ ap (λ (label : List ℕ). flat_map (pair_line label) (listed name e library.songs)) named.1)
