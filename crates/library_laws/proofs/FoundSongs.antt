-- What is shown, added and counted of the songs that meet a filter.
use Rattle.std.proofs.Common.{◌≡◌, ◌∙◌, ℕ, List, length, Option, Some, None, refl, sym, ap, subst}
use Rattle.mpd_text.specs.Songs.Song.{SongData}
use Rattle.known_tags.specs.declared.known_tag.KnownTag.{KnownTag}
use Rattle.filters.specs.Expressions.{Expression}
use Rattle.filters.specs.declared.matching.Case.{Case}
use Rattle.filters.specs.declared.matching.Case.TheVariants.{Heeded, Ignored}
use Rattle.song_search.specs.Answers.{found}
use Rattle.command_arguments.specs.declared.forms.Position.{Position}
use Rattle.command_arguments.specs.declared.criteria.Criteria.{Criteria}
use Rattle.command_arguments.specs.declared.criteria.Criteria.TheVariants.{Meeting, Refused}
use Rattle.selections.specs.declared.asked.Selection.{Selection}
use Rattle.player_state.specs.declared.state.Library.{Library}
use Rattle.player_state.specs.declared.state.Part.{Part}
use Rattle.transitions.specs.CommandResults.{shows}
use Rattle.transitions.specs.Transitions.{CommandResult}
use Rattle.transitions.specs.declared.asked.Asked.{Asked}
use Rattle.transitions.specs.declared.shelf_calls.Read.{Read}
use Rattle.queue_commands.specs.Queue.{add_songs}
use Rattle.library_commands.specs.Database.{add_met, count_met, find_met, lines_of_songs, result_of}
use Rattle.library_laws.specs.Added.{HasRoom, IsAdded, IsPosition}
use Rattle.library_laws.specs.Found.{AreSelected, CanBeRead, CountsTheFound, FindsAndAddsTheSame, Picks, MeetsCriteria, adding, count_lines, finding, lines_of}
use Rattle.library_laws.proofs.Insertion.{adds-songs}
use Rattle.library_laws.proofs.PickedSongs.{expression_of, selected-is, criteria-is}

finds : (asked : Asked) (part : Part) (library : Library) (read : Read) (case : Case) (selection : Selection) → result_of asked part library read (finding case selection) ≡ find_met asked library case selection selection.criteria
unfolding result_of
finds asked part library read Heeded selection = refl
finds asked part library read Ignored selection = refl

adds : (asked : Asked) (part : Part) (library : Library) (read : Read) (case : Case) (selection : Selection) (named : Option Position) → result_of asked part library read (adding case selection named) ≡ add_met asked part library case selection named selection.criteria
unfolding result_of
adds asked part library read Heeded selection named = refl
adds asked part library read Ignored selection named = refl

shown : (asked : Asked) (part : Part) (library : Library) (read : Read) (case : Case) (selection : Selection) (e : Expression) (songs : List SongData) → selection.criteria ≡ Meeting e → AreSelected library case e selection songs
    → result_of asked part library read (finding case selection) ≡ shows asked (lines_of asked library songs)
unfolding lines_of_songs
shown asked part library read case selection e songs criteria are =
    finds asked part library read case selection
    ∙ ap (find_met asked library case selection) criteria
    ∙ ap (λ (them : List SongData). shows asked (lines_of asked library them)) (sym (selected-is library case e selection songs are))

added : (asked : Asked) (part : Part) (library : Library) (read : Read) (case : Case) (selection : Selection) (e : Expression) (songs : List SongData) (named : Option Position) (position : ℕ) → selection.criteria ≡ Meeting e → AreSelected library case e selection songs → IsPosition part named position → HasRoom part (length songs)
    → IsAdded asked part position songs (result_of asked part library read (adding case selection named))
added asked part library read case selection e songs named position criteria are is room =
    subst (λ (r : CommandResult). IsAdded asked part position songs r)
    (sym (adds asked part library read case selection named
    ∙ ap (add_met asked part library case selection named) criteria
    ∙ ap (λ (them : List SongData). add_songs asked part them named) (sym (selected-is library case e selection songs are))))
    (adds-songs asked part named position songs is room)

pub find_and_add_the_same : FindsAndAddsTheSame
find_and_add_the_same = record { shown = shown; added = added }

all-together : (asked : Asked) (library : Library) (criteria : Option Criteria) → CanBeRead criteria → count_met asked library None criteria ≡ shows asked (count_lines library.rate (found Heeded (expression_of criteria) library.songs))
all-together asked library None can = refl
all-together asked library (Some (Meeting e)) can = refl
all-together asked library (Some (Refused text)) can = absurd can

counts : (asked : Asked) (library : Library) (group : Option KnownTag) (criteria : Option Criteria) (songs : List SongData) → group ≡ None → CanBeRead criteria → Picks (MeetsCriteria criteria) library.songs songs
    → count_met asked library group criteria ≡ shows asked (count_lines library.rate songs)
counts asked library group criteria songs none can picks =
    ap (λ (g : Option KnownTag). count_met asked library g criteria) none
    ∙ all-together asked library criteria can
    ∙ ap (λ (them : List SongData). shows asked (count_lines library.rate them)) (sym (criteria-is criteria library.songs songs can picks))

pub found_songs_are_counted : CountsTheFound
unfolding result_of
found_songs_are_counted asked part library read counting songs none can picks = counts asked library counting.group counting.criteria songs none can picks
