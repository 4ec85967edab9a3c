-- What a client that has chosen tags is shown by each command: what it would be shown with all tags, less the
-- lines of the tags that are not in its set (MPD protocol reference, Connection settings: `tagtypes`).
use Rattle.std.specs.Prelude.{◌≡◌, true, List}
use Rattle.mpd_text.specs.Songs.Tags.{tag_names}
use Rattle.mpd_text.specs.declared.songs.song.TagName.{TagName}
use Rattle.player_state.specs.declared.state.Library.{Library}
use Rattle.player_state.specs.declared.state.Part.{Part}
use Rattle.transitions.specs.CommandResults.{shows}
use Rattle.transitions.specs.Transitions.{TransitionData, transition_by}
use Rattle.transitions.specs.declared.asked.Asked.{Asked}
use Rattle.transitions.specs.declared.shelf_calls.Read.{Read}
use Rattle.mpd_command.specs.declared.command.Command.{Command}
use Rattle.command_laws.specs.HiddenTags.{IsTagSet, shown, text_of}
use Rattle.command_laws.specs.Results.{AllKnown, result_of}
use Rattle.command_laws.specs.ShownSongs.{Lines, NoSongs, OwnTags, Refusal, Showing, showing_of}

-- the same asked by a client that has chosen no tags, and so is shown all of them
abbrev pub unchosen : Asked → Asked
unchosen asked = record asked { tags = tag_names }

-- of two clients, the first with a set of tags and the second with all of them, the second is shown all these
-- lines, and the first those that are not hidden from it; a refusal, and what has nothing to do with songs,
-- is one for both
abbrev pub IsShownLess : Asked → List TagName → Showing → TransitionData → TransitionData → Type 0
IsShownLess asked set (Lines lines) less whole =
    (whole ≡ transition_by (shows asked (text_of lines)))
    × (less ≡ transition_by (shows asked (text_of (shown set lines))))
IsShownLess asked set Refusal less whole = (whole.response.answer.refused ≡ true) × (less ≡ whole)
IsShownLess asked set NoSongs less whole = less ≡ whole
IsShownLess asked set OwnTags less whole = Unit {0}

-- a client that has chosen tags is shown what it would be shown had it chosen none, less the lines of the
-- tags that are not in its set
abbrev pub HiddenTagsAreLeftOut : Type 0
HiddenTagsAreLeftOut =
    (all : AllKnown) (asked : Asked) (part : Part) (library : Library) (read : Read) (it : Command)
    → IsTagSet asked.tags
    → IsShownLess asked asked.tags (showing_of part library read it)
    (result_of all asked part library read it) (result_of all (unchosen asked) part library read it)
