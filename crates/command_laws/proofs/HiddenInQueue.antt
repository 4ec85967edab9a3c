-- What the commands of the queue show less hidden tags.
use Rattle.std.proofs.Common.{ℕ, Bool, true, false, cond, ◌==◌, List, [], ◌∷◌, ◌++◌, Option, Some, None, refl, codes, decimal}
use Rattle.std.specs.List.{flat_map}
use Rattle.std.specs.declared.ops.Range.{Range as Positions}
use Rattle.mpd_text.specs.Answers.Answer.{pair_line}
use Rattle.mpd_text.specs.Songs.Tags.{tag_names}
use Rattle.mpd_text.specs.declared.songs.song.TagName.{TagName}
use Rattle.filters.specs.declared.matching.Case.{Case}
use Rattle.filters.specs.declared.matching.Case.TheVariants.{Heeded, Ignored}
use Rattle.known_tags.specs.Lines.{song_lines_with}
use Rattle.song_queue.specs.State.{position_of}
use Rattle.song_queue.specs.declared.entry.Entry.{Entry}
use Rattle.command_arguments.specs.declared.criteria.Criteria.{Criteria}
use Rattle.command_arguments.specs.declared.criteria.Criteria.TheVariants.{Meeting, Refused}
use Rattle.player_state.specs.declared.state.Library.{Library}
use Rattle.player_state.specs.declared.state.Part.{Part}
use Rattle.transitions.specs.CommandResults.{shows}
use Rattle.transitions.specs.Transitions.{CommandResult, transition_by}
use Rattle.transitions.specs.declared.asked.Asked.{Asked}
use Rattle.mpd_command.specs.declared.queue.QueueCommand.{QueueCommand}
use Rattle.mpd_command.specs.declared.queue.QueueCommand.TheVariants as queue
use Rattle.queue_commands.specs.Queue.{count, entry_lines, meeting, playlist_find, priority_line, range_or_all, show_changed, show_one, show_positions, result_of as queue_result}
use Rattle.command_laws.specs.HiddenLines.{IsShownLess, unchosen}
use Rattle.command_laws.specs.HiddenTags.{IsTagSet, LessTags, Line, line, lines_of_song}
use Rattle.command_laws.specs.ShownSongs.{Lines, Showing, changed_shown, lines_of_priority, lines_of_row, met_shown, position_shown, positions_shown, queue_shown}
use Rattle.command_laws.proofs.HiddenLines.{less-append, less-each, less-line, less-nil, song-less}

-- the same of what two commands make of the player
abbrev pub AreShownLess : Asked → List TagName → Showing → CommandResult → CommandResult → Type 0
AreShownLess asked set showing less whole = IsShownLess asked set showing (transition_by less) (transition_by whole)

-- an answer shows lines
pub answers : (asked : Asked) (set : List TagName) (lines : List Line) (less whole : List ℕ) → LessTags set lines less whole → AreShownLess asked set (Lines lines) (shows asked less) (shows asked whole)
answers asked set lines less whole h = ((λ i. transition_by (shows asked (h.0 i))), (λ i. transition_by (shows asked (h.1 i))))

priority-less : (set : List TagName) (priority : ℕ) (b : Bool)
    → LessTags set (cond b [] (line (codes "Prio") (decimal priority) ∷ [])) (cond b [] (pair_line (codes "Prio") (decimal priority))) (cond b [] (pair_line (codes "Prio") (decimal priority)))
priority-less set priority true = less-nil set
priority-less set priority false = less-line set (codes "Prio") (decimal priority) refl

module _ (set : List TagName) (is : IsTagSet set) where
  pub row-less : (rate : ℕ) (row : ℕ × Entry) → LessTags set (lines_of_row rate row) (entry_lines set rate row) (entry_lines tag_names rate row)
  row-less rate row =
      let position : List ℕ = pair_line (codes "Pos") (decimal row.0) in
      let id : List ℕ = pair_line (codes "Id") (decimal row.1.id) in
      let priority : List ℕ = priority_line row.1.priority in
      let id-line : Line = line (codes "Id") (decimal row.1.id) in
      let rest : List Line = id-line ∷ lines_of_priority row.1.priority in
      less-append set (lines_of_song rate row.1.song) (line (codes "Pos") (decimal row.0) ∷ rest)
      (song_lines_with set rate row.1.song) (song_lines_with tag_names rate row.1.song) (position ++ (id ++ priority)) (position ++ (id ++ priority)) (song-less set is rate row.1.song)
      (less-append set (line (codes "Pos") (decimal row.0) ∷ []) rest position position (id ++ priority) (id ++ priority) (less-line set (codes "Pos") (decimal row.0) refl)
      (less-append set (id-line ∷ []) (lines_of_priority row.1.priority) id id priority priority
      (less-line set (codes "Id") (decimal row.1.id) refl) (priority-less set row.1.priority (row.1.priority == 0))))

  rows-less : (rate : ℕ) (rows : List (ℕ × Entry)) → LessTags set (flat_map (lines_of_row rate) rows) (flat_map (entry_lines set rate) rows) (flat_map (entry_lines tag_names rate) rows)
  rows-less rate rows = less-each set (lines_of_row rate) (entry_lines set rate) (entry_lines tag_names rate) (row-less rate) rows

  positions-less : (asked : Asked) (part : Part) (library : Library) (positions : Option (Positions ℕ))
      → AreShownLess asked set (positions_shown part library positions) (show_positions asked part (entry_lines set library.rate) positions) (show_positions asked part (entry_lines tag_names library.rate) positions)
  positions-less asked part library None = (refl, refl)
  positions-less asked part library (Some r) = answers asked set _ _ _ (rows-less library.rate _)

  changed-less : (asked : Asked) (part : Part) (library : Library) (version : ℕ) (positions : Option (Positions ℕ))
      → AreShownLess asked set (changed_shown part library version positions)
      (show_changed asked part (entry_lines set library.rate) version positions) (show_changed asked part (entry_lines tag_names library.rate) version positions)
  changed-less asked part library version None = (refl, refl)
  changed-less asked part library version (Some r) = answers asked set _ _ _ (rows-less library.rate _)

module _ (asked : Asked) (part : Part) (library : Library) (is : IsTagSet asked.tags) where
  met-less : (case : Case) (criteria : Criteria)
      → AreShownLess asked asked.tags (met_shown part library case criteria) (playlist_find asked part library case criteria) (playlist_find (unchosen asked) part library case criteria)
  met-less case (Meeting e) =
      answers asked asked.tags _ _ _ (rows-less asked.tags is library.rate (meeting part.queue case e))
  met-less case (Refused text) = (refl, refl)

  shown-less : (positions : Option (Positions ℕ)) → AreShownLess asked asked.tags (positions_shown part library positions)
      (show_positions asked part (entry_lines asked.tags library.rate) positions) (show_positions asked part (entry_lines tag_names library.rate) positions)
  shown-less positions = positions-less asked.tags is asked part library positions

  one-less : (position : Option ℕ) → AreShownLess asked asked.tags (position_shown part library position) (show_one asked part library position) (show_one (unchosen asked) part library position)
  one-less None = (refl, refl)
  one-less (Some position) = shown-less (Some _)

pub queue_less : (asked : Asked) (part : Part) (library : Library) (it : QueueCommand) → IsTagSet asked.tags
    → AreShownLess asked asked.tags (queue_shown part library it) (queue_result asked part library it) (queue_result (unchosen asked) part library it)
unfolding queue_result
queue_less asked part library (queue.PlaylistFind criteria) is = met-less asked part library is Heeded criteria
queue_less asked part library (queue.PlaylistId None) is = shown-less asked part library is (range_or_all None (count part))
queue_less asked part library (queue.PlaylistId (Some id)) is = one-less asked part library is (position_of part.queue id)
queue_less asked part library (queue.PlaylistInfo range) is = shown-less asked part library is (range_or_all range (count part))
queue_less asked part library (queue.PlaylistSearch criteria) is = met-less asked part library is Ignored criteria
queue_less asked part library (queue.PlChanges version range) is =
    changed-less asked.tags is asked part library version (range_or_all range (count part))
queue_less asked part library _ is = refl
