-- What commands make of a player.
use Rattle.std.specs.Prelude.{ℕ, List, ◌++◌, codes}
use Rattle.mpd_text.specs.declared.answers.answer.ErrorNumber.{ErrorNumber}
use Rattle.mpd_text.specs.declared.answers.answer.ErrorNumber.TheVariants.{Argument, NoExist, PlayerSync}
use Rattle.song_queue.specs.declared.edit.Edit.{Edit}
use Rattle.player_state.specs.declared.effect.CommandEffect.{CommandEffect}
use Rattle.player_state.specs.declared.effect.CommandEffect.TheVariants.{Rests, Edits, Leaves}
use Rattle.transitions.specs.Answers.{Answer, refuses_command, disconnects, shut_down, succeeds}
use Rattle.transitions.specs.declared.asked.Asked.{Asked}
use Rattle.player_state.specs.declared.scan.ScanMove.TheVariants.{Stay, Begin}
use Rattle.transitions.specs.declared.shelf_calls.ShelfWrite.{ShelfWrite}
use Rattle.transitions.specs.declared.shelf_calls.ShelfWrite.TheVariants.{Nothing}
use Rattle.transitions.specs.Transitions.{CommandResult}

-- the player stays as it is
abbrev pub only : Answer → CommandResult
only answer = record { effect = Rests; scan = Stay; written = Nothing; answer = answer }

-- it shows these lines
abbrev pub shows : Asked → List ℕ → CommandResult
shows asked lines = only (succeeds asked.list_place lines)

-- the queue is edited, and these lines are shown
abbrev pub edits : Asked → Edit → List ℕ → CommandResult
edits asked edit lines = record { effect = Edits edit; scan = Stay; written = Nothing; answer = succeeds asked.list_place lines }

-- the player does this, and no lines are shown
abbrev pub does : Asked → CommandEffect → CommandResult
does asked effect = record { effect = effect; scan = Stay; written = Nothing; answer = succeeds asked.list_place (codes "") }

-- a scan begins, and these lines are shown
abbrev pub begins_scan : Asked → List ℕ → CommandResult
begins_scan asked lines = record { effect = Rests; scan = Begin; written = Nothing; answer = succeeds asked.list_place lines }

-- this is written to the shelf, and no lines are shown
abbrev pub writes : Asked → ShelfWrite → CommandResult
writes asked write = record { effect = Rests; scan = Stay; written = write; answer = succeeds asked.list_place (codes "") }

-- the command is refused
abbrev pub refusal : Asked → ErrorNumber → List ℕ → CommandResult
refusal asked number text = only (refuses_command asked number text)

abbrev pub bad_index : Asked → CommandResult
bad_index asked = refusal asked Argument (codes "bad song index")

abbrev pub no_such_song : Asked → CommandResult
no_such_song asked = refusal asked NoExist (codes "no such song")

-- nothing is played
abbrev pub not_playing : Asked → CommandResult
not_playing asked = refusal asked PlayerSync (codes "not playing")

-- a text that is no name of what it should name
abbrev pub bad_name : Asked → List ℕ → CommandResult
bad_name asked name = refusal asked Argument (codes "bad name \"" ++ name ++ codes "\"")

-- the client is gone, without an answer
abbrev pub closes_client : Asked → CommandResult
closes_client asked = record (only disconnects) { effect = Leaves asked.client }

-- the client is gone, without an answer, and the daemon ends
abbrev pub ends_daemon : Asked → CommandResult
ends_daemon asked = record (only shut_down) { effect = Leaves asked.client }
