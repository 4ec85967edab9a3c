-- What an event does to what one player owns (MPD protocol reference, Controlling playback; The queue;
-- Playback options; Audio output devices; Client to client; the decoder's and the outputs' steps are this
-- profile's).
use Rattle.std.specs.Prelude.{ℕ, ◌+◌, Bool, false, ◌&&◌, not, nat_le, if◌then◌else◌, List, Option, Some, None, option_map, slice_get, slice_index_or}
use Rattle.idle_notes.specs.Channels.{MemberData, subscribed, unsubscribed, sent, emptied, left}
use Rattle.song_queue.specs.declared.entry.Entry.{Entry}
use Rattle.song_queue.specs.declared.edit.Edit.{Edit}
use Rattle.song_queue.specs.declared.edit.Edit.TheVariants.{Insert, Remove, Move, Prioritize, Swap, Shuffle}
use Rattle.song_queue.specs.Laws.{state_after_edit}
use Rattle.song_queue.specs.State.{QueueState, queue_of}
use Rattle.player_core.specs.declared.state.Job.{Job}
use Rattle.player_core.specs.Player as player
use Rattle.player_core.specs.Player.{PlayerState}
use Rattle.player_core.specs.Steps as steps
use Rattle.player_core.specs.Decoding as decoding
use Rattle.player_state.specs.declared.effect.Effect.{Effect}
use Rattle.player_state.specs.declared.effect.Effect.TheVariants.{ByCommand, ByAudio}
use Rattle.player_state.specs.declared.effect.CommandEffect.TheVariants.{Rests, Edits, Shuffles, SetsVolume, SetsRepeat, SetsRandom, SetsSingle, SetsConsume, SetsCrossfade, ClearsError, Plays, PlaysPosition, Pauses, TogglesPause, Stops, GoesOn, GoesBack, Seeks, Switches, Subscribes, Unsubscribes, Sends, ReadsMessages, Leaves}
use Rattle.player_state.specs.declared.effect.AudioStep.TheVariants.{Wants, Accepts, Fails, Settles}
use Rattle.player_state.specs.declared.report.Feed.{Feed}
use Rattle.player_state.specs.declared.report.Report.{Report}
use Rattle.player_state.specs.declared.report.Report.TheVariants.{Nothing, ToDecode, ToFeed, ToPlay}
use Rattle.player_state.specs.declared.scan.ScanMove.{ScanMove}
use Rattle.player_state.specs.declared.scan.ScanMove.TheVariants.{Begin}
use Rattle.player_state.specs.declared.state.Part.{Part}
use Rattle.player_state.specs.Outputs.{OutputsData, any_enabled, asked_all, fed, is_enabled, switched, turned}
use Rattle.player_state.specs.Scans.{ScanData}

abbrev pub entries : Part → List Entry
entries part = queue_of part.queue

-- a song by its position starts, or is sought in; nothing happens where there is none
abbrev pub played_entry : PlayerState → Option Entry → PlayerState
played_entry p None = p
played_entry p (Some entry) = steps.play_entry p entry

abbrev pub sought_entry : PlayerState → Option Entry → ℕ → PlayerState
sought_entry p None frame = p
sought_entry p (Some entry) frame = steps.seek p entry frame

-- what an edit of the queue is to the player: entries that come draw ranks, and those that go may be the
-- current song
abbrev pub player_edited : PlayerState → QueueState → Edit → PlayerState
player_edited p queue (Insert at songs) = steps.inserted p queue songs
player_edited p queue (Remove start end) = steps.removed p (queue_of queue) start end
player_edited p queue (Move start end to) = p
player_edited p queue (Prioritize ranges priority) = p
player_edited p queue (Swap a b) = p
player_edited p queue (Shuffle start end words) = p

-- the song at a position starts
abbrev pub played_position : Part → ℕ → PlayerState
played_position part position = played_entry part.player (slice_get (entries part) position)

-- the song at a position is played from a frame on
abbrev pub sought_position : Part → ℕ → ℕ → PlayerState
sought_position part position frame = sought_entry part.player (slice_get (entries part) position) frame

-- the queue is edited, and the player goes along
abbrev pub part_edited : Part → Edit → Part
part_edited part edit = record part { queue = state_after_edit part.queue edit; player = player_edited part.player part.queue edit }

-- the player makes a step, which may leave less of the queue
abbrev pub part_stepped : Part → player.Stepped → Part
part_stepped part stepped = record part { queue = player.queue_after part.queue stepped.edit; player = stepped.player }

-- other clients listen, or other messages wait
abbrev pub with_channels : Part → List MemberData → Part
with_channels part channels = record part { channels = channels }

abbrev pub due_job : ℕ → Part → Bool → decoding.DueJob
due_job rate part owes = decoding.want rate part.player (entries part) (any_enabled part.outputs) owes

abbrev pub had : Part → ℕ → ℕ → decoding.Had
had part number frames = decoding.have part.player (entries part) number frames

-- the player after an event
abbrev pub player_after : ℕ → Part → Effect → PlayerState
player_after rate part (ByCommand Rests) = part.player
player_after rate part (ByCommand (Edits edit)) = player_edited part.player part.queue edit
player_after rate part (ByCommand (Shuffles start end)) = steps.shuffled part.player start end
player_after rate part (ByCommand (SetsVolume volume)) = part.player
player_after rate part (ByCommand (SetsRepeat on)) = steps.set_repeat part.player on
player_after rate part (ByCommand (SetsRandom on)) = steps.random part.player (entries part) on
player_after rate part (ByCommand (SetsSingle single)) = steps.set_single part.player single
player_after rate part (ByCommand (SetsConsume consume)) = steps.set_consume part.player consume
player_after rate part (ByCommand (SetsCrossfade seconds)) = steps.set_crossfade part.player seconds
player_after rate part (ByCommand ClearsError) = steps.clear_error part.player
player_after rate part (ByCommand Plays) = steps.play part.player (entries part)
player_after rate part (ByCommand (PlaysPosition position)) = played_position part position
player_after rate part (ByCommand (Pauses on)) = steps.pause part.player on
player_after rate part (ByCommand TogglesPause) = steps.toggle_pause part.player
player_after rate part (ByCommand Stops) = steps.stop part.player
player_after rate part (ByCommand GoesOn) = (steps.next part.player (entries part)).player
player_after rate part (ByCommand GoesBack) = steps.previous part.player (entries part)
player_after rate part (ByCommand (Seeks position frame)) = sought_position part position frame
player_after rate part (ByCommand (Switches output on)) = part.player
player_after rate part (ByAudio (Wants owes)) = (due_job rate part owes).stepped.player
player_after rate part (ByAudio (Accepts number frames)) = (had part number frames).stepped.player
player_after rate part (ByAudio (Fails number of_partner)) = decoding.failed part.player (entries part) number of_partner
player_after rate part (ByAudio (Settles output written discarded failed)) = part.player
player_after rate part (ByCommand (Subscribes client channel)) = part.player
player_after rate part (ByCommand (Unsubscribes client channel)) = part.player
player_after rate part (ByCommand (Sends channel text)) = part.player
player_after rate part (ByCommand (ReadsMessages client)) = part.player
player_after rate part (ByCommand (Leaves client)) = part.player

-- what an event makes of the queue: an edit, or what a step of the player leaves of it
pub data Change : Type 0 where
  ByEdit : Edit → Change
  ByStep : Option (List Entry) → Change

abbrev pub change_of : ℕ → Part → Effect → Change
change_of rate part (ByCommand (Edits edit)) = ByEdit edit
change_of rate part (ByCommand (Shuffles start end)) = ByEdit (Shuffle start end (steps.shuffle_words part.player start end))
change_of rate part (ByCommand GoesOn) = ByStep (steps.next part.player (entries part)).edit
change_of rate part (ByAudio (Wants owes)) = ByStep (due_job rate part owes).stepped.edit
change_of rate part (ByAudio (Accepts number frames)) = ByStep (had part number frames).stepped.edit
change_of rate part _ = ByStep None

abbrev pub queue_after : QueueState → Change → QueueState
queue_after queue (ByEdit edit) = state_after_edit queue edit
queue_after queue (ByStep left) = player.queue_after queue left

abbrev pub volume_after : ℕ → Effect → ℕ
volume_after volume (ByCommand (SetsVolume new)) = new
volume_after volume _ = volume

-- a job, if one is given, is for the outputs that are in the partition now
abbrev pub asked_for : Option Job → OutputsData → OutputsData
asked_for None outputs = outputs
asked_for (Some job) outputs = asked_all outputs

abbrev pub outputs_after : ℕ → Part → Effect → OutputsData
outputs_after rate part (ByCommand (Switches output on)) = switched part.outputs output on
outputs_after rate part (ByAudio (Wants owes)) = asked_for (due_job rate part owes).job part.outputs
outputs_after rate part (ByAudio (Settles output written discarded failed)) = turned part.outputs output failed
outputs_after rate part _ = part.outputs

-- who listens to which channel, and the messages that wait for each
abbrev pub channels_after : List MemberData → Effect → List MemberData
channels_after channels (ByCommand (Subscribes client channel)) = subscribed client channel channels
channels_after channels (ByCommand (Unsubscribes client channel)) = unsubscribed client channel channels
channels_after channels (ByCommand (Sends channel text)) = sent channel text channels
channels_after channels (ByCommand (ReadsMessages client)) = emptied client channels
channels_after channels (ByCommand (Leaves client)) = left client channels
channels_after channels _ = channels

-- as many frames as can be counted
abbrev pub counted : ℕ → ℕ
counted frames = if nat_le frames 18446744073709551615 then frames else 18446744073709551615

-- how many frames were decoded, with those of a have, which has a cut where it was accepted
abbrev pub played_with : ℕ → Option ℕ → ℕ → ℕ
played_with played None frames = played
played_with played (Some cut) frames = counted (played + frames)

abbrev pub played_after : Part → Effect → ℕ
played_after part (ByAudio (Accepts number frames)) = played_with part.played (had part number frames).feed frames
played_after part _ = part.played

-- the decoder asks for a job
abbrev pub part_asked : ℕ → Part → Bool → Part
part_asked rate part owes =
    record (part_stepped part (due_job rate part owes).stepped) { outputs = asked_for (due_job rate part owes).job part.outputs }

-- the player takes frames of a job
abbrev pub part_with : Part → ℕ → ℕ → Part
part_with part number frames = record (part_stepped part (had part number frames).stepped) { played = played_with part.played (had part number frames).feed frames }

-- what one player owns, after an event; its number and its name stay
abbrev pub part_after : ℕ → Part → Effect → Part
part_after rate part effect = record {
  index = part.index;
  name = part.name;
  queue = queue_after part.queue (change_of rate part effect);
  player = player_after rate part effect;
  volume = volume_after part.volume effect;
  outputs = outputs_after rate part effect;
  channels = channels_after part.channels effect;
  played = played_after part effect;
}

-- what frames are fed with that were accepted: their cut, the volume, and the outputs that they are for
abbrev pub feed_of : ℕ → OutputsData → Option ℕ → Option Feed
feed_of volume outputs cut = option_map (λ cut. record { cut = cut; volume = volume; outputs = fed outputs }) cut

-- what frames of a job are fed with; nothing where they are stale
abbrev pub fed_with : Part → ℕ → ℕ → Option Feed
fed_with part number frames = feed_of part.volume part.outputs (had part number frames).feed

-- what an output is told after its turn: how often it was moved, and what is to be heard
abbrev pub heard_after_turn : Part → ℕ → Bool → Report
heard_after_turn part output failed = ToPlay (record {
  moves = slice_index_or part.outputs.moves output 0;
  live = decoding.turn part.player (is_enabled (turned part.outputs output failed) output);
})

-- what is told where nothing else is
abbrev pub told_or : Report → Report → Report
told_or Nothing own = own
told_or other own = other

-- what a step is answered: a job, whether frames are fed, what is to be heard unless something else is told.
-- Another event is answered this report
abbrev pub report_after : ℕ → Part → Effect → Report → Report
report_after rate part (ByCommand Rests) report = report
report_after rate part (ByAudio (Wants owes)) report = ToDecode (due_job rate part owes).job
report_after rate part (ByAudio (Accepts number frames)) report = ToFeed (fed_with part number frames)
report_after rate part (ByAudio (Settles output written discarded failed)) report = told_or report (heard_after_turn part output failed)
report_after rate part _ report = Nothing

-- a scan would have a number above the limit of numbers
abbrev pub begins_beyond : ℕ → ScanData → ScanMove → Bool
begins_beyond max_cut scan Begin = not scan.runs && nat_le max_cut scan.last
begins_beyond max_cut scan _ = false

-- whether an event leaves all numbers at or below their limit
abbrev pub keeps_numbers : ℕ → Part → ScanData → Effect → ScanMove → Bool
keeps_numbers rate part scan effect scan_move =
    player.is_within (player_after rate part effect) && not (begins_beyond part.player.max_cut scan scan_move)
