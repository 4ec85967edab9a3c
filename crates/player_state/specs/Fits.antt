-- What the queue and the channels can take.
use Rattle.std.specs.Prelude.{◌≡◌, ◌≤◌, length, None}
use Rattle.idle_notes.specs.Channels.{subscribe_refusal, unsubscribe_refusal, send_refusal}
use Rattle.song_queue.specs.Laws.{Takes}
use Rattle.song_queue.specs.State.{queue_of}
use Rattle.player_state.specs.declared.state.Part.{Part}
use Rattle.player_state.specs.declared.effect.Effect.{Effect}
use Rattle.player_state.specs.declared.effect.Effect.TheVariants.{ByCommand}
use Rattle.player_state.specs.declared.effect.CommandEffect.TheVariants.{Edits, Shuffles, Subscribes, Unsubscribes, Sends}

abbrev pub Fits : Part → Effect → Type 0
Fits part (ByCommand (Edits edit)) = Takes part.queue edit
Fits part (ByCommand (Shuffles start end)) = (start ≤ end) × (end ≤ length (queue_of part.queue))
Fits part (ByCommand (Subscribes client channel)) = subscribe_refusal client channel part.channels ≡ None
Fits part (ByCommand (Unsubscribes client channel)) = unsubscribe_refusal client channel part.channels ≡ None
Fits part (ByCommand (Sends channel text)) = send_refusal channel part.channels ≡ None
Fits part _ = Unit {0}
