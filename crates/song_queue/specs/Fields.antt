-- The state of a queue, as its fields hold it.
use Rattle.song_queue.specs.declared.queue.Queue.TheInside.{Inside}
use Rattle.song_queue.specs.State.{QueueState}

abbrev pub state_in : Inside → QueueState
state_in q = record {
  slots = q.slots;
  version = q.version;
  greatest_id = q.greatest_id;
  max_len = q.max_len;
  max_version = q.max_version;
  max_id = q.max_id;
  parity = q.parity;
}
