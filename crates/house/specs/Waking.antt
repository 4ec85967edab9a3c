-- What a thread at rest is woken for.
use Rattle.house.specs.declared.wake_fingerprint.PartFingerprint.{PartFingerprint}
use Rattle.player_state.specs.declared.state.Part.{Part}

-- what changes in a partition where the decoder or one of its outputs has something to do
abbrev pub part_fingerprint : Part → PartFingerprint
part_fingerprint part = record {
  index = part.index;
  playback = part.player.playback;
  cuts = part.player.cuts;
  starts = part.player.starts;
  outputs = part.outputs.enabled;
}
