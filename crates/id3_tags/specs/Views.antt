-- What a clause reads of the structs that borrow bytes.
use Rattle.id3_tags.specs.Tags.{Id3Tag}
use Rattle.id3_tags.specs.Frames.{Id3Frame}
use Rattle.id3_tags.specs.declared.tag.Tag.{Tag}
use Rattle.id3_tags.specs.declared.frame.Frame.{Frame}

-- a tag without where its frames lie in memory
abbrev pub tag_data : Tag → Id3Tag
tag_data tag = record { version = tag.version; unsynchronised = tag.unsynchronised; frames = tag.frames.now }

-- a frame without where it lies in memory
abbrev pub frame_data : Frame → Id3Frame
frame_data frame = record { identifier = frame.identifier.now; flags = frame.flags; body = frame.body.now }
