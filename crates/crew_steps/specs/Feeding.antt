-- What the rings of the outputs take of a job's frames (this profile's).
use Rattle.std.specs.Prelude.{ℕ, ℤ, ◌≡◌, ◌⊎◌, ◌+◌, ◌++◌, Bool, false, ◌&&◌, ◌==◌, nat_le, nat_lt, min, List, [], ◌∷◌, length, slice_get, Option, Some, None, Result, Ok, Err, slice_index_or, if◌then◌else◌}
use Rattle.output_ring.specs.Frames.{with_cut}
use Rattle.output_ring.specs.Rings.{SameFeeder, owed_of, taken_of}
use Rattle.output_ring.specs.declared.feeder.Feeder.{Feeder}
use Rattle.output_ring.specs.declared.frames.CutFrame.{CutFrame}
use Rattle.pcm_mix.specs.Blocks.{FadingData, block_of}
use Rattle.player_core.specs.declared.state.FadePart.{FadePart}
use Rattle.player_core.specs.declared.state.Job.{Job}
use Rattle.player_events.specs.Outcomes.{OutcomeData}
use Rattle.player_events.specs.declared.event.Event.{Event}
use Rattle.player_events.specs.declared.event.Event.TheVariants as event
use Rattle.partition_table.specs.Parts.{part_at}
use Rattle.partition.specs.History.{Chronicle}
use Rattle.partition.specs.Legal.{IsPast}
use Rattle.player_state.specs.Outputs.{owes_any}
use Rattle.player_state.specs.declared.state.Part.{Part}
use Rattle.player_state.specs.declared.report.Feed.{Feed}
use Rattle.player_state.specs.declared.report.Report.{Report}
use Rattle.player_state.specs.declared.report.Report.TheVariants.{ToFeed}
use Rattle.house.specs.Seats.{SeatCount}
use Rattle.house.specs.Views.{FeedsSomewhere, TellsSomewhere}
use Rattle.crew_steps.specs.Each.{EachAt}
use Rattle.crew_steps.specs.declared.songs.JobFrames.{JobFrames}
use Rattle.crew_steps.specs.declared.songs.NoFrames.{NoFrames}
use Rattle.crew_steps.specs.declared.songs.NoFrames.TheVariants.{NoMemory, Failed}
use Rattle.crew_steps.specs.Sounds.{AreOpenFor, IsShut, OpenSongs, ReadsJob}

-- whether frames wait for room in a ring, if there is one
abbrev pub owes : Option Feeder → Bool
owes None = false
owes (Some f) = nat_lt 0 (length (owed_of f))

-- of the first eight rings those in which frames wait for room
abbrev pub owing : List Feeder → List Bool
owing fs =
    owes (slice_get fs 0) ∷ owes (slice_get fs 1) ∷ owes (slice_get fs 2) ∷ owes (slice_get fs 3) ∷ owes (slice_get fs 4)
    ∷ owes (slice_get fs 5) ∷ owes (slice_get fs 6) ∷ owes (slice_get fs 7) ∷ []

-- of the outputs that are in a partition none is among those whose rings owe frames
abbrev pub OwnOweNothing : List Bool → Option Part → Type 0
OwnOweNothing owing None = ⊥
OwnOweNothing owing (Some part) = owes_any part.outputs owing ≡ false

-- the same of the partition of a number, after some past
abbrev pub OwesNothingSomewhere : ℕ → List Bool → Type 0
OwesNothingSomewhere index owing = (past : Chronicle) × IsPast past × OwnOweNothing owing (part_at index past.present.parts)

-- no frame waits for room in the ring
abbrev pub OwesNothing : Feeder → Type 0
OwesNothing f = owed_of f ≡ []

-- the ring took no more frames; some that waited for room may have gone into it
abbrev pub TakesNone : Feeder → Feeder → Type 0
TakesNone old new = SameFeeder old new × (taken_of new ≡ taken_of old)

-- where there are frames in a block, they alone wait for room in the ring that took them: it owed nothing then
abbrev pub OwesOnly : List CutFrame → Feeder → Type 0
OwesOnly block new = (block ≡ []) ⊎ (owed_of new ≡ block)

-- the ring of the n-th output took its own of these frames after those before, when it owed nothing
abbrev pub TakesItsOwn : (ℕ → List CutFrame) → ℕ → Feeder → Feeder → Type 0
TakesItsOwn own n old new = SameFeeder old new × (taken_of new ≡ taken_of old ++ own n) × OwesOnly (own n) new

-- whether a part of a fade has so many frames of both songs, and ends with the fade or before
abbrev pub is_within : FadePart → ℕ → ℕ → Bool
is_within part others count = (others == count) && nat_le (part.index + count) part.len && nat_lt part.len 4294967296

-- a job's part of a fade, with the other song's frames; none where these are not as many as the job's, or end
-- after the fade
abbrev pub fading_of : Option FadePart → List (List ℤ) → ℕ → Option FadingData
fading_of None others count = None
fading_of (Some part) others count =
    if is_within part (length others) count
    then Some (record { others = others; offset = part.index; len = part.len })
    else None

-- the block that the outputs are handed: the job's frames, faded and then at the volume
abbrev pub block_at : ℕ → Option FadePart → List (List ℤ) → List (List ℤ) → List (List ℤ)
block_at volume fade others frames = block_of (fading_of fade others (length frames)) (min volume 100) frames

-- what decoded frames are fed with, unless they are stale or were not accepted
abbrev pub feed_told : Report → Option Feed
feed_told (ToFeed feed) = feed
feed_told _ = None

-- the frames of a block that an output is handed: all of them, of its moves and of the cut of this number,
-- where they are for it
abbrev pub own_frames : Option ℕ → ℕ → List (List ℤ) → List CutFrame
own_frames None number block = []
own_frames (Some moves) number block = with_cut (record { moves = moves; number = number }) block

-- the frames of a block that the n-th output is handed by a feed, which names it with its moves where they
-- are for it
abbrev pub fed_frames : Feed → List (List ℤ) → ℕ → List CutFrame
fed_frames feed block n = own_frames (slice_index_or feed.outputs n None) feed.cut block

-- the frames that the n-th output is handed, of its moves, of the cut and at the volume that they are fed
-- with
abbrev pub handed : Option Feed → Option FadePart → List (List ℤ) → List (List ℤ) → ℕ → List CutFrame
handed None fade others frames = λ n. []
handed (Some feed) fade others frames = fed_frames feed (block_at feed.volume fade others frames)

-- Each ring of an output that the frames are for took them, mixed with the job's fade, of its moves, of the
-- cut and at the volume that was told of these very frames; none took any where they were stale.
abbrev pub HandsOut : Option FadePart → List (List ℤ) → List (List ℤ) → OutcomeData → List Feeder → List Feeder → Type 0
HandsOut fade frames others told old new =
    EachAt (TakesItsOwn (handed (feed_told told.report) fade others frames)) 0 old new

-- the same of what was read for a job
abbrev pub HandsOutRead : Job → JobFrames → OutcomeData → List Feeder → List Feeder → Type 0
HandsOutRead job read told old new = HandsOut job.fade read.frames.items read.others.items told old new

-- the event that a song of a partition's job has failed: its own, or the one that it fades into
abbrev pub failure_of : ℕ → ℕ → Bool → Event
failure_of index number of_partner = event.Failed index number of_partner

-- It was told this of so many frames of a partition's job that are decoded, and these were handed out as it was
-- told of them.
abbrev pub Feeds : SeatCount → ℕ → ℕ → ℕ → Job → List (List ℤ) → List (List ℤ) → OutcomeData → List Feeder → List Feeder → Type 0
Feeds seat share_before share_after index job frames others told old new =
    FeedsSomewhere seat index job.number (length frames) told share_before share_after × HandsOut job.fade frames others told old new

-- A job of a partition failed: no ring took a frame, a song of it has failed for one of these causes and is not open any
-- more, and the event that this song of this job has failed was told so.
abbrev pub FailsJob : (ℕ → Job → Bool → Type 0) → OpenSongs → SeatCount → ℕ → Job → OutcomeData → List Feeder → List Feeder → Type 0
FailsJob cause songs seat index job told old new =
    (new ≡ old)
    × ((of_partner : Bool) × IsShut songs index job of_partner × cause index job of_partner × TellsSomewhere seat (failure_of index job.number of_partner) told)

-- The songs of a partition's job are open: the frames that they have were read, told of, and handed out as it was
-- told.
abbrev pub FeedsJob : OpenSongs → SeatCount → ℕ → ℕ → ℕ → Job → OutcomeData → List Feeder → List Feeder → Type 0
FeedsJob songs seat share_before share_after index job told old new =
    AreOpenFor songs index job
    × ((frames : List (List ℤ)) × (others : List (List ℤ)) × ReadsJob songs job frames others × Feeds seat share_before share_after index job frames others told old new)

-- A job of a partition failed for one of these causes, or its frames were fed, and it was told this of it; where
-- nothing was told, there was no memory, and no ring took a frame.
abbrev pub DoesJob : (ℕ → Job → Bool → Type 0) → OpenSongs → SeatCount → ℕ → ℕ → ℕ → Job → Option OutcomeData → List Feeder → List Feeder → Type 0
DoesJob cause songs seat share_before share_after index job None old new = (share_after ≡ share_before) × (new ≡ old)
DoesJob cause songs seat share_before share_after index job (Some told) old new =
    ((share_after ≡ share_before) × FailsJob cause songs seat index job told old new) ⊎ FeedsJob songs seat share_before share_after index job told old new

-- What was read for a job of a partition was fed, and it was told this of it; of a song that failed the very event was
-- told so, and no ring took a frame; without memory nothing was told.
abbrev pub FinishesJob : SeatCount → ℕ → ℕ → ℕ → Job → Result JobFrames NoFrames → Option OutcomeData → List Feeder → List Feeder → Type 0
FinishesJob seat share_before share_after index job (Ok read) None old new = ⊥
FinishesJob seat share_before share_after index job (Ok read) (Some told) old new =
    Feeds seat share_before share_after index job read.frames.items read.others.items told old new
FinishesJob seat share_before share_after index job (Err (Failed of_partner)) None old new = ⊥
FinishesJob seat share_before share_after index job (Err (Failed of_partner)) (Some told) old new =
    (share_after ≡ share_before) × (new ≡ old) × TellsSomewhere seat (failure_of index job.number of_partner) told
FinishesJob seat share_before share_after index job (Err NoMemory) None old new = (share_after ≡ share_before) × (new ≡ old)
FinishesJob seat share_before share_after index job (Err NoMemory) (Some told) old new = ⊥
