-- What contracts see of a decoder, and what it does.
use Rattle.std.specs.Prelude.{ℕ, ◌≡◌, Option, Result}
use Rattle.std.specs.Global.{Vec}
use Rattle.std.specs.declared.io.traits.Read as Read
use Rattle.counted_devices.specs.declared.device.Failing as Failing
use Rattle.counted_devices.specs.declared.device.Media as Media
use Rattle.output_ring.specs.declared.feeder.Feeder.{Feeder}
use Rattle.output_ring.specs.declared.feeder.FeederEnd.{FeederEnd}
use Rattle.player_core.specs.declared.state.FadePart.{FadePart}
use Rattle.player_core.specs.declared.state.Job.{Job}
use Rattle.player_events.specs.Outcomes.{OutcomeData}
use Rattle.house.specs.Views.{FeedsShare}
use Rattle.crew_steps.specs.Causes.{EndsFor, IsNotOpened, PartnerIsNotOpened}
use Rattle.crew_steps.specs.Decoding.{DecodesAll, DecodesOnce, RunsFor}
use Rattle.crew_steps.specs.Feeding.{DoesJob, Feeds, FinishesJob}
use Rattle.crew_steps.specs.Shown.{causes, songs_of}
use Rattle.crew_steps.specs.Sounds.{OpenSongs}
use Rattle.crew_steps.specs.declared.decoder.Decoder.{Decoder}
use Rattle.crew_steps.specs.declared.decoder.DecoderRound.{DecoderRound}
use Rattle.crew_steps.specs.declared.song_source.SongSource as SongSource
use Rattle.crew_steps.specs.declared.songs.JobFrames.{JobFrames}
use Rattle.crew_steps.specs.declared.songs.NoFrames.{NoFrames}

module _ {L S M R : Type 0} {source : SongSource.Ghosts S M} {media : Media.Ghosts M} {read : Read.Ghosts M} {failing : Failing.Ghosts M} where
  -- what was read for a partition's job is fed by the decoder to its rings
  abbrev pub FeedsRead : ℕ → Job → JobFrames → OutcomeData → Decoder L S M R source media read failing → Vec Feeder → Decoder L S M R source media read failing → Vec Feeder → Type 0
  FeedsRead index job got told old rings new rings' =
      Feeds old.seat old.share.amount new.share.amount index job got.frames.items got.others.items told rings.items rings'.items

  -- the decoder finishes a partition's job, as it was read
  abbrev pub FinishesRead : ℕ → Job → Result JobFrames NoFrames → Option OutcomeData → Decoder L S M R source media read failing → Vec Feeder → Decoder L S M R source media read failing → Vec Feeder → Type 0
  FinishesRead index job got told old rings new rings' =
      FinishesJob old.seat old.share.amount new.share.amount index job got told rings.items rings'.items

  -- it was told this of frames of a job that are decoded, and its share has them
  abbrev pub TellsFrames : ℕ → ℕ → ℕ → OutcomeData → Decoder L S M R source media read failing → Decoder L S M R source media read failing → Type 0
  TellsFrames index number frames told old new = FeedsShare old.seat index number frames old.share.amount new.share.amount told

  -- the songs that are open of one partition
  abbrev pub open_of : Decoder L S M R source media read failing → OpenSongs
  open_of decoder = songs_of decoder.songs

  -- its seat and its share are as they were
  abbrev pub KeepsSeat : Decoder L S M R source media read failing → Decoder L S M R source media read failing → Type 0
  KeepsSeat old new = (new.seat ≡ old.seat) × (new.share ≡ old.share)

  -- the song of an id in a partition's queue cannot be opened
  abbrev pub IsNotOpenedBy : Decoder L S M R source media read failing → ℕ → ℕ → Type 0
  IsNotOpenedBy decoder index id = IsNotOpened source.answers media.all_bytes failing.call_counts decoder.songs.rate index id

  -- nor the one that a job fades into
  abbrev pub PartnerIsNotOpenedBy : Decoder L S M R source media read failing → ℕ → Option FadePart → Type 0
  PartnerIsNotOpenedBy decoder index fade = PartnerIsNotOpened source.answers media.all_bytes failing.call_counts decoder.songs.rate index fade

  -- why a partition's job has no frames
  abbrev pub EndsJobOf : Decoder L S M R source media read failing → ℕ → Job → NoFrames → Type 0
  EndsJobOf decoder = EndsFor (causes decoder.songs)

  -- the decoder does a partition's job, with what its source answers
  abbrev pub Decodes : ℕ → Job → Option OutcomeData → Decoder L S M R source media read failing → Vec Feeder → Decoder L S M R source media read failing → Vec Feeder → Type 0
  Decodes index job told old rings new rings' =
      DoesJob (causes old.songs) (songs_of new.songs) old.seat old.share.amount new.share.amount index job told rings.items rings'.items

  -- it does one round, and this comes of it
  abbrev pub DecodesOnceWith : Decoder L S M R source media read failing → DecoderRound → Vec Feeder → Vec Feeder → Type 0
  DecodesOnceWith decoder round rings rings' = DecodesOnce (causes decoder.songs) decoder.songs.rate round rings.items rings'.items

  -- it does round after round until it is told of the end
  abbrev pub DecodesAllWith : Decoder L S M R source media read failing → OutcomeData → Vec Feeder → Vec Feeder → Type 0
  DecodesAllWith decoder last rings rings' = DecodesAll (causes decoder.songs) decoder.songs.rate last rings.items rings'.items

  -- it runs to the end, and these are left of its rings
  abbrev pub RunsWith : Decoder L S M R source media read failing → Vec Feeder → Vec FeederEnd → Type 0
  RunsWith decoder rings ends = RunsFor (causes decoder.songs) decoder.songs.rate rings.items ends.items
