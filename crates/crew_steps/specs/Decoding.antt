-- What the decoder does from its start to its end (this profile's).
use Rattle.std.specs.Prelude.{ℕ, ◌≡◌, All, Bool, true, false, List, [], ◌∷◌, Option, Some, None}
use Rattle.output_ring.specs.Rings.{EndTook, end_owed, owed_of, taken_of}
use Rattle.output_ring.specs.declared.feeder.Feeder.{Feeder}
use Rattle.output_ring.specs.declared.feeder.FeederEnd.{FeederEnd}
use Rattle.player_core.specs.declared.state.Job.{Job}
use Rattle.player_events.specs.Outcomes.{OutcomeData}
use Rattle.player_events.specs.declared.event.Event.TheVariants.{Want}
use Rattle.player_state.specs.declared.report.Report.{Report}
use Rattle.player_state.specs.declared.report.Report.TheVariants.{Ended, ToDecode}
use Rattle.house.specs.Seats.{SeatCount}
use Rattle.house.specs.Views.{RefusesSomewhere, TellsSomewhere}
use Rattle.crew_steps.specs.Each.{Each}
use Rattle.crew_steps.specs.Feeding.{DoesJob, OwesNothingSomewhere, TakesNone, owing}
use Rattle.crew_steps.specs.Sounds.{OpenSongs}
use Rattle.crew_steps.specs.Turns.{goes_on}
use Rattle.crew_steps.specs.declared.decoder.Next.{Next}
use Rattle.crew_steps.specs.declared.decoder.Next.TheVariants as next
use Rattle.crew_steps.specs.declared.decoder.DecoderRound.{DecoderRound}
use Rattle.crew_steps.specs.declared.decoder.DecoderRound.TheVariants.{Did, Ends, Passes, Refused}

-- A partition was asked for a job, with what its rings owe, and gave this one.
abbrev pub IsGiven : SeatCount → ℕ → List Bool → Job → Type 0
IsGiven seat index owing job = (told : OutcomeData) × TellsSomewhere seat (Want index owing) told × (told.report ≡ ToDecode (Some job))

-- whether a thread is given a job by what it is told
abbrev pub gives_job : Report → Bool
gives_job (ToDecode (Some job)) = true
gives_job _ = false

-- A partition was asked for a job, with what its rings owe, and has none now: what it told is neither a job nor the end.
abbrev pub HasNoJob : SeatCount → ℕ → List Bool → OutcomeData → Type 0
HasNoJob seat index owing told =
    (gives_job told.report ≡ false) × (goes_on told.report ≡ true) × TellsSomewhere seat (Want index owing) told

-- What comes of asking a partition for a job, with what its rings owe: the end, of which it was told so; a refusal, for
-- this fault; no job now, as it was told; or a job, while none of its rings owes.
abbrev pub AsksFor : SeatCount → ℕ → List Bool → Next → Type 0
AsksFor seat index owing (next.Ends told) = (told.report ≡ Ended) × TellsSomewhere seat (Want index owing) told
AsksFor seat index owing (next.Refused fault) = RefusesSomewhere seat (Want index owing) fault
AsksFor seat index owing (next.Passes told) = HasNoJob seat index owing told
AsksFor seat index owing (next.Decodes job changes) = IsGiven seat index owing job × OwesNothingSomewhere index owing

-- the partition that was asked has a job
abbrev pub GivesJob : Next → Type 0
GivesJob (next.Ends told) = ⊥
GivesJob (next.Refused fault) = ⊥
GivesJob (next.Passes told) = ⊥
GivesJob (next.Decodes job changes) = Unit {0}

-- Once what waited had gone into the rings as they had room, the decoder's own seat asked a partition for a job, with
-- what the rings owe then. This came of it, and the rings took no more frames.
abbrev pub AsksOnly : Next → List Feeder → List Feeder → Type 0
AsksOnly answer old new =
    Each TakesNone old new × ((seat : SeatCount) × (index : ℕ) × (seat.number ≡ 4) × AsksFor seat index (owing new) answer)

-- what the decoder was told of the end in a round, if it was
abbrev pub end_told : DecoderRound → Option OutcomeData
end_told (Ends told) = Some told
end_told _ = None

-- a job of the partition of a number
pub record Task : Type 0 where
  pub index : ℕ
  pub job : Job

-- what is left of a ring's feeder: with its token all that it took, and what it owed
abbrev pub EndsAs : Feeder → FeederEnd → Type 0
EndsAs f e = EndTook e (taken_of f) × (end_owed e ≡ owed_of f)

-- the causes that a song of a partition's job may have failed for, its own or the one that it fades into
module _ (cause : ℕ → Job → Bool → Type 0) where
  -- Once what waited had gone into the rings as they had room, the task's job was given to the decoder's own seat, and
  -- this very job was done with songs of a rate, and it was told this of it: the job was fed, failed for one of these
  -- causes, or was given up without memory, of which nothing was told.
  abbrev pub DoesTask : ℕ → Task → Option OutcomeData → List Feeder → List Feeder → Type 0
  DoesTask rate task told old new =
      (pushed : List Feeder) × (seat : SeatCount) × (later : SeatCount) × Each TakesNone old pushed
      × (seat.number ≡ 4) × IsGiven seat task.index (owing pushed) task.job × (later.number ≡ 4)
      × ((songs : OpenSongs) × (songs.rate ≡ rate) × (share_before : ℕ) × (share_after : ℕ)
      × DoesJob cause songs later share_before share_after task.index task.job told pushed new)

  -- One round: what waits goes into the rings, and one partition is asked for a job. It gives one, and that very job is
  -- done; or nothing is to be done, since the asking was refused, or the partition has no job now, or the end was told.
  abbrev pub DecodesOnce : ℕ → DecoderRound → List Feeder → List Feeder → Type 0
  DecodesOnce rate (Ends told) old new = AsksOnly (next.Ends told) old new
  DecodesOnce rate (Refused fault) old new = AsksOnly (next.Refused fault) old new
  DecodesOnce rate (Passes told) old new = AsksOnly (next.Passes told) old new
  DecodesOnce rate (Did job told) old new = (index : ℕ) × DoesTask rate (record { index = index; job = job }) told old new

  -- these rounds were done one after the other, the last of them first
  abbrev pub DidRounds : ℕ → List DecoderRound → List Feeder → List Feeder → Type 0
  DidRounds rate [] old new = new ≡ old
  DidRounds rate (round ∷ earlier) old new = (mid : List Feeder) × DidRounds rate earlier old mid × DecodesOnce rate round mid new

  -- The decoder did round after round until it was told of the end, in the last of them alone, and the rings took the
  -- frames of the jobs of these rounds and no others.
  abbrev pub DecodesAll : ℕ → OutcomeData → List Feeder → List Feeder → Type 0
  DecodesAll rate last old new =
      (last.report ≡ Ended) × ((rounds : List DecoderRound) × All (λ round. end_told round ≡ None) rounds × DidRounds rate (Ends last ∷ rounds) old new)

  -- the whole run with songs of a rate, until the decoder was told of the end, and what is left of the feeders then
  pub record RunsFor (rate : ℕ) (old : List Feeder) (ends : List FeederEnd) : Type 0 where
    pub last : OutcomeData
    pub rings : List Feeder
    pub decodes : DecodesAll rate last old rings
    pub left : Each EndsAs rings ends

-- the same, for whatever causes songs failed
abbrev pub RunsDecoder : ℕ → List Feeder → List FeederEnd → Type 0
RunsDecoder = RunsFor (λ index job of_partner. Unit {0})
