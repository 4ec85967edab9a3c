-- What comes of a job, and of all of them.
use Rattle.std.proofs.Common.{◌≡◌, inl, inr, ℕ, ℤ, All, Bool, List, [], ◌∷◌, length, Option, Some, None, Result, Ok, Err, OnOk, IfOk, IfErr, refl, subst, sym}
use Rattle.std.proofs.lemmas.List.Elements.{All-cons, All-nil}
use Rattle.output_ring.specs.declared.feeder.Feeder.{Feeder}
use Rattle.output_ring.specs.Rings.{SameFeeder}
use Rattle.player_core.specs.declared.state.Job.{Job}
use Rattle.player_events.specs.Outcomes.{OutcomeData}
use Rattle.house.specs.Seats.{SeatCount}
use Rattle.house.specs.Views.{FeedsShare}
use Rattle.output_ring.specs.declared.feeder.FeederEnd.{FeederEnd}
use Rattle.crew_steps.specs.Causes.{EndsFor}
use Rattle.crew_steps.specs.Decoding.{DecodesAll, DecodesOnce, DidRounds, DoesTask, RunsDecoder, RunsFor, Task, end_told}
use Rattle.crew_steps.specs.Each.{Each}
use Rattle.crew_steps.specs.Feeding.{DoesJob, Feeds, FinishesJob, HandsOut, feed_told, handed}
use Rattle.crew_steps.specs.Songs.{Fails}
use Rattle.crew_steps.specs.Sounds.{AreOpenFor, OpenSongs, ReadsJob}
use Rattle.crew_steps.specs.declared.decoder.DecoderRound.{DecoderRound}
use Rattle.crew_steps.specs.declared.decoder.DecoderRound.TheVariants.{Did, Ends, Passes, Refused}
use Rattle.crew_steps.specs.declared.songs.JobFrames.{JobFrames}
use Rattle.crew_steps.specs.declared.songs.NoFrames.{NoFrames}
use Rattle.crew_steps.specs.declared.songs.NoFrames.TheVariants.{NoMemory, Failed}
use Rattle.crew_steps.proofs.Eaches.{each_unchanged}
use Rattle.crew_steps.proofs.Pushes.{each_fed}

-- what was fed is of its rings
pub each_decoded : (seat : SeatCount) (before after index : ℕ) (job : Job) (frames others : List (List ℤ)) (told : OutcomeData) (old new : List Feeder) → Feeds seat before after index job frames others told old new → Each SameFeeder old new
each_decoded seat before after index job frames others told old new feeds =
    each_fed (handed (feed_told told.report) job.fade others frames) old new feeds.1

pub feeds : (seat : SeatCount) (before after index : ℕ) (job : Job) (frames others : List (List ℤ)) (old new : List Feeder) (told : OutcomeData) → FeedsShare seat index job.number (length frames) before after told → HandsOut job.fade frames others told old new
    → Feeds seat before after index job frames others told old new
feeds seat before after index job frames others old new told tells hands = (tells, hands)

-- what came of a job is of its rings
pub each_finished : (seat : SeatCount) (before after index : ℕ) (job : Job) (read : Result JobFrames NoFrames) (told : Option OutcomeData) (old new : List Feeder) → FinishesJob seat before after index job read told old new → Each SameFeeder old new
each_finished seat before after index job (Ok read) None old new done = absurd done
each_finished seat before after index job (Ok read) (Some told) old new done = each_decoded seat before after index job read.frames.items read.others.items told old new done
each_finished seat before after index job (Err (Failed of_partner)) None old new done = absurd done
each_finished seat before after index job (Err (Failed of_partner)) (Some told) old new done = subst (λ fs. Each SameFeeder old fs) (sym done.1) (each_unchanged old)
each_finished seat before after index job (Err NoMemory) None old new done = subst (λ fs. Each SameFeeder old fs) (sym done.1) (each_unchanged old)
each_finished seat before after index job (Err NoMemory) (Some told) old new done = absurd done

-- a job was done by what was read for it, of the same songs
does : (cause : ℕ → Job → Bool → Type 0) (songs : OpenSongs) (seat : SeatCount) (before after index : ℕ) (job : Job) (read : Result JobFrames NoFrames) (told : Option OutcomeData) (old new : List Feeder)
    → OnOk read (AreOpenFor songs index job) → IfOk read (λ (r : JobFrames). ReadsJob songs job r.frames.items r.others.items) → IfErr read (Fails songs index job) → IfErr read (EndsFor cause index job)
    → FinishesJob seat before after index job read told old new → DoesJob cause songs seat before after index job told old new
does cause songs seat before after index job (Ok read) None old new opens reads fails ends done = absurd done
does cause songs seat before after index job (Ok read) (Some told) old new opens reads fails ends done = inr (opens, (read.frames.items, read.others.items, reads, done))
does cause songs seat before after index job (Err (Failed of_partner)) None old new opens reads fails ends done = absurd done
does cause songs seat before after index job (Err (Failed of_partner)) (Some told) old new opens reads fails ends done = inl (done.0, (done.1, (of_partner, fails, ends, done.2)))
does cause songs seat before after index job (Err NoMemory) None old new opens reads fails ends done = done
does cause songs seat before after index job (Err NoMemory) (Some told) old new opens reads fails ends done = absurd done

-- the same, of the seat and the share that were there before the reading
pub does_later : {A B : Type 0} (cause : ℕ → Job → Bool → Type 0) (songs' songs : B) (view : B → OpenSongs) (seat' seat : SeatCount) (share' share : A) (amount : A → ℕ) (after index : ℕ) (job : Job) (read : Result JobFrames NoFrames) (told : Option OutcomeData) (old new : List Feeder)
    → songs' ≡ songs → seat' ≡ seat → share' ≡ share
    → OnOk read (AreOpenFor (view songs) index job) → IfOk read (λ (r : JobFrames). ReadsJob (view songs) job r.frames.items r.others.items) → IfErr read (Fails (view songs) index job) → IfErr read (EndsFor cause index job)
    → FinishesJob seat' (amount share') after index job read told old new → DoesJob cause (view songs') seat (amount share) after index job told old new
does_later cause songs' songs view seat' seat share' share amount after index job read told old new same seats shares opens reads fails ends done =
    subst (λ s. DoesJob cause (view s) seat (amount share) after index job told old new) (sym same)
    (subst (λ s. DoesJob cause (view songs) s (amount share) after index job told old new) seats
    (subst (λ a. DoesJob cause (view songs) seat' (amount a) after index job told old new) shares
    (does cause (view songs) seat' (amount share') after index job read told old new opens reads fails ends done)))

-- rounds that were done so far, in none of which the end was told
abbrev pub DidSoFar : (ℕ → Job → Bool → Type 0) → ℕ → List Feeder → List Feeder → Type 0
DidSoFar cause rate old new = (rounds : List DecoderRound) × All (λ round. end_told round ≡ None) rounds × DidRounds cause rate rounds old new

pub begun : (cause : ℕ → Job → Bool → Type 0) (rate : ℕ) (old : List Feeder) → DidSoFar cause rate old old
begun cause rate old = ([], All-nil (λ (round : DecoderRound). end_told round ≡ None), refl)

-- one more round, with songs of the same rate
pub next : (cause : ℕ → ℕ → Job → Bool → Type 0) (rate rate' : ℕ) (round : DecoderRound) (old now new : List Feeder) → rate' ≡ rate → end_told round ≡ None → DidSoFar (cause rate) rate old now → DecodesOnce (cause rate') rate' round now new
    → DidSoFar (cause rate) rate old new
next cause rate rate' round old now new same goes did once =
    (round ∷ did.0, All-cons (λ (r : DecoderRound). end_told r ≡ None) round did.0 goes did.1, (now, did.2, subst (λ r. DecodesOnce (cause r) r round now new) same once))

-- the last round, in which the end is told
pub ends : (cause cause' : ℕ → Job → Bool → Type 0) (rate rate' : ℕ) (old now new : List Feeder) (told : OutcomeData) → DidSoFar cause rate old now → DecodesOnce cause' rate' (Ends told) now new → DecodesAll cause rate told old new
ends cause cause' rate rate' old now new told did last = (last.1.3.0, (did.0, did.1, (now, did.2, last)))

-- the causes are forgotten
abbrev whatever : ℕ → Job → Bool → Type 0
whatever index job of_partner = Unit {0}

job_anyhow : (cause : ℕ → Job → Bool → Type 0) (songs : OpenSongs) (seat : SeatCount) (before after index : ℕ) (job : Job) (told : Option OutcomeData) (old new : List Feeder)
    → DoesJob cause songs seat before after index job told old new → DoesJob whatever songs seat before after index job told old new
job_anyhow cause songs seat before after index job None old new does = does
job_anyhow cause songs seat before after index job (Some told) old new (inl fails) = inl (fails.0, (fails.1.0, (fails.1.1.0, fails.1.1.1, tt, fails.1.1.3)))
job_anyhow cause songs seat before after index job (Some told) old new (inr feeds) = inr feeds

task_anyhow : (cause : ℕ → Job → Bool → Type 0) (rate : ℕ) (task : Task) (told : Option OutcomeData) (old new : List Feeder) → DoesTask cause rate task told old new → DoesTask whatever rate task told old new
task_anyhow cause rate task told old new does =
    (does.0, does.1, does.2, does.3, does.4, does.5, does.6, (does.7.0, does.7.1, does.7.2, does.7.3, job_anyhow cause does.7.0 does.2 does.7.2 does.7.3 task.index task.job told does.0 new does.7.4))

once_anyhow : (cause : ℕ → Job → Bool → Type 0) (rate : ℕ) (round : DecoderRound) (old new : List Feeder) → DecodesOnce cause rate round old new → DecodesOnce whatever rate round old new
once_anyhow cause rate (Ends told) old new does = does
once_anyhow cause rate (Refused fault) old new does = does
once_anyhow cause rate (Passes told) old new does = does
once_anyhow cause rate (Did job told) old new does = (does.0, task_anyhow cause rate (record { index = does.0; job = job }) told old new does.1)

rounds_anyhow : (cause : ℕ → Job → Bool → Type 0) (rate : ℕ) (rounds : List DecoderRound) (old new : List Feeder) → DidRounds cause rate rounds old new → DidRounds whatever rate rounds old new
rounds_anyhow cause rate [] old new did = did
rounds_anyhow cause rate (round ∷ earlier) old new did = (did.0, rounds_anyhow cause rate earlier old did.0 did.1, once_anyhow cause rate round did.0 new did.2)

pub runs_anyhow : (cause : ℕ → Job → Bool → Type 0) (rate : ℕ) (old : List Feeder) (left : List FeederEnd) → RunsFor cause rate old left → RunsDecoder rate old left
runs_anyhow cause rate old left r = record {
  last = r.last;
  rings = r.rings;
  decodes = (r.decodes.0, (r.decodes.1.0, r.decodes.1.1, rounds_anyhow cause rate (Ends r.last ∷ r.decodes.1.0) old r.rings r.decodes.1.2));
  left = r.left;
}
