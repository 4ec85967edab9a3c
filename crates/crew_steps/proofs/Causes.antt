-- Why songs fail.
use Rattle.std.proofs.Common.{ℕ, ℤ, ◌≡◌, ◌⊎◌, inl, inr, Bool, true, false, List, length, min, Option, Some, None, Result, Ok, Err, IfSome, IfOk, IfErr, IsErrAnd, refl, sym, subst}
use Rattle.std.specs.declared.io.traits.Read as Read
use Rattle.counted_devices.specs.declared.call_counts.CallCounts.{CallCounts}
use Rattle.counted_devices.specs.declared.device.Failing as Failing
use Rattle.counted_devices.specs.declared.device.Media as Media
use Rattle.player_core.specs.declared.state.FadePart.{FadePart}
use Rattle.player_core.specs.declared.state.Job.{Job}
use Rattle.wave.specs.Devices.{ReadFaultHasCause}
use Rattle.wave.specs.Meanings.{MeansWave}
use Rattle.wave.specs.Waves.{wave_of}
use Rattle.wave.specs.declared.fault.WaveFault.{WaveFault}
use Rattle.wave.specs.declared.fault.WaveFault.TheVariants as wave
use Rattle.wave.specs.declared.head.Head.{Head}
use Rattle.crew_steps.specs.Causes.{BreaksOff, EndsFor, EndsReading, FailsAsRead, HasCause, IsNotOpened, IsOfFile, PartnerIsNotOpened, RefusesHead}
use Rattle.crew_steps.specs.OpenSongs.{HasFault, opened_in}
use Rattle.crew_steps.specs.Songs.{IsFaultOf, IsShort, found_song, frames_fault, head_fault}
use Rattle.crew_steps.specs.Sounds.{AreHeard, AreOpenFor, OpenSongs, Opened}
use Rattle.crew_steps.specs.declared.open_song.OpenSong.{OpenSong}
use Rattle.crew_steps.specs.declared.song_source.SongFault.{SongFault}
use Rattle.crew_steps.specs.declared.song_source.SongFault.TheVariants as song
use Rattle.crew_steps.specs.declared.songs.NoFrames.{NoFrames}
use Rattle.crew_steps.specs.declared.songs.NoFrames.TheVariants.{NoMemory, Failed}

module _ {M : Type 0} (bytes : M → Option (List ℕ)) (counts : M → CallCounts) where
  -- what a file whose bytes are known means, where its head was refused
  meant : (rate : ℕ) (file : M) (fault : WaveFault) (all : List ℕ) → IfSome (bytes file) (λ b. MeansWave b (Err fault) (wave_of false rate b)) → bytes file ≡ Some all → MeansWave all (Err fault) (wave_of false rate all)
  meant rate file fault all means is = subst (λ o. IfSome o (λ b. MeansWave b (Err fault) (wave_of false rate b))) is means

  pub bad_head : (rate : ℕ) (file later : M) (fault : WaveFault) → IfSome (bytes file) (λ b. MeansWave b (Err fault) (wave_of false rate b)) → ReadFaultHasCause {X = Head} (counts file) (counts later) (Err fault) → head_fault fault ≡ song.Unopened
      → RefusesHead bytes counts rate file fault
  bad_head rate file later wave.NotRiff means breaks is = λ all known. meant rate file wave.NotRiff all means known
  bad_head rate file later wave.NoFormat means breaks is = λ all known. meant rate file wave.NoFormat all means known
  bad_head rate file later wave.Unsupported means breaks is = λ all known. meant rate file wave.Unsupported all means known
  bad_head rate file later wave.NoData means breaks is = λ all known. meant rate file wave.NoData all means known
  bad_head rate file later wave.ReadFault means breaks is = (later, breaks refl)
  bad_head rate file later wave.NoMemory means breaks is = cc

-- where a song's file is not had, it could not be opened
pub unopened : (fault : SongFault) (of_partner : Bool) → frames_fault fault of_partner ≡ Failed of_partner → fault ≡ song.Unopened
unopened song.Unopened of_partner is = refl
unopened song.NoMemory of_partner is = cc

-- an entry that failed before its file was asked for is not in the queue: what holds of what was found holds of none
pub has_left : {S E : Type 0} (P : Option S → Type 0) (found : Result (Option S) E) (of_partner : Bool) (fault : NoFrames) → found_song found of_partner ≡ Err fault → IfOk found P → fault ≡ Failed of_partner → P None
has_left P (Ok (Some song)) of_partner fault is holds failed = cc
has_left P (Ok None) of_partner fault is holds failed = holds
has_left P (Err fault') of_partner fault is holds failed = cc

-- and another is
pub is_there : {S E : Type 0} (P : Option S → Type 0) (found : Result (Option S) E) (of_partner : Bool) (song : S) → found_song found of_partner ≡ Ok song → IfOk found P → P (Some song)
is_there P (Ok (Some song')) of_partner song is holds = let same : song' ≡ song = cc in subst (λ s. P (Some s)) same holds
is_there P (Ok None) of_partner song is holds = cc
is_there P (Err fault) of_partner song is holds = cc

-- what holds of a fault that blames one song
pub by_fault : (P : NoFrames → Type 0) (of_partner : Bool) (fault : NoFrames) → P NoMemory → (fault ≡ Failed of_partner → P (Failed of_partner)) → IsFaultOf of_partner fault → P fault
by_fault P of_partner fault none failed (inl is) = subst P (sym is) none
by_fault P of_partner fault none failed (inr is) = subst P (sym is) (failed is)

-- a fault that is handed on is the one that was met
pub same_fault : {X : Type 0} (r : Result X NoFrames) (fault other : NoFrames) → IsErrAnd r (λ e. e ≡ fault) → r ≡ Err other → fault ≡ other
same_fault {X} r fault other is handed = sym (subst (λ (s : Result X NoFrames). IsErrAnd s (λ e. e ≡ fault)) handed is)

-- and what holds of it holds still
pub handed_on : {X : Type 0} (P : NoFrames → Type 0) (r : Result X NoFrames) (fault : NoFrames) → IsErrAnd r (λ e. e ≡ fault) → P fault → IfErr r P
handed_on P (Ok x) fault is holds = tt
handed_on P (Err e) fault is holds = subst P (sym is) holds

module _ {M : Type 0} {media : Media.Ghosts M} {read : Read.Ghosts M} {failing : Failing.Ghosts M} where
  -- a song's file that failed
  pub breaks : (old new : Option (OpenSong M media read failing)) → HasFault old new → BreaksOff media.all_bytes failing.call_counts (opened_in old)
  breaks None new fault = tt
  breaks (Some old) None fault = absurd fault
  breaks (Some old) (Some new) fault = (old.reader.media, new.reader.media, refl, fault)

  -- where the song that is faded into has failed, its file has, or it has fewer frames than the job's own
  pub others_fail : (songs : OpenSongs) (old new : Option (OpenSong M media read failing)) (job : Job) (frames : List (List ℤ)) (count : ℕ) → songs.partner ≡ opened_in old → count ≡ length frames
      → AreHeard songs.rate songs.current job.from (min job.count 1024) frames → HasFault old new ⊎ IsShort songs.rate job.fade (opened_in old) count → FailsAsRead media.all_bytes failing.call_counts songs job true
  others_fail songs old new job frames count at is heard (inl fault) = inl (subst (BreaksOff media.all_bytes failing.call_counts) (sym at) (breaks old new fault))
  others_fail songs old new job frames count at is heard (inr short) =
      inr (frames, heard, subst (λ (n : ℕ). IsShort songs.rate job.fade songs.partner n) is (subst (λ (o : Option Opened). IsShort songs.rate job.fade o count) (sym at) short))

  -- an open song is of its file
  pub of_file : (song : Option (OpenSong M media read failing)) → IsOfFile media.all_bytes failing.call_counts (opened_in song)
  of_file None = tt
  of_file (Some song) = (song.reader.media, refl)

module _ {S M : Type 0} (answers : S → List ℕ → Result M SongFault → Type 0) (bytes : M → Option (List ℕ)) (counts : M → CallCounts) where
  -- a song that cannot be opened, at the same rate
  pub not_opened : (rate rate' index id : ℕ) → rate' ≡ rate → IsNotOpened answers bytes counts rate' index id → IsNotOpened answers bytes counts rate index id
  not_opened rate rate' index id same opens = subst (λ r. IsNotOpened answers bytes counts r index id) same opens

  -- the same of the one that is faded into
  pub part_not_opened : (rate rate' index : ℕ) (fade : Option FadePart) → rate' ≡ rate → PartnerIsNotOpened answers bytes counts rate' index fade → PartnerIsNotOpened answers bytes counts rate index fade
  part_not_opened rate rate' index fade same opens = subst (λ r. PartnerIsNotOpened answers bytes counts r index fade) same opens

  -- the one that a job fades into is that of its part
  pub of_part : (rate rate' index : ℕ) (fade : Option FadePart) (part : FadePart) → fade ≡ Some part → rate' ≡ rate → IsNotOpened answers bytes counts rate' index part.partner → PartnerIsNotOpened answers bytes counts rate index fade
  of_part rate rate' index fade part is same opens =
      subst (λ (f : Option FadePart). PartnerIsNotOpened answers bytes counts rate index f) (sym is) (not_opened rate rate' index part.partner same opens)

  -- of songs that were open one failed as it was read
  pub ends_read : {X : Type 0} (rate index : ℕ) (job : Job) (songs : OpenSongs) (r : Result X NoFrames) → songs.rate ≡ rate → AreOpenFor songs index job → IsOfFile bytes counts songs.current → IsOfFile bytes counts songs.partner
      → IfErr r (EndsReading bytes counts songs job) → IfErr r (EndsFor (HasCause answers bytes counts rate) index job)
  ends_read rate index job songs (Ok x) same opens current partner ends = tt
  ends_read rate index job songs (Err NoMemory) same opens current partner ends = tt
  ends_read rate index job songs (Err (Failed other)) same opens current partner ends = inr (songs, same, opens, current, partner, ends)
