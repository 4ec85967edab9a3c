-- What a head says of the bytes that it was read from.
use Rattle.std.specs.Prelude.{◌≡◌, ℕ, ◌*◌, Bool, List, length, take, drop, Option, IfSome, Result, Ok, Err, IfOk, ℤ}
use Rattle.std.specs.Global.{Vec}
use Rattle.mpd_text.specs.Songs.Song.{TagData}
use Rattle.wave.specs.declared.fault.WaveFault.{WaveFault}
use Rattle.wave.specs.declared.head.Head.{Head}
use Rattle.wave.specs.Formats.{block, frames_of}
use Rattle.wave.specs.Chunks.{Chunk}
use Rattle.wave.specs.Parts.{file_chunks}
use Rattle.wave.specs.Everyday.{file_tags}
use Rattle.wave.specs.Waves.{Wave, with_tags, sound_of}
use Rattle.wave.specs.Heads.{Refuses}

-- the frames that lie where the head says
abbrev pub frames_in : List ℕ → Head → List (List ℤ)
frames_in bytes head = frames_of head.layout (take (head.frames * block head.layout) (drop head.offset bytes))

-- what is given are n frames of the bytes from a frame on, or fewer where they have no more
abbrev pub GivesFrames : {E : Type 0} → Option (List ℕ) → Head → ℕ → ℕ → Result (Vec (List ℤ)) E → Type 0
GivesFrames known head from n r =
    IfSome known (λ bytes. IfOk r (λ frames. frames.items ≡ take n (drop from (frames_in bytes head))))

abbrev pub wave_in : List ℕ → Head → Wave
wave_in bytes head = record { layout = head.layout; tags = head.tags.items; frames = frames_in bytes head }

-- The head, its tags and the frames that lie where it says are what the bytes mean; or they mean this
-- refusal.
abbrev pub MeansWave : List ℕ → Result Head WaveFault → Result Wave WaveFault → Type 0
MeansWave bytes (Ok head) meaning = (meaning ≡ Ok (wave_in bytes head)) × (length (frames_in bytes head) ≡ head.frames)
MeansWave bytes (Err fault) meaning = Refuses fault meaning

-- the same of the chunks after the first twelve bytes
abbrev pub MeansChunks : Bool → ℕ → List ℕ → List Chunk → Result Head WaveFault → Type 0
MeansChunks everyday rate bytes parts (Ok head) = MeansWave bytes (Ok head) (with_tags (file_tags everyday parts) (sound_of rate parts))
MeansChunks everyday rate bytes parts (Err fault) = Refuses fault (sound_of rate parts)

-- what a call gives is the head, or the refusal, that the device's bytes mean, or their chunks up to an end, where they
-- are known
abbrev pub GivesHead : Option (List ℕ) → (List ℕ → Result Wave WaveFault) → Result Head WaveFault → Type 0
GivesHead known meaning r = IfSome known (λ bytes. MeansWave bytes r (meaning bytes))

abbrev pub GivesHeadUpTo : Option (List ℕ) → ℕ → Bool → ℕ → Result Head WaveFault → Type 0
GivesHeadUpTo known end everyday rate r = IfSome known (λ bytes. MeansChunks everyday rate bytes (file_chunks bytes end) r)

-- what it gives are the tags of these chunks
abbrev pub GivesTagsUpTo : {E : Type 0} → Option (List ℕ) → ℕ → Bool → Result (Vec TagData) E → Type 0
GivesTagsUpTo known end everyday r = IfSome known (λ bytes. IfOk r (λ tags. tags.items ≡ file_tags everyday (file_chunks bytes end)))
