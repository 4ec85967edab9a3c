-- What heads and their parts say of the bytes that they were read from.
use Rattle.std.specs.Prelude.{◌≡◌, ℕ, List, length, take, drop, Option, Some, None, Result, Ok, Err, ⊤}
use Rattle.wave.specs.declared.fault.WaveFault.{WaveFault}
use Rattle.wave.specs.declared.fault.WaveFault.TheVariants.{NotRiff, NoFormat, Unsupported, NoData, ReadFault, NoMemory}
use Rattle.wave.specs.declared.format.Layout.{Layout}
use Rattle.wave.specs.declared.samples.Samples.{Samples}
use Rattle.wave.specs.Chunks.{Chunk}
use Rattle.wave.specs.Parts.{file_chunks}
use Rattle.wave.specs.Waves.{Sound, with_layout, data_of, sound_of}

-- a fault of the file is the one that its bytes mean; one of the device or of memory says nothing of them
abbrev pub Refuses : {X : Type 0} → WaveFault → Result X WaveFault → Type 0
Refuses NotRiff meaning = meaning ≡ Err NotRiff
Refuses NoFormat meaning = meaning ≡ Err NoFormat
Refuses Unsupported meaning = meaning ≡ Err Unsupported
Refuses NoData meaning = meaning ≡ Err NoData
Refuses ReadFault meaning = ⊤
Refuses NoMemory meaning = ⊤

-- the sound of a file's first bytes at this rate, or the first refusal
abbrev pub file_sound : ℕ → List ℕ → ℕ → Result Sound WaveFault
file_sound rate bytes end = sound_of rate (file_chunks bytes end)

-- the sound of chunks after those that gave a layout, or gave none
unfoldable pub sound_after : ℕ → Option Layout → List Chunk → Result Sound WaveFault
sound_after rate None parts = sound_of rate parts
sound_after rate (Some layout) parts = with_layout (Some layout) (data_of parts)

-- the fault where no chunk is left
abbrev pub missing : Option Layout → WaveFault
missing None = NoFormat
missing (Some layout) = NoData

-- the offset and length are those of the samples that the bytes mean
abbrev pub MeansSound : List ℕ → Result Samples WaveFault → Result Sound WaveFault → Type 0
MeansSound bytes (Ok found) meaning =
    (meaning ≡ Ok (record { layout = found.layout; samples = take found.len (drop found.offset bytes) })) × (length (take found.len (drop found.offset bytes)) ≡ found.len)
MeansSound bytes (Err fault) meaning = Refuses fault meaning
