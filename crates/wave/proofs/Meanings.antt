-- Heads and what the whole bytes mean.
use Rattle.std.proofs.Common.{ℕ, ◌/◌, ◌≡◌, List, length, take, drop, true, false, refl, subst, sym, ap, ◌∙◌, arith, Bool, Result, Ok, Err}
use Rattle.std.proofs.lemmas.List.{take_all}
use Rattle.mpd_text.specs.Songs.Song.{TagData}
use Rattle.wave.specs.declared.fault.WaveFault.{WaveFault}
use Rattle.wave.specs.declared.fault.WaveFault.TheVariants.{NotRiff, NoFormat, Unsupported, NoData, ReadFault, NoMemory}
use Rattle.wave.specs.declared.format.Layout.{Layout}
use Rattle.wave.specs.declared.head.Head.{Head}
use Rattle.wave.specs.Chunks.{Chunk, chunks}
use Rattle.wave.specs.Formats.{block}
use Rattle.wave.specs.Everyday.{file_tags}
use Rattle.wave.specs.Waves.{Sound, with_tags, is_riff, sound_of, wave_of}
use Rattle.wave.specs.Parts.{chunks_within}
use Rattle.wave.specs.Heads.{Refuses}
use Rattle.wave.specs.Meanings.{MeansWave, MeansChunks}
use Rattle.wave.proofs.FrameLaws.{samples_whole}

pub not_riff : (everyday : Bool) (rate : ℕ) (bytes : List ℕ) → is_riff (take 12 bytes) ≡ false → wave_of everyday rate bytes ≡ Err NotRiff
unfolding wave_of
not_riff everyday rate bytes e = rw e refl

riff : (everyday : Bool) (rate : ℕ) (bytes : List ℕ) → is_riff (take 12 bytes) ≡ true → wave_of everyday rate bytes ≡ with_tags (file_tags everyday (chunks (drop 12 bytes))) (sound_of rate (chunks (drop 12 bytes)))
unfolding wave_of
riff everyday rate bytes e = rw e refl

-- the chunks of the whole file
pub all_within : (bytes : List ℕ) (end : ℕ) → end ≡ length bytes → chunks_within bytes 12 end ≡ chunks (drop 12 bytes)
all_within bytes end e = ap (λ xs. chunks (drop 12 xs)) (take_all end bytes (omega arith))

refuses : (fault : WaveFault) (tags : List TagData) (sound : Result Sound WaveFault) → Refuses fault sound → Refuses fault (with_tags tags sound)
refuses NotRiff tags sound h = ap (with_tags tags) h
refuses NoFormat tags sound h = ap (with_tags tags) h
refuses Unsupported tags sound h = ap (with_tags tags) h
refuses NoData tags sound h = ap (with_tags tags) h
refuses ReadFault tags sound h = tt
refuses NoMemory tags sound h = tt

means : (everyday : Bool) (rate : ℕ) (bytes : List ℕ) (parts : List Chunk) (result : Result Head WaveFault) → MeansChunks everyday rate bytes parts result → MeansWave bytes result (with_tags (file_tags everyday parts) (sound_of rate parts))
means everyday rate bytes parts (Ok head) h = h
means everyday rate bytes parts (Err fault) h = refuses fault (file_tags everyday parts) (sound_of rate parts) h

pub means_wave : (everyday : Bool) (rate end : ℕ) (bytes : List ℕ) (result : Result Head WaveFault) → end ≡ length bytes → is_riff (take 12 bytes) ≡ true → MeansChunks everyday rate bytes (chunks_within bytes 12 end) result → MeansWave bytes result (wave_of everyday rate bytes)
means_wave everyday rate end bytes result size e h =
    subst (MeansWave bytes result) (sym (riff everyday rate bytes e))
    (means everyday rate bytes (chunks (drop 12 bytes)) result (subst (λ parts. MeansChunks everyday rate bytes parts result) (all_within bytes end size) h))

pub head_is : (everyday : Bool) (rate : ℕ) (bytes : List ℕ) (parts : List Chunk) (head : Head) (layout : Layout) (offset len : ℕ) (tags : List TagData)
    → sound_of rate parts ≡ Ok (record { layout = layout; samples = take len (drop offset bytes) }) → length (take len (drop offset bytes)) ≡ len
    → head.tags.items ≡ tags → tags ≡ file_tags everyday parts → head.layout ≡ layout → head.frames ≡ len / block layout → head.offset ≡ offset
    → MeansChunks everyday rate bytes parts (Ok head)
head_is everyday rate bytes parts head layout offset len tags s long ht t hl hf hp =
    let whole = samples_whole layout offset len bytes long in
    rw (ht ∙ t, hl, hf, hp) (ap (with_tags (file_tags everyday parts)) s ∙ ap (λ frames. Ok (record { layout = layout; tags = file_tags everyday parts; frames = frames })) (sym whole.0), whole.1)
