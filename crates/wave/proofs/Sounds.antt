-- What a chunk does to what is meant, by its tests.
use Rattle.std.proofs.Common.{ℕ, ◌≡◌, List, [], ◌∷◌, ◌&&◌, is_none, take, true, false, refl, Option, Some, None, Ok, Err, Result, subst, ap, ◌∙◌}
use Rattle.wave.specs.declared.fault.WaveFault.TheVariants.{NoFormat, Unsupported, NoData}
use Rattle.wave.specs.declared.format.Layout.{Layout}
use Rattle.wave.specs.Chunks.{Chunk}
use Rattle.wave.specs.Formats.{layout_of}
use Rattle.wave.specs.Waves.{Sound, is_data, is_format, sound_of}
use Rattle.wave.specs.Heads.{sound_after, missing, Refuses}
use Rattle.wave.specs.declared.found_chunk.FoundChunk.{FoundChunk}
use Rattle.wave.specs.declared.fault.WaveFault.{WaveFault}
use Rattle.wave.specs.Parts.{StartsWith, chunks_within}

pub data_unformed : (rate : ℕ) (c : Chunk) (more : List Chunk) → is_data c ≡ true → sound_after rate None (c ∷ more) ≡ Err NoFormat
unfolding sound_after sound_of
data_unformed rate c more e = rw e refl

pub data_formed : (rate : ℕ) (layout : Layout) (c : Chunk) (more : List Chunk) → is_data c ≡ true → sound_after rate (Some layout) (c ∷ more) ≡ Ok (record { layout = layout; samples = c.content })
unfolding sound_after sound_of
data_formed rate layout c more e = rw e refl

pub format_none : (rate : ℕ) (c : Chunk) (more : List Chunk) → is_data c ≡ false → is_format c ≡ true → layout_of rate (take 40 c.content) ≡ None → sound_after rate None (c ∷ more) ≡ Err Unsupported
unfolding sound_after sound_of
format_none rate c more e f g = rw (e, f, g) refl

pub format_some : (rate : ℕ) (layout : Layout) (c : Chunk) (more : List Chunk) → is_data c ≡ false → is_format c ≡ true → layout_of rate (take 40 c.content) ≡ Some layout → sound_after rate None (c ∷ more) ≡ sound_after rate (Some layout) more
unfolding sound_after sound_of
format_some rate layout c more e f g = rw (e, f, g) refl

pub other_unformed : (rate : ℕ) (c : Chunk) (more : List Chunk) → is_data c ≡ false → is_format c ≡ false → sound_after rate None (c ∷ more) ≡ sound_after rate None more
unfolding sound_after sound_of
other_unformed rate c more e f = rw (e, f) refl

pub other_formed : (rate : ℕ) (layout : Layout) (c : Chunk) (more : List Chunk) → is_data c ≡ false → sound_after rate (Some layout) (c ∷ more) ≡ sound_after rate (Some layout) more
unfolding sound_after sound_of
other_formed rate layout c more e = rw e refl

pub none_unformed : (rate : ℕ) → sound_after rate None [] ≡ Err NoFormat
unfolding sound_after sound_of
none_unformed rate = refl

pub none_formed : (rate : ℕ) (layout : Layout) → sound_after rate (Some layout) [] ≡ Err NoData
unfolding sound_after sound_of
none_formed rate layout = refl

-- no chunk is left
pub at_end : (bytes : List ℕ) (at end : ℕ) (found : Option FoundChunk) → found ≡ None → StartsWith bytes at end found → chunks_within bytes at end ≡ []
at_end bytes at end found e h = subst (StartsWith bytes at end) e h

pub ends : (bytes : List ℕ) (rate at end : ℕ) (layout : Option Layout) (found : Option FoundChunk) (meaning : Result Sound WaveFault) → meaning ≡ sound_after rate layout (chunks_within bytes at end)
    → StartsWith bytes at end found → found ≡ None → Refuses (missing layout) meaning
ends bytes rate at end None found meaning m h e = m ∙ ap (sound_after rate None) (at_end bytes at end found e h) ∙ none_unformed rate
ends bytes rate at end (Some layout) found meaning m h e = m ∙ ap (sound_after rate (Some layout)) (at_end bytes at end found e h) ∙ none_formed rate layout

-- chunks that are no first format
pub passed_over : (rate : ℕ) (layout : Option Layout) (c : Chunk) (more : List Chunk) → is_data c ≡ false → (is_none layout && is_format c) ≡ false → sound_after rate layout (c ∷ more) ≡ sound_after rate layout more
passed_over rate None c more e f = other_unformed rate c more e f
passed_over rate (Some layout) c more e f = other_formed rate layout c more e

pub first_some : (rate : ℕ) (layout : Option Layout) (known : Layout) (c : Chunk) (more : List Chunk) → is_data c ≡ false → (is_none layout && is_format c) ≡ true → layout_of rate (take 40 c.content) ≡ Some known
    → sound_after rate layout (c ∷ more) ≡ sound_after rate (Some known) more
first_some rate None known c more e f g = format_some rate known c more e f g
first_some rate (Some layout) known c more e f g = cc

pub first_none : (rate : ℕ) (layout : Option Layout) (c : Chunk) (more : List Chunk) → is_data c ≡ false → (is_none layout && is_format c) ≡ true → layout_of rate (take 40 c.content) ≡ None
    → sound_after rate layout (c ∷ more) ≡ Err Unsupported
first_none rate None c more e f g = format_none rate c more e f g
first_none rate (Some layout) c more e f g = cc

pub unformed : (rate : ℕ) (parts : List Chunk) → sound_of rate parts ≡ sound_after rate None parts
unfolding sound_after
unformed rate parts = refl
