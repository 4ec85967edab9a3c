-- Where chunks lie in the bytes of a file.
use Rattle.std.specs.Prelude.{◌≡◌, ℕ, ◌+◌, ◌<◌, ◌≤◌, List, [], ◌∷◌, length, take, drop, Option, Some, None, MatchOption}
use Rattle.wave.specs.declared.found_chunk.Header.{Header}
use Rattle.wave.specs.declared.found_chunk.FoundChunk.{FoundChunk}
use Rattle.wave.specs.Chunks.{Chunk, chunks, first_size}

-- the header at the start of the bytes, or there is none
abbrev pub IsHeader : List ℕ → Option Header → Type 0
IsHeader bytes found = MatchOption found (length bytes < 8) (λ header. (8 ≤ length bytes) × (header.name ≡ take 4 bytes) × (header.size ≡ first_size bytes))

-- what is there of a chunk's content
abbrev pub content_of : List ℕ → FoundChunk → List ℕ
content_of bytes part = take part.len (drop part.offset bytes)

-- as much of a format's content as counts
abbrev pub format_content : List ℕ → FoundChunk → List ℕ
format_content bytes part = take 40 (content_of bytes part)

abbrev pub chunk_of : List ℕ → FoundChunk → Chunk
chunk_of bytes part = record { name = part.name; size = part.size; content = content_of bytes part }

-- the chunks from an offset up to an end
abbrev pub chunks_within : List ℕ → ℕ → ℕ → List Chunk
chunks_within bytes at end = chunks (drop at (take end bytes))

-- the items of a list, after its kind of four bytes
abbrev pub items_in : List ℕ → FoundChunk → List Chunk
items_in bytes list = chunks_within bytes (list.offset + 4) (list.offset + list.len)

-- the chunks of a file's first bytes, after its name and kind of twelve bytes
abbrev pub file_chunks : List ℕ → ℕ → List Chunk
file_chunks bytes end = chunks_within bytes 12 end

-- this is the first of the chunks from an offset up to an end, or there is none
abbrev pub StartsWith : List ℕ → ℕ → ℕ → Option FoundChunk → Type 0
StartsWith bytes at end None = chunks_within bytes at end ≡ []
StartsWith bytes at end (Some part) =
    (chunks_within bytes at end ≡ chunk_of bytes part ∷ chunks_within bytes part.next end) × (length (content_of bytes part) ≡ part.len)

-- of all bytes with this header at an offset, this is the first of the chunks from there up to an end
abbrev pub IsChunkOfHeader : Header → ℕ → ℕ → FoundChunk → Type 0
IsChunkOfHeader header at end part = (bytes : List ℕ) → end ≤ length bytes
    → IsHeader (take 8 (drop at bytes)) (Some header) → StartsWith bytes at end (Some part)
