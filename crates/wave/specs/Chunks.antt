-- A list of bytes as chunks (Multimedia Programming Interface and Data Specifications 1.0, RIFF, Chunks).
use Rattle.std.specs.Prelude.{◌≡◌, ℕ, ◌+◌, ◌*◌, ◌%◌, ◌<◌, zero, suc, List, [], ◌∷◌, ◌++◌, length, take, drop, nat_lt, if◌then◌else◌}

abbrev pub little_endian : List ℕ → ℕ
little_endian [] = 0
little_endian (byte ∷ bytes) = byte + 256 * little_endian bytes

-- a name of four bytes, the size that is written, and the content, which is shorter where the bytes end
-- within it
pub record Chunk : Type 0 where
  pub name : List ℕ
  pub size : ℕ
  pub content : List ℕ

-- These are the chunks that the bytes are made of: names, sizes and contents one after another, a pad byte
-- after a content of odd size, and at most seven bytes at the end. The last content and its pad may be cut
-- off.
abbrev pub AreChunks : List ℕ → List Chunk → Type 0
AreChunks bytes [] = length bytes < 8
AreChunks bytes (chunk ∷ more) = (size rest : List ℕ) × (bytes ≡ chunk.name ++ (size ++ rest)) × (length chunk.name ≡ 4) × (length size ≡ 4)
    × (chunk.size ≡ little_endian size) × (chunk.content ≡ take chunk.size rest) × AreChunks (drop (chunk.size + chunk.size % 2) rest) more

-- the size at the start, after a name
abbrev pub first_size : List ℕ → ℕ
first_size bytes = little_endian (take 4 (drop 4 bytes))

-- the chunk at the start, and what follows its content and pad byte
abbrev pub first_chunk : List ℕ → Chunk
first_chunk bytes = record { name = take 4 bytes; size = first_size bytes; content = take (first_size bytes) (drop 8 bytes) }

abbrev pub after_first : List ℕ → List ℕ
after_first bytes = drop (8 + first_size bytes + first_size bytes % 2) bytes

-- the chunks, of which there are at most so many
unfoldable pub chunks_up_to : ℕ → List ℕ → List Chunk
chunks_up_to zero bytes = []
chunks_up_to (suc most) bytes = if nat_lt (length bytes) 8 then [] else first_chunk bytes ∷ chunks_up_to most (after_first bytes)

-- the chunks of the bytes; fewer than eight bytes are no chunk
unfoldable pub chunks : List ℕ → List Chunk
chunks bytes = chunks_up_to (length bytes) bytes
