-- The chunk of a file's ID3v2 tag.
use Rattle.std.proofs.Common.{ℕ, ◌+◌, ◌≤◌, ◌≡◌, List, [], ◌∷◌, length, take, drop, min, Bool, true, false, cond, refl, sym, ap, subst, ◌∙◌, arith, Option, Some, None}
use Rattle.std.specs.List.{find}
use Rattle.id3_tags.specs.Tags.{tag_len}
use Rattle.id3_tags.specs.Texts.{id3_texts}
use Rattle.id3_tags.proofs.TagLaws.{texts_of_start}
use Rattle.wave.specs.declared.found_chunk.FoundChunk.{FoundChunk}
use Rattle.wave.specs.Chunks.{Chunk}
use Rattle.wave.specs.Everyday.{is_id3}
use Rattle.wave.specs.Found.{IsFirstId3}
use Rattle.wave.specs.Parts.{chunk_of, chunks_within, file_chunks, StartsWith}
use Rattle.wave.proofs.Filling.{start_is}
use Rattle.wave.proofs.Starts.{take_both}

-- the first ten bytes of a chunk
pub head_read : (n len offset : ℕ) (buf bytes : List ℕ) → length buf ≡ 10 → take n buf ≡ take (length buf) (drop offset bytes) → tag_len (take (min n len) buf) ≡ tag_len (take 10 (take len (drop offset bytes)))
head_read n len offset buf bytes h e = ap tag_len (start_is 10 n len buf (drop offset bytes) h e)

-- as much of a chunk as counts
pub texts_read : (n room len offset : ℕ) (buf bytes : List ℕ) → length buf ≡ room → room ≡ min (tag_len (take 10 (take len (drop offset bytes)))) len → take n buf ≡ take (length buf) (drop offset bytes)
    → id3_texts (take n buf) ≡ id3_texts (take len (drop offset bytes))
texts_read n room len offset buf bytes l m e =
    let content = take len (drop offset bytes) in
    ap id3_texts (e ∙ ap (λ k. take k (drop offset bytes)) (l ∙ m) ∙ sym (take_both (tag_len (take 10 content)) len (drop offset bytes)))
    ∙ texts_of_start content (tag_len (take 10 content)) (omega arith)

-- the chunks before it
found_in : (chunk : Chunk) (more : List Chunk) → is_id3 chunk ≡ true → find is_id3 (chunk ∷ more) ≡ Some chunk
found_in chunk more e = ap (λ b. cond b (Some chunk) (find is_id3 more)) e

found_after : (chunk : Chunk) (more : List Chunk) → is_id3 chunk ≡ false → find is_id3 (chunk ∷ more) ≡ find is_id3 more
found_after chunk more e = ap (λ b. cond b (Some chunk) (find is_id3 more)) e

pub is_first : (bytes : List ℕ) (at end : ℕ) (part : FoundChunk) (found : Option FoundChunk) (b : Bool) → find is_id3 (chunks_within bytes at end) ≡ find is_id3 (file_chunks bytes end)
    → StartsWith bytes at end found → found ≡ Some part → b ≡ is_id3 (chunk_of bytes part) → b ≡ true → IsFirstId3 bytes end (Some part)
is_first bytes at end part found b goes starts e i t =
    let here = subst (StartsWith bytes at end) e starts in
    (sym (ap (find is_id3) here.0 ∙ found_in (chunk_of bytes part) (chunks_within bytes part.next end) (sym i ∙ t)) ∙ goes, here.1)

pub passed : (bytes : List ℕ) (at end : ℕ) (part : FoundChunk) (found : Option FoundChunk) (b : Bool) → find is_id3 (chunks_within bytes at end) ≡ find is_id3 (file_chunks bytes end)
    → StartsWith bytes at end found → found ≡ Some part → b ≡ is_id3 (chunk_of bytes part) → b ≡ false → find is_id3 (chunks_within bytes part.next end) ≡ find is_id3 (file_chunks bytes end)
passed bytes at end part found b goes starts e i t =
    let here = subst (StartsWith bytes at end) e starts in
    sym (ap (find is_id3) here.0 ∙ found_after (chunk_of bytes part) (chunks_within bytes part.next end) (sym i ∙ t)) ∙ goes

pub is_none : (bytes : List ℕ) (at end : ℕ) (found : Option FoundChunk) → find is_id3 (chunks_within bytes at end) ≡ find is_id3 (file_chunks bytes end)
    → StartsWith bytes at end found → found ≡ None → IsFirstId3 bytes end None
is_none bytes at end found goes starts e = (sym (ap (find is_id3) (subst (StartsWith bytes at end) e starts)) ∙ goes, tt)
