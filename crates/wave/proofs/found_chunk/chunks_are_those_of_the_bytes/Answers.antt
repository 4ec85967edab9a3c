use Rattle.wave.proofs.ChunkLaws.{chunks_are, chunks_only}
use Rattle.wave.proofs.found_chunk.chunks_are_those_of_the_bytes.Goals as goal

pub returns : goal.returns
returns c = record { are = chunks_are; only = λ bytes parts h. chunks_only parts bytes h }
