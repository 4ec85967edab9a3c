-- The full volume leaves samples as they are.
use Rattle.std.proofs.Common.{◌≡◌, arith, List, [], ◌∷◌, ℤ, pos, negsuc, map, refl}
use Rattle.std.proofs.lemmas.Int.{ints}
use Rattle.pcm_mix.specs.Samples.{gained}

full_sample : (sample : ℤ) → gained 100 sample ≡ sample
full_sample (pos n) = omega (arith, ints)
full_sample (negsuc n) = omega (arith, ints)

full_frame : (frame : List ℤ) → map (gained 100) frame ≡ frame
full_frame [] = refl
full_frame (sample ∷ samples) = rw (full_sample sample, full_frame samples) refl

pub full_volume : (frames : List (List ℤ)) → map (map (gained 100)) frames ≡ frames
full_volume [] = refl
full_volume (frame ∷ frames) = rw (full_frame frame, full_volume frames) refl
