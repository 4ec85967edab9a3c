-- The full volume leaves a block as it is.
use Rattle.std.proofs.Common.{◌≡◌, suc, ◌*◌, ◌/◌, ℕ, List, [], ◌∷◌, map, Option, Some, None, is_none, true, ◌≤◌, min, ℤ, pos, negsuc, refl, sym, ◌∙◌, arith}
use Rattle.std.proofs.lemmas.Int.{ints}
use Rattle.std.proofs.Math.Nat.{mul-div_cancel}
use Rattle.player_core.specs.declared.state.FadePart.{FadePart}
use Rattle.crew_steps.specs.Feeding.{block_at}
use Rattle.pcm_mix.specs.Blocks.{block_of}
use Rattle.pcm_mix.specs.Samples.{gained}
use Rattle.pcm_mix.proofs.Blocks.{gained_alone}

whole_sample : (s : ℤ) → gained 100 s ≡ s
whole_sample (pos a) = let e : a * 100 / 100 ≡ a = mul-div_cancel a {n = 100} (omega arith) in omega (arith, ints, e)
whole_sample (negsuc a) = let e : suc a * 100 / 100 ≡ suc a = mul-div_cancel (suc a) {n = 100} (omega arith) in omega (arith, ints, e)

whole_frame : (frame : List ℤ) → map (gained 100) frame ≡ frame
whole_frame [] = refl
whole_frame (s ∷ ss) = let e = whole_sample s in let rest = whole_frame ss in rw (e, rest) refl

whole_frames : (frames : List (List ℤ)) → map (map (gained 100)) frames ≡ frames
whole_frames [] = refl
whole_frames (f ∷ fs) = let e = whole_frame f in let rest = whole_frames fs in rw (e, rest) refl

pub whole_block : (frames : List (List ℤ)) → block_of None 100 frames ≡ frames
whole_block frames = sym (gained_alone 100 frames) ∙ whole_frames frames

-- at the full volume, or above, and without a fade
pub unmixed : (volume : ℕ) (fade : Option FadePart) (others frames : List (List ℤ)) → is_none fade ≡ true → 100 ≤ volume → frames ≡ block_at volume fade others frames
unmixed volume None others frames none high = let m : min volume 100 ≡ 100 = omega (arith, high) in rw m (sym (whole_block frames))
unmixed volume (Some part) others frames none high = cc
