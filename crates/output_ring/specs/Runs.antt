-- Frames beside their cuts, and runs of frames of one cut (this profile's).
use Rattle.std.specs.Prelude.{ℕ, ℤ, ◌/◌, if◌then◌else◌, List, [], ◌∷◌, max, nat_le, replicate, take}
use Rattle.std.specs.List.{flat_map}
use Rattle.output_ring.specs.declared.frames.Cut.{Cut}
use Rattle.output_ring.specs.declared.frames.CutFrame.{CutFrame}
use Rattle.output_ring.specs.declared.runs.Run.{Run}

-- the cuts of the frames of a run
abbrev pub run_cuts : Run → List Cut
run_cuts run = replicate run.count run.cut

-- the cuts of the frames of some runs, in order
abbrev pub cuts_of : List Run → List Cut
cuts_of runs = flat_map run_cuts runs

-- frames with their cuts, as far as both are there
abbrev pub paired : List Cut → List (List ℤ) → List CutFrame
paired [] frames = []
paired (c ∷ cs) [] = []
paired (c ∷ cs) (f ∷ fs) = record { frame = f; cut = c } ∷ paired cs fs

-- the first `held` frames of the slots, which lie in these runs
abbrev pub first_in : List Run → List (List ℤ) → ℕ → List CutFrame
first_in runs slots held = paired (cuts_of runs) (take held slots)

-- how many runs a ring of so many frames has room for: one for each frame up to 64 frames, and at least one;
-- 64 up to 2,048 frames; and one for each 32 frames beyond
abbrev pub runs_for : ℕ → ℕ
runs_for frames =
    if nat_le frames 64 then max 1 frames
    else if nat_le frames 2048 then 64
    else frames / 32
