-- The frames that lie where a head says are those that its file means.
use Rattle.std.proofs.Common.{ℕ, ℤ, ◌≡◌, ◌<◌, ◌≤◌, List, length, Option, Some, None, refl, sym, subst, arith}
use Rattle.wave.specs.Meanings.{wave_in}
use Rattle.player_core.specs.declared.state.FadePart.{FadePart}
use Rattle.crew_steps.specs.Songs.{IsShort}
use Rattle.crew_steps.specs.Sounds.{AreHeard, AreOfSome, IsMeant, Opened, OthersOf}

pub heard : (rate : ℕ) (song : Option Opened) (from count : ℕ) (frames : List (List ℤ)) → IsMeant rate song → AreOfSome song from count frames → AreHeard rate song from count frames
heard rate None from count frames meant of = absurd of
heard rate (Some song) from count frames meant of = λ bytes is. (wave_in bytes song.head, meant song refl bytes is, of bytes is)

-- as many frames of the other song
pub others_heard : (rate : ℕ) (fade : Option FadePart) (part : FadePart) (partner : Option Opened) (count : ℕ) (others : List (List ℤ)) → fade ≡ Some part → IsMeant rate partner → AreOfSome partner part.index count others
    → length others ≤ count → count ≤ length others → OthersOf rate fade partner count others
others_heard rate fade part partner count others is meant of most least =
    subst (λ (f : Option FadePart). OthersOf rate f partner count others) (sym is) (omega (arith, most, least), heard rate partner part.index count others meant of)

-- or fewer
pub others_short : (rate : ℕ) (fade : Option FadePart) (part : FadePart) (partner : Option Opened) (count : ℕ) (others : List (List ℤ)) → fade ≡ Some part → IsMeant rate partner → AreOfSome partner part.index count others
    → length others < count → IsShort rate fade partner count
others_short rate fade part partner count others is meant of less =
    subst (λ (f : Option FadePart). IsShort rate f partner count) (sym is) (others, heard rate partner part.index count others meant of, less)
