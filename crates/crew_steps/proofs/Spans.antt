-- Frames that were read together, and those of them that are asked for.
use Rattle.std.proofs.Common.{ℕ, ℤ, ◌+◌, ◌-◌, ◌≤◌, ◌≡◌, List, length, take, drop, min, Option, Some, None, Result, Ok, Err, IfSome, IfOk, sym, ap, subst, ◌∙◌, arith}
use Rattle.std.proofs.lemmas.List.{drop-drop, drop-take, drop_min, length-drop, length-take, take-take, take_min}
use Rattle.std.specs.Global.{Vec}
use Rattle.wave.specs.Meanings.{GivesFrames, frames_in}
use Rattle.wave.specs.declared.fault.WaveFault.{WaveFault}
use Rattle.wave.specs.declared.head.Head.{Head}
use Rattle.crew_steps.specs.Sounds.{AreOf, Hold, Opened, StandFrom}

-- so many of those from an offset on
pub part : {X : Type 0} (frames : List X) (gone count start many : ℕ) → start ≡ min gone (length frames) → many ≡ min count (length frames - start)
    → take many (drop start frames) ≡ take count (drop gone frames)
part frames gone count start many from most =
    let all : length (drop gone frames) ≡ length frames - gone = length-drop gone frames in
    let e : many ≡ min count (length (drop gone frames)) = omega (arith, from, most, all) in
    ap (λ k. take many (drop k frames)) from ∙ ap (take many) (drop_min gone frames) ∙ ap (λ k. take k (drop gone frames)) e ∙ take_min count (drop gone frames)

take_within : {X : Type 0} (all frames : List X) (first gone count : ℕ) → frames ≡ take (length frames) (drop first all) → gone + count ≤ length frames
    → take count (drop gone frames) ≡ take count (drop (first + gone) all)
take_within all frames first gone count stands low =
    let len : length frames ≡ gone + (length frames - gone) = omega (arith, low) in
    let whole : frames ≡ take (gone + (length frames - gone)) (drop first all) = stands ∙ ap (λ k. take k (drop first all)) len in
    ap (λ l. take count (drop gone l)) whole
    ∙ ap (take count) (drop-take gone (length frames - gone) (drop first all))
    ∙ take-take count (length frames - gone) (drop gone (drop first all)) (omega (arith, low))
    ∙ ap (take count) (drop-drop gone first all)

-- frames that were read before
pub held_already : (known : Option (List ℕ)) (head : Head) (first : ℕ) (frames : List (List ℤ)) (from count : ℕ) (bytes : List ℕ) → StandFrom known head first frames → known ≡ Some bytes → first ≤ from → from - first + count ≤ length frames
    → take count (drop (from - first) frames) ≡ take count (drop from (frames_in bytes head))
held_already known head first frames from count bytes stands is low most =
    let at : first + (from - first) ≡ from = omega (arith, low) in
    take_within (frames_in bytes head) frames first (from - first) count (stands bytes is) most
    ∙ ap (λ k. take count (drop k (frames_in bytes head))) at

-- frames that are read anew, from the first that is asked for on
pub held_anew : (song : Opened) (frames : List (List ℤ)) (from count most : ℕ) → AreOf song from most frames → count ≤ most → Hold song from frames from count
held_anew song frames from count most read low = λ bytes is.
    let none : from - from ≡ 0 = omega arith in
    ap (λ k. take count (drop k frames)) none ∙ ap (take count) (read bytes is) ∙ take-take count most (drop from (frames_in bytes song.head)) low

-- they stand where they were read
pub stand_anew : (song now : Opened) (frames : List (List ℤ)) (from most : ℕ) → now ≡ song → AreOf song from most frames → StandFrom now.known now.head from frames
stand_anew song now frames from most same read = λ bytes at.
    let all = drop from (frames_in bytes now.head) in
    let is : frames ≡ take most all = subst (λ (o : Opened). AreOf o from most frames) (sym same) read bytes at in
    is ∙ sym (take_min most all) ∙ ap (λ k. take k all) (sym (ap length is ∙ length-take most all))

-- what a reader gives of its file
pub frames_given : (known : Option (List ℕ)) (head : Head) (from n : ℕ) (r : Result (Vec (List ℤ)) WaveFault) → GivesFrames known head from n r
    → IfOk r (λ frames. (bytes : List ℕ) → known ≡ Some bytes → frames.items ≡ take n (drop from (frames_in bytes head)))
frames_given known head from n (Err fault) gives = tt
frames_given None head from n (Ok frames) gives = λ bytes is. cc
frames_given (Some more) head from n (Ok frames) gives = λ bytes is. subst (λ o. IfSome o (λ all. frames.items ≡ take n (drop from (frames_in all head)))) is gives
