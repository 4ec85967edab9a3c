-- Frames that go into rings.
use Rattle.std.proofs.Common.{◌≡◌, inl, inr, ℕ, ℤ, ◌+◌, ◌++◌, ap, Some, None, slice_index_or, ◌<◌, Bool, true, false, ◌||◌, List, [], ◌∷◌, All, length, get_or, set, take, refl, sym, subst, ◌∙◌}
use Rattle.std.proofs.lemmas.List.{append-nil, take_more_set}
use Rattle.std.proofs.lemmas.List.Elements.{All-push}
use Rattle.output_ring.specs.declared.feeder.Feeder.{Feeder}
use Rattle.output_ring.specs.declared.frames.CutFrame.{CutFrame}
use Rattle.output_ring.specs.Frames.{with_cut}
use Rattle.output_ring.specs.Rings.{SameFeeder, owed_of, taken_of}
use Rattle.player_state.specs.declared.report.Feed.{Feed}
use Rattle.crew_steps.specs.Each.{Each, EachAt}
use Rattle.crew_steps.specs.Feeding.{TakesItsOwn, TakesNone, fed_frames, own_frames}
use Rattle.crew_steps.proofs.Eaches.{each_set, each_trans, same_refl, same_trans}

pub both : (a b : Bool) → (a || b) ≡ false → (a ≡ false) × (b ≡ false)
both true b h = cc
both false b h = (refl, h)

-- one more of which something holds
pub one_more : {A : Type 0} (P : A → Type 0) (xs : List A) (i : ℕ) (y : A) → i < length xs → All P (take i xs) → P y → All P (take (i + 1) (set xs i y))
one_more P xs i y low a p = subst (All P) (sym (take_more_set xs i y low)) (All-push P (take i xs) y a p)

pub none_refl : (f : Feeder) → TakesNone f f
none_refl f = (same_refl f, refl)

pub none_trans : (f g h : Feeder) → TakesNone f g → TakesNone g h → TakesNone f h
none_trans f g h p q = (same_trans f g h p.0 q.0, q.1 ∙ p.1)

pub none_set : (fs gs : List Feeder) (i : ℕ) (old h : Feeder) → i < length gs → old ≡ get_or gs i old → TakesNone old h → Each TakesNone fs gs → Each TakesNone fs (set gs i h)
none_set fs gs i old h low is s e =
    each_set TakesNone fs gs i old h low (λ x r. none_trans x old h (subst (λ z. TakesNone x z) (sym is) r) s) e

-- what takes none, and what takes frames, is of its ring
pub each_kept : (fs gs : List Feeder) → Each TakesNone fs gs → Each SameFeeder fs gs
each_kept [] [] e = tt
each_kept [] (g ∷ gs) e = absurd e
each_kept (f ∷ fs) [] e = absurd e
each_kept (f ∷ fs) (g ∷ gs) e = (e.0.0, each_kept fs gs e.1)

fed_from : (own : ℕ → List CutFrame) (n : ℕ) (fs gs : List Feeder) → EachAt (TakesItsOwn own) n fs gs → Each SameFeeder fs gs
fed_from own n [] [] e = tt
fed_from own n [] (g ∷ gs) e = absurd e
fed_from own n (f ∷ fs) [] e = absurd e
fed_from own n (f ∷ fs) (g ∷ gs) e = (e.0.0, fed_from own (n + 1) fs gs e.1)

pub each_fed : (own : ℕ → List CutFrame) (fs gs : List Feeder) → EachAt (TakesItsOwn own) 0 fs gs → Each SameFeeder fs gs
each_fed own = fed_from own 0

pub each_none : (fs gs hs : List Feeder) → Each TakesNone fs gs → Each TakesNone gs hs → Each TakesNone fs hs
each_none fs gs hs = each_trans TakesNone TakesNone TakesNone fs gs hs none_trans

-- where no ring has frames of its own, nothing changes
none_fed_from : (n : ℕ) (fs : List Feeder) → EachAt (TakesItsOwn (λ n. [])) n fs fs
none_fed_from n [] = tt
none_fed_from n (f ∷ fs) = ((same_refl f, sym (append-nil (taken_of f)), inl refl), none_fed_from (n + 1) fs)

pub none_fed : (fs : List Feeder) → EachAt (TakesItsOwn (λ n. [])) 0 fs fs
none_fed fs = none_fed_from 0 fs

-- a ring that a feed names took its block, once nothing waited for room in it
pub takes_some : (feed : Feed) (frames : List (List ℤ)) (n moves : ℕ) (old mid new : Feeder) → slice_index_or feed.outputs n None ≡ Some moves → TakesNone old mid → SameFeeder mid new
    → taken_of new ≡ taken_of mid ++ with_cut (record { moves = moves; number = feed.cut }) frames → owed_of new ≡ with_cut (record { moves = moves; number = feed.cut }) frames
    → TakesItsOwn (fed_frames feed frames) n old new
takes_some feed frames n moves old mid new is none same taken owed =
    let own = ap (λ o. own_frames o feed.cut frames) is in (
      same_trans old mid new none.0 same,
      taken ∙ ap (λ (l : List CutFrame). l ++ with_cut (record { moves = moves; number = feed.cut }) frames) none.1 ∙ ap (λ (l : List CutFrame). taken_of old ++ l) (sym own),
      inr (owed ∙ sym own),
    )

-- another stays as it is
pub takes_none : (feed : Feed) (frames : List (List ℤ)) (n : ℕ) (f : Feeder) → slice_index_or feed.outputs n None ≡ None → TakesItsOwn (fed_frames feed frames) n f f
takes_none feed frames n f is =
    let own = ap (λ o. own_frames o feed.cut frames) is in
    (same_refl f, sym (append-nil (taken_of f)) ∙ ap (λ (l : List CutFrame). taken_of f ++ l) (sym own), inl own)
