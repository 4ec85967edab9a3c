-- What is heard of frames of one cut, and of runs.
use Rattle.std.proofs.Common.{◌≡◌, ◌∙◌, ℕ, ℤ, ◌+◌, ◌≤◌, ◌++◌, true, false, List, [], ◌∷◌, length, take, drop, map, ap, sym, refl, arith, length-append}
use Rattle.std.specs.Prelude.{filter}
use Rattle.std.proofs.lemmas.List.{map-append, length-take-le, length-drop}
use Rattle.std.proofs.lemmas.List.Elements.{filter-append}
use Rattle.std.proofs.lemmas.Grind.{flat_map-append}
use Rattle.std.proofs.Math.Seq.{take-add}
use Rattle.pcm_mix.specs.Layouts.{frame_bytes}
use Rattle.output_ring.specs.declared.frames.Cut.{Cut}
use Rattle.output_ring.specs.declared.frames.CutFrame.{CutFrame}
use Rattle.output_ring.specs.declared.frames.Live.{Live}
use Rattle.output_ring.specs.declared.runs.Run.{Run}
use Rattle.output_ring.specs.Frames.{bytes_of, heard, is_cut_heard, is_heard, with_cut}
use Rattle.output_ring.specs.Runs.{cuts_of, paired}
use Rattle.output_ring.proofs.Pairs.{paired-push}

pub heard-append : (live : Live) (xs ys : List CutFrame) → heard live (xs ++ ys) ≡ heard live xs ++ heard live ys
heard-append live xs ys = ap (map (λ (x : CutFrame). x.frame)) (filter-append (is_heard live) xs ys) ∙ map-append (λ (x : CutFrame). x.frame) (filter (is_heard live) xs) (filter (is_heard live) ys)

pub heard_all : (live : Live) (c : Cut) (frames : List (List ℤ)) → is_cut_heard live c ≡ true → heard live (with_cut c frames) ≡ frames
heard_all live c [] e = refl
heard_all live c (f ∷ fs) e = rw e (ap (λ l. f ∷ l) (heard_all live c fs e))

pub heard_none : (live : Live) (c : Cut) (frames : List (List ℤ)) → is_cut_heard live c ≡ false → heard live (with_cut c frames) ≡ []
heard_none live c [] e = refl
heard_none live c (f ∷ fs) e = rw e (heard_none live c fs e)

-- one more run of a hand is laid out
module _ (live : Live) (done more : List Run) (run : Run) (frames own : List (List ℤ)) (passed : ℕ) where
  pub hand-more : more ≡ done ++ run ∷ [] → passed ≡ length (cuts_of done) → passed + run.count ≤ length frames → own ≡ take run.count (drop passed frames)
      → heard live (paired (cuts_of more) (take (passed + run.count) frames)) ≡ heard live (paired (cuts_of done) (take passed frames)) ++ heard live (with_cut run.cut own)
  hand-more taken long few is =
      let front : length (take passed frames) ≡ passed = length-take-le passed frames (omega (arith, few)) in
      let back : length own ≡ run.count = ap length is ∙ length-take-le run.count (drop passed frames) (omega (arith, few, length-drop passed frames)) in
      ap (heard live) (paired-push done done more run (take passed frames) own (take (passed + run.count) frames) (sym long ∙ sym front) refl taken (take-add passed run.count frames ∙ ap (λ l. take passed frames ++ l) (sym is)) (sym back))
      ∙ heard-append live (paired (cuts_of done) (take passed frames)) (with_cut run.cut own)

bytes-append : (fs gs : List (List ℤ)) → bytes_of (fs ++ gs) ≡ bytes_of fs ++ bytes_of gs
bytes-append fs gs = flat_map-append frame_bytes fs gs

pub bytes-more : (bytes before : List ℕ) (fs gs all : List (List ℤ)) → bytes ≡ before ++ bytes_of gs → before ≡ bytes_of fs → all ≡ fs ++ gs → bytes ≡ bytes_of all
bytes-more bytes before fs gs all p q e = p ∙ ap (λ l. l ++ bytes_of gs) q ∙ sym (bytes-append fs gs) ∙ ap bytes_of (sym e)

pub length-more : (n m : ℕ) (fs gs all : List (List ℤ)) → m ≡ n + length gs → n ≡ length fs → all ≡ fs ++ gs → m ≡ length all
length-more n m fs gs all p q e = p ∙ ap (λ k. k + length gs) q ∙ sym (length-append fs gs) ∙ ap length (sym e)
