-- Frames beside their cuts.
use Rattle.std.proofs.Common.{◌≡◌, ℕ, zero, suc, ◌+◌, ◌-◌, ◌≤◌, List, [], ◌∷◌, ◌++◌, length, drop, replicate, refl, sym, ap, ◌∙◌, arith, ℤ, subst, length-append}
use Rattle.std.proofs.lemmas.List.{append-nil, length-replicate, drop-replicate, drop-drop}
use Rattle.std.proofs.lemmas.Grind.{flat_map-append}
use mathlib.Core.List.{IsPrefix}
use Rattle.output_ring.specs.declared.frames.Cut.{Cut}
use Rattle.output_ring.specs.declared.runs.Run.{Run}
use Rattle.output_ring.specs.Frames.{with_cut}
use Rattle.output_ring.specs.Runs.{cuts_of, paired, run_cuts}

pub paired-nil : (cs : List Cut) → paired cs [] ≡ []
paired-nil [] = refl
paired-nil (c ∷ cs) = refl

-- as many cuts as frames, and then more of both
pub paired-append : (cs ds : List Cut) (fs gs : List (List ℤ)) → length cs ≡ length fs → paired (cs ++ ds) (fs ++ gs) ≡ paired cs fs ++ paired ds gs
paired-append [] ds [] gs e = refl
paired-append [] ds (f ∷ fs) gs e = absurd (omega (arith, e))
paired-append (c ∷ cs) ds [] gs e = absurd (omega (arith, e))
paired-append (c ∷ cs) ds (f ∷ fs) gs e = ap (λ l. record { frame = f; cut = c } ∷ l) (paired-append cs ds fs gs (omega (arith, e)))

-- frames of one cut, of which there are no fewer
pub paired-one : (n : ℕ) (c : Cut) (ds : List Cut) (fs : List (List ℤ)) → length fs ≤ n → paired (replicate n c ++ ds) fs ≡ with_cut c fs
paired-one n c ds [] e = paired-nil (replicate n c ++ ds)
paired-one zero c ds (f ∷ fs) e = absurd (omega (arith, e))
paired-one (suc n) c ds (f ∷ fs) e = ap (λ l. record { frame = f; cut = c } ∷ l) (paired-one n c ds fs (omega (arith, e)))

-- cuts of no frame
pub paired-more : (cs ds : List Cut) (fs : List (List ℤ)) → length fs ≤ length cs → paired (cs ++ ds) fs ≡ paired cs fs
paired-more cs ds [] e = paired-nil (cs ++ ds) ∙ sym (paired-nil cs)
paired-more [] ds (f ∷ fs) e = absurd (omega (arith, e))
paired-more (c ∷ cs) ds (f ∷ fs) e = ap (λ l. record { frame = f; cut = c } ∷ l) (paired-more cs ds fs (omega (arith, e)))

pub length-paired : (cs : List Cut) (fs : List (List ℤ)) → length fs ≤ length cs → length (paired cs fs) ≡ length fs
length-paired cs [] e = ap length (paired-nil cs)
length-paired [] (f ∷ fs) e = absurd (omega (arith, e))
length-paired (c ∷ cs) (f ∷ fs) e = ap suc (length-paired cs fs (omega (arith, e)))

-- what goes on with both
pub paired-prefix : (cs ds : List Cut) (fs gs : List (List ℤ)) → IsPrefix cs ds → IsPrefix fs gs → IsPrefix (paired cs fs) (paired ds gs)
paired-prefix [] ds fs gs p q = (paired ds gs, refl)
paired-prefix (c ∷ cs) ds [] gs p q = (paired ds gs, refl)
paired-prefix (c ∷ cs) [] (f ∷ fs) gs p q = absurd (cc (p.1))
paired-prefix (c ∷ cs) (d ∷ ds) (f ∷ fs) [] p q = absurd (cc (q.1))
paired-prefix (c ∷ cs) (d ∷ ds) (f ∷ fs) (g ∷ gs) p q =
    let rest = paired-prefix cs ds fs gs (p.0, cc (p.1)) (q.0, cc (q.1)) in
    let heads : c ≡ d = cc (p.1) in
    let firsts : f ≡ g = cc (q.1) in
    (rest.0, λ i. record { frame = firsts i; cut = heads i } ∷ rest.1 i)

pub prefix_self : {A : Type 0} (xs : List A) → IsPrefix xs xs
prefix_self xs = ([], append-nil xs)

-- one more run
pub cuts-push : (runs : List Run) (run : Run) → cuts_of (runs ++ run ∷ []) ≡ cuts_of runs ++ run_cuts run
cuts-push runs run = flat_map-append run_cuts runs (run ∷ []) ∙ ap (λ l. cuts_of runs ++ l) (append-nil (run_cuts run))

pub cuts-prefix : (runs more : List Run) → IsPrefix runs more → IsPrefix (cuts_of runs) (cuts_of more)
cuts-prefix runs more p = (cuts_of p.0, sym (flat_map-append run_cuts runs p.0) ∙ ap cuts_of p.1)

-- frames of one cut that came, and those after them
pub paired-front : (n : ℕ) (c : Cut) (ds : List Cut) (xs gs : List (List ℤ)) → length xs ≤ n → paired (replicate n c ++ ds) (xs ++ gs) ≡ with_cut c xs ++ paired (replicate (n - length xs) c ++ ds) gs
paired-front n c ds [] gs e = let same : n ≡ n - 0 = omega arith in ap (λ m. paired (replicate m c ++ ds) gs) same
paired-front zero c ds (x ∷ xs) gs e = absurd (omega (arith, e))
paired-front (suc n) c ds (x ∷ xs) gs e =
    let same : n - length xs ≡ suc n - suc (length xs) = omega arith in
    ap (λ l. record { frame = x; cut = c } ∷ l) (paired-front n c ds xs gs (omega (arith, e)) ∙ ap (λ m. with_cut c xs ++ paired (replicate m c ++ ds) gs) same)

-- frames whose last run has so many more, and then those of this run and of more runs
pub paired-joined : (cs ds : List Cut) (fs gs : List (List ℤ)) (n : ℕ) (c : Cut) → length cs ≡ length fs + n → drop (length fs) cs ≡ replicate n c → paired (cs ++ ds) (fs ++ gs) ≡ paired cs fs ++ paired (replicate n c ++ ds) gs
paired-joined cs ds [] gs n c e r = ap (λ l. paired (l ++ ds) gs) r ∙ ap (λ l. l ++ paired (replicate n c ++ ds) gs) (sym (paired-nil cs))
paired-joined [] ds (f ∷ fs) gs n c e r = absurd (omega (arith, e))
paired-joined (k ∷ cs) ds (f ∷ fs) gs n c e r = ap (λ l. record { frame = f; cut = k } ∷ l) (paired-joined cs ds fs gs n c (omega (arith, e)) r)

-- some of a run's frames came
pub paired-came : (cs : List Cut) (fs xs : List (List ℤ)) (n : ℕ) (c : Cut) → length cs ≡ length fs + n → drop (length fs) cs ≡ replicate n c → length xs ≤ n → paired cs (fs ++ xs) ≡ paired cs fs ++ with_cut c xs
paired-came cs fs xs n c e r few =
    ap (λ l. paired l (fs ++ xs)) (sym (append-nil cs)) ∙ paired-joined cs [] fs xs n c e r ∙ ap (λ l. paired cs fs ++ l) (paired-one n c [] xs few)

-- the rest of a run of which some frames came
pub rest-came : (cs : List Cut) (fs xs all : List (List ℤ)) (n m : ℕ) (c : Cut) → all ≡ fs ++ xs → length xs ≡ m → drop (length fs) cs ≡ replicate n c → drop (length all) cs ≡ replicate (n - m) c
rest-came cs fs xs all n m c is count r =
    let long : length all ≡ length fs + m = ap length is ∙ length-append fs xs ∙ ap (λ k. length fs + k) count in
    ap (λ k. drop k cs) long ∙ sym (drop-drop m (length fs) cs) ∙ ap (drop m) r ∙ drop-replicate m n c

pub known-came : (n m : ℕ) (c : Cut) (ds : List Cut) (fs xs gs : List (List ℤ)) → length xs ≡ m → m ≤ n → IsPrefix fs (xs ++ gs) → IsPrefix (paired (replicate n c ++ ds) fs) (with_cut c xs ++ paired (replicate (n - m) c ++ ds) gs)
known-came n m c ds fs xs gs count few p =
    let cuts = replicate n c ++ ds in
    let q = paired-prefix cuts cuts fs (xs ++ gs) (prefix_self cuts) p in
    let few' : length xs ≤ n = omega (arith, count, few) in
    (q.0, q.1 ∙ paired-front n c ds xs gs few' ∙ ap (λ k. with_cut c xs ++ paired (replicate (n - k) c ++ ds) gs) count)

-- a run was begun whose frames are in the ring yet
pub popped-begun : (runs more : List Run) (run : Run) (fs : List (List ℤ)) → more ≡ runs ++ run ∷ [] → length fs ≤ length (cuts_of runs) → paired (cuts_of more) fs ≡ paired (cuts_of runs) fs
popped-begun runs more run fs is few =
    ap (λ l. paired (cuts_of l) fs) is ∙ ap (λ l. paired l fs) (cuts-push runs run) ∙ paired-more (cuts_of runs) (run_cuts run) fs few

pub known-begun : (n : ℕ) (c : Cut) (ahead more : List Run) (run : Run) (fs : List (List ℤ)) → n ≡ 0 → IsPrefix ahead (run ∷ more) → IsPrefix (paired (replicate n c ++ cuts_of ahead) fs) (paired (run_cuts run ++ cuts_of more) fs)
known-begun n c ahead more run fs none p =
    let after = paired (run_cuts run ++ cuts_of more) fs in
    subst (λ m. IsPrefix (paired (replicate m c ++ cuts_of ahead) fs) after) (sym none)
    (paired-prefix (cuts_of ahead) (cuts_of (run ∷ more)) fs fs (cuts-prefix ahead (run ∷ more) p) (prefix_self fs))

-- all of both rings
module _ (runs ahead sent_runs : List Run) (fs gs sent : List (List ℤ)) (n : ℕ) (c : Cut) where
  pub all-joined : length (cuts_of runs) ≡ length fs + n → drop (length fs) (cuts_of runs) ≡ replicate n c → runs ++ ahead ≡ sent_runs → fs ++ gs ≡ sent → paired (cuts_of runs) fs ++ paired (replicate n c ++ cuts_of ahead) gs ≡ paired (cuts_of sent_runs) sent
  all-joined begun rest p q =
      sym (paired-joined (cuts_of runs) (cuts_of ahead) fs gs n c begun rest) ∙ ap (λ l. paired l (fs ++ gs)) (sym (flat_map-append run_cuts runs ahead) ∙ ap cuts_of p) ∙ ap (paired (cuts_of sent_runs)) q

  pub all-known : length (cuts_of runs) ≡ length fs + n → runs ++ ahead ≡ sent_runs → fs ++ gs ≡ sent → length (cuts_of sent_runs) ≡ length sent → length gs ≡ length (paired (replicate n c ++ cuts_of ahead) gs)
  all-known begun p q whole =
      let cuts : length (cuts_of runs) + length (cuts_of ahead) ≡ length (cuts_of sent_runs) = sym (length-append (cuts_of runs) (cuts_of ahead)) ∙ ap length (sym (flat_map-append run_cuts runs ahead) ∙ ap cuts_of p) in
      let frames : length fs + length gs ≡ length sent = sym (length-append fs gs) ∙ ap length q in
      let long : length (replicate n c ++ cuts_of ahead) ≡ n + length (cuts_of ahead) = length-append (replicate n c) (cuts_of ahead) ∙ ap (λ k. k + length (cuts_of ahead)) (length-replicate n c) in
      sym (length-paired (replicate n c ++ cuts_of ahead) gs (omega (arith, cuts, frames, long, begun, whole)))

-- one more run, with its frames
pub paired-push : (runs before more : List Run) (run : Run) (fs xs all : List (List ℤ)) → length (cuts_of runs) ≡ length fs → before ≡ runs → more ≡ before ++ run ∷ [] → all ≡ fs ++ xs → run.count ≡ length xs → paired (cuts_of more) all ≡ paired (cuts_of runs) fs ++ with_cut run.cut xs
paired-push runs before more run fs xs all whole b p q count =
    let cuts : cuts_of more ≡ cuts_of runs ++ run_cuts run = ap cuts_of p ∙ cuts-push before run ∙ ap (λ l. cuts_of l ++ run_cuts run) b in
    ap (λ l. paired l all) cuts ∙ ap (paired (cuts_of runs ++ run_cuts run)) q ∙ paired-append (cuts_of runs) (run_cuts run) fs xs whole
    ∙ ap (λ l. paired (cuts_of runs) fs ++ l) (ap (λ l. paired l xs) (sym (append-nil (run_cuts run))) ∙ paired-one run.count run.cut [] xs (omega (arith, count)))

pub length-push : (runs more : List Run) (run : Run) (n : ℕ) → more ≡ runs ++ run ∷ [] → length (cuts_of runs) ≡ n → length (cuts_of more) ≡ n + run.count
length-push runs more run n p e =
    ap (λ l. length (cuts_of l)) p ∙ ap length (cuts-push runs run) ∙ length-append (cuts_of runs) (run_cuts run) ∙ (λ i. e i + length-replicate run.count run.cut i)
