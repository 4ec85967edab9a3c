-- Statements that are executed inside a transaction, one after another.
use Rattle.std.proofs.Common.{inl, inr, ℕ, List, [], ◌∷◌, ◌++◌, Ok, Err, Result, refl, sym, subst, IsTrue}
use Rattle.sqlite.specs.declared.error.Error.{Error}
use Rattle.sqlite.specs.Store.{Ghosts}
use Rattle.sqlite.specs.Held.{Held, state}
use Rattle.sqlite.specs.State.{HasCleanDisk, ExecutesInside}
use Rattle.shelf_database.specs.Opens.{StopsAmong, ExecutesEach, RunInside}

module _ {S : Type 0} (g : Ghosts S) where
  -- the transaction is open still
  pub inside_still : (texts : List (List ℕ)) (old new : Held S) → IsTrue old.in_transaction → ExecutesEach g texts old new → IsTrue new.in_transaction
  inside_still [] old new inside same = subst (λ (h : Held S). IsTrue h.in_transaction) (sym same) inside
  inside_still (text ∷ more) old new inside h = inside_still more h.0 new h.2.1.mode h.3

  pub each_then : (texts more : List (List ℕ)) (old mid new : Held S) → ExecutesEach g texts old mid → ExecutesEach g more mid new → ExecutesEach g (texts ++ more) old new
  each_then [] more old mid new same second = subst (λ h. ExecutesEach g more h new) same second
  each_then (text ∷ texts) more old mid new h second = (h.0, h.1, h.2, each_then texts more h.0 mid new h.3 second)

  pub each_stops : (texts more : List (List ℕ)) (old mid new : Held S) (e : Error) → ExecutesEach g texts old mid → StopsAmong g more mid new e → StopsAmong g (texts ++ more) old new e
  each_stops [] more old mid new e same second = subst (λ h. StopsAmong g more h new e) same second
  each_stops (text ∷ texts) more old mid new e h second = inr (h.0, h.1, h.2, each_stops texts more h.0 mid new e h.3 second)

  pub stops_first : (texts more : List (List ℕ)) (old new : Held S) (e : Error) → StopsAmong g texts old new e → StopsAmong g (texts ++ more) old new e
  stops_first [] more old new e h = absurd h
  stops_first (text ∷ texts) more old new e (inl stopped) = inl stopped
  stops_first (text ∷ texts) more old new e (inr h) = inr (h.0, h.1, h.2, stops_first texts more h.0 new e h.3)

  -- one statement
  pub each_one : (text : List ℕ) (old new : Held S) (count : ℕ) → ExecutesInside 0 text [] (state g old) (state g new) (Ok count) → ExecutesEach g (text ∷ []) old new
  each_one text old new count h = (new, count, h, refl)

  -- they are executed, and then others, up to an error
  pub run_then : {X : Type 0} (texts more : List (List ℕ)) (old mid new : Held S) (r : Result X Error) → (HasCleanDisk (state g new) → HasCleanDisk (state g mid)) → (HasCleanDisk (state g mid) → IsTrue old.in_transaction → ExecutesEach g texts old mid)
      → RunInside g mid new more r → RunInside g old new (texts ++ more) r
  run_then texts more old mid new (Ok x) sooner first second = λ clean inside.
      let one = first (sooner clean) inside in each_then texts more old mid new one (second clean (inside_still texts old mid inside one))
  run_then texts more old mid new (Err e) sooner first second = λ clean inside.
      let one = first (sooner clean) inside in each_stops texts more old mid new e one (second clean (inside_still texts old mid inside one))
