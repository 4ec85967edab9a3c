-- Why a fault of a shelf is answered, told of the state before the call.
use Rattle.std.proofs.Common.{◌≡◌, ◌⊎◌, ℕ, zero, suc, ◌<◌, List, [], ◌∷◌, length, arith, inl, inr, Option, Result, Ok, Err, sym, subst, IsSome}
use Rattle.sqlite.specs.Order.{Row, column}
use Rattle.sqlite.specs.declared.types.Value.TheVariants.{Text}
use Rattle.sqlite.specs.State.{State, HasCleanDisk}
use Rattle.shelf.specs.declared.faults.ShelfFault.{ShelfFault}
use Rattle.shelf.specs.declared.faults.ShelfFault.TheVariants.{NoSuchList, Exists, BadName, NoSticker, NoMemory, StoreFault}
use Rattle.shelf.specs.Maps.{Answers}
use Rattle.shelf_database.specs.Tables.{IsReady, Reads}
use Rattle.shelf_database.specs.Faults.{HasFailed}

-- a failure after a query that showed its rows
pub failed_after : (old mid new : State) → Reads old mid → HasCleanDisk mid → IsReady old → HasFailed mid new → HasFailed old new
failed_after old mid new reads clean ready (inl more) = let low = reads.counts in inl (omega (arith, low, more))
failed_after old mid new reads clean ready (inr (inl shut)) = let opened = (reads.same clean ready).0.is_open in absurd (cc)
failed_after old mid new reads clean ready (inr (inr limited)) = inr (inr (subst IsSome reads.limit limited))

pub refused_so : (X : Type 0) (failed : Type 0) (refusal : Option ShelfFault) (fault : ShelfFault) → (fault ≡ NoMemory) ⊎ (fault ≡ StoreFault) → (fault ≡ StoreFault → failed) → Answers {X = X} failed refusal (Err fault)
refused_so X failed refusal fault (inl is) why = subst (λ f. Answers {X = X} failed refusal (Err f)) (sym is) tt
refused_so X failed refusal fault (inr is) why = subst (λ f. Answers {X = X} failed refusal (Err f)) (sym is) (why is)

pub answers_for : {X : Type 0} (weak failed : Type 0) (refusal : Option ShelfFault) (r : Result X ShelfFault) → (weak → failed) → Answers weak refusal r → Answers failed refusal r
answers_for weak failed refusal (Ok x) why h = h
answers_for weak failed refusal (Err NoSuchList) why h = h
answers_for weak failed refusal (Err Exists) why h = h
answers_for weak failed refusal (Err BadName) why h = h
answers_for weak failed refusal (Err NoSticker) why h = h
answers_for weak failed refusal (Err StoreFault) why h = why h
answers_for weak failed refusal (Err NoMemory) why h = h

-- a column with a text is there
pub within : (row : Row) (at : ℕ) (value : List ℕ) → column row at ≡ Text value → at < length row
within [] at value is = cc
within (v ∷ row) zero value is = omega arith
within (v ∷ row) (suc at) value is = let low = within row at value is in omega (arith, low)
