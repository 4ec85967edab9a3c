-- Steps that found no memory to be read.
use Rattle.std.proofs.Common.{◌≡◌, ℕ, List, ◌++◌, Result, Ok, Err, codes, sym, ap, ◌∙◌}
use Rattle.std.specs.Result.{OnOk, IfOk}
use Rattle.daemon_script.specs.declared.memory.Memory.{Memory}
use Rattle.daemon_script.specs.declared.memory.Memory.TheVariants.{NoneToRead}

-- the line of a step that could not be read is what a line prints that found no memory to be read
pub unread_text : {E : Type 0} (r : Result Memory E) (text : Memory → List ℕ) (old new : List ℕ) → text (NoneToRead 0) ≡ codes "! refused out of memory\n"
    → OnOk r (new ≡ old ++ codes "! refused out of memory\n") → IfOk r (λ m. m ≡ NoneToRead 0) → IfOk r (λ m. new ≡ old ++ text m)
unread_text (Ok m) text old new is shown found = shown ∙ ap (λ (t : List ℕ). old ++ t) (sym is) ∙ ap (λ (m : Memory). old ++ text m) (sym found)
unread_text (Err e) text old new is shown found = tt
