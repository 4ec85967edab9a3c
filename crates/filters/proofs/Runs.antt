-- Steps of a run over a text.
use Rattle.std.proofs.Common.{◌≡◌, ℕ, ◌+◌, ◌<◌, List, [], ◌∷◌, length, get_or, drop, Result, Ok, Err, true, refl, ap, sym, ◌∙◌, arith}
use Rattle.std.proofs.lemmas.List.{drop_more, drop_all}
use Rattle.filters.specs.declared.words.Vocabulary.{Vocabulary}
use Rattle.filters.specs.declared.state.Stop.{Stop}
use Rattle.filters.specs.declared.state.Stop.TheVariants.{Syntax, UnknownTag, TooDeep, NoMemory}
use Rattle.filters.specs.declared.state.Purpose.{Purpose}
use Rattle.filters.specs.declared.state.State.{State}
use Rattle.filters.specs.declared.reading.FilterFault.{FilterFault}
use Rattle.filters.specs.Expressions.{Expression}
use Rattle.filters.specs.Machine.{run, step, ending, fault_at, Reads, Steps}

-- with this vocabulary
module _ (vocabulary : Vocabulary) where
  at_byte : (n : ℕ) (state : State) (purposes : List Purpose) (b : ℕ) (bs : List ℕ) (next : State) (more : List Purpose) → step vocabulary true state purposes b ≡ Ok (next, more)
      → run vocabulary true n state purposes (b ∷ bs) ≡ run vocabulary true (n + 1) next more bs
  unfolding run
  at_byte n state purposes b bs next more e = rw e refl

  stops : (n : ℕ) (state : State) (purposes : List Purpose) (b : ℕ) (bs : List ℕ) (stop : Stop) → step vocabulary true state purposes b ≡ Err stop
      → run vocabulary true n state purposes (b ∷ bs) ≡ Err (fault_at n stop)
  unfolding run
  stops n state purposes b bs stop e = rw e refl

  at_end : (n : ℕ) (state : State) (purposes : List Purpose) → run vocabulary true n state purposes [] ≡ ending vocabulary n state
  unfolding run
  at_end n state purposes = refl

  pub next_byte : (text : List ℕ) (i : ℕ) (state : State) (purposes : List Purpose) (next : State) (more : List Purpose) (whole : Result Expression FilterFault) → i < length text
      → step vocabulary true state purposes (get_or text i 0) ≡ Ok (next, more) → run vocabulary true i state purposes (drop i text) ≡ whole → run vocabulary true (i + 1) next more (drop (i + 1) text) ≡ whole
  next_byte text i state purposes next more whole l e h =
      sym (at_byte i state purposes (get_or text i 0) (drop (i + 1) text) next more e) ∙ ap (run vocabulary true i state purposes) (sym (drop_more text i 0 l)) ∙ h

  pub stopped : (text : List ℕ) (i : ℕ) (state : State) (purposes more : List Purpose) (stop : Stop) (whole : Result Expression FilterFault) → i < length text
      → Steps (Err stop) more (step vocabulary true state purposes (get_or text i 0)) → run vocabulary true i state purposes (drop i text) ≡ whole → Reads (Err (fault_at i stop)) whole
  stopped text i state purposes more Syntax whole l e h = sym h ∙ ap (run vocabulary true i state purposes) (drop_more text i 0 l) ∙ stops i state purposes (get_or text i 0) (drop (i + 1) text) Syntax e
  stopped text i state purposes more (UnknownTag word) whole l e h = sym h ∙ ap (run vocabulary true i state purposes) (drop_more text i 0 l) ∙ stops i state purposes (get_or text i 0) (drop (i + 1) text) (UnknownTag word) e
  stopped text i state purposes more TooDeep whole l e h = sym h ∙ ap (run vocabulary true i state purposes) (drop_more text i 0 l) ∙ stops i state purposes (get_or text i 0) (drop (i + 1) text) TooDeep e
  stopped text i state purposes more NoMemory whole l e h = tt

  pub ended : (text : List ℕ) (state : State) (purposes : List Purpose) (whole : Result Expression FilterFault) → run vocabulary true (length text) state purposes (drop (length text) text) ≡ whole → ending vocabulary (length text) state ≡ whole
  ended text state purposes whole h = sym (at_end (length text) state purposes) ∙ ap (run vocabulary true (length text) state purposes) (sym (drop_all (length text) text (omega arith))) ∙ h
