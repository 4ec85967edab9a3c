-- Outputs that commands' images tell are told by traces.
use Rattle.std.proofs.Common.{◌≡◌, ℕ, List, ◌++◌, Option, None, Some, Result, Ok, Err, ap, sym, subst, ◌∙◌}
use Rattle.std.specs.Io.KnownBytes.{Appends}
use Rattle.std.specs.Option.{IfSome}
use Rattle.std.specs.Result.{OnOk, OnErr}
use Rattle.mpd_text.specs.Lines.Cut.{split}
use Rattle.daemon_script.specs.Kinds.{images, traces}
use Rattle.daemon_script.specs.Output.{Run, RunsAreTraced, ending, output_of, WritesOutput, WritesAll, WritesFront}

module _ (law : RunsAreTraced) where
  output_traced : (input : List ℕ) (run : Run) → output_of images input run ≡ output_of traces input run
  unfolding output_of
  output_traced input run = ap (λ (text : List ℕ). text ++ ending (split input).next) (law run).0

  writes_traced : (old new : Option (List ℕ)) (input : List ℕ) → WritesOutput images old new input → WritesOutput traces old new input
  writes_traced old new input (run, are, written) = (run, are, subst (Appends old new) (output_traced input run) written)

  if_some_traced : (unread old new : Option (List ℕ)) → IfSome unread (WritesOutput images old new) → IfSome unread (WritesOutput traces old new)
  if_some_traced None old new written = tt
  if_some_traced (Some input) old new written = writes_traced old new input written

  pub ok_traced : {A E : Type 0} (result : Result A E) (unread old new : Option (List ℕ))
      → OnOk result (IfSome unread (WritesOutput images old new)) → OnOk result (IfSome unread (WritesOutput traces old new))
  ok_traced (Ok x) unread old new written = if_some_traced unread old new written
  ok_traced (Err e) unread old new written = tt

  pub all_traced : (unread left old new : Option (List ℕ)) → WritesAll images unread left old new → WritesAll traces unread left old new
  all_traced unread left old new (read, consumes, written) = (read, consumes, writes_traced old new read written)

  front_traced : (unread left old new : Option (List ℕ)) → WritesFront images unread left old new → WritesFront traces unread left old new
  front_traced unread left old new (read, consumes, run, are, (front, back, whole, written)) =
      (read, consumes, run, are, (front, back, sym (output_traced read run) ∙ whole, written))

  pub err_traced : {A E : Type 0} (result : Result A E) (unread left old new : Option (List ℕ))
      → OnErr result (WritesFront images unread left old new) → OnErr result (WritesFront traces unread left old new)
  err_traced (Ok x) unread left old new written = tt
  err_traced (Err e) unread left old new written = front_traced unread left old new written
