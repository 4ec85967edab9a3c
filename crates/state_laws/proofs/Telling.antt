-- Lines that are told one by one lead the player of one thread as all of them do.
use Rattle.std.proofs.Common.{◌≡◌, ◌∙◌, ℕ, List, [], ◌∷◌, map, sym, ap, inl, inr}
use Rattle.kept_state.specs.Lines.{Line}
use Rattle.kept_state.specs.Telling.{TellsStep, TellsSteps}
use Rattle.partition.specs.Image.{Image}
use Rattle.state_laws.specs.Bytes.{bytes_of, read_bytes}
use Rattle.state_laws.specs.Partitions.{after_all, after_lines}
use Rattle.state_laws.specs.Saying.{after_step, after_steps}
use Rattle.state_laws.specs.Telling.{PlayerHears, StepsAreTold}

step_told : (seat number refused : ℕ) (lines : List Line) (before after : Image)
    → TellsStep (PlayerHears seat number) (map bytes_of lines) before refused after → after ≡ after_step seat number read_bytes lines before
step_told seat number refused [] before after (none, same) = same
step_told seat number refused (line ∷ more) before after (inl (hears, one)) =
    rw (sym hears.refused_as) hears.after_as
step_told seat number refused (line ∷ more) before after (inr (next, hears, others)) =
    rw (sym hears.refused_as)
    (step_told seat number refused more next after others ∙ ap (after_step seat number read_bytes more) hears.after_as)

pub steps_told : StepsAreTold
steps_told seat number refused [] before after (none, same) = same
steps_told seat number refused (step ∷ steps) before after (next, of_step, of_others, told, others, sum) =
    steps_told seat number of_others steps next after others
    ∙ ap (after_steps seat number read_bytes steps) (step_told seat number of_step step before next told)

-- the same by the bytes of lines
lines_told : (seat number refused : ℕ) (lines : List (List ℕ)) (before after : Image)
    → TellsStep (PlayerHears seat number) lines before refused after → after ≡ after_lines seat number lines before
lines_told seat number refused [] before after (none, same) = same
lines_told seat number refused (line ∷ more) before after (inl (hears, one)) = rw (sym hears.refused_as) hears.after_as
lines_told seat number refused (line ∷ more) before after (inr (next, hears, others)) =
    rw (sym hears.refused_as) (lines_told seat number refused more next after others ∙ ap (after_lines seat number more) hears.after_as)

pub all_told : (seat number refused : ℕ) (steps : List (List (List ℕ))) (before after : Image)
    → TellsSteps (PlayerHears seat number) steps before refused after → after ≡ after_all seat number steps before
all_told seat number refused [] before after (none, same) = same
all_told seat number refused (lines ∷ steps) before after (next, of_step, of_others, told, others, sum) =
    all_told seat number of_others steps next after others ∙ ap (after_all seat number steps) (lines_told seat number of_step lines before next told)
