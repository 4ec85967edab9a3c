use Rattle.std.proofs.Common.{◌∷◌, codes, arith}
use Rattle.filters.specs.declared.words.Vocabulary.TheVariants.{Known}
use Rattle.command_arguments.specs.Forms.{position_of, window_of}
use Rattle.command_arguments.specs.Readers.{both}
use Rattle.command_arguments.specs.Criteria.{filter_of}
use Rattle.selections.specs.Options.{sort_of, option_of}
use Rattle.selections.specs.Selections.{selection_of, placed_selection_of, sorted_of, with_window, windowed_of}
use Rattle.selections.proofs.LastGroups.{taken, others}
use Rattle.selections.proofs.LastOptions.{before-option, option_words-option}
use Rattle.selections.proofs.selections.options_are_read_from_the_right.Goals as goal

pub returns-clause-window : goal.returns-clause-window
unfolding selection_of
returns-clause-window c test word argument words i =
    with_window (both (sorted_of test (before-option (codes "window") 1 (word ∷ words) argument (omega arith) i)) (option_of window_of (option_words-option (codes "window") 1 (word ∷ words) argument (omega arith) i)))

pub returns-clause-sort : goal.returns-clause-sort
returns-clause-sort c test word argument words i =
    both (filter_of Known test (before-option (codes "sort") 1 (word ∷ words) argument (omega arith) i)) (option_of sort_of (option_words-option (codes "sort") 1 (word ∷ words) argument (omega arith) i))

pub returns-clause-position : goal.returns-clause-position
unfolding selection_of placed_selection_of
returns-clause-position c test word argument words i =
    both (windowed_of test (before-option (codes "position") 1 (word ∷ words) argument (omega arith) i)) (option_of position_of (option_words-option (codes "position") 1 (word ∷ words) argument (omega arith) i))

pub returns-clause-group : goal.returns-clause-group
returns-clause-group c = taken

pub returns-clause-others : goal.returns-clause-others
returns-clause-others c = others
