-- Lines are taken as the parts that they are.
use Rattle.std.proofs.Common.{◌≡◌, ℕ, ◌+◌, ◌<◌, ◌≤◌, List, [], ◌∷◌, ◌++◌, map, flat_map, Option, Some, None, refl, sym, ap, subst, ◌∙◌, append_assoc, append-nil, arith}
use Rattle.std.proofs.lemmas.Bool.{cond-true, cond-false, le-leb, lt-leb}
use Rattle.std.proofs.lemmas.List.Sums.{sum_by-append, sum_by_push}
use Rattle.command_lists.specs.declared.collector.Taken.{Taken}
use Rattle.command_lists.specs.declared.collector.Taken.TheVariants.{Alone, Begun, Collected, TooLarge}
use Rattle.command_lists.specs.declared.list.CommandList.{CommandList}
use Rattle.command_lists.specs.declared.list.ListLine.{ListLine}
use Rattle.command_lists.specs.declared.word.ListWord.{ListWord}
use Rattle.command_lists.specs.declared.word.ListWord.TheVariants.{Begin, End}
use Rattle.command_lists.specs.Lists.{LineData, list_word, kept, line_bytes, list_bytes, begun, with_line, Outcome, outcome_of, outcome_outside, outcome_inside, outcome_with, Outcomes, outcomes_of, outcomes_then}
use Rattle.command_lists.specs.Grammar.{BeginsNone, EndsNone, NoneEnds, Opens, Part, Single, Whole, Dropped, IsPart, IsOpen, begun_with, taken_of, taken_open, PartsAreTaken}
use Rattle.command_lists.proofs.Alone.{words_are_alone}
use Rattle.command_lists.proofs.Outcomes.{any_cut}

-- A line on its own.

alone : (line : LineData) (w : Option ListWord) → list_word line ≡ w → BeginsNone line → outcome_outside w ≡ record { open_list = None; taken = Alone }
alone line (Some (Begin form)) is none = absurd (none form ((words_are_alone line (Begin form)).0 is))
alone line (Some End) is none = refl
alone line None is none = refl

ends_none : (list : CommandList) (line : LineData) (w : Option ListWord) → list_word line ≡ w → EndsNone line → outcome_inside list line w ≡ outcome_with (with_line list line)
ends_none list line (Some (Begin form)) is none = refl
ends_none list line (Some End) is none = absurd (none ((words_are_alone line End).0 is))
ends_none list line None is none = refl

pub list_bytes-push : (list : CommandList) (line : LineData) → list_bytes (with_line list line).lines ≡ list_bytes list.lines + line_bytes (kept line)
list_bytes-push list line = sum_by_push line_bytes list.lines (kept line)

joins : (list : CommandList) (line : LineData) → EndsNone line → list_bytes list.lines + line_bytes (kept line) ≤ 2097152 → outcome_of (Some list) line ≡ record { open_list = Some (with_line list line); taken = Collected }
joins list line none small =
    ends_none list line (list_word line) refl none
    ∙ cond-true _ _ _ (le-leb _ _ (subst (λ (n : ℕ). n ≤ 2097152) (sym (list_bytes-push list line)) small))

drops : (list : CommandList) (line : LineData) → EndsNone line → 2097152 < list_bytes list.lines + line_bytes (kept line) → outcome_of (Some list) line ≡ record { open_list = None; taken = TooLarge }
drops list line none large =
    ends_none list line (list_word line) refl none
    ∙ cond-false _ _ _ (lt-leb _ _ (subst (λ (n : ℕ). 2097152 < n) (sym (list_bytes-push list line)) large))

-- Lines of a list.

abbrev with_lines : CommandList → List LineData → CommandList
with_lines list lines = record { form = list.form; lines = list.lines ++ map kept lines }

abbrev outcomes : Option CommandList → List Taken → Outcomes
outcomes list all = record { open_list = list; taken = all }

lines_join : (list : CommandList) (lines : List LineData) → NoneEnds lines → list_bytes (list.lines ++ map kept lines) ≤ 2097152
    → outcomes_of (Some list) lines ≡ outcomes (Some (with_lines list lines)) (map (λ _. Collected) (map kept lines))
unfolding outcomes_of
lines_join list [] none small = ap (λ (ls : List ListLine). outcomes (Some (record { form = list.form; lines = ls })) []) (sym (append-nil list.lines))
lines_join list (line ∷ lines) none small =
    let whole : (list.lines ++ kept line ∷ []) ++ map kept lines ≡ list.lines ++ kept line ∷ map kept lines = append_assoc list.lines (kept line ∷ []) (map kept lines) in
    let first : list_bytes list.lines + line_bytes (kept line) ≤ 2097152 =
    omega (arith, sum_by-append line_bytes (list.lines ++ kept line ∷ []) (map kept lines), ap list_bytes whole, sum_by_push line_bytes list.lines (kept line), small) in
    ap (λ (o : Outcome). outcomes (outcomes_of o.open_list lines).open_list (o.taken ∷ (outcomes_of o.open_list lines).taken)) (joins list line none.0 first)
    ∙ ap (λ (o : Outcomes). outcomes o.open_list (Collected ∷ o.taken))
    (lines_join (with_line list line) lines none.1 (subst (λ (ls : List ListLine). list_bytes ls ≤ 2097152) (sym whole) small))
    ∙ ap (λ (ls : List ListLine). outcomes (Some (record { form = list.form; lines = ls })) (Collected ∷ map (λ _. Collected) (map kept lines))) whole

opened : (first : LineData) (others : List LineData) (list : CommandList) → Opens first others list → outcomes_of None (first ∷ others) ≡ outcomes (Some list) (begun_with list)
unfolding outcomes_of
opened first others list (word, is, none, small) =
    ap (λ (w : Option ListWord). outcomes (outcomes_of (outcome_outside w).open_list others).open_list ((outcome_outside w).taken ∷ (outcomes_of (outcome_outside w).open_list others).taken)) ((words_are_alone first (Begin list.form)).1 word)
    ∙ ap (λ (o : Outcomes). outcomes o.open_list (Begun ∷ o.taken)) (lines_join (begun list.form) others none (subst (λ (ls : List ListLine). list_bytes ls ≤ 2097152) is small))
    ∙ ap (λ (ls : List ListLine). outcomes (Some (record { form = list.form; lines = ls })) (Begun ∷ map (λ _. Collected) ls)) (sym is)

-- a list, and one line more
opened_then : (first : LineData) (others : List LineData) (last : LineData) (list : CommandList) → Opens first others list
    → outcomes_of None (first ∷ (others ++ last ∷ [])) ≡ outcomes (outcome_of (Some list) last).open_list (begun_with list ++ (outcome_of (Some list) last).taken ∷ [])
unfolding outcomes_of
opened_then first others last list opens = any_cut None (first ∷ others) (last ∷ []) ∙ ap (λ (o : Outcomes). outcomes_then o (last ∷ [])) (opened first others list opens)

part_taken : (lines : List LineData) (part : Part) → IsPart lines part → outcomes_of None lines ≡ outcomes None (taken_of part)
unfolding outcomes_of
part_taken lines Single (line, is, none) =
    ap (λ (ls : List LineData). outcomes_of None ls) is
    ∙ ap (λ (o : Outcome). outcomes o.open_list (o.taken ∷ [])) (alone line (list_word line) refl none)
part_taken lines (Whole list) (first, others, last, is, opens, ends) =
    ap (λ (ls : List LineData). outcomes_of None ls) is
    ∙ opened_then first others last list opens
    ∙ ap (λ (w : Option ListWord). outcomes (outcome_inside list last w).open_list (begun_with list ++ (outcome_inside list last w).taken ∷ [])) ((words_are_alone last End).1 ends)
part_taken lines (Dropped list) (first, others, last, is, opens, none, large) =
    ap (λ (ls : List LineData). outcomes_of None ls) is
    ∙ opened_then first others last list opens
    ∙ ap (λ (o : Outcome). outcomes o.open_list (begun_with list ++ o.taken ∷ [])) (drops list last none large)

open_taken : (lines : List LineData) (list : Option CommandList) → IsOpen lines list → outcomes_of None lines ≡ outcomes list (taken_open list)
unfolding outcomes_of
open_taken lines None is = ap (λ (ls : List LineData). outcomes_of None ls) is
open_taken lines (Some list) (first, others, is, opens) = ap (λ (ls : List LineData). outcomes_of None ls) is ∙ opened first others list opens

pub parts_are_taken : PartsAreTaken
parts_are_taken lines [] list spelled = open_taken lines list spelled
parts_are_taken lines (part ∷ parts) list (front, back, is, first, others) =
    ap (λ (ls : List LineData). outcomes_of None ls) is
    ∙ any_cut None front back
    ∙ ap (λ (o : Outcomes). outcomes_then o back) (part_taken front part first)
    ∙ ap (λ (o : Outcomes). outcomes o.open_list (taken_of part ++ o.taken)) (parts_are_taken back parts list others)
    ∙ ap (λ (all : List Taken). outcomes list all) (sym (append_assoc (taken_of part) (flat_map taken_of parts) (taken_open list)))
