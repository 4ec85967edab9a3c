-- What lines ask for, of whole lists of them.
use Rattle.std.proofs.Common.{◌≡◌, List, [], ◌∷◌, ◌++◌, Option, None, Some, map, refl, sym, ap, ◌∙◌, append-nil}
use Rattle.std.specs.Prelude.{if◌then◌else◌}
use Rattle.command_lists.specs.declared.collector.Taken.{Taken}
use Rattle.command_lists.specs.declared.collector.Taken.TheVariants.{Alone, Begun, Collected, Ended, TooLarge}
use Rattle.command_lists.specs.declared.list.CommandList.{CommandList}
use Rattle.command_lists.specs.declared.list.ListLine.{ListLine}
use Rattle.command_lists.specs.Grammar.{IsPart, Part, Single as OnePart, Whole as WholePart, Dropped, PartsAreTaken, begun_with, taken_of}
use Rattle.command_lists.specs.Lists.{LineData, Outcomes, is_too_large, kept, outcome_of, outcomes_of}
use Rattle.mpd_session.specs.Requests.{AskFor, Asking, Single, Whole, ListState, Within, Over, Gathered, Spells, IsLeft, completes, gather, onto, state_of, then_gather}
use Rattle.mpd_session.proofs.Gathers.{gather_append, none_behind}

abbrev adds : LineData → Taken → Gathered → Gathered
adds line taken g = if is_too_large taken then record { asked = []; list = Over } else onto (completes taken (Some line)) g

-- what lines ask for that were taken as these
abbrev all_taken : List LineData → Option CommandList → List Taken → Gathered
all_taken [] list taken = record { asked = []; list = Within list }
all_taken (line ∷ lines) list [] = record { asked = []; list = Within list }
all_taken (line ∷ lines) list (one ∷ taken) = adds line one (all_taken lines list taken)

behind : (one : Taken) (list : Option CommandList) (line : LineData) (lines : List LineData) (g : Gathered) → gather (Within list) lines ≡ g
    → onto (completes one (Some line)) (gather (state_of (is_too_large one) list) lines) ≡ adds line one g
behind Alone list line lines g is = ap (λ (x : Gathered). onto (Single line ∷ []) x) is
behind Begun list line lines g is = ap (λ (x : Gathered). onto [] x) is
behind Collected list line lines g is = ap (λ (x : Gathered). onto [] x) is
behind (Ended whole) list line lines g is = ap (λ (x : Gathered). onto (Whole whole ∷ []) x) is
behind TooLarge list line lines g is = none_behind lines

gathers : (list : Option CommandList) (lines : List LineData) → gather (Within list) lines ≡ all_taken lines (outcomes_of list lines).open_list (outcomes_of list lines).taken
unfolding gather outcomes_of
gathers list [] = refl
gathers list (line ∷ lines) =
    behind (outcome_of list line).taken (outcome_of list line).open_list line lines _ (gathers (outcome_of list line).open_list lines)

gathers_as : (lines : List LineData) (list : Option CommandList) (taken : List Taken) → outcomes_of None lines ≡ record { open_list = list; taken = taken } → gather (Within None) lines ≡ all_taken lines list taken
gathers_as lines list taken is = gathers None lines ∙ ap (λ (o : Outcomes). all_taken lines o.open_list o.taken) is

collected : (lines : List LineData) (list : Option CommandList) (more : List ListLine) → all_taken lines list (map (λ _. Collected) more) ≡ record { asked = []; list = Within list }
collected [] list more = refl
collected (line ∷ lines) list [] = refl
collected (line ∷ lines) list (one ∷ more) = ap (λ (g : Gathered). onto [] g) (collected lines list more)

ended : (others : List LineData) (last : LineData) (list : Option CommandList) (one : Taken) → all_taken (others ++ last ∷ []) list (map (λ _. Collected) (map kept others) ++ one ∷ []) ≡ adds last one (record { asked = []; list = Within list })
ended [] last list one = refl
ended (line ∷ others) last list one = ap (λ (g : Gathered). onto [] g) (ended others last list one)

closed : (first : LineData) (others : List LineData) (last : LineData) (whole : CommandList) (one : Taken) → whole.lines ≡ map kept others
    → all_taken (first ∷ (others ++ last ∷ [])) None (begun_with whole ++ one ∷ []) ≡ adds last one (record { asked = []; list = Within None })
closed first others last whole one is =
    ap (λ (ls : List ListLine). onto [] (all_taken (others ++ last ∷ []) None (map (λ _. Collected) ls ++ one ∷ []))) is
    ∙ ap (λ (g : Gathered). onto [] g) (ended others last None one)

module _ (law : PartsAreTaken) where
  part_taken : (lines : List LineData) (part : Part) → IsPart lines part → gather (Within None) lines ≡ all_taken lines None (taken_of part)
  part_taken lines part is =
      gathers_as lines None _ (law lines (part ∷ []) None (lines, [], sym (append-nil lines), is, refl))
      ∙ ap (λ (ts : List Taken). all_taken lines None ts) (append-nil (taken_of part ++ []) ∙ append-nil (taken_of part))

  spelled : (lines : List LineData) (one : Asking) → Spells lines one → gather (Within None) lines ≡ record { asked = one ∷ []; list = Within None }
  spelled lines (Single line) (is, alone) =
      part_taken lines OnePart (line, is, alone) ∙ ap (λ (ls : List LineData). all_taken ls None (Alone ∷ [])) is
  spelled lines (Whole list) (first, others, last, is, opens, ends) =
      part_taken lines (WholePart list) (first, others, last, is, opens, ends)
      ∙ ap (λ (ls : List LineData). all_taken ls None (begun_with list ++ Ended list ∷ [])) is
      ∙ closed first others last list (Ended list) opens.1

  left : (lines : List LineData) (state : ListState) → IsLeft lines state → gather (Within None) lines ≡ record { asked = []; list = state }
  left lines (Within None) is = gathers_as lines None [] (law lines [] None is) ∙ ap (λ (ls : List LineData). all_taken ls None []) is
  left lines (Within (Some list)) (first, others, is, opens) =
      gathers_as lines (Some list) (begun_with list) (law lines [] (Some list) (first, others, is, opens))
      ∙ ap (λ (ls : List LineData). all_taken ls (Some list) (begun_with list)) is
      ∙ ap (λ (g : Gathered). onto [] g) (collected others (Some list) list.lines)
  left lines Over (front, more, list, is, (first, others, last, front_is, opens, goes, large)) =
      ap (λ (ls : List LineData). gather (Within None) ls) is
      ∙ gather_append (Within None) front more
      ∙ ap (λ (g : Gathered). then_gather g more)
      (part_taken front (Dropped list) (first, others, last, front_is, opens, goes, large)
      ∙ ap (λ (ls : List LineData). all_taken ls None (begun_with list ++ TooLarge ∷ [])) front_is
      ∙ closed first others last list TooLarge opens.1)
      ∙ ap (λ (g : Gathered). onto [] g) (none_behind more)

  pub asks : (lines : List LineData) (asked : List Asking) (state : ListState) → AskFor lines asked state → gather (Within None) lines ≡ record { asked = asked; list = state }
  asks lines [] state is = left lines state is
  asks lines (one ∷ more) state (front, back, is, first, others) =
      ap (λ (ls : List LineData). gather (Within None) ls) is
      ∙ gather_append (Within None) front back
      ∙ ap (λ (g : Gathered). then_gather g back) (spelled front one first)
      ∙ ap (λ (g : Gathered). onto (one ∷ []) g) (asks back more state others)
