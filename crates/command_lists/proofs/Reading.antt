-- Any lines are some parts, and then what is open.
use Rattle.std.proofs.Common.{◌≡◌, ◌≢◌, ℕ, ◌+◌, ◌<◌, ◌≤◌, List, [], ◌∷◌, ◌++◌, Option, Some, None, refl, sym, ap, subst, ◌∙◌, inl, inr, append_assoc, append-nil, arith}
use Rattle.std.proofs.lemmas.Bool.{cases_lt}
use Rattle.std.proofs.lemmas.List.{map-append}
use Rattle.command_lists.specs.declared.list.CommandList.{CommandList}
use Rattle.command_lists.specs.declared.list.ListLine.{ListLine}
use Rattle.command_lists.specs.declared.word.ListForm.{ListForm}
use Rattle.command_lists.specs.declared.word.ListWord.{ListWord}
use Rattle.command_lists.specs.declared.word.ListWord.TheVariants.{Begin, End}
use Rattle.command_lists.specs.Lists.{LineData, list_word, kept, line_bytes, list_bytes, begun, with_line}
use Rattle.command_lists.specs.Grammar.{IsWord, BeginsNone, EndsNone, NoneEnds, Opens, Part, Single, Whole, Dropped, Spells, LinesAreParts}
use Rattle.command_lists.proofs.Alone.{words_are_alone}
use Rattle.command_lists.proofs.Taking.{list_bytes-push}

abbrev IsRead : List LineData → Type 0
IsRead lines = (parts : List Part) × (list : Option CommandList) × Spells lines parts list

-- whatever list these lines are the rest of, they are read with what has come of it
abbrev GoesOn : List LineData → Type 0
GoesOn lines = (first : LineData) (others : List LineData) (list : CommandList) → Opens first others list → IsRead (first ∷ (others ++ lines))

not_begun : (line : LineData) (w : Option ListWord) → list_word line ≡ w → ((form : ListForm) → w ≢ Some (Begin form)) → BeginsNone line
not_begun line w is other form word = other form (sym is ∙ (words_are_alone line (Begin form)).1 word)

not_ended : (line : LineData) (w : Option ListWord) → list_word line ≡ w → w ≢ Some End → EndsNone line
not_ended line w is other word = other (sym is ∙ (words_are_alone line End).1 word)

alone_first : (line : LineData) (lines : List LineData) → BeginsNone line → IsRead lines → IsRead (line ∷ lines)
alone_first line lines none (parts, list, spelled) = (Single ∷ parts, list, (line ∷ [], lines, refl, (line, refl, none), spelled))

read_outside : (line : LineData) (lines : List LineData) (w : Option ListWord) → list_word line ≡ w → IsRead lines → GoesOn lines → IsRead (line ∷ lines)
read_outside line lines (Some (Begin form)) is read on = on line [] (begun form) ((words_are_alone line (Begin form)).0 is, refl, tt, omega arith)
read_outside line lines (Some End) is read on = alone_first line lines (not_begun line (Some End) is (λ form e. absurd cc)) read
read_outside line lines None is read on = alone_first line lines (not_begun line None is (λ form e. absurd cc)) read

NoneEnds-push : (lines : List LineData) (line : LineData) → NoneEnds lines → EndsNone line → NoneEnds (lines ++ line ∷ [])
NoneEnds-push [] line none last = (last, tt)
NoneEnds-push (l ∷ ls) line none last = (none.0, NoneEnds-push ls line none.1 last)

-- the lines of a part, and the lines after them
cut_after : (first : LineData) (others : List LineData) (last : LineData) (lines : List LineData) → first ∷ (others ++ last ∷ lines) ≡ (first ∷ (others ++ last ∷ [])) ++ lines
cut_after first others last lines = ap (λ (ls : List LineData). first ∷ ls) (sym (append_assoc others (last ∷ []) lines))

module _ (first : LineData) (others : List LineData) (list : CommandList) (opens : Opens first others list) (line : LineData) (lines : List LineData) where
  ended : IsWord line End → IsRead lines → IsRead (first ∷ (others ++ line ∷ lines))
  ended word (parts, rest, spelled) =
      (Whole list ∷ parts, rest, (first ∷ (others ++ line ∷ []), lines, cut_after first others line lines, (first, others, line, refl, opens, word), spelled))

  dropped : EndsNone line → 2097152 < list_bytes list.lines + line_bytes (kept line) → IsRead lines → IsRead (first ∷ (others ++ line ∷ lines))
  dropped none large (parts, rest, spelled) =
      (Dropped list ∷ parts, rest, (first ∷ (others ++ line ∷ []), lines, cut_after first others line lines, (first, others, line, refl, opens, none, large), spelled))

  joined : EndsNone line → list_bytes list.lines + line_bytes (kept line) ≤ 2097152 → GoesOn lines → IsRead (first ∷ (others ++ line ∷ lines))
  joined none small on =
      subst IsRead (sym (cut_after first others line lines))
      (on first (others ++ line ∷ []) (with_line list line) (
        opens.0,
        ap (λ (ls : List ListLine). ls ++ kept line ∷ []) opens.1 ∙ sym (map-append kept others (line ∷ [])),
        NoneEnds-push others line opens.2 none,
        subst (λ (n : ℕ). n ≤ 2097152) (sym (list_bytes-push list line)) small,
      ))

  not_end : EndsNone line → IsRead lines → GoesOn lines → IsRead (first ∷ (others ++ line ∷ lines))
  not_end none read on =
      elim (cases_lt 2097152 (list_bytes list.lines + line_bytes (kept line))) [
        | inl large ↦ dropped none large read
        | inr small ↦ joined none small on
      ]

  read_inside : (w : Option ListWord) → list_word line ≡ w → IsRead lines → GoesOn lines → IsRead (first ∷ (others ++ line ∷ lines))
  read_inside (Some (Begin form)) is read on = not_end (not_ended line (Some (Begin form)) is (λ e. absurd cc)) read on
  read_inside (Some End) is read on = ended ((words_are_alone line End).0 is) read
  read_inside None is read on = not_end (not_ended line None is (λ e. absurd cc)) read on

read_both : (lines : List LineData) → IsRead lines × GoesOn lines
read_both [] = (([], None, refl), λ first others list opens. ([], Some list, (first, others, ap (λ (ls : List LineData). first ∷ ls) (append-nil others), opens)))
read_both (line ∷ lines) =
    let both = read_both lines in
    (read_outside line lines (list_word line) refl both.0 both.1, λ first others list opens. read_inside first others list opens line lines (list_word line) refl both.0 both.1)

pub lines_are_parts : LinesAreParts
lines_are_parts lines = (read_both lines).0
