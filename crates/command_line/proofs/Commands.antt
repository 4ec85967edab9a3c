-- The program of words that nothing refuses.
use Rattle.std.proofs.Common.{◌≡◌, ◌∙◌, ◌||◌, Bool, cond, true, false, refl, sym, ap, subst, inl, inr, List, [], Option, Some, None, is_some, true≢false}
use Rattle.std.specs.Prelude.{IfSome, codes, option_map}
use Rattle.std.specs.Option.{option_map_or}
use Rattle.std.specs.Str.{bytes_eq}
use Rattle.std.proofs.lemmas.Slice.Eq.{bytes_eq-Decides}
use Rattle.clap.specs.Faults.{check_fault, entered_fault, fault_of, is_simple_and_free, level_fault}
use Rattle.clap.specs.Simple.{App, Shape, argument_words, entered, is_simple, label_of, names_of, rows_at, subcommand_of}
use Rattle.clap.specs.Walk.{Row, Text, answers_to, finished, nothing_held, walk, walk_from}
use Rattle.command_line.specs.Arguments.{daemon}
use Rattle.command_line.specs.Known.{HasProgram}
use Rattle.command_line.specs.Programs.{Asks, Says}
use Rattle.command_line.specs.declared.program.Program.{Program}
use Rattle.command_line.proofs.Walks.{IsNotHelp, both_pass, not_none, walk_stops}
use Rattle.command_line.proofs.Rows.{line, sub}
use Rattle.command_line.proofs.Scans.{scan_read}
use Rattle.command_line.proofs.Serves.{serve_read}

-- ---- the command at which a walk stops

help_named : (name : Text) → answers_to name (codes "help", []) ≡ true → bytes_eq name (codes "help") ≡ false → ⊥
help_named name e f =
    let is : codes "help" ≡ name = (bytes_eq-Decides (codes "help") name).0 (go (bytes_eq (codes "help") name) e) in
    true≢false (rw (← is) at f)
  where
    go : (b : Bool) → (b || false) ≡ true → b ≡ true
    go true e = refl
    go false e = e

-- the command that answers to a name, by what each says
abbrev met : Bool → Bool → Bool → Bool → Option Shape
met a b c d = cond a (Some (sub 0)) (cond b (Some (sub 1)) (cond c (Some (sub 2)) (cond d (Some (sub 3)) None)))

at_stop : (stop : Option (Text × List Text)) → IsNotHelp stop → entered_fault line stop ≡ [] → is_some (entered line stop) ≡ true → HasProgram (entered line stop)
at_stop None not_help e there = absurd (true≢false (sym there))
at_stop (Some p) not_help e there =
    go (answers_to p.0 (label_of (sub 0))) (answers_to p.0 (label_of (sub 1))) (answers_to p.0 (label_of (sub 2))) (answers_to p.0 (label_of (sub 3))) refl e there
  where
    go : (a b c d : Bool) → answers_to p.0 (label_of (sub 3)) ≡ d → option_map_or (λ s. level_fault s [] nothing_held p.1 false []) (met a b c d) [] ≡ []
        → is_some (option_map (λ s. rows_at s p.1) (met a b c d)) ≡ true → HasProgram (option_map (λ s. rows_at s p.1) (met a b c d))
    go true b c d is e there = (rows_at (sub 0) p.1, refl, inl (refl, serve_read p.1 e))
    go false true c d is e there = (rows_at (sub 1) p.1, refl, inr (inl (refl, scan_read p.1 e)))
    go false false true d is e there = (rows_at (sub 2) p.1, refl, inr (inr refl))
    go false false false true is e there = absurd (help_named p.0 is not_help)
    go false false false false is e there = absurd (true≢false (sym there))

-- words that nothing refuses have a program
pub program_read : (words : List Text) → fault_of daemon words ≡ [] → HasProgram (subcommand_of daemon words)
program_read words e =
    let after = argument_words daemon words in
    let end = walk line.top.rules (names_of line) nothing_held after in
    let walked_all = both_pass _ _ e in
    let below = both_pass _ _ walked_all.1 in
    let settling = both_pass _ _ below.1 in
    let defaults = both_pass _ _ settling.1 in
    at_stop end.stopped (walk_stops line.top refl (names_of line) (walk_from nothing_held) after tt walked_all.0) below.0
    (there (finished line.top.rules end.held) (is_some (entered line end.stopped)) defaults.1)
  where
    there : (rows : List Row) (b : Bool) → check_fault line.top rows b ≡ [] → b ≡ true
    there rows true e = refl
    there rows false e = absurd (not_none _ _ e)

-- ---- what a parse gave

module _ (a : App) (words : List Text) (met : Option (Text × List Row)) (X : Type 0) (is : a ≡ daemon) (passes : is_simple_and_free a ≡ true → fault_of a words ≡ [])
    (matches : is_simple a ≡ true → X × (met ≡ subcommand_of a words)) where
  pub none_refuses : fault_of daemon words ≡ []
  none_refuses = sym (ap (λ (x : App). fault_of x words) is) ∙ passes (ap is_simple_and_free is)

  met_is : met ≡ subcommand_of daemon words
  met_is = (matches (ap is_simple is)).1 ∙ ap (λ (x : App). subcommand_of x words) is

  pub known : HasProgram met
  known = subst HasProgram (sym met_is) (program_read words none_refuses)

  pub asked : (program : Program) → IfSome met (λ p. Says p program) → Asks words program
  asked program says =
      let read = program_read words none_refuses in
      (read.0, read.1, subst (λ (o : Option (Text × List Row)). IfSome o (λ p. Says p program)) (met_is ∙ read.1) says)
