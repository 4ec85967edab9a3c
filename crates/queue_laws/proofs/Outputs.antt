-- Outputs that are turned on and off are shown so.
use Rattle.std.proofs.Common.{◌≡◌, ◌≢◌, inl, inr, ℕ, ◌<◌, ◌==◌, Bool, true, false, not, cond, List, [], ◌∷◌, ◌++◌, length, map, filter, refl, ap, sym, ◌∙◌, subst, arith, append_assoc, codes, decimal, if◌then◌else◌}
use Rattle.std.specs.List.{enumerate_from, flat_map}
use Rattle.std.proofs.lemmas.Bool.{cases_Bool, cases_lt, eqb-true}
use Rattle.std.proofs.lemmas.List.{get_or_past, get_or-set_other, get_or-set_same}
use Rattle.mpd_command.specs.declared.outputs.OutputCommand.{OutputCommand}
use Rattle.mpd_command.specs.declared.outputs.OutputCommand.TheVariants as outputs
use Rattle.mpd_text.specs.Answers.Answer.{pair_line}
use Rattle.player_state.specs.Effects.{part_after}
use Rattle.player_state.specs.Outputs.{OutputsData, has_failed, is_enabled, is_output}
use Rattle.player_state.specs.Outputs.{switched as all_switched}
use Rattle.player_state.specs.declared.effect.CommandEffect.TheVariants.{Switches}
use Rattle.player_state.specs.declared.effect.Effect.TheVariants.{ByCommand}
use Rattle.player_state.specs.declared.state.Part.{Part}
use Rattle.status_commands.specs.Outputs as commands
use Rattle.status_commands.specs.Outputs.{enabled_line, lines_if_here, output_lines, output_name_lines, plugin_line, result_of}
use Rattle.status_commands.specs.Status.{digit}
use Rattle.transitions.specs.CommandResults.{does, shows}
use Rattle.transitions.specs.Transitions.{CommandResult}
use Rattle.transitions.specs.declared.asked.Asked.{Asked}
use Rattle.queue_laws.specs.Options.{switch_text}
use Rattle.queue_laws.specs.Outputs.{KnowsEight, Output, OutputsAreShown, ShowsOutputs, lines_of, output_left, switched}

switch-text : (on : Bool) → decimal (digit on) ≡ switch_text on
switch-text true = refl
switch-text false = refl

-- an output by its row
abbrev shown_row : OutputsData → ℕ × List ℕ → Output
shown_row all row = record { number = row.0; name = row.1; enabled = is_enabled all row.0 }

abbrev shown_rows : OutputsData → List (ℕ × List ℕ) → List Output
shown_rows all rows = map (shown_row all) (filter (λ (row : ℕ × List ℕ). is_output all row.0) rows)

lines-row : (all : OutputsData) (row : ℕ × List ℕ) → output_lines all row ≡ lines_of (shown_row all row)
unfolding output_name_lines plugin_line enabled_line
lines-row all row =
    append_assoc (pair_line (codes "outputid") (decimal row.0)) (pair_line (codes "outputname") row.1)
    (pair_line (codes "plugin") (codes "raw") ++ pair_line (codes "outputenabled") (decimal (digit (is_enabled all row.0))))
    ∙ ap (λ text. pair_line (codes "outputid") (decimal row.0) ++ (pair_line (codes "outputname") row.1 ++ (pair_line (codes "plugin") (codes "raw") ++ pair_line (codes "outputenabled") text)))
    (switch-text (is_enabled all row.0))

first-row : (b : Bool) (all : OutputsData) (row : ℕ × List ℕ) (rest : List (ℕ × List ℕ))
    → (if b then output_lines all row else []) ++ flat_map lines_of (map (shown_row all) rest) ≡ flat_map lines_of (map (shown_row all) (cond b (row ∷ rest) rest))
first-row true all row rest = ap (λ l. l ++ flat_map lines_of (map (shown_row all) rest)) (lines-row all row)
first-row false all row rest = refl

lines-rows : (all : OutputsData) (rows : List (ℕ × List ℕ)) → flat_map (lines_if_here all) rows ≡ flat_map lines_of (shown_rows all rows)
lines-rows all [] = refl
lines-rows all (row ∷ rows) =
    ap (λ l. lines_if_here all row ++ l) (lines-rows all rows) ∙ first-row (is_output all row.0) all row (filter (λ (r : ℕ × List ℕ). is_output all r.0) rows)

rows_of : Part → List (ℕ × List ℕ)
rows_of part = enumerate_from 0 part.outputs.names

shows-outputs : (asked : Asked) (part : Part) → ShowsOutputs asked part (shown_rows part.outputs (rows_of part))
unfolding result_of rows_of
shows-outputs asked part = ap (shows asked) (lines-rows part.outputs (enumerate_from 0 part.outputs.names))

-- an output is turned on or off where it is here
module _ (all : OutputsData) (eight : KnowsEight all) (number : ℕ) (on : Bool) (here : is_output all number ≡ true) where
  low : number < length all.enabled
  low = elim (cases_lt number (length all.here)) [
    | inl l ↦ omega (arith, eight.0, eight.1)
    | inr past ↦ absurd (let none : is_output all number ≡ false = get_or_past all.here number false past in cc)
  ]

  enabled-now : (other : ℕ) → is_enabled (all_switched all number on) other ≡ (if other == number then on else is_enabled all other)
  enabled-now other = elim (cases_Bool (other == number)) [
    | inl t ↦
        let same : other ≡ number = eqb-true other number t in
        ap (λ n. is_enabled (all_switched all number on) n) same ∙ get_or-set_same all.enabled number on false low ∙ ap (λ b. if b then on else is_enabled all other) (sym t)
    | inr f ↦
        let differ : other ≢ number = grind (arith, f) in
        get_or-set_other all.enabled number other on false differ ∙ ap (λ b. if b then on else is_enabled all other) (sym f)
  ]

  -- the output of the number is so, and each other as it was
  row-switched : (row : ℕ × List ℕ) → shown_row (all_switched all number on) row ≡ switched number on (shown_row all row)
  row-switched row = (λ i. record { number = row.0; name = row.1; enabled = enabled-now row.0 i }) ∙ chosen (row.0 == number)
    where
      chosen : (b : Bool) → ◌≡◌ {A = Output} (record { number = row.0; name = row.1; enabled = if b then on else is_enabled all row.0 })
          (if b then record { number = row.0; name = row.1; enabled = on } else shown_row all row)
      chosen true = refl
      chosen false = refl

  rows-switched : (rows : List (ℕ × List ℕ)) → map (shown_row (all_switched all number on)) rows ≡ map (switched number on) (map (shown_row all) rows)
  rows-switched [] = refl
  rows-switched (row ∷ rows) = λ i. row-switched row i ∷ rows-switched rows i

-- a toggle turns the output to the other side
toggled-row : (number : ℕ) (all : OutputsData) (row : ℕ × List ℕ) (b : Bool) → (row.0 == number) ≡ b
    → (if b then record (shown_row all row) { enabled = if is_enabled all number then false else true } else shown_row all row)
    ≡ (if b then record (shown_row all row) { enabled = not (is_enabled all row.0) } else shown_row all row)
toggled-row number all row true h =
    let same : row.0 ≡ number = eqb-true row.0 number h in
    λ i. record (shown_row all row) { enabled = (turned (is_enabled all number) ∙ ap (λ n. not (is_enabled all n)) (sym same)) i }
  where
    turned : (b : Bool) → (if b then false else true) ≡ not b
    turned true = refl
    turned false = refl
toggled-row number all row false h = refl

toggled-rows : (number : ℕ) (all : OutputsData) (rows : List (ℕ × List ℕ))
    → map (switched number (if is_enabled all number then false else true)) (map (shown_row all) rows) ≡ map (output_left (outputs.ToggleOutput number)) (map (shown_row all) rows)
toggled-rows number all [] = refl
toggled-rows number all (row ∷ rows) = λ i. toggled-row number all row (row.0 == number) refl i ∷ toggled-rows number all rows i

kept-rows : (shown : List Output) → shown ≡ map (output_left outputs.Outputs) shown
kept-rows [] = refl
kept-rows (it ∷ more) = ap (λ (l : List Output). it ∷ l) (kept-rows more)

module _ (rate : ℕ) (asked : Asked) (part : Part) (eight : KnowsEight part.outputs) where
  abbrev rows : List (ℕ × List ℕ)
  rows = filter (λ (row : ℕ × List ℕ). is_output part.outputs row.0) (rows_of part)

  -- what is to be shown of a result
  abbrev Good : OutputCommand → CommandResult → Type 0
  Good it result =
      (result.answer.refused ≡ false → (shown : List Output) × ShowsOutputs asked part shown × ShowsOutputs asked (part_after rate part (ByCommand result.effect)) (map (output_left it) shown))
      × (result.answer.refused ≡ true → part_after rate part (ByCommand result.effect) ≡ part)
      × (part_after rate part (ByCommand result.effect) ≡ record part { outputs = (part_after rate part (ByCommand result.effect)).outputs })

  turned : (asking : Asked) (it : OutputCommand) (number : ℕ) (on : Bool) → is_output part.outputs number ≡ true
      → map (switched number on) (map (shown_row part.outputs) rows) ≡ map (output_left it) (map (shown_row part.outputs) rows) → Good it (does asking (Switches number on))
  unfolding rows_of
  turned asking it number on here is =
      let after : Part = record part { outputs = all_switched part.outputs number on } in
      let same : shown_rows after.outputs (rows_of after) ≡ map (output_left it) (shown_rows part.outputs (rows_of part)) = rows-switched part.outputs eight number on here rows ∙ is in
      (λ e. (shown_rows part.outputs (rows_of part), shows-outputs asked part, subst (ShowsOutputs asked after) same (shows-outputs asked after)), λ (e : false ≡ true). cc, refl)

  switch-known : (asking : Asked) (it : OutputCommand) (number : ℕ) (on : Bool) (failed : Bool) → is_output part.outputs number ≡ true
      → map (switched number on) (map (shown_row part.outputs) rows) ≡ map (output_left it) (map (shown_row part.outputs) rows)
      → has_failed part.outputs number ≡ failed → Good it (commands.switch_known asking part number on)
  switch-known asking it number true true here is h = rw h (λ (e : true ≡ false). cc, λ e. refl, refl)
  switch-known asking it number true false here is h = rw h (turned asking it number true here is)
  switch-known asking it number false failed here is h = turned asking it number false here is

  switch-output : (asking : Asked) (it : OutputCommand) (number : ℕ) (on : Bool) (b : Bool) → is_output part.outputs number ≡ b
      → map (switched number on) (map (shown_row part.outputs) rows) ≡ map (output_left it) (map (shown_row part.outputs) rows)
      → Good it (cond b (commands.switch_known asking part number on) (commands.no_such_output asking))
  switch-output asking it number on true here is = switch-known asking it number on (has_failed part.outputs number) here is refl
  switch-output asking it number on false here is = (λ (e : true ≡ false). cc, λ e. refl, refl)

  all-good : (asking : Asked) (it : OutputCommand) → Good it (result_of asking part it)
  unfolding result_of
  all-good asking (outputs.DisableOutput number) = switch-output asking (outputs.DisableOutput number) number false (is_output part.outputs number) refl refl
  all-good asking (outputs.EnableOutput number) = switch-output asking (outputs.EnableOutput number) number true (is_output part.outputs number) refl refl
  all-good asking outputs.Outputs = (
    λ e. (shown_rows part.outputs (rows_of part), shows-outputs asked part, subst (ShowsOutputs asked part) (kept-rows (shown_rows part.outputs (rows_of part))) (shows-outputs asked part)),
    λ (e : false ≡ true). cc,
    refl,
  )
  all-good asking (outputs.ToggleOutput number) =
      switch-output asking (outputs.ToggleOutput number) number (if is_enabled part.outputs number then false else true) (is_output part.outputs number) refl (toggled-rows number part.outputs rows)

pub outputs_are_shown : OutputsAreShown
outputs_are_shown rate asking asked part it eight =
    let good = all-good rate asked part eight asking it in
    record { done = good.0; refused = good.1; rest = good.2 }
