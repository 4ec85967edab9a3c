-- What was read of words that nothing refuses: a daemon has its file of settings.
use Rattle.std.proofs.Common.{◌≡◌, ◌∙◌, ◌++◌, ℕ, Bool, cond, true, false, refl, sym, ap, subst, inl, inr, List, [], ◌∷◌, length, None, Some, true≢false}
use Rattle.std.specs.Prelude.{codes, get_or}
use Rattle.std.specs.Str.{bytes_eq}
use Rattle.std.proofs.lemmas.Slice.Eq.{bytes_eq-Decides}
use Rattle.clap.specs.Kinds.{range_kinds}
use Rattle.clap.specs.Faults.{check_fault, level_fault, use_fault}
use Rattle.clap.specs.Simple.{Shape}
use Rattle.clap.specs.Takes.{is_given}
use Rattle.clap.specs.Walk.{Row, Rule, Text, finished, has_row, more_values, nothing_held, reading_by, rows_after, settled, stronger, used, values_or_missing, walk, walk_from, with_default, with_values, without}
use Rattle.clap.specs.declared.builder.value_parser.Reading.{Reading}
use Rattle.clap.specs.declared.parser.matches.ValueSource.{ValueSource}
use Rattle.clap.specs.declared.parser.matches.ValueSource.TheVariants.{CommandLine, DefaultValue}
use Rattle.command_line.specs.Arguments.{config}
use Rattle.command_line.specs.Known.{HasServe}
use Rattle.command_line.proofs.Walks.{IsIn, both_pass, not_none, settled_keeps, walk_keeps}
use Rattle.command_line.proofs.Rows.{sub, Each, IsThere, at_row_keeps, IsThere_more, one_value, first_row, same_both, given_row, any_value}

-- the command as it is built
abbrev serve : Shape
serve = sub 0

abbrev rule_at : ℕ → Rule
rule_at i = get_or serve.rules i config

-- a row of `config` has a value
abbrev HasFile : Row → Type 0
HasFile r = bytes_eq r.id (codes "config") ≡ true → IsThere r.values

-- ---- one use

config_put : (source : ValueSource) (how : Reading) (v : Text) (rows : List Row) → Each HasFile rows
    → Each HasFile (with_values (codes "config") how source (v ∷ []) rows)
config_put source how v rows each =
    at_row_keeps HasFile (codes "config") (more_values source (v ∷ [])) (first_row (codes "config") how source v ∷ []) rows each more first
  where
    more : (r : Row) → bytes_eq r.id (codes "config") ≡ true → HasFile r → Each HasFile (more_values source (v ∷ []) r)
    more r is there =
        let changed : HasFile (record r { values = r.values ++ v ∷ []; source = Some (stronger r.source source) }) = λ e. IsThere_more r.values (v ∷ []) (there is) in
        (changed, tt)

    first : Each HasFile (first_row (codes "config") how source v ∷ [])
    first = let new : HasFile (first_row (codes "config") how source v) = λ e. tt in (new, tt)

taken_out : (id : Text) (rows : List Row) → Each HasFile rows → Each HasFile (without id rows)
taken_out id rows each = at_row_keeps HasFile id (λ _. []) [] rows each (λ r is there. tt) tt

config_used : (values : List Text) (rows : List Row) → Each HasFile rows → use_fault false (rule_at 0) values rows ≡ []
    → Each HasFile (used (rule_at 0) values rows)
config_used values rows each e =
    let parts = both_pass (range_kinds 1 1 (length values)) _ e in
    let one = one_value values parts.0 in
    rw one.1 (config_put CommandLine (reading_by (rule_at 0)) one.0 (without (codes "config") rows) (taken_out (codes "config") rows each))

-- ---- a use of the flag, and its default

not_config : (id : Text) → bytes_eq id (codes "check") ≡ true → bytes_eq id (codes "config") ≡ true → ⊥
not_config id e f = let is : id ≡ codes "check" = (bytes_eq-Decides id (codes "check")).0 e in true≢false (sym (rw is at f))

check_put : (source : ValueSource) (how : Reading) (vs : List Text) (rows : List Row) → Each HasFile rows
    → Each HasFile (with_values (codes "check") how source vs rows)
check_put source how vs rows each =
    at_row_keeps HasFile (codes "check") (more_values source vs) (flag_row ∷ []) rows each more first
  where
    flag_row : Row
    flag_row = record { id = codes "check"; values = vs; count = None; source = Some source; reading = how }

    more : (r : Row) → bytes_eq r.id (codes "check") ≡ true → HasFile r → Each HasFile (more_values source vs r)
    more r is there =
        let changed : HasFile (record r { values = r.values ++ vs; source = Some (stronger r.source source) }) = λ e. absurd (not_config r.id is e) in
        (changed, tt)

    first : Each HasFile (flag_row ∷ [])
    first = let new : HasFile flag_row = λ e. absurd (true≢false (sym e)) in (new, tt)

check_used : (values : List Text) (rows : List Row) → Each HasFile rows → Each HasFile (used (rule_at 1) values rows)
check_used values rows each =
    check_put CommandLine (reading_by (rule_at 1)) (values_or_missing (rule_at 1) values) (without (codes "check") rows) (taken_out (codes "check") rows each)

check_ended : (rows : List Row) → Each HasFile rows → Each HasFile (with_default rows (rule_at 1))
check_ended rows each = go (has_row (codes "check") rows)
  where
    go : (b : Bool) → Each HasFile (cond b rows (with_values (codes "check") (reading_by (rule_at 1)) DefaultValue (codes "false" ∷ []) rows))
    go true = each
    go false = check_put DefaultValue (reading_by (rule_at 1)) (codes "false" ∷ []) rows each

keeps : (a : Rule) → IsIn a serve.rules → (values : List Text) (rows : List Row) → Each HasFile rows → use_fault serve.args_override_self a values rows ≡ []
    → Each HasFile (used a values rows)
keeps a (inl is) values rows each e =
    subst (λ (x : Rule). use_fault false x values rows ≡ [] → Each HasFile (used x values rows)) is (config_used values rows each) e
keeps a (inr (inl is)) values rows each e =
    subst (λ (x : Rule). use_fault false x values rows ≡ [] → Each HasFile (used x values rows)) is (λ _. check_used values rows each) e
keeps a (inr (inr (inl is))) values rows each e =
    subst (λ (x : Rule). use_fault false x values rows ≡ [] → Each HasFile (used x values rows)) is (λ _. each) e
keeps a (inr (inr (inr none))) values rows each e = absurd none

-- ---- the rows at the end

config_given : (rows : List Row) → check_fault serve rows false ≡ [] → is_given (codes "config") rows ≡ true
config_given rows e = go (is_given (codes "config") rows) refl
  where
    go : (b : Bool) → is_given (codes "config") rows ≡ b → is_given (codes "config") rows ≡ true
    go true is = is
    go false is = absurd (not_none _ _ (rw is at e))

has_serve : (rows : List Row) → Each HasFile rows → check_fault serve rows false ≡ [] → HasServe rows
has_serve rows each checked =
    let row = given_row HasFile (codes "config") rows each (config_given rows checked) in
    let file = any_value row.0.values (row.3 row.2) in
    record { file = file.0; is = rw (row.1, file.1) refl }

pub serve_read : (words : List Text) → level_fault serve [] nothing_held words false [] ≡ [] → HasServe (rows_after serve.rules [] words)
serve_read words e =
    let end = (walk serve.rules [] nothing_held words).held in
    let walked_all = both_pass _ _ e in
    let settling = both_pass _ _ walked_all.1 in
    let defaults = both_pass _ _ settling.1 in
    let rows = (settled serve.rules end).rows in
    let kept : Each HasFile rows = settled_keeps serve (Each HasFile) keeps end (walk_keeps serve (Each HasFile) keeps [] (walk_from nothing_held) words tt walked_all.0) settling.0 in
    let ended : List Row = with_default (with_default rows (rule_at 0)) (rule_at 1) in
    let same : finished serve.rules end ≡ with_default rows (rule_at 1) =
    same_both (has_row (rule_at 2).id ended) ended
    ∙ ap (λ (rs : List Row). with_default rs (rule_at 1)) (same_both (has_row (rule_at 0).id rows) rows) in
    subst HasServe (sym same) (has_serve (with_default rows (rule_at 1)) (check_ended rows kept) (subst (λ rs. check_fault serve rs false ≡ []) same defaults.1))
