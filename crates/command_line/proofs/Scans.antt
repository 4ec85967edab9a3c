-- What was read of words that nothing refuses: a scan has its rate and its folder.
use Rattle.std.proofs.Common.{◌≡◌, ◌∙◌, ◌||◌, ◌++◌, ℕ, Bool, cond, true, false, refl, sym, subst, inl, inr, List, [], ◌∷◌, length, None, Some, true≢false}
use Rattle.std.specs.Prelude.{⊤, codes, pos, slice_get, get_or}
use Rattle.std.specs.Str.{bytes_eq}
use Rattle.std.proofs.lemmas.Slice.Eq.{bytes_eq-Decides}
use Rattle.clap.specs.Kinds.{range_kinds, value_kinds}
use Rattle.clap.specs.Faults.{action_fault, check_fault, level_fault, repeat_fault, use_fault, values_fault}
use Rattle.clap.specs.Simple.{Shape}
use Rattle.clap.specs.Takes.{is_given}
use Rattle.clap.specs.ValueTests.{accepts}
use Rattle.clap.specs.Walk.{Row, Rule, Text, finished, has_row, more_values, nothing_held, reading_by, rows_after, settled, stronger, used, values_or_missing, walk, walk_from, with_default, with_values, without}
use Rattle.clap.specs.declared.builder.ArgAction.TheVariants.{Set}
use Rattle.clap.specs.declared.builder.value_parser.Reading.{Reading}
use Rattle.clap.specs.declared.builder.value_parser.Reading.TheVariants.{WithoutMinus}
use Rattle.clap.specs.declared.builder.value_parser.ValueParser.TheVariants as parser
use Rattle.clap.specs.declared.parser.matches.ValueSource.{ValueSource}
use Rattle.clap.specs.declared.parser.matches.ValueSource.TheVariants.{CommandLine, DefaultValue}
use Rattle.clap.proofs.ValueTestLemmas.{accepts-Accepts}
use Rattle.command_line.specs.Arguments.{rate}
use Rattle.command_line.specs.Known.{HasScan}
use Rattle.command_line.proofs.Walks.{IsIn, both_pass, not_none, settled_keeps, walk_keeps}
use Rattle.command_line.proofs.Rows.{sub, Each, IsThere, at_row_keeps, IsThere_more, one_value, first_row, same_both, row_of, given_row, any_value}

-- the command as it is built
abbrev scan : Shape
scan = sub 1

abbrev rule_at : ℕ → Rule
rule_at i = get_or scan.rules i rate

-- ---- what holds of each row

abbrev Passes : List Text → Type 0
Passes [] = ⊤
Passes (v ∷ vs) = (accepts false (parser.Signed (pos 8000) (pos 192000)) v ≡ true) × Passes vs

pub record IsRate (r : Row) : Type 0 where
  pub reading : r.reading ≡ WithoutMinus
  pub there : IsThere r.values
  pub passes : Passes r.values

pub record Fits (r : Row) : Type 0 where
  pub rate : bytes_eq r.id (codes "rate") ≡ true → IsRate r
  pub folder : bytes_eq r.id (codes "folder") ≡ true → IsThere r.values

Passes_both : (xs ys : List Text) → Passes xs → Passes ys → Passes (xs ++ ys)
Passes_both [] ys p q = q
Passes_both (x ∷ xs) ys p q = (p.0, Passes_both xs ys p.1 q)

-- ---- one use

accepted : (v : Text) → value_kinds false (parser.Signed (pos 8000) (pos 192000)) v ≡ [] → accepts false (parser.Signed (pos 8000) (pos 192000)) v ≡ true
accepted v e = go (accepts false (parser.Signed (pos 8000) (pos 192000)) v) refl
  where
    go : (b : Bool) → accepts false (parser.Signed (pos 8000) (pos 192000)) v ≡ b → accepts false (parser.Signed (pos 8000) (pos 192000)) v ≡ true
    go true is = is
    go false is = absurd (not_none _ _ (rw is at e))

not_folder : (id : Text) → bytes_eq id (codes "rate") ≡ true → bytes_eq id (codes "folder") ≡ true → ⊥
not_folder id e f = let is : id ≡ codes "rate" = (bytes_eq-Decides id (codes "rate")).0 e in true≢false (sym (rw is at f))

-- a value of the rate is put to its row
rate_put : (source : ValueSource) (v : Text) (rows : List Row) → accepts false (parser.Signed (pos 8000) (pos 192000)) v ≡ true → Each Fits rows
    → Each Fits (with_values (codes "rate") WithoutMinus source (v ∷ []) rows)
rate_put source v rows passes each =
    at_row_keeps Fits (codes "rate") (more_values source (v ∷ [])) (first_row (codes "rate") WithoutMinus source v ∷ []) rows each more first
  where
    more : (r : Row) → bytes_eq r.id (codes "rate") ≡ true → Fits r → Each Fits (more_values source (v ∷ []) r)
    more r is fits =
        let old = fits.rate is in
        let changed : Fits (record r { values = r.values ++ v ∷ []; source = Some (stronger r.source source) }) = record {
          rate = λ e. record { reading = old.reading; there = IsThere_more r.values (v ∷ []) old.there; passes = Passes_both r.values (v ∷ []) old.passes (passes, tt) };
          folder = λ e. absurd (not_folder r.id is e);
        } in
        (changed, tt)

    first : Each Fits (first_row (codes "rate") WithoutMinus source v ∷ [])
    first =
        let new : Fits (first_row (codes "rate") WithoutMinus source v) = record { rate = λ e. record { reading = refl; there = tt; passes = (passes, tt) }; folder = λ e. tt } in
        (new, tt)

folder_put : (source : ValueSource) (how : Reading) (v : Text) (rows : List Row) → Each Fits rows
    → Each Fits (with_values (codes "folder") how source (v ∷ []) rows)
folder_put source how v rows each =
    at_row_keeps Fits (codes "folder") (more_values source (v ∷ [])) (first_row (codes "folder") how source v ∷ []) rows each more first
  where
    more : (r : Row) → bytes_eq r.id (codes "folder") ≡ true → Fits r → Each Fits (more_values source (v ∷ []) r)
    more r is fits =
        let changed : Fits (record r { values = r.values ++ v ∷ []; source = Some (stronger r.source source) }) = record {
          rate = λ e. absurd (not_folder r.id e is);
          folder = λ e. IsThere_more r.values (v ∷ []) (fits.folder is);
        } in
        (changed, tt)

    first : Each Fits (first_row (codes "folder") how source v ∷ [])
    first =
        let new : Fits (first_row (codes "folder") how source v) = record { rate = λ e. absurd (true≢false (sym e)); folder = λ e. tt } in
        (new, tt)

taken_out : (id : Text) (rows : List Row) → Each Fits rows → Each Fits (without id rows)
taken_out id rows each = at_row_keeps Fits id (λ _. []) [] rows each (λ r is fits. tt) tt

rate_one : (v : Text) (rows : List Row) → Each Fits rows → action_fault Set false (rule_at 0) (v ∷ []) rows ≡ [] → Each Fits (used (rule_at 0) (v ∷ []) rows)
rate_one v rows each e =
    let set = both_pass (repeat_fault false (codes "rate") rows) (values_fault (rule_at 0) (v ∷ [])) e in
    let value = both_pass (value_kinds false (parser.Signed (pos 8000) (pos 192000)) v) [] set.1 in
    rate_put CommandLine v (without (codes "rate") rows) (accepted v value.0) (taken_out (codes "rate") rows each)

rate_used : (values : List Text) (rows : List Row) → Each Fits rows → use_fault false (rule_at 0) values rows ≡ [] → Each Fits (used (rule_at 0) values rows)
rate_used values rows each e =
    let parts = both_pass (range_kinds 1 1 (length values)) (action_fault Set false (rule_at 0) (values_or_missing (rule_at 0) values) rows) e in
    let one = one_value values parts.0 in
    subst (λ (vs : List Text). action_fault Set false (rule_at 0) (values_or_missing (rule_at 0) vs) rows ≡ [] → Each Fits (used (rule_at 0) vs rows)) (sym one.1)
    (rate_one one.0 rows each) parts.1

folder_used : (values : List Text) (rows : List Row) → Each Fits rows → use_fault false (rule_at 2) values rows ≡ [] → Each Fits (used (rule_at 2) values rows)
folder_used values rows each e =
    let parts = both_pass (range_kinds 1 1 (length values)) _ e in
    let one = one_value values parts.0 in
    rw one.1 (folder_put CommandLine (reading_by (rule_at 2)) one.0 (without (codes "folder") rows) (taken_out (codes "folder") rows each))

-- ---- a use of the flag, and its default

not_rate : (id : Text) → bytes_eq id (codes "everyday") ≡ true → bytes_eq id (codes "rate") ≡ true → ⊥
not_rate id e f = let is : id ≡ codes "everyday" = (bytes_eq-Decides id (codes "everyday")).0 e in true≢false (sym (rw is at f))

no_folder : (id : Text) → bytes_eq id (codes "everyday") ≡ true → bytes_eq id (codes "folder") ≡ true → ⊥
no_folder id e f = let is : id ≡ codes "everyday" = (bytes_eq-Decides id (codes "everyday")).0 e in true≢false (sym (rw is at f))

everyday_put : (source : ValueSource) (how : Reading) (vs : List Text) (rows : List Row) → Each Fits rows
    → Each Fits (with_values (codes "everyday") how source vs rows)
everyday_put source how vs rows each =
    at_row_keeps Fits (codes "everyday") (more_values source vs) (flag_row ∷ []) rows each more first
  where
    flag_row : Row
    flag_row = record { id = codes "everyday"; values = vs; count = None; source = Some source; reading = how }

    more : (r : Row) → bytes_eq r.id (codes "everyday") ≡ true → Fits r → Each Fits (more_values source vs r)
    more r is fits =
        let changed : Fits (record r { values = r.values ++ vs; source = Some (stronger r.source source) }) = record {
          rate = λ e. absurd (not_rate r.id is e);
          folder = λ e. absurd (no_folder r.id is e);
        } in
        (changed, tt)

    first : Each Fits (flag_row ∷ [])
    first = let new : Fits flag_row = record { rate = λ e. absurd (true≢false (sym e)); folder = λ e. absurd (true≢false (sym e)) } in (new, tt)

everyday_used : (values : List Text) (rows : List Row) → Each Fits rows → Each Fits (used (rule_at 1) values rows)
everyday_used values rows each =
    everyday_put CommandLine (reading_by (rule_at 1)) (values_or_missing (rule_at 1) values) (without (codes "everyday") rows) (taken_out (codes "everyday") rows each)

everyday_ended : (rows : List Row) → Each Fits rows → Each Fits (with_default rows (rule_at 1))
everyday_ended rows each = go (has_row (codes "everyday") rows)
  where
    go : (b : Bool) → Each Fits (cond b rows (with_values (codes "everyday") (reading_by (rule_at 1)) DefaultValue (codes "false" ∷ []) rows))
    go true = each
    go false = everyday_put DefaultValue (reading_by (rule_at 1)) (codes "false" ∷ []) rows each

-- the flag takes no rate away
rate_left : (source : ValueSource) (how : Reading) (vs : List Text) (rows : List Row) → has_row (codes "rate") rows ≡ true → has_row (codes "rate") (with_values (codes "everyday") how source vs rows) ≡ true
rate_left source how vs [] e = absurd (true≢false (sym e))
rate_left source how vs (r ∷ rs) e = go (bytes_eq r.id (codes "everyday")) (bytes_eq r.id (codes "rate")) refl e (rate_left source how vs rs)
  where
    go : (b c : Bool) → bytes_eq r.id (codes "rate") ≡ c → (c || has_row (codes "rate") rs) ≡ true
        → (has_row (codes "rate") rs ≡ true → has_row (codes "rate") (with_values (codes "everyday") how source vs rs) ≡ true)
        → has_row (codes "rate") (cond b (more_values source vs r ++ rs) (r ∷ with_values (codes "everyday") how source vs rs)) ≡ true
    go true c is e rest = rw is e
    go false true is e rest = rw is refl
    go false false is e rest = rw is (rest e)

rate_still : (rows : List Row) → has_row (codes "rate") rows ≡ true → has_row (codes "rate") (with_default rows (rule_at 1)) ≡ true
rate_still rows e = go (has_row (codes "everyday") rows)
  where
    go : (b : Bool) → has_row (codes "rate") (cond b rows (with_values (codes "everyday") (reading_by (rule_at 1)) DefaultValue (codes "false" ∷ []) rows)) ≡ true
    go true = e
    go false = rate_left DefaultValue (reading_by (rule_at 1)) (codes "false" ∷ []) rows e

keeps : (a : Rule) → IsIn a scan.rules → (values : List Text) (rows : List Row) → Each Fits rows → use_fault scan.args_override_self a values rows ≡ []
    → Each Fits (used a values rows)
keeps a (inl is) values rows each e =
    subst (λ (x : Rule). use_fault false x values rows ≡ [] → Each Fits (used x values rows)) is (rate_used values rows each) e
keeps a (inr (inl is)) values rows each e =
    subst (λ (x : Rule). use_fault false x values rows ≡ [] → Each Fits (used x values rows)) is (λ _. everyday_used values rows each) e
keeps a (inr (inr (inl is))) values rows each e =
    subst (λ (x : Rule). use_fault false x values rows ≡ [] → Each Fits (used x values rows)) is (folder_used values rows each) e
keeps a (inr (inr (inr (inl is)))) values rows each e =
    subst (λ (x : Rule). use_fault false x values rows ≡ [] → Each Fits (used x values rows)) is (λ _. each) e
keeps a (inr (inr (inr (inr none)))) values rows each e = absurd none

-- ---- the rows at the end

abbrev defaulted : List Row → List Row
defaulted rows = with_values (codes "rate") WithoutMinus DefaultValue (codes "44100" ∷ []) rows

rate_there : (rows : List Row) → has_row (codes "rate") (defaulted rows) ≡ true
rate_there [] = refl
rate_there (r ∷ rs) = go (bytes_eq r.id (codes "rate")) refl (rate_there rs)
  where
    go : (b : Bool) → bytes_eq r.id (codes "rate") ≡ b → has_row (codes "rate") (defaulted rs) ≡ true
        → has_row (codes "rate") (cond b (more_values DefaultValue (codes "44100" ∷ []) r ++ rs) (r ∷ defaulted rs)) ≡ true
    go true is rest = rw is refl
    go false is rest = rw is rest

ended : (rows : List Row) → Each Fits rows → Each Fits (with_default rows (rule_at 0)) × (has_row (codes "rate") (with_default rows (rule_at 0)) ≡ true)
ended rows each = go (has_row (codes "rate") rows) refl
  where
    go : (b : Bool) → has_row (codes "rate") rows ≡ b → Each Fits (cond b rows (defaulted rows)) × (has_row (codes "rate") (cond b rows (defaulted rows)) ≡ true)
    go true is = (each, is)
    go false is = (rate_put DefaultValue (codes "44100") rows refl each, rate_there rows)

first_value : (values : List Text) → IsThere values → Passes values → (v : Text) × (slice_get values 0 ≡ Some v) × (accepts false (parser.Signed (pos 8000) (pos 192000)) v ≡ true)
first_value [] there passes = absurd there
first_value (v ∷ vs) there passes = (v, refl, passes.0)

folder_given : (rows : List Row) → check_fault scan rows false ≡ [] → is_given (codes "folder") rows ≡ true
folder_given rows e = go (is_given (codes "folder") rows) refl
  where
    go : (b : Bool) → is_given (codes "folder") rows ≡ b → is_given (codes "folder") rows ≡ true
    go true is = is
    go false is = absurd (not_none _ _ (rw is at e))

has_scan : (rows : List Row) → Each Fits rows → has_row (codes "rate") rows ≡ true → check_fault scan rows false ≡ [] → HasScan rows
has_scan rows each rated checked =
    let rate = row_of Fits (codes "rate") rows each rated in
    let fits = rate.3.rate rate.2 in
    let value = first_value rate.0.values fits.there fits.passes in
    let folder = given_row Fits (codes "folder") rows each (folder_given rows checked) in
    let name = any_value folder.0.values (folder.3.folder folder.2) in
    record {
      text = value.0;
      rate = rw (rate.1, fits.reading, value.1) refl;
      range = accepts-Accepts false (parser.Signed (pos 8000) (pos 192000)) value.0 value.2;
      folder = name.0;
      is = rw (folder.1, name.1) refl;
    }

pub scan_read : (words : List Text) → level_fault scan [] nothing_held words false [] ≡ [] → HasScan (rows_after scan.rules [] words)
scan_read words e =
    let end = (walk scan.rules [] nothing_held words).held in
    let walked_all = both_pass _ _ e in
    let settling = both_pass _ _ walked_all.1 in
    let defaults = both_pass _ _ settling.1 in
    let rows = (settled scan.rules end).rows in
    let kept : Each Fits rows = settled_keeps scan (Each Fits) keeps end (walk_keeps scan (Each Fits) keeps [] (walk_from nothing_held) words tt walked_all.0) settling.0 in
    let rated = ended rows kept in
    let last : List Row = with_default (with_default rows (rule_at 0)) (rule_at 1) in
    let same : finished scan.rules end ≡ last =
    same_both (has_row (rule_at 3).id (with_default last (rule_at 2))) (with_default last (rule_at 2))
    ∙ same_both (has_row (rule_at 2).id last) last in
    subst HasScan (sym same) (has_scan last (everyday_ended (with_default rows (rule_at 0)) rated.0) (rate_still (with_default rows (rule_at 0)) rated.1)
    (subst (λ rs. check_fault scan rs false ≡ []) same defaults.1))
