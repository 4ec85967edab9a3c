-- The command line as it is built, and what holds of the rows that a command reads.
use Rattle.std.proofs.Common.{◌≡◌, ◌||◌, ◌++◌, ◌==◌, ℕ, Bool, cond, true, false, refl, sym, arith, List, [], ◌∷◌, length, Some, None, true≢false}
use Rattle.std.specs.Prelude.{⊤, find, slice_get, get_or}
use Rattle.std.specs.Option.{option_map_or}
use Rattle.std.specs.Str.{bytes_eq}
use Rattle.std.proofs.lemmas.Bool.{eqb-true}
use Rattle.clap.specs.declared.error.kind.ErrorKind.TheVariants.{InvalidValue, WrongNumberOfValues}
use Rattle.clap.specs.Kinds.{range_kinds}
use Rattle.clap.specs.Facts.{explicit_source}
use Rattle.clap.specs.Simple.{App, Shape, built}
use Rattle.clap.specs.Takes.{is_given}
use Rattle.clap.specs.Walk.{Row, Text, at_row, has_row}
use Rattle.clap.specs.declared.builder.value_parser.Reading.{Reading}
use Rattle.clap.specs.declared.parser.matches.ValueSource.{ValueSource}
use Rattle.command_line.specs.Arguments.{daemon}
use Rattle.command_line.proofs.Walks.{not_none}

-- ---- the command line as it is built

abbrev pub line : App
line = built daemon

abbrev pub none : Shape
none = daemon.top

abbrev pub sub : ℕ → Shape
sub i = get_or line.subs i none

-- ---- what holds of each row

abbrev pub Each : (Row → Type 0) → List Row → Type 0
Each R [] = ⊤
Each R (r ∷ rs) = R r × Each R rs

abbrev pub IsThere : List Text → Type 0
IsThere [] = ⊥
IsThere (v ∷ vs) = ⊤

pub Each_both : (R : Row → Type 0) (xs ys : List Row) → Each R xs → Each R ys → Each R (xs ++ ys)
Each_both R [] ys p q = q
Each_both R (x ∷ xs) ys p q = (p.0, Each_both R xs ys p.1 q)

pub at_row_keeps : (R : Row → Type 0) (id : Text) (change : Row → List Row) (missing rows : List Row) → Each R rows
    → ((r : Row) → bytes_eq r.id id ≡ true → R r → Each R (change r)) → Each R missing → Each R (at_row id change missing rows)
at_row_keeps R id change missing [] p q m = m
at_row_keeps R id change missing (r ∷ rs) p q m = go (bytes_eq r.id id) refl (at_row_keeps R id change missing rs p.1 q m)
  where
    go : (b : Bool) → bytes_eq r.id id ≡ b → Each R (at_row id change missing rs) → Each R (cond b (change r ++ rs) (r ∷ at_row id change missing rs))
    go true is rest = Each_both R (change r) rs (q r is p.0) p.1
    go false is rest = (p.0, rest)

pub IsThere_more : (xs ys : List Text) → IsThere xs → IsThere (xs ++ ys)
IsThere_more [] ys h = absurd h
IsThere_more (x ∷ xs) ys h = tt

-- ---- one use

pub one_only : (n : ℕ) → range_kinds 1 1 n ≡ [] → 1 ≡ n
one_only n e = go (n == 0) (1 == n) refl e
  where
    go : (none one : Bool) → (1 == n) ≡ one → cond none (InvalidValue ∷ []) (cond one [] (WrongNumberOfValues ∷ [])) ≡ [] → 1 ≡ n
    go true one is e = absurd (not_none _ _ e)
    go false true is e = eqb-true 1 n is
    go false false is e = absurd (not_none _ _ e)

pub alone : (values : List Text) → 1 ≡ length values → (v : Text) × (values ≡ v ∷ [])
alone [] e = absurd (omega arith)
alone (v ∷ []) e = (v, refl)
alone (v ∷ w ∷ vs) e = absurd (omega arith)

pub one_value : (values : List Text) → range_kinds 1 1 (length values) ≡ [] → (v : Text) × (values ≡ v ∷ [])
one_value values e = alone values (one_only (length values) e)

-- the row of the first value of an argument
abbrev pub first_row : Text → Reading → ValueSource → Text → Row
first_row id how source v = record { id = id; values = v ∷ []; count = None; source = Some source; reading = how }

-- ---- the rows at the end

pub same_both : {X : Type 0} (b : Bool) (x : X) → cond b x x ≡ x
same_both true x = refl
same_both false x = refl

abbrev pub HasRow : (Row → Type 0) → Text → List Row → Type 0
HasRow R id rows = (r : Row) × (find (λ r. bytes_eq r.id id) rows ≡ Some r) × (bytes_eq r.id id ≡ true) × R r

pub row_of : (R : Row → Type 0) (id : Text) (rows : List Row) → Each R rows → has_row id rows ≡ true → HasRow R id rows
row_of R id [] each e = absurd (true≢false (sym e))
row_of R id (r ∷ rs) each e = go (bytes_eq r.id id) refl e (row_of R id rs each.1)
  where
    go : (b : Bool) → bytes_eq r.id id ≡ b → (b || has_row id rs) ≡ true → (has_row id rs ≡ true → HasRow R id rs)
        → (x : Row) × (cond b (Some r) (find (λ r. bytes_eq r.id id) rs) ≡ Some x) × (bytes_eq x.id id ≡ true) × R x
    go true is e rest = (r, refl, is, each.0)
    go false is e rest = rest e

pub there_where_given : (id : Text) (rows : List Row) → is_given id rows ≡ true → has_row id rows ≡ true
there_where_given id [] e = absurd (true≢false (sym e))
there_where_given id (r ∷ rs) e = go (bytes_eq r.id id) e (there_where_given id rs)
  where
    go : (b : Bool) → option_map_or (λ r. explicit_source r.source) (cond b (Some r) (find (λ r. bytes_eq r.id id) rs)) false ≡ true
        → (is_given id rs ≡ true → has_row id rs ≡ true) → (b || has_row id rs) ≡ true
    go true e rest = refl
    go false e rest = rest e

pub given_row : (R : Row → Type 0) (id : Text) (rows : List Row) → Each R rows → is_given id rows ≡ true → HasRow R id rows
given_row R id rows each e = row_of R id rows each (there_where_given id rows e)

pub any_value : (values : List Text) → IsThere values → (v : Text) × (slice_get values 0 ≡ Some v)
any_value [] there = absurd there
any_value (v ∷ vs) there = (v, refl)
