-- A stream splits alike however it is cut, and as the lines and newlines that it consists of.
use Rattle.std.proofs.Common.{◌≡◌, ◌≢◌, ◌⊎◌, inl, inr, ℕ, ◌<◌, Bool, true, false, cond, eqb, List, [], ◌∷◌, ◌++◌, length, Some, None, refl, sym, ap, ◌∙◌, append_assoc, arith}
use Rattle.std.specs.List.{concat}
use Rattle.std.proofs.lemmas.List.{append-nil}
use Rattle.std.proofs.lemmas.Bool.Decides.{nat_tests}
use Rattle.mpd_text.specs.Lines.Cut.{Cut, onto_first, cut, fits, Split, up_to_long, split, split_from, then_split, split_pieces, HasNoNewline, IsStart, with_newlines, AreLines}
use Rattle.mpd_text.proofs.CutLemmas.{none_nil, none_cons, split_long, split_line, split_start, first_is_long, first_of, closes}

is_newline : (b : ℕ) → ((eqb b 10 ≡ true) × (b ≡ 10)) ⊎ ((eqb b 10 ≡ false) × (b ≢ 10))
is_newline b = grind (arith, nat_tests)

-- the parts of x ++ y, where x has these
pub go_on : List (List ℕ) → List ℕ → List ℕ → Cut
go_on lines rest y = record { lines = lines ++ (cut (rest ++ y)).lines; rest = (cut (rest ++ y)).rest }

onto : (b : ℕ) (lines : List (List ℕ)) (rest y : List ℕ) → eqb b 10 ≡ false → onto_first b (go_on lines rest y).lines (go_on lines rest y).rest ≡ go_on (onto_first b lines rest).lines (onto_first b lines rest).rest y
unfolding go_on cut
onto b [] rest y e = rw e refl
onto b (line ∷ lines) rest y e = refl

pub cut_append : (x y : List ℕ) → cut (x ++ y) ≡ go_on (cut x).lines (cut x).rest y
unfolding cut go_on
cut_append [] y = refl
cut_append (b ∷ bs) y = elim (is_newline b) [
  | inl h ↦ rw (h.0, cut_append bs y) refl
  | inr h ↦ rw (h.0, cut_append bs y) (onto b (cut bs).lines (cut bs).rest y h.0)
]

rest_onto : (b : ℕ) (lines : List (List ℕ)) (rest : List ℕ) → b ≢ 10 → HasNoNewline rest → HasNoNewline (onto_first b lines rest).rest
rest_onto b [] rest other none = none_cons b rest other none
rest_onto b (line ∷ lines) rest other none = none

rest_none : (x : List ℕ) → HasNoNewline (cut x).rest
unfolding cut
rest_none [] = none_nil
rest_none (b ∷ bs) = elim (is_newline b) [ inl h ↦ rw h.0 (rest_none bs) | inr h ↦ rw h.0 (rest_onto b (cut bs).lines (cut bs).rest h.1 (rest_none bs)) ]

up_append : (lines : List (List ℕ)) (rest y : List ℕ) → HasNoNewline rest → up_to_long (go_on lines rest y).lines (go_on lines rest y).rest ≡ then_split (up_to_long lines rest) y
unfolding go_on split
up_append [] rest y none = last (fits rest) refl where
  last : (b : Bool) → fits rest ≡ b → up_to_long (cut (rest ++ y)).lines (cut (rest ++ y)).rest ≡ then_split (record { lines = []; next = cond b (Some rest) None }) y
  last true e = refl
  last false e =
      let h = first_is_long rest y none in
      let long : 16384 < length rest = grind (arith, nat_tests) in
      let long_first : 16384 < length (first_of (cut (rest ++ y)).lines (cut (rest ++ y)).rest) = omega arith in
      closes (cut (rest ++ y)).lines (cut (rest ++ y)).rest long_first
up_append (line ∷ lines) rest y none = rw (up_append lines rest y none) (each (fits line)) where
  each : (b : Bool) → cond b (record { lines = line ∷ (then_split (up_to_long lines rest) y).lines; next = (then_split (up_to_long lines rest) y).next }) (record { lines = []; next = None })
      ≡ then_split (cond b (record { lines = line ∷ (up_to_long lines rest).lines; next = (up_to_long lines rest).next }) (record { lines = []; next = None })) y
  each true = refl
  each false = refl

pub split_append : (x y : List ℕ) → split (x ++ y) ≡ then_split (split x) y
unfolding split
split_append x y = ap (λ (c : Cut). up_to_long c.lines c.rest) (cut_append x y) ∙ up_append (cut x).lines (cut x).rest y (rest_none x)

-- what was split goes on in pieces
then_pieces : Split → List (List ℕ) → Split
then_pieces s pieces = record { lines = s.lines ++ (split_pieces s.next pieces).lines; next = (split_pieces s.next pieces).next }

regroup : (s : Split) (piece : List ℕ) (pieces : List (List ℕ)) → then_pieces s (piece ∷ pieces) ≡ then_pieces (then_split s piece) pieces
unfolding then_pieces
regroup s piece pieces = rw (← append_assoc s.lines (split_from s.next piece).lines (split_pieces (split_from s.next piece).next pieces).lines) refl

none_left : (s : Split) → then_pieces s [] ≡ s
unfolding then_pieces
none_left s = rw append-nil refl

then_all : (x : List ℕ) (pieces : List (List ℕ)) → then_pieces (split x) pieces ≡ split (x ++ concat pieces)
then_all x [] = none_left (split x) ∙ ap split (sym (append-nil x))
then_all x (piece ∷ pieces) =
    regroup (split x) piece pieces ∙ ap (λ (s : Split). then_pieces s pieces) (sym (split_append x piece)) ∙ then_all (x ++ piece) pieces ∙ ap split (append_assoc x piece (concat pieces))

-- in whatever pieces a stream comes
pub pieces_split : (pieces : List (List ℕ)) → split_pieces (Some []) pieces ≡ split (concat pieces)
unfolding then_pieces split cut
pieces_split pieces = then_all [] pieces

pub open_split : (lines : List (List ℕ)) (start : List ℕ) → AreLines lines → IsStart start → split (with_newlines lines ++ start) ≡ record { lines = lines; next = Some start }
open_split [] start are is = split_start start is
open_split (line ∷ lines) start are is =
    ap split (append_assoc line (10 ∷ with_newlines lines) start) ∙ split_line line (with_newlines lines ++ start) are.0 ∙ rw (open_split lines start are.1 is) refl

pub long_split : (lines : List (List ℕ)) (front more : List ℕ) → AreLines lines → HasNoNewline front → length front ≡ 16385 → split (with_newlines lines ++ (front ++ more)) ≡ record { lines = lines; next = None }
long_split [] front more are none long = split_long front more none (omega arith)
long_split (line ∷ lines) front more are none long =
    ap split (append_assoc line (10 ∷ with_newlines lines) (front ++ more)) ∙ split_line line (with_newlines lines ++ (front ++ more)) are.0 ∙ rw (long_split lines front more are.1 none long) refl
