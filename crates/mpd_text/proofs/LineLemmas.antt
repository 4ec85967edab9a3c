-- The text of a line, as `from_utf8` decides it.
use Rattle.std.proofs.Common.{◌≡◌, ℕ, ◌+◌, take, drop, List, Bool, true, false, Option, Some, None, [], ◌∷◌, ◌++◌, map, refl, sym, ap, ◌∙◌, append_assoc}
use Rattle.std.proofs.lemmas.List.{map-append, append-nil}
use Rattle.mpd_text.specs.declared.lines.splitter.Line.{Line}
use Rattle.std.specs.Str.{IsUtf8, is_utf8}
use Rattle.std.specs.Str.Lines.{strip_carriage_return}
use Rattle.std.proofs.lemmas.Str.{is_utf8-from_IsUtf8, IsUtf8-from_is_utf8}
use Rattle.mpd_text.specs.Lines.Split.{line_of, view, views}
use Rattle.mpd_text.specs.Lines.Cut.{Split, split}

pub line_of_text : (bytes text : List ℕ) → text ≡ strip_carriage_return bytes → IsUtf8 text → line_of bytes ≡ Some text
line_of_text bytes text e utf8 = rw (← e) (rw (is_utf8-from_IsUtf8 text utf8) refl)

not_utf8 : (text : List ℕ) → (IsUtf8 text → ⊥) → (b : Bool) → is_utf8 text ≡ b → b ≡ false
not_utf8 text not true e = absurd (not (IsUtf8-from_is_utf8 text e))
not_utf8 text not false e = refl

pub line_of_other : (bytes text : List ℕ) → text ≡ strip_carriage_return bytes → (IsUtf8 text → ⊥) → line_of bytes ≡ None
line_of_other bytes text e not = rw (← e) (rw (not_utf8 text not (is_utf8 text) refl) refl)

-- one more line is given
pub views_push : (lines new : List Line) (line : Line) (bytes text : List ℕ) → new ≡ lines ++ line ∷ [] → view line ≡ line_of text → text ≡ bytes → views new ≡ views lines ++ line_of bytes ∷ []
views_push lines new line bytes text e given same =
    ap views e ∙ map-append view lines (line ∷ []) ∙ ap (λ (x : Option (List ℕ)). views lines ++ x ∷ []) (given ∙ ap line_of same)

-- nothing more is split off
pub all_given : (given : List (Option (List ℕ))) (s : Split) (next : Option (List ℕ)) (whole : List (Option (List ℕ))) → s ≡ record { lines = []; next = next } → given ++ map line_of s.lines ≡ whole → given ≡ whole
all_given given s next whole e h = sym (append-nil given) ∙ rw e at h

pub all_next : (s : Split) (lines : List (List ℕ)) (next whole : Option (List ℕ)) → s ≡ record { lines = lines; next = next } → s.next ≡ whole → next ≡ whole
all_next s lines next whole e h = rw e at h

-- a line that is split off goes over to those given
pub one_given : (lines new : List Line) (line : Line) (text : List ℕ) (s rest : Split) (whole : List (Option (List ℕ))) → new ≡ lines ++ line ∷ [] → view line ≡ line_of text
    → s ≡ record { lines = text ∷ rest.lines; next = rest.next } → views lines ++ map line_of s.lines ≡ whole → views new ++ map line_of rest.lines ≡ whole
one_given lines new line text s rest whole e given split_off h =
    ap (λ (xs : List (Option (List ℕ))). xs ++ map line_of rest.lines) (views_push lines new line text text e given refl)
    ∙ append_assoc (views lines) (line_of text ∷ []) (map line_of rest.lines) ∙ rw split_off at h

-- a line that ends in a piece, and those of the piece after it
pub first_given : (partial piece tail : List ℕ) (i : ℕ) (line : Line) (lines : List Line) (next : Option (List ℕ))
    → split (partial ++ piece) ≡ record { lines = (partial ++ take i piece) ∷ (split (drop (i + 1) piece)).lines; next = (split (drop (i + 1) piece)).next }
    → view line ≡ line_of (partial ++ take i piece) → tail ≡ drop (i + 1) piece → views lines ≡ view line ∷ map line_of (split tail).lines → next ≡ (split tail).next
    → (views lines ≡ map line_of (split (partial ++ piece)).lines) × (next ≡ (split (partial ++ piece)).next)
first_given partial piece tail i line lines next ends given same all left = rw (ends, all, left, given, same) (refl, refl)
