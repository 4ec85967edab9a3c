-- Texts in byte order, each once.
use Rattle.std.specs.Prelude.{ℕ, List, map}
use denote.Ref.{Bor}
use Rattle.std.specs.Ordering.{nat_cmp}
use Rattle.std.specs.Cmp.Lexicographic.{slice_cmp}
use Rattle.std.specs.declared.cmp.Ordering.{Ordering}
use Rattle.std.specs.FinMap.{keys, from_entries}

-- what each reference of a list refers to
abbrev pub values_now : {X : Type 0} → List (Bor X) → List X
values_now references = map (λ reference. reference.now) references

-- the order of two texts, by their bytes
abbrev pub by_bytes : List ℕ → List ℕ → Ordering
by_bytes = slice_cmp nat_cmp

-- a text as a key, with nothing at it
abbrev pub key_of : List ℕ → List ℕ × Unit {0}
key_of text = (text, tt)

-- the texts that stand in a list, in byte order and each once: the keys of the finite map that has a key for
-- each
unfoldable pub ascending : List (List ℕ) → List (List ℕ)
ascending texts = keys (from_entries {R = slice_cmp nat_cmp} (map key_of texts))
