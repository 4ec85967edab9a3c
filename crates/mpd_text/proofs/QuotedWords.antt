-- Texts in quotes with a space between each two spell these texts.
use Rattle.std.proofs.Common.{◌≡◌, ◌≢◌, ℕ, suc, ◌+◌, ◌<◌, ◌≤◌, List, [], ◌∷◌, ◌++◌, length, take, drop, get_or, Ok, Err, ◌⊎◌, inl, inr, refl, sym, ap, subst, ◌∙◌, lit<, arith}
use Rattle.std.specs.Char.{encode_utf8}
use Rattle.std.specs.List.{flat_map}
use Rattle.std.proofs.lemmas.List.{append-nil, take-append-drop, drop_more, length-take-le}
use Rattle.std.proofs.lemmas.Str.{inside_one}
use Rattle.mpd_text.specs.declared.lines.quoting.WordsFault.TheVariants.{TooMany}
use Rattle.mpd_text.specs.Lines.Scan.{words_of}
use Rattle.mpd_text.specs.Lines.Grammar.{IsInside, IsQuotedWord, Begins, Spells, IsFaulty}
use Rattle.mpd_text.specs.Lines.Quoted.{escaped, quoted_text, quoted_line}
use Rattle.mpd_text.proofs.GrammarScan.{not_quote, not_backslash, spelled_is_read, faulty_is_refused}
use Rattle.mpd_text.proofs.ScanGrammar.{is_equal, blanks_begin}

-- bytes of which none is a quotation mark or a backslash stay as they are
plain_bytes : (bytes : List ℕ) → ((k : ℕ) → k < length bytes → (get_or bytes k 0 ≢ 34) × (get_or bytes k 0 ≢ 92)) → flat_map escaped bytes ≡ bytes
plain_bytes [] none = refl
plain_bytes (b ∷ bytes) none =
    let here = none 0 (omega arith) in
    rw (not_quote b here.0, not_backslash b here.1) (ap (λ (rest : List ℕ). b ∷ rest) (plain_bytes bytes (λ k l. none (suc k) (omega arith))))

-- an ASCII byte of a character is the whole character
other_byte : (c d k : ℕ) → c ≢ d → d < 128 → k < length (encode_utf8 c) → get_or (encode_utf8 c) k 0 ≢ d
other_byte c d k other small l = λ e. other (inside_one c [] (encode_utf8 c) k (sym (append-nil (encode_utf8 c))) l (omega (arith, e)) ∙ e)

pub plain_char : (c : ℕ) → c ≢ 34 → c ≢ 92 → flat_map escaped (encode_utf8 c) ≡ encode_utf8 c
plain_char c mark backslash = plain_bytes (encode_utf8 c) (λ k l. (other_byte c 34 k mark (lit< tt) l, other_byte c 92 k backslash (lit< tt) l))

escaped_is : (b : ℕ) → ((escaped b ≡ b ∷ []) × (b ≢ 34) × (b ≢ 92)) ⊎ (escaped b ≡ 92 ∷ b ∷ [])
escaped_is b = elim (is_equal b 34) [
  | inl q ↦ inr (rw q.0 refl)
  | inr q ↦ elim (is_equal b 92) [ inl s ↦ inr (rw (q.0, s.0) refl) | inr s ↦ inl (rw (q.0, s.0) refl, q.1, s.1) ]
]

inside : (text : List ℕ) → IsInside (flat_map escaped text) text
inside [] = refl
inside (b ∷ text) = (flat_map escaped text, elim (escaped_is b) [ inl h ↦ inl (rw h.0 refl, h.1, h.2) | inr h ↦ inr (rw h refl) ], inside text)

pub is_quoted : (text : List ℕ) → IsQuotedWord (quoted_text text) text
is_quoted text = (flat_map escaped text, refl, inside text)

-- a line of texts in quotes begins with the first of them
begins : (front back : List (List ℕ)) → Begins (quoted_line (front ++ back)) front (quoted_line back)
begins [] back = ([], refl, tt)
begins (text ∷ []) [] = ([], quoted_text text, [], sym (append-nil (quoted_text text)), tt, inr (is_quoted text), tt, ([], refl, tt))
begins (text ∷ []) (next ∷ back) = ([], quoted_text text, 32 ∷ quoted_line (next ∷ back), refl, tt, inr (is_quoted text), refl, (32 ∷ [], refl, (refl, tt)))
begins (text ∷ next ∷ front) back =
    ([], quoted_text text, 32 ∷ quoted_line (next ∷ (front ++ back)), refl, tt, inr (is_quoted text), refl, blanks_begin (32 ∷ []) (quoted_line (next ∷ (front ++ back))) (next ∷ front) (quoted_line back) (refl, tt) (begins (next ∷ front) back))

pub spelled : (texts : List (List ℕ)) → Spells (quoted_line texts) texts
spelled texts = subst (λ (all : List (List ℕ)). Begins (quoted_line all) texts []) (append-nil texts) (begins texts [])

pub few_read : (texts : List (List ℕ)) → length texts ≤ 65 → words_of (quoted_line texts) ≡ Ok texts
few_read texts few = spelled_is_read (quoted_line texts) texts few (spelled texts)

pub one_read : (text bytes : List ℕ) → bytes ≡ quoted_text text → words_of bytes ≡ Ok (text ∷ [])
one_read text bytes e = ap words_of e ∙ few_read (text ∷ []) (omega arith)

-- one more text comes after 65
one_more : (front : List (List ℕ)) (text : List ℕ) (back : List (List ℕ)) → length front ≡ 65 → IsFaulty 0 (quoted_line (front ++ text ∷ back)) TooMany
one_more front text [] full = (front, quoted_text text, begins front (text ∷ []), (omega (arith, full), 34, flat_map escaped text ++ 34 ∷ [], refl, refl))
one_more front text (next ∷ back) full =
    (front, quoted_line (text ∷ next ∷ back), begins front (text ∷ next ∷ back), (omega (arith, full), 34, (flat_map escaped text ++ 34 ∷ []) ++ 32 ∷ quoted_line (next ∷ back), refl, refl))

many_from : (n : ℕ) (texts : List (List ℕ)) → n ≡ 65 → n < length texts → IsFaulty 0 (quoted_line texts) TooMany
many_from n texts is many =
    let parts = ap (λ (rest : List (List ℕ)). take n texts ++ rest) (sym (drop_more texts n [] many)) ∙ take-append-drop n texts in
    let within : n ≤ length texts = omega arith in
    subst (λ (all : List (List ℕ)). IsFaulty 0 (quoted_line all) TooMany) parts
    (one_more (take n texts) (get_or texts n []) (drop (n + 1) texts) (length-take-le n texts within ∙ is))

pub many_refused : (texts : List (List ℕ)) → 65 < length texts → words_of (quoted_line texts) ≡ Err TooMany
many_refused texts many = faulty_is_refused (quoted_line texts) TooMany (many_from 65 texts refl many)
