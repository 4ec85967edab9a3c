-- A line is a list word where the word is alone in it.
use Rattle.std.proofs.Common.{◌≡◌, ℕ, Bool, true, List, [], ◌∷◌, ◌++◌, Some, None, bytes_eq, find, refl, sym, ap, ◌∙◌, inl, inr}
use Rattle.std.specs.List.{list_all}
use Rattle.std.proofs.lemmas.Bool.{cond-true, cond-false, cases_Bool, and_parts, and_from}
use Rattle.std.proofs.lemmas.Slice.Eq.{bytes_eq-Decides}
use Rattle.mpd_text.specs.Lines.Scan.{is_blank}
use Rattle.mpd_text.specs.Lines.Grammar.{AreBlanks}
use Rattle.command_lists.specs.declared.word.ListForm.TheVariants.{Plain, ListOk}
use Rattle.command_lists.specs.declared.word.ListWord.{ListWord}
use Rattle.command_lists.specs.declared.word.ListWord.TheVariants.{Begin, End}
use Rattle.command_lists.specs.Words.{text_of, list_words, after_blanks, before_blanks, word_of}
use Rattle.command_lists.specs.Lists.{LineData, list_word}
use Rattle.command_lists.specs.Grammar.{IsWord, WordsAreAlone}
use Rattle.command_lists.proofs.Blanks.{before_blanks-append}

all_blank : (bs : List ℕ) → AreBlanks bs → list_all is_blank bs ≡ true
all_blank [] blanks = refl
all_blank (b ∷ bs) blanks = and_from (is_blank b) (list_all is_blank bs) blanks.0 (all_blank bs blanks.1)

blanks_all : (bs : List ℕ) → list_all is_blank bs ≡ true → AreBlanks bs
blanks_all [] all = tt
blanks_all (b ∷ bs) all = let both = and_parts (is_blank b) (list_all is_blank bs) all in (both.0, blanks_all bs both.1)

-- a text is blanks, and what stands after them
front_of : (text : List ℕ) → (front : List ℕ) × (text ≡ front ++ after_blanks text) × AreBlanks front
front_of [] = ([], refl, tt)
front_of (b ∷ bs) =
    elim (cases_Bool (is_blank b)) [
      | inl blank ↦
          let rest = front_of bs in
          (b ∷ rest.0, ap (λ (t : List ℕ). b ∷ t) rest.1 ∙ ap (λ (t : List ℕ). b ∷ (rest.0 ++ t)) (sym (cond-true _ _ _ blank)), (blank, rest.2))
      | inr other ↦ ([], sym (cond-false _ _ _ other), tt)
    ]

-- a text is what stands before the blanks at its end, and these
back_of : (text : List ℕ) → (back : List ℕ) × (text ≡ before_blanks text ++ back) × AreBlanks back
back_of [] = ([], refl, tt)
back_of (b ∷ bs) =
    elim (cases_Bool (list_all is_blank (b ∷ bs))) [
      | inl all ↦ (b ∷ bs, ap (λ (t : List ℕ). t ++ b ∷ bs) (sym (cond-true _ _ _ all)), blanks_all (b ∷ bs) all)
      | inr other ↦
          let rest = back_of bs in
          (rest.0, ap (λ (t : List ℕ). b ∷ t) rest.1 ∙ ap (λ (t : List ℕ). t ++ rest.0) (sym (cond-false _ _ _ other)), rest.2)
    ]

after_blanks-append : (front text : List ℕ) → AreBlanks front → after_blanks (front ++ text) ≡ after_blanks text
after_blanks-append [] text blanks = refl
after_blanks-append (b ∷ bs) text blanks = cond-true _ _ _ blanks.0 ∙ after_blanks-append bs text blanks.1

-- no word begins or ends with a blank
word_first : (word : ListWord) (back : List ℕ) → after_blanks (text_of word ++ back) ≡ text_of word ++ back
word_first (Begin Plain) back = refl
word_first (Begin ListOk) back = refl
word_first End back = refl

word_last : (word : ListWord) → before_blanks (text_of word) ≡ text_of word
word_last (Begin Plain) = refl
word_last (Begin ListOk) = refl
word_last End = refl

abbrev is_text : List ℕ → ListWord → Bool
is_text text word = bytes_eq (text_of word) text

-- the word that is found has the text
found_among : (text : List ℕ) (words : List ListWord) (word : ListWord) → find (is_text text) words ≡ Some word → text_of word ≡ text
found_among text [] word is = absurd cc
found_among text (w ∷ ws) word is =
    elim (cases_Bool (is_text text w)) [
      | inl same ↦
          let one : w ≡ word = let e : Some w ≡ Some word = sym (cond-true _ _ _ same) ∙ is in cc in
          ap text_of (sym one) ∙ (bytes_eq-Decides (text_of w) text).0 same
      | inr other ↦ found_among text ws word (sym (cond-false _ _ _ other) ∙ is)
    ]

word_found : (word : ListWord) → find (is_text (text_of word)) list_words ≡ Some word
word_found (Begin Plain) = refl
word_found (Begin ListOk) = refl
word_found End = refl

is_alone : (line : LineData) (word : ListWord) → list_word line ≡ Some word → IsWord line word
unfolding word_of
is_alone None word is = absurd cc
is_alone (Some line) word is =
    let text : text_of word ≡ before_blanks (after_blanks line) = found_among (before_blanks (after_blanks line)) list_words word is in
    let front = front_of line in
    let back = back_of (after_blanks line) in
    (front.0, back.0, front.1 ∙ ap (λ (t : List ℕ). front.0 ++ t) (back.1 ∙ ap (λ (t : List ℕ). t ++ back.0) (sym text)), front.2, back.2)

read_alone : (line : LineData) (word : ListWord) → IsWord line word → list_word line ≡ Some word
unfolding word_of
read_alone None word is = absurd is
read_alone (Some line) word (front, back, is, before, behind) =
    let text : before_blanks (after_blanks line) ≡ text_of word =
    ap (λ (t : List ℕ). before_blanks (after_blanks t)) is
    ∙ ap before_blanks (after_blanks-append front (text_of word ++ back) before ∙ word_first word back)
    ∙ before_blanks-append (text_of word) back (all_blank back behind)
    ∙ word_last word in
    ap (λ (t : List ℕ). find (is_text t) list_words) text ∙ word_found word

pub words_are_alone : WordsAreAlone
words_are_alone line word = (is_alone line word, read_alone line word)
