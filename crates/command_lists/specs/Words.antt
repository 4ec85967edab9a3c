-- The words that begin and end a command list (MPD protocol reference, Command lists; that blanks may be
-- round them is this profile's).
use Rattle.std.specs.Prelude.{ℕ, List, [], ◌∷◌, codes, Option, find, if◌then◌else◌}
use Rattle.std.specs.List.{list_all}
use Rattle.std.specs.Str.{bytes_eq}
use Rattle.mpd_text.specs.Lines.Scan.{is_blank}
use Rattle.command_lists.specs.declared.word.ListForm.TheVariants.{Plain, ListOk}
use Rattle.command_lists.specs.declared.word.ListWord.{ListWord}
use Rattle.command_lists.specs.declared.word.ListWord.TheVariants.{Begin, End}

abbrev pub text_of : ListWord → List ℕ
text_of (Begin Plain) = codes "command_list_begin"
text_of (Begin ListOk) = codes "command_list_ok_begin"
text_of End = codes "command_list_end"

abbrev pub list_words : List ListWord
list_words = Begin Plain ∷ Begin ListOk ∷ End ∷ []

-- the text without the blanks at its start
abbrev pub after_blanks : List ℕ → List ℕ
after_blanks [] = []
after_blanks (b ∷ bs) = if is_blank b then after_blanks bs else b ∷ bs

-- the text without the blanks at its end: without each that only blanks follow
abbrev pub before_blanks : List ℕ → List ℕ
before_blanks [] = []
before_blanks (b ∷ bs) = if list_all is_blank (b ∷ bs) then [] else b ∷ before_blanks bs

-- the word that a line is, if it is one
unfoldable pub word_of : List ℕ → Option ListWord
word_of line = find (λ word. bytes_eq (text_of word) (before_blanks (after_blanks line))) list_words
