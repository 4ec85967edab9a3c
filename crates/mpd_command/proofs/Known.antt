-- The names by their letters: what the tables say, by computation, and where a word is looked for.
use Rattle.std.proofs.Common.{◌≡◌, ℕ, ◌+◌, ◌-◌, ◌<◌, ◌≤◌, Bool, true, false, ◌&&◌, List, [], ◌∷◌, length, get_or, Option, Some, None, refl, ap, sym, subst, ◌∙◌, ◌||◌, not, zero, suc, zero-add, take, drop, map, Bor, inl, inr, ◌⊎◌, arith}
use Rattle.std.specs.Str.{bytes_eq}
use Rattle.std.specs.List.{list_all, list_any, position, slice_range}
use Rattle.std.specs.Option.{is_some, option_map}
use Rattle.std.proofs.Math.Dec.{leb, ltb}
use Rattle.std.proofs.lemmas.Bool.{false_from_ne_true, leb-true, ltb-true}
use Rattle.std.proofs.lemmas.List.Quantifiers.{position-Some}
use Rattle.std.specs.Cmp.{first_so, second_so}
use Rattle.std.proofs.lemmas.List.{length-map}
use Rattle.std.proofs.lemmas.Slice.Eq.{bytes_eq-Decides}
use Rattle.mpd_command.specs.Names.{all_names, everyday_names, is_added_name, is_there, letter_of, name_of, starts, text_of}
use Rattle.mpd_command.specs.Connection.{rows as connection_rows, rows_from_notcommands}
use Rattle.mpd_command.specs.Database.{rows as database_rows, rows_from_listall, rows_from_rescan}
use Rattle.mpd_command.specs.Messages.{rows as messages_rows}
use Rattle.mpd_command.specs.Options.{rows as options_rows, rows_from_replay_gain_mode}
use Rattle.mpd_command.specs.Outputs.{rows as outputs_rows}
use Rattle.mpd_command.specs.Partitions.{rows as partitions_rows}
use Rattle.mpd_command.specs.Playback.{rows as playback_rows, rows_from_seek}
use Rattle.mpd_command.specs.Playlists.{rows as playlists_rows, rows_from_playlistadd}
use Rattle.mpd_command.specs.Queue.{rows as queue_rows, rows_from_playlist, rows_from_prio}
use Rattle.mpd_command.specs.Status.{rows as status_rows}
use Rattle.mpd_command.specs.Stickers.{rows as stickers_rows}
use Rattle.mpd_command.specs.declared.command_set.CommandSet.{CommandSet}
use Rattle.mpd_command.specs.declared.name.Name.{Name}
use Rattle.mpd_command.proofs.Indices.{first_within, said_between, same_position}

-- from its letter's start on, and before the next letter's
abbrev StandsAt : List ℕ → List ℕ → ℕ → Type 0
StandsAt heads name index = (get_or heads (letter_of name) 0 ≤ index) × (index < get_or heads (letter_of name + 1) 0)

-- whether each name stands so, where the first is at this index
abbrev stand : List ℕ → ℕ → List (List ℕ) → Bool
stand heads index [] = true
stand heads index (name ∷ names) = (leb (get_or heads (letter_of name) 0) index && ltb index (get_or heads (letter_of name + 1) 0)) && stand heads (index + 1) names

stand-at : (heads : List ℕ) (names : List (List ℕ)) (index i : ℕ) → stand heads index names ≡ true → i < length names → StandsAt heads (get_or names i []) (index + i)
stand-at heads [] index i all low = absurd (omega arith)
stand-at heads (name ∷ names) index zero all low =
    let here : (leb (get_or heads (letter_of name) 0) index && ltb index (get_or heads (letter_of name + 1) 0)) ≡ true = first_so _ _ all in
    let from : get_or heads (letter_of name) 0 ≤ index = leb-true _ _ (first_so _ _ here) in
    let before : index < get_or heads (letter_of name + 1) 0 = ltb-true _ _ (second_so _ _ here) in
    (omega arith, omega arith)
stand-at heads (name ∷ names) index (suc i) all low =
    let same : (index + 1) + i ≡ index + suc i = omega arith in
    subst (StandsAt heads (get_or names i [])) same (stand-at heads names (index + 1) i (second_so _ _ all) (omega arith))

all-stand : stand starts 0 all_names ≡ true
unfolding all_names connection_rows rows_from_notcommands database_rows rows_from_listall rows_from_rescan messages_rows options_rows rows_from_replay_gain_mode outputs_rows partitions_rows playback_rows rows_from_seek playlists_rows rows_from_playlistadd queue_rows rows_from_playlist rows_from_prio status_rows stickers_rows starts
all-stand = refl

starts-fit : list_all (λ start. leb start (length all_names)) starts ≡ true
unfolding all_names connection_rows rows_from_notcommands database_rows rows_from_listall rows_from_rescan messages_rows options_rows rows_from_replay_gain_mode outputs_rows partitions_rows playback_rows rows_from_seek playlists_rows rows_from_playlistadd queue_rows rows_from_playlist rows_from_prio status_rows stickers_rows starts
starts-fit = refl

at-most : (heads : List ℕ) (most i : ℕ) → list_all (λ start. leb start most) heads ≡ true → get_or heads i 0 ≤ most
at-most [] most i all = omega arith
at-most (head ∷ heads) most zero all = leb-true _ _ (first_so _ _ all)
at-most (head ∷ heads) most (suc i) all = at-most heads most i (second_so _ _ all)

pub start-fits : (letter : ℕ) → get_or starts letter 0 ≤ length all_names
start-fits letter = at-most starts (length all_names) letter starts-fit

same_word : (name word : List ℕ) → bytes_eq name word ≡ true → name ≡ word
same_word name word = (bytes_eq-Decides name word).0

-- a word is the first of its letter's names that it is the first of all names
pub found-by_letter : (word : List ℕ)
    → option_map (λ index. get_or starts (letter_of word) 0 + index) (position (λ name. bytes_eq name word) (slice_range all_names (get_or starts (letter_of word) 0) (get_or starts (letter_of word + 1) 0)))
    ≡ position (λ name. bytes_eq name word) all_names
found-by_letter word =
    first_within (λ name. bytes_eq name word) all_names (get_or starts (letter_of word) 0) (get_or starts (letter_of word + 1) 0)
    (λ i low same.
    let P : List ℕ → Type 0 = λ other. StandsAt starts other i in
    subst P (same_word (get_or all_names i []) word same) (subst (StandsAt starts (get_or all_names i [])) (zero-add i) (stand-at starts all_names 0 i all-stand low)))
    (start-fits (letter_of word + 1))

-- among the texts between two letters' starts a word is found where it is among all
module _ (texts : List (Bor (List ℕ))) (word : List ℕ) (letter start end : ℕ) (same : map (λ text. text.now) texts ≡ all_names) (begins : letter ≡ letter_of word) (from : start ≡ get_or starts letter 0) (before : end ≡ get_or starts (letter + 1) 0) where
  pub found-between : (part : List (Bor (List ℕ))) → part ≡ slice_range texts start end
      → option_map (λ index. start + index) (position (λ text. bytes_eq text.now word) part) ≡ position (λ name. bytes_eq name word) all_names
  found-between part is =
      let said : map (λ text. text.now) part ≡ slice_range all_names start end = ap (map (λ text. text.now)) is ∙ said_between texts all_names start end same in
      let first : start ≡ get_or starts (letter_of word) 0 = from ∙ ap (λ (k : ℕ). get_or starts k 0) begins in
      let last : end ≡ get_or starts (letter_of word + 1) 0 = before ∙ ap (λ (k : ℕ). get_or starts (k + 1) 0) begins in
      ap (option_map (λ index. start + index)) (same_position part (slice_range all_names start end) word said)
      ∙ rw (first, last) (found-by_letter word)

  -- where they are no part of all texts, the word is no name
  pub found-nowhere : (end < start) ⊎ (length texts < end) → None ≡ position (λ name. bytes_eq name word) all_names
  found-nowhere (inl none) = found-between [] (let nothing : end - start ≡ 0 = omega arith in sym (ap (λ (n : ℕ). take n (drop start texts)) nothing))
  found-nowhere (inr past) =
      let long : length texts ≡ length all_names = sym (length-map texts (λ text. text.now)) ∙ ap length same in
      let fits : get_or starts (letter + 1) 0 ≤ length all_names = start-fits (letter + 1) in
      absurd (omega arith)

-- the text of the name that a word is, is the word
placed : (found : Option ℕ) (name : Name) → option_map (λ index. record { index = index }) found ≡ Some name → found ≡ Some name.index
placed None name same = cc
placed (Some index) name same = cc

pub text-of_word : (word : List ℕ) (name : Name) → name_of word ≡ Some name → text_of name ≡ word
unfolding name_of
text-of_word word name same = same_word _ _ (position-Some (λ other. bytes_eq other word) all_names name.index [] (placed _ name same)).1

-- each name that the everyday profile adds is one of all names
added-named : list_all (λ name. is_some (position (λ other. bytes_eq other name) all_names)) everyday_names ≡ true
unfolding all_names connection_rows rows_from_notcommands database_rows rows_from_listall rows_from_rescan messages_rows options_rows rows_from_replay_gain_mode outputs_rows partitions_rows playback_rows rows_from_seek playlists_rows rows_from_playlistadd queue_rows rows_from_playlist rows_from_prio status_rows stickers_rows
added-named = refl

each-added : (test : List ℕ → Bool) (names : List (List ℕ)) (word : List ℕ) → list_all test names ≡ true → list_any (λ name. bytes_eq name word) names ≡ true → test word ≡ true
each-added test [] word all any = absurd (let clash : true ≡ false = sym any in cc)
each-added test (name ∷ names) word all any = by (each-added test names word (second_so _ _ all)) (bytes_eq name word) refl any
  where
    by : (list_any (λ other. bytes_eq other word) names ≡ true → test word ≡ true) → (b : Bool) → bytes_eq name word ≡ b → (b || list_any (λ other. bytes_eq other word) names) ≡ true → test word ≡ true
    by rest true same any = let P : List ℕ → Type 0 = λ other. test other ≡ true in subst P (same_word name word same) (first_so _ _ all)
    by rest false other any = rest any

unnamed : (found : Option ℕ) → option_map {U = Name} (λ index. record { index = index }) found ≡ None → is_some found ≡ false
unnamed None same = refl
unnamed (Some index) same = cc

pub not-added : (word : List ℕ) → name_of word ≡ None → is_added_name word ≡ false
unfolding name_of
not-added word none = false_from_ne_true _ (λ added.
    let named : is_some (position (λ other. bytes_eq other word) all_names) ≡ true = each-added (λ name. is_some (position (λ other. bytes_eq other name) all_names)) everyday_names word added-named added in
    let clash : true ≡ false = sym named ∙ unnamed _ none in
    cc)

either : (b : Bool) → (b || true) ≡ true
either true = refl
either false = refl

-- so a word that is no name is as the name of a base command
pub there-unnamed : (word : List ℕ) (set : CommandSet) → name_of word ≡ None → is_there word set ≡ true
there-unnamed word set none = ap (λ (added : Bool). set.everyday || not added) (not-added word none) ∙ either set.everyday
