-- What one more line changes in what was told.
use Rattle.std.proofs.Common.{◌≡◌, ◌∙◌, ℕ, List, [], ◌∷◌, ◌++◌, map, refl, sym, ap, Option, Some, None, Result, Ok, Err, IfOk, unwrap_or, option_map, codes}
use Rattle.std.specs.Option.{option_and_then}
use Rattle.std.proofs.lemmas.List.{map-append}
use Rattle.mpd_text.specs.Answers.Number.{number_of}
use Rattle.kept_state.specs.Heard.{HasHeard, Hears, Keeps, at_last, options_after, outputs_after, outputs_with, position_after, prioritized, songs_after, songs_with, switched, text_after}
use Rattle.kept_state.specs.Told.{IsTold, Tellings, after_position, at_position, before_position, behind, entry_told, is_on, items, later, number_or_zero, options_told, output_told, outputs_told, position_told, playback_for, song_of, songs_told, tellings, told, told_or, told_within}
use Rattle.kept_state.specs.declared.answers.Heard.{Heard}
use Rattle.kept_state.specs.declared.kept.Kept.{Kept}
use Rattle.kept_state.specs.declared.kept.KeptOptions.{KeptOptions}

-- ---- one key

later_none : {A : Type 0} (o : Option A) → later None o ≡ o
later_none None = refl
later_none (Some a) = refl

later_assoc : {A : Type 0} (a b c : Option A) → later (later a b) c ≡ later a (later b c)
later_assoc a b None = refl
later_assoc a b (Some c) = refl

told_more : (key line : List ℕ) (lines : List (List ℕ)) → told key (lines ++ line ∷ []) ≡ later (told key lines) (behind key line)
told_more key line [] = sym (later_none (behind key line))
told_more key line (l ∷ lines) = ap (later (behind key l)) (told_more key line lines) ∙ sym (later_assoc (behind key l) (told key lines) (behind key line))

later_or : (earlier value : Option (List ℕ)) (default : List ℕ) → unwrap_or (later earlier value) default ≡ unwrap_or value (unwrap_or earlier default)
later_or earlier None default = refl
later_or earlier (Some value) default = refl

pub text_more : (key default line : List ℕ) (lines : List (List ℕ)) → text_after key line (told_or key default lines) ≡ told_or key default (lines ++ line ∷ [])
text_more key default line lines =
    sym (ap (λ o. unwrap_or o default) (told_more key line lines) ∙ later_or (told key lines) (behind key line) default)

later_position : (earlier value : Option (List ℕ)) → position_after value (option_and_then number_of earlier) ≡ option_and_then number_of (later earlier value)
later_position earlier None = refl
later_position earlier (Some value) = refl

position_more : (line : List ℕ) (lines : List (List ℕ)) → position_after (behind (codes "song: ") line) (position_told lines) ≡ position_told (lines ++ line ∷ [])
position_more line lines =
    later_position (told (codes "song: ") lines) (behind (codes "song: ") line)
    ∙ sym (ap (option_and_then number_of) (told_more (codes "song: ") line lines))

options : List ℕ → List ℕ → List ℕ → List ℕ → List ℕ → List ℕ → KeptOptions
options a b c d e f = record { volume = a; repeat = b; random = c; single = d; consume = e; crossfade = f }

options_more : (line : List ℕ) (lines : List (List ℕ)) → options_after line (options_told lines) ≡ options_told (lines ++ line ∷ [])
options_more line lines =
    let volume = text_more (codes "volume: ") (codes "100") line lines in
    let repeat = text_more (codes "repeat: ") (codes "0") line lines in
    let random = text_more (codes "random: ") (codes "0") line lines in
    let single = text_more (codes "single: ") (codes "0") line lines in
    let consume = text_more (codes "consume: ") (codes "0") line lines in
    let crossfade = text_more (codes "xfade: ") (codes "0") line lines in
    cc

-- ---- items

abbrev Item : Type 0
Item = List ℕ × Option (List ℕ)

abbrev valued : Option (List ℕ) → Item → Item
valued value item = (item.0, later item.1 value)

-- the items after one more telling
abbrev items_after : Option (List ℕ) → Option (List ℕ) → List Item → List Item
items_after None value all = at_last (valued value) all
items_after (Some first) value all = all ++ (first, None) ∷ []

within_begin : (t : Tellings) (first : List ℕ) (value : Option (List ℕ)) → told_within (t ++ (Some first, value) ∷ []) ≡ told_within t
within_begin [] first value = refl
within_begin ((None, v) ∷ t) first value = ap (later v) (within_begin t first value)
within_begin ((Some f, v) ∷ t) first value = refl

-- where an item has begun, a telling behind it is of this item or of a later one
within_more : (t : Tellings) (value : Option (List ℕ)) (x : Item) (xs : List Item) → items t ≡ x ∷ xs → told_within (t ++ (None, value) ∷ []) ≡ told_within t
within_more [] value x xs is = cc
within_more ((None, v) ∷ t) value x xs is = ap (later v) (within_more t value x xs is)
within_more ((Some f, v) ∷ t) value x xs is = refl

within_last : (t : Tellings) (value : Option (List ℕ)) → items t ≡ [] → told_within (t ++ (None, value) ∷ []) ≡ later (told_within t) value
within_last [] value is = sym (later_none value)
within_last ((None, v) ∷ t) value is = ap (later v) (within_last t value is) ∙ sym (later_assoc v (told_within t) value)
within_last ((Some f, v) ∷ t) value is = cc

items_begin : (t : Tellings) (first : List ℕ) (value : Option (List ℕ)) → items (t ++ (Some first, value) ∷ []) ≡ items t ++ (first, None) ∷ []
items_begin [] first value = refl
items_begin ((None, v) ∷ t) first value = items_begin t first value
items_begin ((Some f, v) ∷ t) first value =
    ap (λ w. (f, w) ∷ items (t ++ (Some first, value) ∷ [])) (within_begin t first value)
    ∙ ap (λ all. (f, told_within t) ∷ all) (items_begin t first value)

first_item : (t : Tellings) (f : List ℕ) (value : Option (List ℕ)) (all : List Item) → items t ≡ all
    → items (t ++ (None, value) ∷ []) ≡ at_last (valued value) all
    → (f, told_within (t ++ (None, value) ∷ [])) ∷ items (t ++ (None, value) ∷ []) ≡ at_last (valued value) ((f, told_within t) ∷ all)
first_item t f value [] is rest =
    ap (λ w. (f, w) ∷ items (t ++ (None, value) ∷ [])) (within_last t value is) ∙ ap (λ all. (f, later (told_within t) value) ∷ all) rest
first_item t f value (x ∷ xs) is rest =
    ap (λ w. (f, w) ∷ items (t ++ (None, value) ∷ [])) (within_more t value x xs is) ∙ ap (λ all. (f, told_within t) ∷ all) rest

items_value : (t : Tellings) (value : Option (List ℕ)) → items (t ++ (None, value) ∷ []) ≡ at_last (valued value) (items t)
items_value [] value = refl
items_value ((None, v) ∷ t) value = items_value t value
items_value ((Some f, v) ∷ t) value = first_item t f value (items t) refl (items_value t value)

items_more : (t : Tellings) (first value : Option (List ℕ)) → items (t ++ (first, value) ∷ []) ≡ items_after first value (items t)
items_more t None value = items_value t value
items_more t (Some first) value = items_begin t first value

-- ---- what is kept of an item

map_at_last : {A B : Type 0} (g : A → B) (c : A → A) (d : B → B) → ((x : A) → g (c x) ≡ d (g x)) → (xs : List A) → map g (at_last c xs) ≡ at_last d (map g xs)
map_at_last g c d same [] = refl
map_at_last g c d same (x ∷ []) = ap (λ y. y ∷ []) (same x)
map_at_last g c d same (x ∷ y ∷ more) = ap (λ ys. g x ∷ ys) (map_at_last g c d same (y ∷ more))

at_last_same : {A : Type 0} (c : A → A) → ((x : A) → c x ≡ x) → (xs : List A) → at_last c xs ≡ xs
at_last_same c same [] = refl
at_last_same c same (x ∷ []) = ap (λ y. y ∷ []) (same x)
at_last_same c same (x ∷ y ∷ more) = ap (λ ys. x ∷ ys) (at_last_same c same (y ∷ more))

outputs_at : (first value : Option (List ℕ)) (all : List Item) → map output_told (items_after first value all) ≡ outputs_after first value (map output_told all)
outputs_at (Some first) value all = map-append output_told all ((first, None) ∷ [])
outputs_at None None all = ap (map output_told) (at_last_same (valued None) (λ x. refl) all)
outputs_at None (Some value) all = map_at_last output_told (valued (Some value)) (switched (is_on value)) (λ x. refl) all

songs_at : (first value : Option (List ℕ)) (all : List Item) → map entry_told (items_after first value all) ≡ songs_after first value (map entry_told all)
songs_at (Some first) value all = map-append entry_told all ((first, None) ∷ [])
songs_at None None all = ap (map entry_told) (at_last_same (valued None) (λ x. refl) all)
songs_at None (Some value) all = map_at_last entry_told (valued (Some value)) (prioritized (number_or_zero value)) (λ x. refl) all

tellings_more : (begin key line : List ℕ) (lines : List (List ℕ)) → tellings begin key (lines ++ line ∷ []) ≡ tellings begin key lines ++ (behind begin line, behind key line) ∷ []
tellings_more begin key line lines = map-append (λ l. (behind begin l, behind key l)) lines (line ∷ [])

outputs_more : (line : List ℕ) (lines : List (List ℕ))
    → outputs_with line (outputs_told lines) ≡ outputs_told (lines ++ line ∷ [])
outputs_more line lines =
    let first = behind (codes "outputid: ") line in
    let value = behind (codes "outputenabled: ") line in
    let t = tellings (codes "outputid: ") (codes "outputenabled: ") lines in
    sym (ap (λ all. map output_told (items all)) (tellings_more (codes "outputid: ") (codes "outputenabled: ") line lines)
    ∙ ap (map output_told) (items_more t first value) ∙ outputs_at first value (items t))

songs_more : (line : List ℕ) (lines : List (List ℕ))
    → songs_with line (songs_told lines) ≡ songs_told (lines ++ line ∷ [])
songs_more line lines =
    let first = behind (codes "file: ") line in
    let value = behind (codes "Prio: ") line in
    let t = tellings (codes "file: ") (codes "Prio: ") lines in
    sym (ap (λ all. map entry_told (items all)) (tellings_more (codes "file: ") (codes "Prio: ") line lines)
    ∙ ap (map entry_told) (items_more t first value) ∙ songs_at first value (items t))

-- ---- all that was heard

pub heard_more : (lines : List (List ℕ)) (line : List ℕ) (old new : Heard) → HasHeard lines old → Hears line old new → HasHeard (lines ++ line ∷ []) new
heard_more lines line old new has hears = record {
  options = hears.options ∙ ap (options_after line) has.options ∙ options_more line lines;
  position = hears.position ∙ ap (position_after (behind (codes "song: ") line)) has.position ∙ position_more line lines;
  state = hears.state ∙ ap (text_after (codes "state: ") line) has.state ∙ text_more (codes "state: ") (codes "stop") line lines;
  elapsed = hears.elapsed ∙ ap (text_after (codes "elapsed: ") line) has.elapsed ∙ text_more (codes "elapsed: ") (codes "0") line lines;
  outputs = hears.outputs ∙ ap (outputs_with line) has.outputs ∙ outputs_more line lines;
  songs = hears.songs ∙ ap (songs_with line) has.songs ∙ songs_more line lines;
}

pub kept_told : (lines : List (List ℕ)) (heard : Heard) (kept : Kept) → HasHeard lines heard → Keeps heard kept → IsTold lines kept
kept_told lines heard kept has keeps = record {
  options = keeps.options ∙ has.options;
  outputs = keeps.outputs ∙ has.outputs;
  before = keeps.before ∙ ap (λ position. before_position position heard.songs.items) has.position ∙ ap (before_position (position_told lines)) has.songs;
  song = keeps.song ∙ ap (λ state. option_map (song_of (playback_for state heard.elapsed)) (at_position heard.position heard.songs.items)) has.state
      ∙ ap (λ elapsed. option_map (song_of (playback_for (told_or (codes "state: ") (codes "stop") lines) elapsed)) (at_position heard.position heard.songs.items)) has.elapsed
      ∙ ap (λ position. option_map (song_of (playback_for (told_or (codes "state: ") (codes "stop") lines) (told_or (codes "elapsed: ") (codes "0") lines))) (at_position position heard.songs.items)) has.position
      ∙ ap (λ songs. option_map (song_of (playback_for (told_or (codes "state: ") (codes "stop") lines) (told_or (codes "elapsed: ") (codes "0") lines))) (at_position (position_told lines) songs)) has.songs;
  after = keeps.after ∙ ap (λ position. after_position position heard.songs.items) has.position ∙ ap (after_position (position_told lines)) has.songs;
}

pub kept_told_ok : {E : Type 0} (lines : List (List ℕ)) (heard : Heard) (r : Result Kept E) → HasHeard lines heard → IfOk r (Keeps heard) → IfOk r (IsTold lines)
kept_told_ok lines heard (Ok kept) has keeps = kept_told lines heard kept has keeps
kept_told_ok lines heard (Err e) has keeps = keeps
