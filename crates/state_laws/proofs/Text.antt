-- The text of a state is read line by line as the lines of its steps.
use Rattle.std.proofs.Common.{◌≡◌, ◌∙◌, ℕ, zero, suc, ◌-◌, ◌<◌, ◌==◌, Bool, true, false, ◌||◌, nat_le, List, [], ◌∷◌, ◌++◌, All, length, map, refl, sym, ap, subst, arith, append_assoc, codes, decimal, Option, Some, None, if◌then◌else◌, take}
use Rattle.std.specs.Prelude.{slice_index}
use Rattle.std.specs.Cmp.{first_so, second_so}
use Rattle.std.specs.List.{flat_map, slice_split}
use Rattle.std.specs.Str.Lines.{lines as lines_in, lines_of_parts, strip_carriage_return}
use Rattle.std.proofs.lemmas.Bool.{ne_eqb}
use Rattle.std.proofs.lemmas.Bool.Decides.{nat_tests}
use Rattle.std.proofs.lemmas.List.Elements.{All-cons, All-nil}
use Rattle.std.proofs.lemmas.List.Splits.{length-slice_split, slice_split_at}
use Rattle.kept_state.specs.Lines.{Line, alone, entries_steps, entry_lines, song_steps, state_steps}
use Rattle.kept_state.specs.Lines.{Line as lines}
use Rattle.kept_state.specs.Telling.{TellsSteps, begins, ends, is_empty, is_of_state, listed, steps_in}
use Rattle.kept_state.specs.Texts.{state_text, switch_name, text_of_line, text_of_step}
use Rattle.kept_state.specs.Reading.{given_back}
use Rattle.kept_state.specs.declared.kept.Kept.{Kept}
use Rattle.kept_state.specs.declared.kept.KeptEntry.{KeptEntry}
use Rattle.kept_state.specs.declared.kept.KeptOutput.{KeptOutput}
use Rattle.kept_state.specs.declared.kept.KeptSong.{KeptSong}
use Rattle.kept_state.proofs.Texts.{tells_steps}
use Rattle.mpd_command.specs.declared.command.Command.{Command}
use Rattle.mpd_text.specs.Lines.Grammar.{AreBare}
use Rattle.mpd_text.specs.Lines.Quoted.{escaped, quoted_text}
use Rattle.mpd_text.specs.Lines.Scan.{is_bare}
use Rattle.partition.specs.Image.{Image}
use Rattle.partition.specs.declared.state.Setup.{Setup}
use Rattle.player_state.specs.declared.state.Library.{Library}
use Rattle.state_laws.specs.Bytes.{bytes_of, read_bytes}
use Rattle.state_laws.specs.Own.{IsBackFor}
use Rattle.state_laws.specs.Saying.{AllAsk, Asks, CanAsk, EachAsks, PlayerHas, after_steps, begun, is_song}
use Rattle.state_laws.specs.Telling.{EachHasPlainUris, HasNoControl, HasPlainUri, HavePlainUris, LeadsThere, LinesAreOfState, PlayerHears, TextComesBack, TextIsSteps, ToldPlayersComeBack}
use Rattle.state_laws.proofs.Bytes.{lines_end}
use Rattle.state_laws.proofs.Opened.{opened_comes_back}
use Rattle.state_laws.proofs.Own.{players_come_back, state_asks}
use Rattle.state_laws.proofs.Telling.{steps_told}
use Rattle.state_laws.proofs.Words.{decimal_word, millis_word, mode_word, number_up_to, switch_word}

-- no byte of a line is a control
abbrev pub AreFit : List Line → Type 0
AreFit [] = Unit {0}
AreFit (line ∷ more) = HasNoControl (bytes_of line) × AreFit more

abbrev pub EachFit : List (List Line) → Type 0
EachFit [] = Unit {0}
EachFit (step ∷ steps) = AreFit step × EachFit steps

-- ---- one line

not_ten : (b : ℕ) → nat_le 32 b ≡ true → (b == 10) ≡ false
not_ten b e = grind (arith, nat_tests)

not_thirteen : (b : ℕ) → nat_le 32 b ≡ true → (b == 13) ≡ false
not_thirteen b e = grind (arith, nat_tests)

no_feed : (l : List ℕ) → HasNoControl l → All (λ b. (b == 10) ≡ false) l
no_feed [] e = All-nil (λ (b : ℕ). (b == 10) ≡ false)
no_feed (b ∷ bs) e = All-cons (λ (b : ℕ). (b == 10) ≡ false) b bs (not_ten b (first_so _ _ e)) (no_feed bs (second_so _ _ e))

no_return_at : (l : List ℕ) (i : ℕ) → HasNoControl l → (slice_index l i == 13) ≡ false
no_return_at [] i e = refl
no_return_at (b ∷ bs) zero e = not_thirteen b (first_so _ _ e)
no_return_at (b ∷ bs) (suc i) e = no_return_at bs i (second_so _ _ e)

no_return : (l : List ℕ) → HasNoControl l → strip_carriage_return l ≡ l
no_return l e = ap (λ (b : Bool). if b then take (length l - 1) l else l) (no_return_at l (length l - 1) e)

cut : (x : List ℕ) (parts : List (List ℕ)) → 0 < length parts → lines_of_parts (x ∷ parts) ≡ strip_carriage_return x ∷ lines_of_parts parts
cut x [] some = absurd (omega arith)
cut x (y ∷ more) some = refl

pub one_line : (l rest : List ℕ) → HasNoControl l → lines_in (l ++ (10 ∷ rest)) ≡ l ∷ lines_in rest
one_line l rest e =
    let p : ℕ → Bool = λ b. b == 10 in
    let some : 0 < length (slice_split p rest) = omega (arith, length-slice_split p rest) in
    ap lines_of_parts (slice_split_at p l 10 rest (no_feed l e) refl)
    ∙ cut l (slice_split p rest) some
    ∙ ap (λ first. first ∷ lines_in rest) (no_return l e)

-- a line of a state is none of those that begin or end a list, and is not empty
pub record IsPlain (line : List ℕ) : Type 0 where
  pub no_begin : begins line ≡ false
  pub no_end : ends line ≡ false
  pub full : is_empty line ≡ false

pub not_empty : (line : List ℕ) → 0 < length line → is_empty line ≡ false
not_empty line some = ne_eqb (length line) 0 (λ e. omega (arith, e, some))

switch_plain : (on : Bool) (rest : List ℕ) → IsPlain (switch_name on ++ rest)
switch_plain true rest = record { no_begin = refl; no_end = refl; full = not_empty (switch_name true ++ rest) (omega arith) }
switch_plain false rest = record { no_begin = refl; no_end = refl; full = not_empty (switch_name false ++ rest) (omega arith) }

plain : (line : Line) → IsPlain (bytes_of line)
plain (lines.Volume text) = record { no_begin = refl; no_end = refl; full = not_empty (bytes_of (lines.Volume text)) (omega arith) }
plain (lines.Repeat text) = record { no_begin = refl; no_end = refl; full = not_empty (bytes_of (lines.Repeat text)) (omega arith) }
plain (lines.Random text) = record { no_begin = refl; no_end = refl; full = not_empty (bytes_of (lines.Random text)) (omega arith) }
plain (lines.Single text) = record { no_begin = refl; no_end = refl; full = not_empty (bytes_of (lines.Single text)) (omega arith) }
plain (lines.Consume text) = record { no_begin = refl; no_end = refl; full = not_empty (bytes_of (lines.Consume text)) (omega arith) }
plain (lines.Crossfade text) = record { no_begin = refl; no_end = refl; full = not_empty (bytes_of (lines.Crossfade text)) (omega arith) }
plain (lines.Switch output) = switch_plain output.is_on (codes " " ++ decimal output.number)
plain (lines.Put uri) = record { no_begin = refl; no_end = refl; full = not_empty (bytes_of (lines.Put uri)) (omega arith) }
plain (lines.Prioritize priority) = record { no_begin = refl; no_end = refl; full = not_empty (bytes_of (lines.Prioritize priority)) (omega arith) }
plain (lines.Seek text) = record { no_begin = refl; no_end = refl; full = not_empty (bytes_of (lines.Seek text)) (omega arith) }
plain lines.Play = record { no_begin = refl; no_end = refl; full = not_empty (bytes_of lines.Play) (omega arith) }
plain lines.Pause = record { no_begin = refl; no_end = refl; full = not_empty (bytes_of lines.Pause) (omega arith) }
plain lines.Stop = record { no_begin = refl; no_end = refl; full = not_empty (bytes_of lines.Stop) (omega arith) }

pub alone_in : (line : List ℕ) (more : List (List ℕ)) → IsPlain line → steps_in false (line ∷ more) ≡ (line ∷ []) ∷ steps_in false more
alone_in line more p = rw (p.no_begin, p.no_end, p.full) refl

passed_in : (line : List ℕ) (more : List (List ℕ)) → IsPlain line → steps_in true (line ∷ more) ≡ steps_in true more
passed_in line more p = rw (p.no_begin, p.no_end) refl

listed_in : (line : List ℕ) (more : List (List ℕ)) → IsPlain line → listed (line ∷ more) ≡ line ∷ listed more
listed_in line more p = rw (p.no_begin, p.no_end, p.full) refl

-- ---- lines that are told together

line_at : (line : Line) (rest : List ℕ) → HasNoControl (bytes_of line) → lines_in (text_of_line line ++ rest) ≡ bytes_of line ∷ lines_in rest
line_at line rest e =
    ap (λ (text : List ℕ). lines_in (text ++ rest)) (lines_end line)
    ∙ ap (λ (text : List ℕ). lines_in text) (append_assoc (bytes_of line) (codes "\n") rest)
    ∙ one_line (bytes_of line) rest e

inner : (told : List Line) (rest : List ℕ) → AreFit told
    → lines_in (flat_map text_of_line told ++ (codes "command_list_end\n" ++ rest)) ≡ map bytes_of told ++ (codes "command_list_end" ∷ lines_in rest)
inner [] rest fit = one_line (codes "command_list_end") rest refl
inner (line ∷ told) rest fit =
    ap (λ (text : List ℕ). lines_in text) (append_assoc (text_of_line line) (flat_map text_of_line told) (codes "command_list_end\n" ++ rest))
    ∙ line_at line (flat_map text_of_line told ++ (codes "command_list_end\n" ++ rest)) fit.0
    ∙ ap (λ (more : List (List ℕ)). bytes_of line ∷ more) (inner told rest fit.1)

listed_all : (told : List Line) (more : List (List ℕ)) → listed (map bytes_of told ++ (codes "command_list_end" ∷ more)) ≡ map bytes_of told
listed_all [] more = refl
listed_all (line ∷ told) more =
    listed_in (bytes_of line) (map bytes_of told ++ (codes "command_list_end" ∷ more)) (plain line)
    ∙ ap (λ (ls : List (List ℕ)). bytes_of line ∷ ls) (listed_all told more)

passed_all : (told : List Line) (more : List (List ℕ)) → steps_in true (map bytes_of told ++ (codes "command_list_end" ∷ more)) ≡ steps_in false more
passed_all [] more = refl
passed_all (line ∷ told) more =
    passed_in (bytes_of line) (map bytes_of told ++ (codes "command_list_end" ∷ more)) (plain line) ∙ passed_all told more

regroup : (a b e rest : List ℕ) → (a ++ (b ++ e)) ++ rest ≡ (a ++ b) ++ (e ++ rest)
regroup a b e rest = simp append_assoc refl

many_read : (line next : Line) (others : List Line) (rest : List ℕ) → AreFit (line ∷ next ∷ others)
    → steps_in false (lines_in (text_of_step (line ∷ next ∷ others) ++ rest)) ≡ map bytes_of (line ∷ next ∷ others) ∷ steps_in false (lines_in rest)
many_read line next others rest fit =
    let told : List Line = line ∷ next ∷ others in
    let body : List ℕ = flat_map text_of_line told ++ (codes "command_list_end\n" ++ rest) in
    let end : List (List ℕ) = map bytes_of told ++ (codes "command_list_end" ∷ lines_in rest) in
    ap (λ (text : List ℕ). steps_in false (lines_in (codes "command_list_begin" ++ (10 ∷ text))))
    (regroup (text_of_line line) (flat_map text_of_line (next ∷ others)) (codes "command_list_end\n") rest)
    ∙ ap (steps_in false) (one_line (codes "command_list_begin") body refl)
    ∙ ap (λ (ls : List (List ℕ)). listed ls ∷ steps_in true ls) (inner told rest fit)
    ∙ ap (λ (step : List (List ℕ)). step ∷ steps_in true end) (listed_all told (lines_in rest))
    ∙ ap (λ (steps : List (List (List ℕ))). map bytes_of told ∷ steps) (passed_all told (lines_in rest))

pub step_read : (step : List Line) (rest : List ℕ) → 0 < length step → AreFit step
    → steps_in false (lines_in (text_of_step step ++ rest)) ≡ map bytes_of step ∷ steps_in false (lines_in rest)
step_read [] rest some fit = absurd (omega arith)
step_read (line ∷ []) rest some fit =
    ap (steps_in false) (line_at line rest fit.0) ∙ alone_in (bytes_of line) (lines_in rest) (plain line)
step_read (line ∷ next ∷ others) rest some fit = many_read line next others rest fit

-- ---- all steps

abbrev pub EachFull : List (List Line) → Type 0
EachFull [] = Unit {0}
EachFull (step ∷ steps) = (0 < length step) × EachFull steps

all_read : (steps : List (List Line)) → EachFull steps → EachFit steps → steps_in false (lines_in (flat_map text_of_step steps)) ≡ map (map bytes_of) steps
all_read [] full fit = refl
all_read (step ∷ steps) full fit =
    step_read step (flat_map text_of_step steps) full.0 fit.0
    ∙ ap (λ (more : List (List (List ℕ))). map bytes_of step ∷ more) (all_read steps full.1 fit.1)

full_append : (before after : List (List Line)) → EachFull before → EachFull after → EachFull (before ++ after)
full_append [] after full more = more
full_append (step ∷ before) after full more = (full.0, full_append before after full.1 more)

full_outputs : (outputs : List KeptOutput) → EachFull (map (λ output. alone (lines.Switch output)) outputs)
full_outputs [] = tt
full_outputs (output ∷ outputs) = (omega arith, full_outputs outputs)

full_entries : (entries : List KeptEntry) → EachFull (entries_steps entries)
full_entries [] = tt
full_entries (entry ∷ entries) = full_append (entries_steps entries) (entry_lines entry ∷ []) (full_entries entries) (omega arith, tt)

full_song : (song : Option KeptSong) → EachFull (song_steps song)
full_song None = tt
full_song (Some song) = (omega arith, tt)

pub full_state : (kept : Kept) → EachFull (state_steps kept)
full_state kept =
    let queue : EachFull (entries_steps kept.after.items ++ (song_steps kept.song ++ entries_steps kept.before.items)) =
    full_append (entries_steps kept.after.items) (song_steps kept.song ++ entries_steps kept.before.items) (full_entries kept.after.items)
    (full_append (song_steps kept.song) (entries_steps kept.before.items) (full_song kept.song) (full_entries kept.before.items)) in
    let one : (line : Line) → 0 < length (alone line) = λ line. omega arith in
    let o = kept.options in
    let rest = full_append (map (λ output. alone (lines.Switch output)) kept.outputs.items) (entries_steps kept.after.items ++ (song_steps kept.song ++ entries_steps kept.before.items)) (full_outputs kept.outputs.items) queue in
    (one (lines.Volume o.volume), (one (lines.Repeat o.repeat), (one (lines.Random o.random), (one (lines.Single o.single), (one (lines.Consume o.consume), (one (lines.Crossfade o.crossfade), rest))))))

fit_text : (kept : Kept) → EachFit (state_steps kept) → steps_in false (lines_in (state_text kept)) ≡ map (map bytes_of) (state_steps kept)
fit_text kept fit =
    ap (λ (text : List ℕ). steps_in false (lines_in text)) (tells_steps kept) ∙ all_read (state_steps kept) (full_state kept) fit

-- ---- no controls

pub append_fit : (xs ys : List ℕ) → HasNoControl xs → HasNoControl ys → HasNoControl (xs ++ ys)
append_fit [] ys f g = g
append_fit (x ∷ xs) ys f g =
    let first : nat_le 32 x ≡ true = first_so _ _ f in
    rw first (append_fit xs ys (second_so _ _ f) g)

bare_fit : (b : ℕ) → is_bare b ≡ true → nat_le 32 b ≡ true
bare_fit b e = grind (arith, nat_tests)

word_fit : (text : List ℕ) → AreBare text → HasNoControl text
word_fit [] bare = refl
word_fit (b ∷ bs) bare =
    let first : nat_le 32 b ≡ true = bare_fit b bare.0 in
    rw first (word_fit bs bare.1)

escaped_fit : (b : ℕ) → nat_le 32 b ≡ true → HasNoControl (escaped b)
escaped_fit b e =
    let cases : (c : Bool) → HasNoControl (if c then 92 ∷ b ∷ [] else b ∷ []) =
    λ c. elim c as (λ c. HasNoControl (if c then 92 ∷ b ∷ [] else b ∷ [])) [ true ↦ rw e refl | false ↦ rw e refl ] in
    cases ((b == 34) || (b == 92))

pub inside_fit : (text : List ℕ) → HasNoControl text → HasNoControl (flat_map escaped text)
inside_fit [] e = refl
inside_fit (b ∷ bs) e = append_fit (escaped b) (flat_map escaped bs) (escaped_fit b (first_so _ _ e)) (inside_fit bs (second_so _ _ e))

put_fit : (uri : List ℕ) → HasNoControl uri → HasNoControl (bytes_of (lines.Put uri))
put_fit uri e = append_fit (quoted_text uri) (codes " 0") (append_fit (flat_map escaped uri) (34 ∷ []) (inside_fit uri e) refl) refl

switch_fit : (on : Bool) (number : List ℕ) → HasNoControl number → HasNoControl (switch_name on ++ (codes " " ++ number))
switch_fit true number e = e
switch_fit false number e = e

line_fit : (line : Line) (it : Command) → Asks line it → HasPlainUri line → HasNoControl (bytes_of line)
line_fit (lines.Volume text) it asks plain = word_fit text (number_up_to 100 text asks.0 asks.1).1
line_fit (lines.Repeat text) it asks plain = word_fit text (switch_word text asks.0 asks.1).1
line_fit (lines.Random text) it asks plain = word_fit text (switch_word text asks.0 asks.1).1
line_fit (lines.Single text) it asks plain = word_fit text (mode_word text asks.0 asks.1).1
line_fit (lines.Consume text) it asks plain = word_fit text (mode_word text asks.0 asks.1).1
line_fit (lines.Crossfade text) it asks plain = word_fit text (number_up_to 3600 text asks.0 asks.1).1
line_fit (lines.Switch output) it asks plain =
    switch_fit output.is_on (decimal output.number) (word_fit (decimal output.number) (decimal_word output.number asks.0).1)
line_fit (lines.Put uri) it asks plain = put_fit uri plain
line_fit (lines.Prioritize priority) it asks plain =
    append_fit (decimal priority) (codes " 0") (word_fit (decimal priority) (decimal_word priority (omega (arith, asks.0))).1) refl
line_fit (lines.Seek text) it asks plain = word_fit text (millis_word text asks.0 asks.1).1
line_fit lines.Play it asks plain = refl
line_fit lines.Pause it asks plain = refl
line_fit lines.Stop it asks plain = refl

line_can : (line : Line) → CanAsk line → HasPlainUri line → HasNoControl (bytes_of line)
line_can line (it, asks) plain = line_fit line it asks plain

are_fit : (step : List Line) → AllAsk step → HavePlainUris step → AreFit step
are_fit [] ask plain = tt
are_fit (line ∷ more) ask plain = (line_can line ask.0 plain.0, are_fit more ask.1 plain.1)

pub each_fit : (steps : List (List Line)) → EachAsks steps → EachHasPlainUris steps → EachFit steps
each_fit [] ask plain = tt
each_fit (step ∷ steps) ask plain = (are_fit step ask.0 plain.0, each_fit steps ask.1 plain.1)

pub text_is_steps : TextIsSteps
text_is_steps kept ask plain = fit_text kept (each_fit (state_steps kept) ask plain)

-- ---- which lines a state has

switch_of_state : (on : Bool) (rest : List ℕ) → is_of_state (switch_name on ++ (32 ∷ rest)) ≡ true
switch_of_state true rest = refl
switch_of_state false rest = refl

pub lines_are_of_state : LinesAreOfState
lines_are_of_state (lines.Volume text) = refl
lines_are_of_state (lines.Repeat text) = refl
lines_are_of_state (lines.Random text) = refl
lines_are_of_state (lines.Single text) = refl
lines_are_of_state (lines.Consume text) = refl
lines_are_of_state (lines.Crossfade text) = refl
lines_are_of_state (lines.Switch output) = switch_of_state output.is_on (decimal output.number)
lines_are_of_state (lines.Put uri) = refl
lines_are_of_state (lines.Prioritize priority) = refl
lines_are_of_state (lines.Seek text) = refl
lines_are_of_state lines.Play = refl
lines_are_of_state lines.Pause = refl
lines_are_of_state lines.Stop = refl

-- ---- what a player is that was told a text

led_there : (seat number : ℕ) (setup : Setup) (library : Library) (kept : Kept) (after : Image) → EachAsks (state_steps kept)
    → EachHasPlainUris (state_steps kept) → LeadsThere seat number setup library kept after
    → after ≡ after_steps seat number read_bytes (state_steps kept) (begun seat number setup library)
led_there seat number setup library kept after ask plain (refused, told) =
    let start : Image = begun seat number setup library in
    let of_steps : TellsSteps (PlayerHears seat number) (map (map bytes_of) (state_steps kept)) start refused after =
    subst (λ (steps : List (List (List ℕ))). TellsSteps (PlayerHears seat number) steps start refused after) (text_is_steps kept ask plain) told in
    steps_told seat number refused (state_steps kept) start after of_steps

pub text_comes_back : TextComesBack
text_comes_back seat number setup library kept after ask plain room told =
    subst (λ (i : Image). PlayerHas library number 0 i (given_back (is_song library) kept))
    (sym (led_there seat number setup library kept after ask plain told))
    (opened_comes_back seat number setup library kept ask room)

pub told_players_come_back : ToldPlayersComeBack
told_players_come_back seat number setup library part kept after can is plain room told =
    subst (IsBackFor library.rate number part kept)
    (sym (led_there seat number setup library kept after (state_asks library part part can kept is) plain told))
    (players_come_back seat number setup library part kept can is room)
