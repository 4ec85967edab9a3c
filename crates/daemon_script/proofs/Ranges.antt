-- What the lines of a script can hold.
use Rattle.std.proofs.Common.{◌≡◌, ℕ, ◌-◌, ◌<◌, ◌≤◌, ◌==◌, Bool, true, false, List, [], ◌∷◌, Option, Some, None, Result, Ok, Err, cond, refl, ap, sym, arith}
use Rattle.std.specs.Prelude.{◌&&◌, nat_le, codes}
use Rattle.std.specs.List.{list_all}
use Rattle.std.specs.Str.{bytes_eq}
use Rattle.std.proofs.lemmas.Bool.Decides.{nat_tests}
use Rattle.mpd_text.specs.Answers.Number.{number_of}
use Rattle.mpd_text.specs.Lines.Scan.{words_of}
use Rattle.mpd_text.specs.Songs.Song.{SongData}
use Rattle.mpd_text.specs.declared.lines.quoting.WordsFault.{WordsFault}
use Rattle.script_lines.specs.Cuts.{before, after}
use Rattle.script_lines.specs.Lines.{LineData, ClientLine, StepLine, BadLine, by_head, script_line_of}
use Rattle.script_lines.specs.Limits.{limit_named, greatest_of, within, number_within}
use Rattle.script_lines.specs.Steps.{step_of, step_if_read, song_of, song_with, is_uri, limit_of, limit_with, limit_to, gone_of, gone_with, scanned_of, window_of, in_first, in_named, job_step_of, flag_of, named_of, turn_as, turn_at, turn_of, turn_to, turn_told, turn_with, player_step_of}
use Rattle.script_lines.specs.Tags.{is_tag, tags_of}
use Rattle.script_lines.specs.declared.limit.LimitName.{LimitName}
use Rattle.script_lines.specs.declared.step.JobStep.{JobStep}
use Rattle.script_lines.specs.declared.step.Step.{Step}
use Rattle.script_lines.specs.declared.step.Step.TheVariants.{Song, Limit}

positive : (b : Bool) (m n : ℕ) → (b ≡ true → 1 ≤ m) → cond b (Some m) None ≡ Some n → 1 ≤ n
positive true m n h e = let same : m ≡ n = cc in let le = h refl in omega arith
positive false m n h e = cc

within_positive : (greatest : ℕ) (o : Option ℕ) (n : ℕ) → within greatest o ≡ Some n → 1 ≤ n
within_positive greatest None n e = cc
within_positive greatest (Some m) n e = positive (nat_le 1 m && nat_le m greatest) m n (λ t. grind (arith, nat_tests)) e

limit_is : (name : LimitName) (o : Option ℕ) (found : LimitName) (n : ℕ) → limit_to name o ≡ Some (Limit found n) → o ≡ Some n
limit_is name None found n e = cc
limit_is name (Some m) found n e = let same : m ≡ n = cc in ap Some same

limit_positive : (named : Option LimitName) (word : List ℕ) (found : LimitName) (n : ℕ) → limit_with named word ≡ Some (Limit found n) → 1 ≤ n
unfolding number_within
limit_positive None word found n e = cc
limit_positive (Some name) word found n e =
    within_positive (greatest_of name) (number_of word) n (limit_is name (number_within (greatest_of name) word) found n e)

limits_positive : (words : List (List ℕ)) (found : LimitName) (n : ℕ) → limit_of words ≡ Some (Limit found n) → 1 ≤ n
limits_positive [] found n e = cc
limits_positive (a ∷ []) found n e = cc
limits_positive (a ∷ b ∷ []) found n e = limit_positive (limit_named a) b found n e
limits_positive (a ∷ b ∷ c ∷ more) found n e = cc

song_if : (b : Bool) (song : SongData) (found : LimitName) (n : ℕ) → cond b (Some (Song song)) None ≡ Some (Limit found n) → 1 ≤ n
song_if true song found n e = cc
song_if false song found n e = cc

song_no_limit : (everyday : Bool) (uri : List ℕ) (frames : Option ℕ) (words : List (List ℕ)) (found : LimitName) (n : ℕ) → song_with everyday uri frames words ≡ Some (Limit found n) → 1 ≤ n
song_no_limit everyday uri None words found n e = cc
song_no_limit everyday uri (Some frames) words found n e =
    song_if (is_uri uri && list_all (is_tag everyday) words) (record { uri = uri; tags = tags_of words; frames = frames }) found n e

songs_no_limit : (everyday : Bool) (words : List (List ℕ)) (found : LimitName) (n : ℕ) → song_of everyday words ≡ Some (Limit found n) → 1 ≤ n
songs_no_limit everyday [] found n e = cc
songs_no_limit everyday (a ∷ []) found n e = cc
songs_no_limit everyday (a ∷ b ∷ more) found n e = song_no_limit everyday a (number_within 4294967295 b) more found n e

gone_no_limit : (number : Option ℕ) (found : LimitName) (n : ℕ) → gone_with number ≡ Some (Limit found n) → 1 ≤ n
gone_no_limit None found n e = cc
gone_no_limit (Some number) found n e = cc

gones_no_limit : (words : List (List ℕ)) (found : LimitName) (n : ℕ) → gone_of words ≡ Some (Limit found n) → 1 ≤ n
gones_no_limit [] found n e = cc
gones_no_limit (a ∷ []) found n e = gone_no_limit (number_within 9 a) found n e
gones_no_limit (a ∷ b ∷ more) found n e = cc

scanned_no_limit : (words : List (List ℕ)) (found : LimitName) (n : ℕ) → scanned_of words ≡ Some (Limit found n) → 1 ≤ n
scanned_no_limit [] found n e = cc
scanned_no_limit (a ∷ more) found n e = cc

-- a step that sets no limit, or one of 1 and above
abbrev SetsMore : Option Step → Type 0
SetsMore step = (found : LimitName) (n : ℕ) → step ≡ Some (Limit found n) → 1 ≤ n

job_no_limit : (step : Option JobStep) → SetsMore (in_first step)
job_no_limit None found n e = cc
job_no_limit (Some step) found n e = cc

in_no_limit : (name : List ℕ) (step : Option JobStep) → SetsMore (in_named name step)
in_no_limit name None found n e = cc
in_no_limit name (Some step) found n e = cc

named_no_limit : (words : List (List ℕ)) → SetsMore (named_of words)
named_no_limit [] found n e = cc
named_no_limit (a ∷ []) found n e = cc
named_no_limit (a ∷ b ∷ more) found n e = in_no_limit a (job_step_of b more) found n e

turn_as_no_limit : (written discarded : ℕ) (failed : Option Bool) → SetsMore (turn_as written discarded failed)
turn_as_no_limit written discarded None found n e = cc
turn_as_no_limit written discarded (Some failed) found n e = cc

turn_to_no_limit : (written : ℕ) (discarded : Option ℕ) (words : List (List ℕ)) → SetsMore (turn_to written discarded words)
turn_to_no_limit written None words found n e = cc
turn_to_no_limit written (Some discarded) words found n e = turn_as_no_limit written discarded (flag_of (codes "failed") words) found n e

turn_with_no_limit : (written : Option ℕ) (discarded : List ℕ) (words : List (List ℕ)) → SetsMore (turn_with written discarded words)
turn_with_no_limit None discarded words found n e = cc
turn_with_no_limit (Some written) discarded words found n e = turn_to_no_limit written (number_of discarded) words found n e

told_no_limit : (words : List (List ℕ)) → SetsMore (turn_told words)
told_no_limit [] found n e = cc
told_no_limit (a ∷ []) found n e = cc
told_no_limit (a ∷ b ∷ more) found n e = turn_with_no_limit (number_of a) b more found n e

turn_if : (there : Bool) (words : List (List ℕ)) → SetsMore (cond there (turn_told words) None)
turn_if true words found n e = told_no_limit words found n e
turn_if false words found n e = cc

turn_at_no_limit : (output : Option ℕ) (words : List (List ℕ)) → SetsMore (turn_at output words)
turn_at_no_limit None words found n e = cc
turn_at_no_limit (Some output) words found n e = turn_if (output == 0) words found n e

turn_no_limit : (words : List (List ℕ)) → SetsMore (turn_of words)
turn_no_limit [] found n e = cc
turn_no_limit (a ∷ more) found n e = turn_at_no_limit (number_of a) more found n e

window_no_limit : (words : List (List ℕ)) → SetsMore (window_of words)
window_no_limit [] found n e = cc
window_no_limit (a ∷ more) found n e = cc

player_step_if : (a b : Bool) (words : List (List ℕ)) (step : Option JobStep) → SetsMore (cond a (window_of words) (cond b (turn_of words) (in_first step)))
player_step_if true b words step found n e = window_no_limit words found n e
player_step_if false true words step found n e = turn_no_limit words found n e
player_step_if false false words step found n e = job_no_limit step found n e

player_step_no_limit : (word : List ℕ) (words : List (List ℕ)) → SetsMore (player_step_of word words)
player_step_no_limit word words found n e =
    player_step_if (bytes_eq word (codes "window")) (bytes_eq word (codes "turn")) words (job_step_of word words) found n e

step_if : (everyday a b c d f : Bool) (word : List ℕ) (words : List (List ℕ))
    → SetsMore (cond a (song_of everyday words) (cond b (limit_of words) (cond c (gone_of words) (cond d (scanned_of words) (cond f (named_of words) (player_step_of word words))))))
step_if everyday true b c d f word words found n e = songs_no_limit everyday words found n e
step_if everyday false true c d f word words found n e = limits_positive words found n e
step_if everyday false false true d f word words found n e = gones_no_limit words found n e
step_if everyday false false false true f word words found n e = scanned_no_limit words found n e
step_if everyday false false false false true word words found n e = named_no_limit words found n e
step_if everyday false false false false false word words found n e = player_step_no_limit word words found n e

step_positive : (everyday : Bool) (r : Result (List (List ℕ)) WordsFault) (found : LimitName) (n : ℕ) → step_if_read everyday r ≡ Some (Limit found n) → 1 ≤ n
step_positive everyday (Err fault) found n e = cc
step_positive everyday (Ok []) found n e = cc
step_positive everyday (Ok (word ∷ words)) found n e = step_if everyday (bytes_eq word (codes "song")) (bytes_eq word (codes "limit")) (bytes_eq word (codes "gone")) (bytes_eq word (codes "scanned"))
    (bytes_eq word (codes "in")) word words found n e

-- a limit that a step sets is at least 1
pub limit_at_least_one : (everyday : Bool) (rest : List ℕ) (found : LimitName) (n : ℕ) → Some (Limit found n) ≡ step_of everyday rest → 1 ≤ n
unfolding step_of
limit_at_least_one everyday rest found n e = step_positive everyday (words_of rest) found n (sym e)

number_in : LineData → ℕ
number_in (ClientLine number rest) = number
number_in (StepLine rest) = 0
number_in BadLine = 0

client_if : (step client : Bool) (c number : ℕ) (rest text : List ℕ) → (client ≡ true → c - 48 < 10)
    → ClientLine number text ≡ cond step (StepLine rest) (cond client (ClientLine (c - 48) rest) BadLine) → number < 10
unfolding number_in
client_if true client c number rest text few e = cc
client_if false true c number rest text few e = let same : number ≡ c - 48 = ap number_in e in let h = few refl in omega (arith, same, h)
client_if false false c number rest text few e = cc

client_of_head : (head rest : List ℕ) (number : ℕ) (text : List ℕ) → ClientLine number text ≡ by_head head rest → number < 10
client_of_head [] rest number text e = cc
client_of_head (c ∷ []) rest number text e = client_if (c == 33) (nat_le 49 c && nat_le c 57) c number rest text (λ t. grind (arith, nat_tests)) e
client_of_head (c ∷ d ∷ more) rest number text e = cc

-- a client's number is one digit
pub client_below_ten : (line : List ℕ) (number : ℕ) (text : List ℕ) → ClientLine number text ≡ script_line_of line → number < 10
unfolding script_line_of
client_below_ten line number text e = client_of_head (before 32 line) (after 32 line) number text e
