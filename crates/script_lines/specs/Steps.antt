-- The steps of a script (this profile's script).
use Rattle.std.specs.Prelude.{ℕ, List, [], ◌∷◌, length, codes, Option, Some, None, Result, Ok, Err, Bool, true, false, not, ◌==◌, ◌&&◌, nat_le, if◌then◌else◌}
use Rattle.std.specs.List.{list_all}
use Rattle.std.specs.Str.{bytes_eq}
use Rattle.mpd_text.specs.Answers.Number.{number_of}
use Rattle.mpd_text.specs.Lines.Scan.{words_of}
use Rattle.mpd_text.specs.declared.lines.quoting.WordsFault.{WordsFault}
use Rattle.script_lines.specs.Cuts.{has_byte}
use Rattle.script_lines.specs.Limits.{limit_named, greatest_of, number_within}
use Rattle.script_lines.specs.Tags.{is_tag, tags_of}
use Rattle.script_lines.specs.declared.limit.LimitName.{LimitName}
use Rattle.script_lines.specs.declared.step.JobStep.{JobStep}
use Rattle.script_lines.specs.declared.step.JobStep.TheVariants.{Want, Have, Failed}
use Rattle.script_lines.specs.declared.step.Step.{Step}
use Rattle.script_lines.specs.declared.step.Step.TheVariants.{Song, Limit, Gone, Scanned, Job, JobIn, Turn, Window}

-- 1 to 1,024 bytes without a newline
unfoldable pub is_uri : List ℕ → Bool
is_uri uri = nat_le 1 (length uri) && nat_le (length uri) 1024 && not (has_byte 10 uri)

abbrev pub song_with : Bool → List ℕ → Option ℕ → List (List ℕ) → Option Step
song_with everyday uri None words = None
song_with everyday uri (Some frames) words =
    if is_uri uri && list_all (is_tag everyday) words then Some (Song (record { uri = uri; tags = tags_of words; frames = frames })) else None

-- URI FRAMES [TAG=VALUE...], where the everyday profile is on or off
abbrev pub song_of : Bool → List (List ℕ) → Option Step
song_of everyday (uri ∷ frames ∷ words) = song_with everyday uri (number_within 4294967295 frames) words
song_of everyday _ = None

abbrev pub limit_to : LimitName → Option ℕ → Option Step
limit_to name None = None
limit_to name (Some n) = Some (Limit name n)

abbrev pub limit_with : Option LimitName → List ℕ → Option Step
limit_with None n = None
limit_with (Some name) n = limit_to name (number_within (greatest_of name) n)

-- NAME N
abbrev pub limit_of : List (List ℕ) → Option Step
limit_of (name ∷ n ∷ []) = limit_with (limit_named name) n
limit_of _ = None

abbrev pub gone_with : Option ℕ → Option Step
gone_with None = None
gone_with (Some number) = Some (Gone number)

-- the number of a client, 1 to 9
abbrev pub gone_of : List (List ℕ) → Option Step
gone_of (number ∷ []) = gone_with (number_within 9 number)
gone_of _ = None

-- nothing after the word
abbrev pub scanned_of : List (List ℕ) → Option Step
scanned_of [] = Some Scanned
scanned_of (word ∷ words) = None

-- nothing after the word
abbrev pub window_of : List (List ℕ) → Option Step
window_of [] = Some Window
window_of (word ∷ words) = None

-- nothing after the word
abbrev pub want_of : List (List ℕ) → Option JobStep
want_of [] = Some Want
want_of (word ∷ words) = None

abbrev pub have_to : ℕ → Option ℕ → Option JobStep
have_to job None = None
have_to job (Some count) = Some (Have job count)

abbrev pub have_with : Option ℕ → List ℕ → Option JobStep
have_with None count = None
have_with (Some job) count = have_to job (number_of count)

-- the number of a job, and how many of its frames are there
abbrev pub have_of : List (List ℕ) → Option JobStep
have_of (job ∷ count ∷ []) = have_with (number_of job) count
have_of _ = None

-- a flag is this word alone, or no word where it is not set; other words are bad
abbrev pub flag_of : List ℕ → List (List ℕ) → Option Bool
flag_of flag [] = Some false
flag_of flag (word ∷ []) = if bytes_eq word flag then Some true else None
flag_of flag _ = None

abbrev pub failed_to : ℕ → Option Bool → Option JobStep
failed_to job None = None
failed_to job (Some of_partner) = Some (Failed job of_partner)

abbrev pub failed_with : Option ℕ → List (List ℕ) → Option JobStep
failed_with None words = None
failed_with (Some job) words = failed_to job (flag_of (codes "partner") words)

-- the number of a job, and `of_partner` where the song that is mixed in is meant
abbrev pub failed_of : List (List ℕ) → Option JobStep
failed_of (job ∷ words) = failed_with (number_of job) words
failed_of [] = None

-- a step of the decoder in a partition
abbrev pub job_step_of : List ℕ → List (List ℕ) → Option JobStep
job_step_of word arguments =
    if bytes_eq word (codes "want") then want_of arguments
    else (if bytes_eq word (codes "have") then have_of arguments
    else (if bytes_eq word (codes "failed") then failed_of arguments
    else None))

abbrev pub in_first : Option JobStep → Option Step
in_first None = None
in_first (Some step) = Some (Job step)

abbrev pub in_named : List ℕ → Option JobStep → Option Step
in_named name None = None
in_named name (Some step) = Some (JobIn name step)

-- NAME, and a step of the decoder in the partition of this name
abbrev pub named_of : List (List ℕ) → Option Step
named_of (name ∷ word ∷ words) = in_named name (job_step_of word words)
named_of _ = None

abbrev pub turn_as : ℕ → ℕ → Option Bool → Option Step
turn_as written discarded None = None
turn_as written discarded (Some failed) = Some (Turn written discarded failed)

abbrev pub turn_to : ℕ → Option ℕ → List (List ℕ) → Option Step
turn_to written None words = None
turn_to written (Some discarded) words = turn_as written discarded (flag_of (codes "failed") words)

abbrev pub turn_with : Option ℕ → List ℕ → List (List ℕ) → Option Step
turn_with None discarded words = None
turn_with (Some written) discarded words = turn_to written (number_of discarded) words

-- how many frames the output wrote, how many it discarded, and `failed` where it failed
abbrev pub turn_told : List (List ℕ) → Option Step
turn_told (written ∷ discarded ∷ words) = turn_with (number_of written) discarded words
turn_told _ = None

-- only output 0 is there
abbrev pub turn_at : Option ℕ → List (List ℕ) → Option Step
turn_at None words = None
turn_at (Some output) words = if output == 0 then turn_told words else None

-- OUTPUT WRITTEN DISCARDED [failed]
abbrev pub turn_of : List (List ℕ) → Option Step
turn_of (output ∷ words) = turn_at (number_of output) words
turn_of [] = None

-- the step of its words where the first one is of the player
abbrev pub player_step_of : List ℕ → List (List ℕ) → Option Step
player_step_of word arguments =
    if bytes_eq word (codes "window") then window_of arguments
    else (if bytes_eq word (codes "turn") then turn_of arguments
    else in_first (job_step_of word arguments))

-- the step of its words
abbrev pub step_of_words : Bool → List (List ℕ) → Option Step
step_of_words everyday [] = None
step_of_words everyday (word ∷ arguments) =
    if bytes_eq word (codes "song") then song_of everyday arguments
    else (if bytes_eq word (codes "limit") then limit_of arguments
    else (if bytes_eq word (codes "gone") then gone_of arguments
    else (if bytes_eq word (codes "scanned") then scanned_of arguments
    else (if bytes_eq word (codes "in") then named_of arguments
    else player_step_of word arguments))))

abbrev pub step_if_read : Bool → Result (List (List ℕ)) WordsFault → Option Step
step_if_read everyday (Ok words) = step_of_words everyday words
step_if_read everyday (Err fault) = None

-- the step after a step's head, where the everyday profile is on or off, or None where it is bad
unfoldable pub step_of : Bool → List ℕ → Option Step
step_of everyday rest = step_if_read everyday (words_of rest)
