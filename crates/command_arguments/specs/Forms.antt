-- The forms of arguments (MPD protocol reference, Requests).
use Rattle.std.specs.Prelude.{ℕ, ◌-◌, nat_le, Bool, true, false, List, [], ◌∷◌, length, take, drop, ◌==◌, slice_index, Option, Some, None, option_map, if◌then◌else◌, codes, find, MatchOption, ◌≡◌}
use Rattle.std.specs.Borrow.{Bor}
use Rattle.std.specs.Str.{bytes_eq, str_eq_ignore_ascii_case}
use Rattle.mpd_text.specs.Answers.Millis.{millis_of}
use Rattle.mpd_text.specs.Answers.Number.{number_of}
use Rattle.mpd_text.specs.Answers.Range.{range_of}
use Rattle.mpd_text.specs.Songs.Tags.{base_tag_names, tag_text}
use Rattle.mpd_text.specs.declared.answers.ranges.Range.{Range}
use Rattle.mpd_text.specs.declared.answers.ranges.Range.TheVariants.{Lone, Between, From}
use Rattle.mpd_text.specs.declared.songs.song.TagName.{TagName}
use Rattle.command_arguments.specs.declared.forms.Uri.{Uri}
use Rattle.command_arguments.specs.declared.forms.Position.{Position}
use Rattle.command_arguments.specs.declared.forms.Position.TheVariants.{At, After, Before}
use Rattle.command_arguments.specs.declared.forms.Seeking.{Seeking}
use Rattle.command_arguments.specs.declared.forms.Seeking.TheVariants.{To, Forward, Back}
use Rattle.command_arguments.specs.declared.forms.SongMode.{SongMode}
use Rattle.command_arguments.specs.declared.forms.SongMode.TheVariants.{Off, On, Oneshot}
use Rattle.command_arguments.specs.declared.forms.Window.{Window}
use Rattle.command_arguments.specs.declared.forms.VolumeChange.{VolumeChange}
use Rattle.command_arguments.specs.declared.forms.VolumeChange.TheVariants.{Up, Down}
use Rattle.command_arguments.specs.declared.forms.ReplayGain.{ReplayGain}
use Rattle.command_arguments.specs.declared.forms.ReplayGain.TheVariants as replay_gain

-- any text, an empty one too
abbrev pub any_text : List ℕ → Option (List ℕ)
any_text word = Some word

-- a URI, without one slash at its end
abbrev pub uri_of : List ℕ → Option Uri
uri_of word = Some (record { 0 = if slice_index word (length word - 1) == 47 then take (length word - 1) word else word })

-- on or off
abbrev pub switch_of : List ℕ → Option Bool
switch_of word = if bytes_eq word (codes "1") then Some true else (if bytes_eq word (codes "0") then Some false else None)

-- 0, 1 or oneshot (MPD protocol reference, Playback options: single, consume)
abbrev pub song_mode_of : List ℕ → Option SongMode
song_mode_of word =
    if bytes_eq word (codes "0") then Some Off
    else (if bytes_eq word (codes "1") then Some On
    else (if bytes_eq word (codes "oneshot") then Some Oneshot else None))

abbrev pub up_to : ℕ → Option ℕ → Option ℕ
up_to most None = None
up_to most (Some n) = if nat_le n most then Some n else None

-- a volume, 0 to 100
abbrev pub up_to_full : ℕ → Option ℕ
up_to_full n = up_to 100 (Some n)

abbrev pub volume_of : List ℕ → Option ℕ
volume_of word = up_to 100 (number_of word)

-- the seconds of a fade, 0 to 3600
abbrev pub up_to_an_hour : ℕ → Option ℕ
up_to_an_hour n = up_to 3600 (Some n)

abbrev pub fade_of : List ℕ → Option ℕ
fade_of word = up_to 3600 (number_of word)

abbrev pub first_is : ℕ → List ℕ → Bool
first_is b [] = false
first_is b (c ∷ cs) = c == b

-- N, +N or -N, where N is a volume
abbrev pub volume_change_of : List ℕ → Option VolumeChange
volume_change_of word =
    if first_is 43 word then option_map Up (volume_of (drop 1 word))
    else (if first_is 45 word then option_map Down (volume_of (drop 1 word))
    else option_map Up (volume_of word))

-- off (MPD protocol reference, Playback options: replay_gain_mode)
abbrev pub off_of : List ℕ → Option ReplayGain
off_of word = if bytes_eq word (codes "off") then Some replay_gain.Off else None

-- a number up to 255
abbrev pub byte_of : List ℕ → Option ℕ
byte_of word = up_to 255 (number_of word)

-- the rest of a word after a sign, if the word begins with that
abbrev pub IsAfterSign : Option (Bor (List ℕ)) → ℕ → List ℕ → Type 0
IsAfterSign result sign word =
    MatchOption result (first_is sign word ≡ false) (λ rest. (first_is sign word ≡ true) × (rest.now ≡ drop 1 word))

-- POS, +N or -N
abbrev pub position_of : List ℕ → Option Position
position_of word =
    if first_is 43 word then option_map After (number_of (drop 1 word))
    else (if first_is 45 word then option_map Before (number_of (drop 1 word))
    else option_map At (number_of word))

-- TIME, +TIME or -TIME (MPD protocol reference, Controlling playback: seekcur)
abbrev pub seeking_of : List ℕ → Option Seeking
seeking_of word =
    if first_is 43 word then option_map Forward (millis_of (drop 1 word))
    else (if first_is 45 word then option_map Back (millis_of (drop 1 word))
    else option_map To (millis_of word))

-- a tag of the base profile, in any ASCII case
unfoldable pub tag_of : List ℕ → Option TagName
tag_of word = find (λ name. str_eq_ignore_ascii_case (tag_text name) word) base_tag_names

-- a range that has both ends
abbrev pub with_ends : Option Range → Option Window
with_ends (Some (Between start end)) = Some (record { start = start; end = end })
with_ends (Some (Lone position)) = None
with_ends (Some (From start)) = None
with_ends None = None

-- START:END, where the start is not above the end
abbrev pub window_of : List ℕ → Option Window
window_of word = with_ends (range_of word)
