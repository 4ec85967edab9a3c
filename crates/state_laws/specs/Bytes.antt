-- The bytes of a state's lines, as the daemon reads them before it listens (MPD protocol reference, Requests).
use Rattle.std.specs.Prelude.{ℕ, ◌≡◌, List, ◌++◌, codes, decimal}
use Rattle.kept_state.specs.Lines.{Line, state_steps}
use Rattle.kept_state.specs.Lines.{Line as lines}
use Rattle.kept_state.specs.Reading.{given_back}
use Rattle.kept_state.specs.Texts.{switch_name, text_of_line}
use Rattle.kept_state.specs.declared.kept.Kept.{Kept}
use Rattle.mpd_command.specs.Names.{fewest}
use Rattle.mpd_command.specs.Requests.{request_of}
use Rattle.mpd_command.specs.declared.request.Request.{Request}
use Rattle.mpd_text.specs.Lines.Quoted.{quoted_text}
use Rattle.partition.specs.declared.state.Setup.{Setup}
use Rattle.player_state.specs.declared.state.Library.{Library}
use Rattle.state_laws.specs.Saying.{EachAsks, HasRoom, PlayerHas, ReadsLines, after_steps, begun, is_song, songs_of}

-- the bytes of a line, without the line feed behind them
abbrev pub bytes_of : Line → List ℕ
bytes_of (lines.Volume volume) = codes "setvol " ++ volume
bytes_of (lines.Repeat mode) = codes "repeat " ++ mode
bytes_of (lines.Random mode) = codes "random " ++ mode
bytes_of (lines.Single mode) = codes "single " ++ mode
bytes_of (lines.Consume mode) = codes "consume " ++ mode
bytes_of (lines.Crossfade seconds) = codes "crossfade " ++ seconds
bytes_of (lines.Switch output) = switch_name output.is_on ++ (codes " " ++ decimal output.number)
bytes_of (lines.Put uri) = codes "addid " ++ (quoted_text uri ++ codes " 0")
bytes_of (lines.Prioritize priority) = codes "prio " ++ (decimal priority ++ codes " 0")
bytes_of (lines.Seek elapsed) = codes "seek 0 " ++ elapsed
bytes_of lines.Play = codes "play 0"
bytes_of lines.Pause = codes "pause 1"
bytes_of lines.Stop = codes "stop"

-- a line of a state's text is these bytes and a line feed
abbrev pub LinesEnd : Type 0
LinesEnd = (line : Line) → text_of_line line ≡ bytes_of line ++ codes "\n"

-- what the daemon takes a line for, without `kill` and without the everyday profile
abbrev pub read_bytes : Line → Request
read_bytes line = request_of (bytes_of line) fewest

-- The bytes of each line that asks for a command are read as this command.
abbrev pub BytesAreRead : Type 0
BytesAreRead = ReadsLines read_bytes

-- A player that was just opened, that is told the lines of a state by their bytes, has what is kept, of the songs
-- that there are, where its queue and its ids have room for them.
abbrev pub OpenedComesBack : Type 0
OpenedComesBack =
    (seat number : ℕ) (setup : Setup) (library : Library) (kept : Kept) → EachAsks (state_steps kept)
    → HasRoom setup (songs_of (state_steps kept))
    → PlayerHas library number 0
    (after_steps seat number read_bytes (state_steps kept) (begun seat number setup library))
    (given_back (is_song library) kept)
