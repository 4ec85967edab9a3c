-- The lines of `status` and of `stats`, each with the subsystems that tell that it has changed (MPD protocol
-- reference, Querying MPD's status; which lines nobody tells of is the reference's own choice too).
use Rattle.std.specs.Prelude.{◌≡◌, ℕ, Bool, List, [], ◌∷◌, length, Option, Some, None, codes, decimal, if◌then◌else◌}
use Rattle.std.specs.List.{flat_map}
use Rattle.idle_notes.specs.declared.subsystem.Subsystem.{Subsystem}
use Rattle.idle_notes.specs.declared.subsystem.Subsystem.TheVariants.{Database, Update, Playlist, Player, Mixer, Options}
use Rattle.mpd_text.specs.Answers.Answer.{pair_line}
use Rattle.song_queue.specs.State.{queue_of}
use Rattle.player_core.specs.Player.{is_stopped}
use Rattle.player_core.specs.declared.state.Playback.{Playback}
use Rattle.player_state.specs.Scans.{running}
use Rattle.player_state.specs.declared.state.Library.{Library}
use Rattle.player_state.specs.declared.state.Part.{Part}
use Rattle.status_commands.specs.Stats.{library_lines, playtime_line, uptime_line}
use Rattle.status_commands.specs.Status.{audio_line, consume_text, current_duration, current_lines, current_time, digit, elapsed_line, error_line, fade_line, next_lines_of, scan_line, single_text, state_text}
use Rattle.notice_laws.specs.ClientSteps.{IsUntold, ClientStep}

-- A line, or some that come and go together; no text where they are left out
pub record Line : Type 0 where
  pub tellers : Option (List Subsystem)
  pub text : List ℕ

abbrev pub told_by : List Subsystem → List ℕ → Line
told_by ones text = record { tellers = Some ones; text = text }

-- a client that wants it asks again
abbrev pub untold : List ℕ → Line
untold text = record { tellers = None; text = text }

abbrev pub field : List ℕ → List ℕ → List ℕ
field name value = pair_line name value

-- a line that is shown while the player does not stand still
abbrev pub while_going : Playback → List ℕ → List ℕ
while_going playback text = if is_stopped playback then [] else text

-- The lines of `status`. Nobody tells how far a song is, which changes all the time, and of the song that its end
-- would start nobody tells by itself: it goes by the modes, the queue and the round, and a client asks again when
-- it hears of a mode, an edit or a start. The name of a partition never changes
abbrev pub status_lines : Bool → Part → Library → List Line
status_lines everyday part library =
    told_by (Mixer ∷ []) (field (codes "volume") (decimal part.volume))
    ∷ told_by (Options ∷ []) (field (codes "repeat") (decimal (digit part.player.modes.repeat)))
    ∷ told_by (Options ∷ []) (field (codes "random") (decimal (digit part.player.modes.random)))
    ∷ told_by (Options ∷ []) (field (codes "single") (single_text part.player.modes.single))
    ∷ told_by (Options ∷ []) (field (codes "consume") (consume_text part.player.modes.consume))
    ∷ told_by [] (field (codes "partition") part.name)
    ∷ told_by (Playlist ∷ []) (field (codes "playlist") (decimal part.queue.version))
    ∷ told_by (Playlist ∷ []) (field (codes "playlistlength") (decimal (length (queue_of part.queue))))
    ∷ told_by (Player ∷ []) (field (codes "state") (state_text part.player.playback))
    ∷ told_by (Player ∷ Playlist ∷ []) (current_lines part.queue part.player.current)
    ∷ untold (next_lines_of part)
    ∷ untold (while_going part.player.playback (current_time library.rate part everyday))
    ∷ untold (while_going part.player.playback (elapsed_line library.rate part.player.offset))
    ∷ told_by (Player ∷ Playlist ∷ []) (while_going part.player.playback (current_duration library.rate part))
    ∷ told_by (Player ∷ []) (while_going part.player.playback (audio_line library.rate))
    ∷ told_by (Options ∷ []) (fade_line part.player.crossfade)
    ∷ told_by (Update ∷ []) (scan_line (running library.scan))
    ∷ told_by (Player ∷ []) (error_line part.player.error)
    ∷ []

-- those of `stats`: for how long the daemon has been running, and how long was played, is counted on all the time
abbrev pub stats_lines : Option ℕ → Part → Library → List Line
stats_lines uptime part library =
    untold (uptime_line uptime)
    ∷ untold (playtime_line part library)
    ∷ told_by (Database ∷ []) (library_lines library)
    ∷ []

abbrev pub text_of : List Line → List ℕ
text_of lines = flat_map (λ (line : Line). line.text) lines

-- line by line, what nothing is told of has not changed
abbrev pub ChangeWhereTold : ClientStep → List Line → List Line → Type 0
ChangeWhereTold p [] [] = Unit {0}
ChangeWhereTold p [] (line ∷ lines) = ⊥
ChangeWhereTold p (line ∷ lines) [] = ⊥
ChangeWhereTold p (one ∷ ones) (other ∷ others) =
    (IsUntold p one.tellers → one.text ≡ other.text) × ChangeWhereTold p ones others
