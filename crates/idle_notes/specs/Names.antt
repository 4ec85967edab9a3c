-- The names of subsystems, and the lines of a notice (MPD protocol reference, Querying MPD's status, `idle`).
use Rattle.std.specs.Prelude.{ℕ, List, [], ◌∷◌, Option, codes, find, if◌then◌else◌}
use Rattle.std.specs.List.{flat_map}
use Rattle.std.specs.Str.{bytes_eq}
use Rattle.mpd_text.specs.Answers.Answer.{pair_line}
use Rattle.idle_notes.specs.declared.sets.Subsystems.{Subsystems}
use Rattle.idle_notes.specs.declared.subsystem.Subsystem.{Subsystem}
use Rattle.idle_notes.specs.declared.subsystem.Subsystem.TheVariants.{Database, Update, StoredPlaylist, Playlist, Player, Mixer, Output, Options, Sticker, Subscription, Message, Partition}
use Rattle.idle_notes.specs.Sets.{has}

abbrev pub text_of : Subsystem → List ℕ
text_of Database = codes "database"
text_of Update = codes "update"
text_of StoredPlaylist = codes "stored_playlist"
text_of Playlist = codes "playlist"
text_of Player = codes "player"
text_of Mixer = codes "mixer"
text_of Output = codes "output"
text_of Options = codes "options"
text_of Sticker = codes "sticker"
text_of Subscription = codes "subscription"
text_of Message = codes "message"
text_of Partition = codes "partition"

-- all subsystems, in the order in which a notice names them
abbrev pub all_subsystems : List Subsystem
all_subsystems = Database ∷ Update ∷ StoredPlaylist ∷ Playlist ∷ Player ∷ Mixer ∷ Output ∷ Options ∷ Sticker ∷ Subscription ∷ Message ∷ Partition ∷ []

-- the subsystem of a name
unfoldable pub subsystem_of : List ℕ → Option Subsystem
subsystem_of word = find (λ subsystem. bytes_eq (text_of subsystem) word) all_subsystems

-- the line of one subsystem, where the set has it
abbrev pub line_in : Subsystems → Subsystem → List ℕ
line_in set subsystem = if has set subsystem then pair_line (codes "changed") (text_of subsystem) else []

-- the lines of a notice: one for each subsystem that the set has, in their order
abbrev pub changed_lines : Subsystems → List ℕ
changed_lines set = flat_map (line_in set) all_subsystems
