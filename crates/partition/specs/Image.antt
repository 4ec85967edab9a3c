-- What a command can read of a daemon.
use Rattle.std.specs.Prelude.{ℕ, ◌+◌, Bool, false, List, [], ◌∷◌, map, codes, slice_set, slice_index_or}
use Rattle.partition_commands.specs.Partitions.{Seated, seated}
use Rattle.partition_table.specs.Parts.{Known, known, opening_part}
use Rattle.partition_table.specs.Openings.{OpeningsData}
use Rattle.player_state.specs.declared.state.Client.{Client}
use Rattle.player_state.specs.declared.state.Library.{Library}
use Rattle.player_state.specs.declared.state.Part.{Part}
use Rattle.partition.specs.declared.state.Setup.{Setup}
use Rattle.partition.specs.declared.state.State.{State}
use Rattle.player_state.specs.Outputs.{FrameBooks, empty_books}

-- what all share: the library, how many events each seat made, the frames of the outputs, whether the daemon has
-- ended, and what a new partition is opened with
pub record Shared : Type 0 where
  pub library : Library
  pub made : List ℕ
  pub books : FrameBooks
  pub ended : Bool
  pub openings : OpeningsData

-- a daemon: its partitions, and its clients in the order of their numbers
pub record Image : Type 0 where
  pub parts : List Part
  pub shared : Shared
  pub clients : List Client

-- what all know, whatever partition they are in: of each partition its number, its name and its outputs; which
-- clients are there, and in which partition each; whether the daemon has ended, and what a new partition is opened
-- with
pub record Overview : Type 0 where
  pub parts : List Known
  pub clients : List Seated
  pub ended : Bool
  pub openings : OpeningsData

abbrev pub overview_from : List Part → List Client → Bool → OpeningsData → Overview
overview_from parts clients ended openings =
    record { parts = map known parts; clients = map seated clients; ended = ended; openings = openings }

abbrev pub overview : Image → Overview
overview i = overview_from i.parts i.clients i.shared.ended i.shared.openings

-- one more event of a seat
abbrev pub counted : ℕ → Image → Image
counted seat i = record i { shared = record i.shared { made = slice_set i.shared.made seat (slice_index_or i.shared.made seat 0 + 1) } }

-- the image of the concrete state
abbrev pub image_of_state : State → Image
image_of_state s = record {
  parts = s.parts;
  shared = record { library = s.library; made = s.made; books = s.books; ended = s.ended; openings = s.openings };
  clients = s.clients.items;
}

abbrev pub no_events : List ℕ
no_events = 0 ∷ 0 ∷ 0 ∷ 0 ∷ 0 ∷ 0 ∷ 0 ∷ 0 ∷ 0 ∷ 0 ∷ 0 ∷ 0 ∷ 0 ∷ 0 ∷ 0 ∷ 0 ∷ []

-- what each partition is opened with, by the settings
abbrev pub openings_of : Setup → OpeningsData
openings_of setup = record {
  greatest = record {
    max_queue = setup.limits.max_queue;
    max_version = setup.limits.max_version;
    max_id = setup.limits.max_id;
    max_cut = setup.limits.max_cut;
  };
  random_start = setup.random_start;
}

-- the partition that is there from the beginning, with all outputs
abbrev pub first_part : Setup → Part
first_part setup = opening_part (openings_of setup) 0 (codes "default") setup.outputs

-- a daemon that nothing happened to
abbrev pub opening : Setup → Library → Image
opening setup library = record {
  parts = first_part setup ∷ [];
  shared = record { library = library; made = no_events; books = empty_books; ended = false; openings = openings_of setup };
  clients = [];
}
