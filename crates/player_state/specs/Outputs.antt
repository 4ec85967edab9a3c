-- The outputs, and the frames that each was given, wrote and discarded (MPD protocol reference, Audio output
-- devices; the books of frames are this profile's).
use Rattle.std.specs.Prelude.{ℕ, ◌+◌, ◌==◌, Bool, true, false, ◌&&◌, nat_le, if◌then◌else◌, List, [], ◌∷◌, ◌++◌, length, map, slice_index_or, slice_set, Option, Some, None, is_some}
use Rattle.std.specs.List.{list_any, range_with_len}
use Rattle.player_state.specs.declared.effect.Effect.{Effect}
use Rattle.player_state.specs.declared.effect.Effect.TheVariants.{ByAudio}
use Rattle.player_state.specs.declared.effect.AudioStep.TheVariants.{Accepts, Settles}
use Rattle.player_state.specs.declared.outputs.Carried.{Carried}
use Rattle.player_state.specs.declared.report.Feed.{Feed}
use Rattle.player_state.specs.declared.report.Report.{Report}
use Rattle.player_state.specs.declared.report.Report.TheVariants.{ToFeed}

-- the names of all outputs, and of eight whether each is in the partition, whether it is enabled and whether it
-- has failed there, how often it was moved, and whether the frames of the last job are for it: it was there
-- when that job was given, and was not moved since
pub record OutputsData : Type 0 where
  pub names : List (List ℕ)
  pub here : List Bool
  pub enabled : List Bool
  pub failed : List Bool
  pub moves : List ℕ
  pub asked : List Bool

abbrev pub all_off : List Bool
all_off = false ∷ false ∷ false ∷ false ∷ false ∷ false ∷ false ∷ false ∷ []

abbrev pub no_moves : List ℕ
no_moves = 0 ∷ 0 ∷ 0 ∷ 0 ∷ 0 ∷ 0 ∷ 0 ∷ 0 ∷ []

abbrev pub no_outputs : OutputsData
no_outputs = record { names = []; here = all_off; enabled = all_off; failed = all_off; moves = no_moves; asked = all_off }

abbrev pub is_output : OutputsData → ℕ → Bool
is_output outputs number = slice_index_or outputs.here number false

abbrev pub is_enabled : OutputsData → ℕ → Bool
is_enabled outputs number = slice_index_or outputs.enabled number false

abbrev pub has_failed : OutputsData → ℕ → Bool
has_failed outputs number = slice_index_or outputs.failed number false

abbrev pub any_enabled : OutputsData → Bool
any_enabled outputs = list_any (λ on. on) outputs.enabled

-- one is turned on or off
abbrev pub switched : OutputsData → ℕ → Bool → OutputsData
switched outputs number on = record outputs { enabled = slice_set outputs.enabled number on }

-- a job is given: its frames are for the outputs that are in the partition now
abbrev pub asked_all : OutputsData → OutputsData
asked_all outputs = record outputs { asked = outputs.here }

-- an output that frames of the last job are fed to, with its moves
abbrev pub fed_at : OutputsData → ℕ → Option ℕ
fed_at outputs number =
    if slice_index_or outputs.asked number false && is_enabled outputs number then Some (slice_index_or outputs.moves number 0) else None

-- of eight outputs those that frames of the last job are fed to, each with its moves
abbrev pub fed : OutputsData → List (Option ℕ)
fed outputs = map (fed_at outputs) (range_with_len 0 8)

-- one more, after those that are there
abbrev pub with_output : OutputsData → List ℕ → Bool → OutputsData
with_output outputs name enabled =
    switched (record outputs { names = outputs.names ++ name ∷ []; here = slice_set outputs.here (length outputs.names) true }) (length outputs.names) enabled

-- whether an output is in the partition
abbrev pub holds_any : OutputsData → Bool
holds_any outputs = list_any (λ here. here) outputs.here

-- whether the feeder of an output that is in the partition owes frames, where it is known of eight who does
abbrev pub owes_any : OutputsData → List Bool → Bool
owes_any outputs owes = list_any (λ number. is_output outputs number && slice_index_or owes number false) (range_with_len 0 8)

-- what an output takes along when it is moved to another partition
abbrev pub carried : OutputsData → ℕ → Carried
carried outputs number = record { enabled = is_enabled outputs number; failed = has_failed outputs number; moves = slice_index_or outputs.moves number 0 }

-- an output comes, as it is carried; no frames of a job that was given before are for it
abbrev pub brought : OutputsData → ℕ → Carried → OutputsData
brought outputs number carried = record {
  names = outputs.names;
  here = slice_set outputs.here number true;
  enabled = slice_set outputs.enabled number carried.enabled;
  failed = slice_set outputs.failed number carried.failed;
  moves = slice_set outputs.moves number carried.moves;
  asked = slice_set outputs.asked number false;
}

-- an output goes
abbrev pub released : OutputsData → ℕ → OutputsData
released outputs number = record {
  names = outputs.names;
  here = slice_set outputs.here number false;
  enabled = slice_set outputs.enabled number false;
  failed = slice_set outputs.failed number false;
  moves = slice_set outputs.moves number 0;
  asked = slice_set outputs.asked number false;
}

-- the same names, with no output here
abbrev pub all_elsewhere : OutputsData → OutputsData
all_elsewhere outputs = record no_outputs { names = outputs.names }

-- one has failed, and is off from now on
abbrev pub broken : OutputsData → ℕ → OutputsData
broken outputs number = record outputs { enabled = slice_set outputs.enabled number false; failed = slice_set outputs.failed number true }

-- an output after its turn
abbrev pub turned : OutputsData → ℕ → Bool → OutputsData
turned outputs number failed = if failed then broken outputs number else outputs

-- the frames that each of eight outputs was given, wrote and discarded
pub record FrameBooks : Type 0 where
  pub decoded : List ℕ
  pub written : List ℕ
  pub discarded : List ℕ

abbrev pub no_frames : List ℕ
no_frames = 0 ∷ 0 ∷ 0 ∷ 0 ∷ 0 ∷ 0 ∷ 0 ∷ 0 ∷ []

abbrev pub empty_books : FrameBooks
empty_books = record { decoded = no_frames; written = no_frames; discarded = no_frames }

-- whether frames are for an output
abbrev pub is_fed : Feed → ℕ → Bool
is_fed feed number = is_some (slice_index_or feed.outputs number None)

-- the frames that an output is given at an event: those of a have that was accepted, where they are for it
abbrev pub decoded_by : Effect → Report → ℕ → ℕ
decoded_by (ByAudio (Accepts job frames)) (ToFeed (Some feed)) number = if is_fed feed number then frames else 0
decoded_by _ _ number = 0

-- the frames that an output wrote by its turn
abbrev pub written_by : Effect → ℕ → ℕ
written_by (ByAudio (Settles output written discarded failed)) number = if number == output then written else 0
written_by _ number = 0

-- the frames that it discarded
abbrev pub discarded_by : Effect → ℕ → ℕ
discarded_by (ByAudio (Settles output written discarded failed)) number = if number == output then discarded else 0
discarded_by _ number = 0

-- each of eight numbers grows
abbrev pub grown : List ℕ → (ℕ → ℕ) → List ℕ
grown numbers more = map (λ number. more number + slice_index_or numbers number 0) (range_with_len 0 8)

-- the books after an event
abbrev pub books_after : FrameBooks → Effect → Report → FrameBooks
books_after books effect report = record {
  decoded = grown books.decoded (decoded_by effect report);
  written = grown books.written (written_by effect);
  discarded = grown books.discarded (discarded_by effect);
}

-- the numbers of eight outputs together
abbrev pub total : List ℕ → ℕ
total numbers =
    slice_index_or numbers 0 0 + slice_index_or numbers 1 0 + slice_index_or numbers 2 0 + slice_index_or numbers 3 0
    + slice_index_or numbers 4 0 + slice_index_or numbers 5 0 + slice_index_or numbers 6 0 + slice_index_or numbers 7 0

-- the frames of all outputs together can be counted
abbrev pub can_count : List ℕ → Bool
can_count numbers = nat_le (total numbers) 9223372036854775807

abbrev pub can_count_all : FrameBooks → Bool
can_count_all books = can_count books.decoded && (can_count books.written && can_count books.discarded)
