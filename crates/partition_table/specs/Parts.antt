-- The players of one daemon: how one is found, and what passes between them.
use Rattle.std.specs.Prelude.{ℕ, ◌+◌, ◌==◌, nat_le, nat_lt, Bool, true, false, not, List, [], ◌∷◌, ◌++◌, length, map, filter, find, Option, Some, None, is_some, bytes_eq, if◌then◌else◌}
use Rattle.std.specs.List.{range_with_len}
use Rattle.rand_core.specs.Pcg32Seed.{pcg32_seed}
use Rattle.rand_pcg.specs.Pcg.{pcg32_of_seed}
use Rattle.song_queue.specs.State.{opened}
use Rattle.player_core.specs.Player as player
use Rattle.player_core.specs.Player.{PlayerState}
use Rattle.player_state.specs.Effects.{part_after, player_after, report_after}
use Rattle.player_state.specs.Fits.{Fits}
use Rattle.player_state.specs.Outputs.{OutputsData, all_off, brought, carried, holds_any, is_output, released}
use Rattle.player_state.specs.declared.effect.Effect.{Effect}
use Rattle.player_state.specs.declared.outputs.Carried.{Carried}
use Rattle.player_state.specs.declared.report.Report.{Report}
use Rattle.player_state.specs.declared.state.Part.{Part}
use Rattle.partition_table.specs.declared.crossing.Crossing.{Crossing}
use Rattle.partition_table.specs.declared.crossing.Crossing.TheVariants.{Stays, Opens, Closes, Brings}
use Rattle.partition_table.specs.Openings.{OpeningsData}

-- a part to which nothing happened: at full volume, with no mode on, and with a generator made of its seed
abbrev pub opening_part : OpeningsData → ℕ → List ℕ → OutputsData → Part
opening_part openings index name outputs = record {
  index = index;
  name = name;
  queue = opened openings.greatest.max_queue openings.greatest.max_version openings.greatest.max_id;
  player = player.opened openings.greatest.max_cut (pcg32_of_seed (pcg32_seed 16 openings.random_start));
  volume = 100;
  outputs = outputs;
  channels = [];
  played = 0;
}

-- the first part of a number
abbrev pub part_at : ℕ → List Part → Option Part
part_at index [] = None
part_at index (p ∷ ps) = if p.index == index then Some p else part_at index ps

-- what all know of a part: its number, its name, and the outputs that are in it, with their flags and moves
pub record Known : Type 0 where
  pub index : ℕ
  pub name : List ℕ
  pub outputs : OutputsData

-- for which outputs the frames of a part's last job are, the part alone knows
abbrev pub shown_outputs : OutputsData → OutputsData
shown_outputs outputs = record outputs { asked = all_off }

abbrev pub known : Part → Known
known p = record { index = p.index; name = p.name; outputs = shown_outputs p.outputs }

abbrev pub known_at : ℕ → List Known → Option Known
known_at index [] = None
known_at index (f ∷ fs) = if f.index == index then Some f else known_at index fs

-- the number of the first part of a name
abbrev pub named : List ℕ → List Known → Option ℕ
named name [] = None
named name (f ∷ fs) = if bytes_eq f.name name then Some f.index else named name fs

-- the first part that an output is in
abbrev pub holding : ℕ → List Known → Option Known
holding output [] = None
holding output (f ∷ fs) = if is_output f.outputs output then Some f else holding output fs

-- whether an output is in a part
abbrev pub holds_any_in : Option Known → Bool
holds_any_in None = false
holds_any_in (Some f) = holds_any f.outputs

abbrev pub index_of : Option Known → Option ℕ
index_of None = None
index_of (Some f) = Some f.index

-- the number of the part that an output is in
abbrev pub holder : ℕ → List Known → Option ℕ
holder output fs = index_of (holding output fs)

abbrev pub has_index : ℕ → List Known → Bool
has_index index fs = is_some (known_at index fs)

-- the least number below 16 that no part has
abbrev pub free_index : List Known → Option ℕ
free_index fs = find (λ index. not (has_index index fs)) (range_with_len 0 16)

-- the first part of a number does this
abbrev pub changed : ℕ → ℕ → Effect → List Part → List Part
changed rate index effect [] = []
changed rate index effect (p ∷ ps) =
    if p.index == index then part_after rate p effect ∷ ps else p ∷ changed rate index effect ps

-- what it reports; where there is no part of this number, the report is as it was
abbrev pub report_in : ℕ → Option Part → Effect → Report → Report
report_in rate None effect report = report
report_in rate (Some p) effect report = report_after rate p effect report

-- whether its numbers are at or below their limit then
abbrev pub is_within_in : ℕ → Option Part → Effect → Bool
is_within_in rate None effect = true
is_within_in rate (Some p) effect = player.is_within (player_after rate p effect)

-- what the queue and the channels of the part can take, if there is one
abbrev pub FitsIn : Option Part → Effect → Type 0
FitsIn None effect = Unit {0}
FitsIn (Some p) effect = Fits p effect

-- what an output takes along from the part that it is in, if that is another one
abbrev pub carried_from : ℕ → ℕ → Option Known → Option Carried
carried_from output to None = None
carried_from output to (Some f) = if f.index == to then None else Some (carried f.outputs output)

-- what an output takes along that comes to a part: nothing comes where there is no such part, where the output
-- is nowhere, and where it is there already
abbrev pub carried_in : ℕ → ℕ → List Known → Option Carried
carried_in output to fs = if has_index to fs then carried_from output to (holding output fs) else None

-- it has come once more
abbrev pub once_more : Carried → Carried
once_more c = record { enabled = c.enabled; failed = c.failed; moves = c.moves + 1 }

-- the outputs of the part that an output comes to, and of another, where it is no more
abbrev pub outputs_moved : ℕ → Bool → Carried → OutputsData → OutputsData
outputs_moved output comes c outputs =
    if comes then (if is_output outputs output then outputs else brought outputs output (once_more c))
    else (if is_output outputs output then released outputs output else outputs)

abbrev pub moved_output : ℕ → ℕ → Option Carried → Part → Part
moved_output output to None p = p
moved_output output to (Some c) p = record p { outputs = outputs_moved output (p.index == to) c p.outputs }

-- a new part is behind the others; there are 16 at most
abbrev pub with_part : Part → List Part → List Part
with_part p ps = if nat_lt (length ps) 16 then ps ++ p ∷ [] else ps

-- what passes between the parts: one comes; one goes; an output comes to one from another, with its flags and
-- one move more
abbrev pub parts_moved : Crossing → List Part → List Part
parts_moved Stays ps = ps
parts_moved (Opens p) ps = with_part p ps
parts_moved (Closes index) ps = filter (λ (p : Part). not (p.index == index)) ps
parts_moved (Brings output to) ps = map (moved_output output to (carried_in output to (map known ps))) ps

-- an output that comes would have been moved more often than this
abbrev pub is_beyond : ℕ → Option Carried → Bool
is_beyond most None = false
is_beyond most (Some c) = nat_le most c.moves

abbrev pub crosses_beyond : ℕ → Crossing → List Known → Bool
crosses_beyond most (Brings output to) fs = is_beyond most (carried_in output to fs)
crosses_beyond most _ fs = false
