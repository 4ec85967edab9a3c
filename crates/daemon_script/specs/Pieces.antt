-- What parts of a run print: a refused step, some lines, and the lines of a piece of the input.
use Rattle.std.specs.Prelude.{◌≡◌, ℕ, ◌+◌, ◌<◌, List, ◌++◌, Option, None, Some, map, Result, OnOk}
use Rattle.std.specs.Global.{Vec}
use Rattle.mpd_text.specs.Lines.Cut.{split_from}
use Rattle.mpd_text.specs.Lines.Split.{line_of}
use Rattle.partition.specs.Image.{Image}
use Rattle.daemon_script.specs.Kinds.{Shelved}
use Rattle.partition.specs.declared.partition.PartitionFault.{PartitionFault}
use Rattle.partition.specs.declared.partition.PartitionFault.TheVariants.{HistoryFull, CutsAtLimit, AtLimit, NoMemory}
use Rattle.daemon_script.specs.declared.memory.Memory.{Memory}
use Rattle.daemon_script.specs.declared.memory.Memory.TheVariants.{NoneToFold, NoneToRun}
use Rattle.daemon_script.specs.Output.{Run, script_after, text_of, lines_in, ending}
use Rattle.daemon_script.specs.Kinds.{images}
use Rattle.daemon_script.specs.Script.{Found, Enough, NoneFold, NoneRun, ScriptData, ending_of, list_run, refusal}
use Rattle.command_lists.specs.declared.word.ListForm.{ListForm}
use Rattle.mpd_command.specs.declared.request.Request.{Request}
use Rattle.mpd_text.specs.Answers.Answer.{ack_line}
use Rattle.player_events.specs.Outcomes.{OutcomeData}
use Rattle.player_events.specs.declared.event.Event.{Event}
use Rattle.partition.specs.Lists.{Stop, fault_text}

-- what an event found of memory that was refused
abbrev pub found_by : PartitionFault → Found
found_by CutsAtLimit = Enough
found_by AtLimit = Enough
found_by NoMemory = NoneRun
found_by HistoryFull = NoneFold

-- an event of a player that found so much memory is refused for this
abbrev pub IsRefusedFor : Shelved Image → Event → PartitionFault → Type 0
IsRefusedFor player event fault = refusal images player event (found_by fault) ≡ Some fault

-- what an event found of memory that may have been refused
abbrev pub found_in : Option PartitionFault → Found
found_in None = Enough
found_in (Some fault) = found_by fault

-- the memory that a list found, of which so many commands were run and the next was refused; its lines had
-- found this
abbrev pub stopped_at : Memory → ℕ → PartitionFault → Memory
stopped_at memory done CutsAtLimit = memory
stopped_at memory done AtLimit = memory
stopped_at memory done NoMemory = NoneToRun done
stopped_at memory done HistoryFull = NoneToFold done

-- by what the lines found of memory, the script goes on from old to new, and their texts are appended
pub record ShowsLines (old new : ScriptData (Shelved Image)) (lines : List (Option (List ℕ))) (before after : List ℕ) : Type 0 where
  pub run : Run
  pub are : lines_in run ≡ lines
  pub script : new ≡ script_after images old run
  pub text : after ≡ before ++ text_of images old run

-- the same of the lines that a piece ends, and of a line that is too long
pub record ShowsPiece (start : Option (List ℕ)) (piece : List ℕ) (old new : ScriptData (Shelved Image)) (before after : List ℕ) : Type 0 where
  pub run : Run
  pub are : lines_in run ≡ map line_of (split_from start piece).lines
  pub script : new ≡ script_after images old run
  pub text : after ≡ before ++ (text_of images old run ++ ending (split_from start piece).next)

-- both of a call that succeeds, which appends the texts to what was shown
abbrev pub PrintsLines : {E X : Type 0} → ScriptData (Shelved Image) → ScriptData (Shelved Image) → List (Option (List ℕ)) → Vec ℕ → Vec ℕ → Result X E → Type 0
PrintsLines old new lines before after result = OnOk result (ShowsLines old new lines before.items after.items)

abbrev pub PrintsPiece : {E X : Type 0} → Option (List ℕ) → List ℕ → ScriptData (Shelved Image) → ScriptData (Shelved Image) → Vec ℕ → Vec ℕ → Result X E → Type 0
PrintsPiece start piece old new before after result = OnOk result (ShowsPiece start piece old new before.items after.items)

-- a list ran whole, and these are its answers, whatever its answer ends in
abbrev pub RunsWhole : Shelved Image → Shelved Image → ℕ → ListForm → List Request → List OutcomeData → Type 0
RunsWhole before after number form requests tolds =
    (end : List ℕ) → list_run images before number form 0 requests (λ place. Enough) end ≡ record { player = after; tolds = tolds; ending = ending_of end tolds }

-- a list stopped at the command after so many, which was refused; other commands may follow those that were
-- read
abbrev pub StopsWhole : Shelved Image → Shelved Image → ℕ → ListForm → List Request → Stop → Type 0
StopsWhole before after number form requests stop =
    (others : List Request) (found : ℕ → Found) (end : List ℕ) → ((k : ℕ) → k < stop.done → found (0 + k) ≡ Enough)
    → found (0 + stop.done) ≡ found_by stop.cause
    → list_run images before number form 0 (requests ++ others) found end
    ≡ record { player = after; tolds = stop.tolds; ending = ack_line 52 stop.done stop.command (fault_text stop.cause) }
