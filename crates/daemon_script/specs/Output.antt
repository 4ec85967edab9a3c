-- What a whole run writes (this profile's script).
use Rattle.std.specs.Prelude.{◌≡◌, ◌⊎◌, ℕ, ◌+◌, ◌-◌, ◌^◌, min, List, [], ◌∷◌, ◌++◌, map, codes, Option, Some, None, option_map, IfSome, Result, IsErrOf, OnErr, OnOk}
use Rattle.std.specs.Io.KnownBytes.{Appends, Consumes}
use Rattle.counted_devices.specs.CallCounts.{HasFailed}
use Rattle.counted_devices.specs.declared.call_counts.CallCounts.{CallCounts}
use Rattle.mpd_text.specs.Lines.Cut.{split}
use Rattle.mpd_text.specs.Lines.Split.{line_of}
use Rattle.partition.specs.Image.{Image}
use Rattle.daemon_script.specs.declared.memory.Memory.{Memory}
use Rattle.daemon_script.specs.declared.run.ScriptFault.{ScriptFault}
use Rattle.daemon_script.specs.declared.run.ScriptFault.TheVariants.{ReadFault, WriteFault}
use Rattle.daemon_script.specs.Kinds.{PlayerKind, Traced, Shelved, images, traces, seen}
use Rattle.daemon_script.specs.Script.{ScriptData, shown_of, opening_script}

-- lines, each with the memory that it found
abbrev pub Run : Type 0
Run = List (Option (List ℕ) × Memory)

module _ {P : Type 0} (kind : PlayerKind P) where
  -- the script after these lines
  unfoldable pub script_after : ScriptData P → Run → ScriptData P
  script_after s [] = s
  script_after s (l ∷ ls) = script_after (shown_of kind s l.0 l.1).script ls

  -- what these lines print, one after the other
  unfoldable pub text_of : ScriptData P → Run → List ℕ
  text_of s [] = []
  text_of s (l ∷ ls) = (shown_of kind s l.0 l.1).text ++ text_of (shown_of kind s l.0 l.1).script ls

abbrev pub lines_in : Run → List (Option (List ℕ))
lines_in run = map (λ l. l.0) run

-- a line that is too long is bad, and ends the run
abbrev pub ending : Option (List ℕ) → List ℕ
ending (Some partial) = []
ending None = codes "! bad\n"

-- the run's lines are those of the input
abbrev pub IsRunOf : List ℕ → Run → Type 0
IsRunOf input run = lines_in run ≡ map line_of (split input).lines

-- known bytes grow by a front of these
abbrev pub AppendsFront : Option (List ℕ) → Option (List ℕ) → List ℕ → Type 0
AppendsFront old new bytes = (front back : List ℕ) × (bytes ≡ front ++ back) × Appends old new front

-- what is written for an input whose lines found so much memory, by a player of this kind
unfoldable pub output_of : {P : Type 0} → PlayerKind P → List ℕ → Run → List ℕ
output_of kind input run = text_of kind opening_script run ++ ending (split input).next

-- what was written is the output for this input, by what its lines found of memory
abbrev pub WritesOutput : {P : Type 0} → PlayerKind P → Option (List ℕ) → Option (List ℕ) → List ℕ → Type 0
WritesOutput kind old new input = (run : Run) × IsRunOf input run × Appends old new (output_of kind input run)

-- what was written is the whole output for what was read
abbrev pub WritesAll : {P : Type 0} → PlayerKind P → Option (List ℕ) → Option (List ℕ) → Option (List ℕ) → Option (List ℕ) → Type 0
WritesAll kind unread left old new = (read : List ℕ) × Consumes unread left read × WritesOutput kind old new read

-- what was written is a front of the output for what was read
abbrev pub WritesFront : {P : Type 0} → PlayerKind P → Option (List ℕ) → Option (List ℕ) → Option (List ℕ) → Option (List ℕ) → Type 0
WritesFront kind unread left old new =
    (read : List ℕ) × Consumes unread left read × (run : Run) × IsRunOf read run × AppendsFront old new (output_of kind read run)

-- What a run writes to a device, by what it reads from another, where what is left to read and what was written are
-- told so.
module _ {P R W X : Type 0} (kind : PlayerKind P) (remaining : R → Option (List ℕ)) (contents : W → Option (List ℕ)) where
  -- a run that succeeds shows what its input asks for
  abbrev pub ShowsInput : R → W → W → Result X ScriptFault → Type 0
  ShowsInput reader writer writer' result =
      OnOk result (IfSome (remaining reader) (WritesOutput kind (contents writer) (contents writer')))

  -- one that stops at a read fault shows all that was read
  abbrev pub ShowsAll : R → R → W → W → Result X ScriptFault → Type 0
  ShowsAll reader reader' writer writer' result =
      IsErrOf result ReadFault → WritesAll kind (remaining reader) (remaining reader') (contents writer) (contents writer')

  -- what one writes that stops at any fault is a front of what was to be shown
  abbrev pub IsFront : R → R → W → W → Result X ScriptFault → Type 0
  IsFront reader reader' writer writer' result =
      OnErr result (WritesFront kind (remaining reader) (remaining reader') (contents writer) (contents writer'))

-- the device was called 2 ^ 32 times since, by a count that stays at its greatest value
abbrev pub CalledTooOften : CallCounts → CallCounts → Type 0
CalledTooOften old new = new.calls ≡ min (old.calls + 2 ^ 32) (2 ^ 64 - 1)

-- the device failed since, or was called 2 ^ 32 times
abbrev pub FailedOrTooOften : CallCounts → CallCounts → Type 0
FailedOrTooOften old new = HasFailed old new ⊎ CalledTooOften old new

-- a read fault comes only where the input failed, or was called too often, and a write fault only where the output
-- failed
abbrev pub ReadFaultHasCause : {X : Type 0} → CallCounts → CallCounts → Result X ScriptFault → Type 0
ReadFaultHasCause old new result = IsErrOf result ReadFault → FailedOrTooOften old new

abbrev pub WriteFaultHasCause : {X : Type 0} → CallCounts → CallCounts → Result X ScriptFault → Type 0
WriteFaultHasCause old new result = IsErrOf result WriteFault → HasFailed old new

-- what commands read of a player's trace, beside the same shelf
abbrev pub seen_beside : Shelved Traced → Shelved Image
seen_beside p = record { player = seen p.player; shelf = p.shelf; window = p.window; most = p.most }

-- what commands read of a script's trace
abbrev pub seen_script : ScriptData (Shelved Traced) → ScriptData (Shelved Image)
seen_script s = record { limits = s.limits; commands = s.commands; songs = s.songs; lists = s.lists; player = option_map seen_beside s.player }

-- what a run prints is what the trace of its player tells, with every queue that it had and every transition;
-- and what commands read after it is what they read of that trace
abbrev pub RunsAreTraced : Type 0
RunsAreTraced = (run : Run)
    → (text_of images opening_script run ≡ text_of traces opening_script run)
    × (script_after images opening_script run ≡ seen_script (script_after traces opening_script run))
