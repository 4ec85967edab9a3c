-- What the daemon tells of the frames of all outputs at its end (this profile's).
use Rattle.std.specs.Prelude.{ℕ, ◌==◌, List, [], ◌++◌, Result, Ok, Err, codes, count_by, decimal, is_err, length, min, if◌then◌else◌}
use Rattle.std.specs.List.{sum_by}
use Rattle.frame_ledger.specs.declared.settlement.Settled.{Settled}
use Rattle.frame_ledger.specs.declared.settlement.SettleFault.{SettleFault}
use Rattle.journal.specs.declared.end.Fate.{Fate}
use Rattle.journal.specs.declared.end.Fate.TheVariants.{Decoded, Written, Discarded, Left}

-- how many frames of an output that balances had this fate
abbrev pub frames_of : Fate → Settled → ℕ
frames_of Decoded output = output.decoded
frames_of Written output = output.written
frames_of Discarded output = output.discarded
frames_of Left output = output.left

-- none are known of an output that does not balance
abbrev pub frames : Fate → Result Settled SettleFault → ℕ
frames fate (Ok output) = frames_of fate output
frames fate (Err fault) = 0

-- how many frames of all outputs had this fate; no more than 2^64 - 1 are counted
abbrev pub total : Fate → List (Result Settled SettleFault) → ℕ
total fate outputs = min (sum_by (frames fate) outputs) 18446744073709551615

-- how many outputs do not balance
abbrev pub count_unsettled : List (Result Settled SettleFault) → ℕ
count_unsettled outputs = count_by is_err outputs

-- what is added where some outputs do not balance
abbrev pub unsettled_text : List (Result Settled SettleFault) → List ℕ
unsettled_text outputs =
    if count_unsettled outputs == 0 then []
    else codes ", " ++ (decimal (count_unsettled outputs)
    ++ (codes " of " ++ (decimal (length outputs) ++ codes " outputs unsettled")))

-- the frames of all outputs by their fates
abbrev pub end_text : List (Result Settled SettleFault) → List ℕ
end_text outputs =
    codes "end: decoded "
    ++ (decimal (total Decoded outputs)
    ++ (codes " written "
    ++ (decimal (total Written outputs)
    ++ (codes " discarded "
    ++ (decimal (total Discarded outputs)
    ++ (codes " left " ++ (decimal (total Left outputs) ++ unsettled_text outputs)))))))
