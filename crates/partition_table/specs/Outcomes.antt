-- How what a part of a number does may end.
use Rattle.std.specs.Prelude.{◌≡◌, Bool, true, false, Result, OnOk, IsErrOf}
use Rattle.player_core.specs.declared.fault.PlayerFault.{PlayerFault}
use Rattle.player_core.specs.declared.fault.PlayerFault.TheVariants.{CutsAtLimit}
use Rattle.player_state.specs.declared.report.Report.{Report}

-- it is done only where its numbers are at or below their limit
abbrev pub IsDoneOnlyWithin : Result Report PlayerFault → Bool → Type 0
IsDoneOnlyWithin result within = OnOk result (within ≡ true)

-- it is refused at the limit only where a number is above it
abbrev pub IsAtLimitOnlyBeyond : Result Report PlayerFault → Bool → Type 0
IsAtLimitOnlyBeyond result within = IsErrOf result CutsAtLimit → within ≡ false
