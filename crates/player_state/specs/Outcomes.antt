-- How what an event does to what one player owns may end.
use Rattle.std.specs.Prelude.{◌≡◌, true, false, Result, IfOk, OnOk, IsErrOf}
use Rattle.player_core.specs.declared.fault.PlayerFault.{PlayerFault}
use Rattle.player_core.specs.declared.fault.PlayerFault.TheVariants.{CutsAtLimit}
use Rattle.player_core.specs.Player.{PlayerState, is_within}
use Rattle.player_state.specs.declared.report.Report.{Report}

-- unless it is refused, this is answered
abbrev pub Reports : Result Report PlayerFault → Report → Type 0
Reports result report = IfOk result (λ given. given ≡ report)

-- it is done only where the numbers of this player are at or below their limit
abbrev pub IsDoneOnlyWithin : Result Report PlayerFault → PlayerState → Type 0
IsDoneOnlyWithin result p = OnOk result (is_within p ≡ true)

-- it is refused at the limit only where a number of this player is above it
abbrev pub IsAtLimitOnlyBeyond : Result Report PlayerFault → PlayerState → Type 0
IsAtLimitOnlyBeyond result p = IsErrOf result CutsAtLimit → is_within p ≡ false
