-- A partition may go to another thread.
use denote.Param.Send.{IsSend, sendable, view_send}
use Rattle.std.proofs.Crossing.{crosses}
use Rattle.partition.proofs.state.State.TheSendSync as state
use Rattle.partition.specs.contracts.partition.Partition as Partition
use Rattle.partition.specs.contracts.partition.Partition.TheInside as Inside
use denote.Param.SendFields.{declared_send}

-- One field, or one variant, and the next.
infixr 30 ◌⨟◌
pub ◌⨟◌ : {A B : Type 0} → A → B → A × B
a ⨟ b = (a, b)

ruleset parts = (crosses, sendable)

pub partition_send : IsSend Partition.the_row
partition_send = view_send _ _ _ _ _ (declared_send Inside.the_type (
    search parts depth 60 fits 20000 ⨟
    search parts depth 60 fits 20000 ⨟
    search parts depth 60 fits 20000 ⨟
    state.the_send ⨟
    search parts depth 60 fits 20000 ⨟
    search parts depth 60 fits 20000 ⨟
    tt))
