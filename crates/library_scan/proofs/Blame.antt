-- Counts of calls over several calls, and of the files that these calls find unreadable.
use Rattle.std.proofs.Common.{◌≡◌, ℕ, ◌+◌, ◌≤◌, inl, inr, arith}
use Rattle.std.specs.Prelude.{◌⊎◌}
use Rattle.counted_devices.specs.CallCounts.{HasFailed, NoFewer}
use Rattle.counted_devices.specs.declared.call_counts.CallCounts.{CallCounts}
use Rattle.library_scan.specs.Causes.{IsSpent, failed_calls}

-- no count falls over two calls
pub fewer_on : (a b d : CallCounts) → NoFewer a b → NoFewer b d → NoFewer a d
fewer_on a b d first second = (
  (let x = first.0 in let y = second.0 in omega arith),
  (let x = first.1 in let y = second.1 in omega arith),
  (let x = first.2 in let y = second.2 in omega arith),
)

-- the second of two calls failed
pub failed_after : (a b d : CallCounts) → NoFewer a b → HasFailed b d → HasFailed a d
failed_after a b d first (inl more) = inl (let v = first.0 in omega arith)
failed_after a b d first (inr (inl more)) = inr (inl (let w = first.1 in omega arith))
failed_after a b d first (inr (inr most)) = inr (inr most)

-- so many files were called unreadable before, and so many are now
abbrev pub Each : CallCounts → CallCounts → ℕ → ℕ → Type 0
Each old new before after = (after + failed_calls old ≤ before + failed_calls new) ⊎ IsSpent old new

spent_before : (a b d : CallCounts) → NoFewer b d → IsSpent a b → IsSpent a d
spent_before a b d second (inl most) = inl (let z = second.2 in omega arith)
spent_before a b d second (inr (inl most)) = inr (inl (let z = second.2 in omega arith))
spent_before a b d second (inr (inr (inl most))) = inr (inr (inl (let x = second.0 in omega arith)))
spent_before a b d second (inr (inr (inr most))) = inr (inr (inr (let y = second.1 in omega arith)))

spent_after : (a b d : CallCounts) → NoFewer a b → IsSpent b d → IsSpent a d
spent_after a b d first (inl most) = inl (let z = first.2 in omega arith)
spent_after a b d first (inr most) = inr most

pub each_on : (a b d : CallCounts) (x y z : ℕ) → NoFewer a b → NoFewer b d → Each a b x y → Each b d y z → Each a d x z
each_on a b d x y z first second (inr spent) next = inr (spent_before a b d second spent)
each_on a b d x y z first second (inl one) (inr spent) = inr (spent_after a b d first spent)
each_on a b d x y z first second (inl one) (inl two) = inl (omega arith)

-- as many are called so as before
pub none_more : (a b : CallCounts) (x y : ℕ) → NoFewer a b → y ≡ x → Each a b x y
none_more a b x y calm same = inl (let v = calm.0 in let w = calm.1 in omega arith)
