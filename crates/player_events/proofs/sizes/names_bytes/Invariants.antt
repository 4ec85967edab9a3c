use Rattle.std.proofs.Common.{◌≡◌, ◌-◌, ◌^◌, length, map, take, string_bytes}
use Rattle.std.specs.Prelude.{min, sum_by}
use Rattle.player_events.proofs.sizes.names_bytes.Given as goal

abbrev pub invariant-loop-name : goal.invariant-loop-name
invariant-loop-name l = l.bytes ≡ min (sum_by length (map string_bytes (take l.name-index l.names))) (2 ^ 64 - 1)
