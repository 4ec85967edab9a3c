use Rattle.std.proofs.Common.{◌≡◌, ◌≤◌, ◌<◌, ◌+◌, ℕ, List, min, length, take, drop, ap, ◌∙◌, arith}
use Rattle.std.proofs.lemmas.List.{length-take-le, length-drop}
use Rattle.counted_devices.proofs.DeviceLemmas.{read_gives, read_ends}
use Rattle.counted_devices.proofs.fail_at.FailAtRead.read.Goals as goal

pub returns-clause-bytes : goal.returns-clause-bytes
returns-clause-bytes c =
    let items : List ℕ = c.args.self.now.bytes.items in
    let offset : ℕ = c.args.self.now.position in
    let count : ℕ = c.min-count.result in
    let left = length-drop offset items in
    let all = ap (λ (xs : List ℕ). length xs) c.rest-rest.ensures in
    let fits : count ≤ length (drop offset items) = omega arith in
    let fits_buf : count ≤ length c.args.buf.now = omega arith in
    let len : length c.copy_from_slice.new.self ≡ count = c.copy_from_slice.ensures.len ∙ length-take-le count c.args.buf.now fits_buf in
    let some : 0 < c.room-room.result = omega arith in
    let is : count ≡ min (min c.room-room.result (length (drop offset items))) (length c.args.buf.now) = omega arith in
    let moved : c.saturating_add-self.result ≡ offset + count = omega arith in
    rw moved (
      read_gives items c.copy_from_slice.new.self c.args.buf.now offset count fits (c.copy_from_slice.ensures.after ∙ ap (take count) c.rest-rest.ensures),
      read_ends items c.copy_from_slice.new.self c.args.buf.now offset c.room-room.result count some is len,
    )
