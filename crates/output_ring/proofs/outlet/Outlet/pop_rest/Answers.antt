use Rattle.std.proofs.Common.{◌≡◌, ◌≤◌, ◌+◌, ◌∙◌, length, take, ap, arith, length-append}
use Rattle.std.proofs.lemmas.List.{length-take, length-take-le, take-append-le}
use Rattle.output_ring.proofs.Pairs.{paired-came, rest-came, known-came}
use Rattle.output_ring.proofs.outlet.Outlet.pop_rest.Goals as goal

pub invariant_of-self : goal.invariant_of-self
invariant_of-self c =
    let old = c.args.self.now in
    let popped = c.pop_partial_slice-count in
    let most = length-take c.min-most.result c.args.slots.now in
    let few : popped.result ≤ length popped.new.slice = omega arith in
    let xs = take popped.result popped.new.slice in
    let count : length xs ≡ popped.result = length-take-le popped.result popped.new.slice few in
    let long : length popped.new.self.end.past ≡ length old.frames.end.past + popped.result = ap length popped.ensures.received.1 ∙ length-append old.frames.end.past xs ∙ ap (λ k. length old.frames.end.past + k) count in
    let within : popped.result ≤ old.rest = omega arith in
    record {
      begun = omega (arith, old.begun, long, within);
      rest_is = rest-came _ _ xs _ old.rest popped.result old.cut popped.ensures.received.1 count old.rest_is;
    }

pub returns-clause-popped : goal.returns-clause-popped
returns-clause-popped c =
    let old = c.args.self.now in
    let popped = c.pop_partial_slice-count in
    let most = length-take c.min-most.result c.args.slots.now in
    let few : popped.result ≤ length popped.new.slice = omega arith in
    let xs = take popped.result popped.new.slice in
    let count : length xs ≡ popped.result = length-take-le popped.result popped.new.slice few in
    let within : length xs ≤ old.rest = omega arith in
    rw (popped.ensures.received.1, take-append-le popped.result popped.new.slice _ few) (paired-came _ old.frames.end.past xs old.rest old.cut old.begun old.rest_is within)

pub returns-clause-known : goal.returns-clause-known
returns-clause-known c =
    let old = c.args.self.now in
    let popped = c.pop_partial_slice-count in
    let most = length-take c.min-most.result c.args.slots.now in
    let few : popped.result ≤ length popped.new.slice = omega arith in
    let xs = take popped.result popped.new.slice in
    let count : length xs ≡ popped.result = length-take-le popped.result popped.new.slice few in
    let within : popped.result ≤ old.rest = omega arith in
    rw (take-append-le popped.result popped.new.slice _ few) (known-came old.rest popped.result old.cut _ old.frames.end.ahead xs popped.new.self.end.ahead count within popped.ensures.known)
