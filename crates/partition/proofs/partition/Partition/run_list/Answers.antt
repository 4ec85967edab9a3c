use Rattle.std.proofs.Common.{◌≡◌, ◌∙◌, ◌≤◌, ◌==◌, ℕ, Bool, true, false, ap, arith}
use Rattle.std.specs.Prelude.{map, slice_index_or, []}
use Rattle.std.proofs.lemmas.Bool.Decides.{nat_tests}
use Rattle.mpd_command.specs.Requests.{name_in}
use Rattle.partition.proofs.ListRuns.{empty_ran, first_stop}
use Rattle.partition.proofs.partition.Partition.run_list.Goals as goal

none_are : (empty : Bool) (len many : ℕ) → empty ≡ (len == 0) → empty ≡ true → len ≡ many → many ≡ 0
none_are empty len many is e same = grind (arith, nat_tests)

some_are : (empty : Bool) (len many : ℕ) → empty ≡ (len == 0) → empty ≡ false → len ≡ many → 1 ≤ many
some_are empty len many is e same = grind (arith, nat_tests)

pub returns-then-is_empty-clause-ok : goal.returns-then-is_empty-clause-ok
returns-then-is_empty-clause-ok g c =
    rw c.new-outcomes.ensures.items
    (empty_ran g.S.Shelf.standing g.S.Shelf.failed c.args.seat c.args.client c.args.form c.args.self.now c.args.shelf.now c.args.requests.items
    (none_are c.is_empty.result _ _ c.is_empty.ensures c.if-is_empty.true c.args.requests.ok.0))

pub returns-then-is_err-clause-err : goal.returns-then-is_err-clause-err
returns-then-is_err-clause-err g c =
    first_stop g.S.Shelf.standing g.S.Shelf.failed c.args.seat c.args.client c.args.form c.args.self.now c.find_no_memory.new.self c.args.shelf.now c.args.requests.items c.reserve.new.self.items c.first_name.result.now c.find_no_memory.result
    (some_are c.is_empty.result _ _ c.is_empty.ensures c.if-is_empty.false c.args.requests.ok.0)
    (c.reserve.ensures.items ∙ c.new-outcomes.ensures.items) (c.first_name.ensures ∙ ap (λ rs. slice_index_or (map name_in rs) 0 []) c.deref.ensures.value) c.find_no_memory.ensures
