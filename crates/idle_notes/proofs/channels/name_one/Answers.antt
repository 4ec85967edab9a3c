use Rattle.std.proofs.Common.{arith}
use Rattle.std.proofs.lemmas.Result.{on_ok_weaker, on_err_weaker}
use Rattle.std.proofs.Math.Seq.{map-set_same}
use Rattle.idle_notes.specs.Channels.{data_of, with_name}
use Rattle.idle_notes.proofs.Members.{changes-at, stays-at}
use Rattle.idle_notes.proofs.channels.name_one.Goals as goal

pub returns-then-index-members-clause-ok : goal.returns-then-index-members-clause-ok
returns-then-index-members-clause-ok c =
    on_ok_weaker c.push_name.result (λ e. changes-at c.args.client (with_name c.args.name) c.args.members.now c.index_of-index.result c.push_name.new.member c.index-members-index.result c.index_of-index.ensures.index (omega arith) e) c.push_name.ensures.ok

pub returns-then-index-members-clause-err : goal.returns-then-index-members-clause-err
returns-then-index-members-clause-err c =
    on_err_weaker c.push_name.result (λ e. map-set_same data_of c.args.members.now c.index_of-index.result c.push_name.new.member c.index-members-index.result e) c.push_name.ensures.err

pub returns-clause-ok : goal.returns-clause-ok
returns-clause-ok c =
    stays-at c.args.client (with_name c.args.name) c.args.members.now c.index_of-index.result c.index_of-index.ensures.index (omega arith)
