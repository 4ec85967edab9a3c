use Rattle.std.proofs.Common.{◌∙◌, arith}
use Rattle.std.proofs.Math.Seq.{map-set_same}
use Rattle.std.proofs.lemmas.List.Elements.{AllWithin-more_set}
use Rattle.idle_notes.specs.Channels.{data_of, IsReady}
use Rattle.idle_notes.proofs.channels.make_room.Goals as goal

pub returns-in_err-make_ready-clause-same : goal.returns-in_err-make_ready-clause-same
returns-in_err-make_ready-clause-same c =
    map-set_same data_of c.loop-member.members c.loop-member.member-index c.make_ready.new.member c.member-item.result c.make_ready.ensures.same
    ∙ c.loop-member.invariant.same

pub loop-member-preserved : goal.loop-member-preserved
loop-member-preserved c = record {
  room = AllWithin-more_set c.loop-member.members c.loop-member.member-index c.make_ready.new.member (omega arith) (IsReady c.args.name.now) c.loop-member.invariant.room c.in_ok-make_ready.ensures.room;
  same =
      map-set_same data_of c.loop-member.members c.loop-member.member-index c.make_ready.new.member c.member-item.result c.make_ready.ensures.same
      ∙ c.loop-member.invariant.same;
}
