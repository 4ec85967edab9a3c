use Rattle.std.proofs.Common.{sym, subst, arith}
use Rattle.idle_notes.specs.declared.channels.Member.{Member}
use Rattle.idle_notes.specs.Channels.{data_of, given, receives, IsReady}
use Rattle.idle_notes.proofs.Members.{one-more, same-here, same-beyond, one-less}
use Rattle.idle_notes.proofs.channels.deliver.Goals as goal

pub receive-requires-clause-room : goal.receive-requires-clause-room
receive-requires-clause-room c =
    let P : Member → Type 0 = IsReady c.args.message.now.channel in
    subst P (sym (same-here c.args.members.now c.loop-member.members c.loop-member.member-index c.member-item.result c.loop-member.invariant.rest)) (c.requires.room c.loop-member.member-index c.member-item.result (omega arith))

pub loop-member-preserved : goal.loop-member-preserved
loop-member-preserved c =
    let here = same-here c.args.members.now c.loop-member.members c.loop-member.member-index c.member-item.result c.loop-member.invariant.rest in
    record {
      done = one-more (given c.args.message.now) c.args.members.now c.loop-member.members c.loop-member.member-index c.receive.new.member c.member-item.result (omega arith) (omega arith) c.receive.ensures.after c.loop-member.invariant.done;
      rest = same-beyond c.args.members.now c.loop-member.members c.loop-member.member-index c.receive.new.member c.member-item.result (omega arith) (omega arith) c.loop-member.invariant.rest;
      same = c.receive.ensures.rest;
      enough = one-less (λ (member : Member). receives c.args.message.now.channel (data_of member)) c.args.members.now c.loop-member.members c.loop-member.member-index c.member-item.result _ _ (omega arith) here c.receive.ensures.count c.loop-member.invariant.enough;
    }
