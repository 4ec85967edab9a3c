use Rattle.queue_slots.proofs.Joined.{parted}
use Rattle.queue_slots.proofs.many.part.Goals as goal

pub returns-clause-parted : goal.returns-clause-parted
returns-clause-parted c = parted _ _ _ _ c.args.low c.args.middle c.args.high _ _ _ c.requires.front c.requires.back c.cut_from-i.ensures.cut c.cut_from-j.ensures.cut c.cut_from-k.ensures.cut
