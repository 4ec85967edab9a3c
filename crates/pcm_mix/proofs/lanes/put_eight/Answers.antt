use Rattle.std.proofs.Common.{[], arith}
use Rattle.pcm_mix.proofs.Eights.{eight_written}
use Rattle.pcm_mix.proofs.lanes.put_eight.Goals as goal

pub returns : goal.returns
returns c = eight_written c.args.frames.now c.args.eight c.args.offset [] (omega arith)
