use Rattle.std.proofs.Common.{codes, decimal, sym}
use Rattle.mpd_text.specs.Answers.Answer.{pair_line}
use Rattle.status_commands.specs.Status.{queue_lines, state_text}
use Rattle.status_commands.proofs.Lines.{after_three}
use Rattle.status_commands.proofs.status.push_queue_lines.Goals as goal

pub returns : goal.returns
unfolding queue_lines
returns c =
    after_three c.pair-4.result c.args.lines.now (pair_line (codes "partition") c.args.name.now) (pair_line (codes "playlist") (decimal c.args.version))
    (pair_line (codes "playlistlength") (decimal c.args.length)) (pair_line (codes "state") (state_text c.args.playback))
    c.pair.new.self c.pair-2.new.self c.pair-3.new.self c.pair-4.new.self
    c.in_ok-pair.ensures.ok c.in_ok-pair-2.ensures.ok c.in_ok-pair-3.ensures.ok (rw (sym c.state_text.ensures) c.pair-4.ensures.ok)
