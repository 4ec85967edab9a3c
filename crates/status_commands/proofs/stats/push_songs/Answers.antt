use Rattle.std.proofs.Common.{codes, decimal}
use Rattle.mpd_text.specs.Answers.Answer.{pair_line}
use Rattle.status_commands.specs.Stats.{song_lines}
use Rattle.status_commands.proofs.Lines.{after_first}
use Rattle.status_commands.proofs.stats.push_songs.Goals as goal

pub returns : goal.returns
unfolding song_lines
returns c =
    after_first c.pair-2.result c.args.lines.now (pair_line (codes "songs") (decimal c.args.songs)) (pair_line (codes "db_playtime") (decimal c.args.seconds))
    c.pair.new.self c.pair-2.new.self c.in_ok-pair.ensures.ok c.pair-2.ensures.ok
