use Rattle.std.proofs.Common.{◌≡◌, ◌≢◌, ap, map, [], rules}
use Rattle.mpd_text.specs.Lines.Cut.{split_from}
use Rattle.mpd_text.specs.Lines.Split.{views, line_of}
use Rattle.mpd_session.proofs.Pends.{split_here}
use Rattle.mpd_session.proofs.conversation.Conversation.split.Goals as goal

pub returns-clause-coming : goal.returns-clause-coming
returns-clause-coming c =
    let lines : views c.from.result.items ≡ map line_of (split_from c.args.self.now.splitter c.args.self.now.piece.items).lines = search rules in
    let next : c.split_piece.new.splitter ≡ (split_from c.args.self.now.splitter c.args.self.now.piece.items).next = search rules in
    let some : c.args.self.now.piece.items ≢ [] = search rules in
    split_here c.args.self.now.gatherer (views c.args.self.now.lines.items) _ _ _ _ _ (ap views c.requires) some c.clear.ensures.items lines next
