use Rattle.std.proofs.Common.{◌≡◌, List, ℕ, [], ap, arith, refl, rules}
use Rattle.std.proofs.lemmas.Grind.{common_steps}
use Rattle.std.specs.Io.KnownBytes.{Consumes}
use Rattle.mpd_text.specs.Lines.Split.{views}
use Rattle.mpd_session.specs.Sessions.{ReadsAs, held_of}
use Rattle.mpd_session.proofs.Pends.{pend}
use Rattle.mpd_session.proofs.Reading.{read_ends}
use Rattle.mpd_session.proofs.Runs.{reads_once, reads_still}
use Rattle.mpd_session.proofs.conversation.Conversation.read.Goals as goal

pub returns-in_err-resize-clause-reads : goal.returns-in_err-resize-clause-reads
returns-in_err-resize-clause-reads g c =
    let same : c.resize.new.self.items ≡ c.args.self.now.piece.items = search rules in
    reads_still (held_of c.args.self.now) (held_of (record c.args.self.now { piece = c.resize.new.self })) _ c.requires.goes
    (ap (λ (x : List ℕ). pend c.args.self.now.gatherer (views c.args.self.now.lines.items) c.args.self.now.splitter x) same) refl refl

pub returns-clause-reads : goal.returns-clause-reads
returns-clause-reads g c =
    let none : c.args.self.now.piece.items ≡ [] = search rules in
    let consumes : Consumes (g.I.Read.remaining c.args.reader.now) (g.I.Read.remaining c.read_some-count.new.reader) c.truncate.new.self.items = grind (arith, common_steps) in
    let ends : ReadsAs c.args.self.now.ended c.truncate.new.self.items c.read_some-count.result.end = grind (arith, common_steps) in
    reads_once (held_of c.args.self.now) (held_of (record c.args.self.now { piece = c.truncate.new.self; ended = c.read_some-count.result.end })) _ _ c.requires.goes (ap views c.requires.lines) none refl refl consumes ends

pub returns-clause-reader : goal.returns-clause-reader
returns-clause-reader g c = read_ends _ _ _ _ c.read_some-count.ensures.cause
