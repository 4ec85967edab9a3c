use Rattle.std.proofs.Common.{◌≡◌, ◌∙◌, None, ap, refl, subst, rules}
use Rattle.mpd_session.specs.Answers.{Answers}
use Rattle.mpd_session.specs.Sessions.{Held, TellsOf, held_of, pending_of}
use Rattle.mpd_session.proofs.Runs.{turns_none, turns_told, turns_read, turns_run_as}
use Rattle.mpd_session.proofs.Blame.{open_blames_none, reader_blames, writer_blames}
use Rattle.mpd_session.proofs.Reading.{hears, ran_ends, unasked}
use Rattle.mpd_session.proofs.conversation.Conversation.hear.Goals as goal

pub returns-in_err-flush-clause-turns : goal.returns-in_err-flush-clause-turns
returns-in_err-flush-clause-turns g c =
    turns_none (Answers g.S.Shelf.standing g.S.Shelf.failed c.args.self.now.asker) (held_of c.args.self.now) (held_of c.flush.new.self) _ _ _ c.requires.goes c.flush.ensures.held

pub returns-in_err-tell-clause-turns : goal.returns-in_err-tell-clause-turns
returns-in_err-tell-clause-turns g c =
    let pending : pending_of c.tell.new.self ≡ pending_of c.args.self.now = ap pending_of c.tell.ensures.frame ∙ ap (λ (h : Held). h.pending) c.flush.ensures.held in
    let ended : c.tell.new.self.ended ≡ None = ap (λ s. (held_of s).ended) c.tell.ensures.frame ∙ ap (λ (h : Held). h.ended) c.flush.ensures.held ∙ c.requires.goes in
    let told : TellsOf (held_of c.args.self.now).unsent (held_of c.tell.new.self).unsent = subst (λ (h : Held). TellsOf h.unsent (held_of c.tell.new.self).unsent) c.flush.ensures.held c.tell.ensures.told in
    turns_told (Answers g.S.Shelf.standing g.S.Shelf.failed c.args.self.now.asker) (held_of c.args.self.now) (held_of c.tell.new.self) _ _ _ c.requires.goes pending ended told

pub returns-in_err-take_in-clause-turns : goal.returns-in_err-take_in-clause-turns
returns-in_err-take_in-clause-turns g c =
    let pending : pending_of c.tell.new.self ≡ pending_of c.args.self.now = ap pending_of c.tell.ensures.frame ∙ ap (λ (h : Held). h.pending) c.flush.ensures.held in
    let told : TellsOf (held_of c.args.self.now).unsent (held_of c.tell.new.self).unsent = subst (λ (h : Held). TellsOf h.unsent (held_of c.tell.new.self).unsent) c.flush.ensures.held c.tell.ensures.told in
    turns_read (Answers g.S.Shelf.standing g.S.Shelf.failed c.args.self.now.asker) (held_of c.args.self.now) (held_of c.tell.new.self) (held_of c.take_in.new.self) _ _ _ _ c.requires.goes pending told c.take_in.ensures.reads

pub returns-then-is_some-clause-turns : goal.returns-then-is_some-clause-turns
returns-then-is_some-clause-turns g c =
    let pending : pending_of c.tell.new.self ≡ pending_of c.args.self.now = ap pending_of c.tell.ensures.frame ∙ ap (λ (h : Held). h.pending) c.flush.ensures.held in
    let told : TellsOf (held_of c.args.self.now).unsent (held_of c.tell.new.self).unsent = subst (λ (h : Held). TellsOf h.unsent (held_of c.tell.new.self).unsent) c.flush.ensures.held c.tell.ensures.told in
    turns_read (Answers g.S.Shelf.standing g.S.Shelf.failed c.args.self.now.asker) (held_of c.args.self.now) (held_of c.tell.new.self) (held_of c.take_in.new.self) _ _ _ _ c.requires.goes pending told c.take_in.ensures.reads

pub returns-clause-turns : goal.returns-clause-turns
returns-clause-turns g c =
    let pending : pending_of c.tell.new.self ≡ pending_of c.args.self.now = ap pending_of c.tell.ensures.frame ∙ ap (λ (h : Held). h.pending) c.flush.ensures.held in
    let told : TellsOf (held_of c.args.self.now).unsent (held_of c.tell.new.self).unsent = subst (λ (h : Held). TellsOf h.unsent (held_of c.tell.new.self).unsent) c.flush.ensures.held c.tell.ensures.told in
    let ended : c.take_in.new.self.ended ≡ None = search rules in
    let asker : c.take_in.new.self.asker ≡ c.args.self.now.asker = ap (λ s. s.asker) c.take_in.ensures.frame ∙ ap (λ s. s.asker) c.tell.ensures.frame ∙ ap (λ s. s.asker) c.flush.ensures.frame in
    turns_run_as (Answers g.S.Shelf.standing g.S.Shelf.failed) c.args.self.now.asker c.take_in.new.self.asker asker (held_of c.args.self.now) (held_of c.take_in.new.self) (held_of c.run.new.self) _ _ _ _ _ _ _ _ ended
    (turns_read (Answers g.S.Shelf.standing g.S.Shelf.failed c.args.self.now.asker) (held_of c.args.self.now) (held_of c.tell.new.self) (held_of c.take_in.new.self) _ _ _ _ c.requires.goes pending told c.take_in.ensures.reads)
    c.run.ensures.runs

pub returns-in_err-flush-clause-blamed : goal.returns-in_err-flush-clause-blamed
returns-in_err-flush-clause-blamed g c = open_blames_none _ (g.I.Failing.call_counts c.args.reader.now) (g.I.Failing.call_counts c.args.reader.now) (g.O.Failing.call_counts c.args.writer.now) (g.O.Failing.call_counts c.args.writer.now) (ap (λ (h : Held). h.ended) c.flush.ensures.held ∙ c.requires.goes)

pub returns-in_err-tell-clause-blamed : goal.returns-in_err-tell-clause-blamed
returns-in_err-tell-clause-blamed g c = open_blames_none _ (g.I.Failing.call_counts c.args.reader.now) (g.I.Failing.call_counts c.args.reader.now) (g.O.Failing.call_counts c.args.writer.now) (g.O.Failing.call_counts c.args.writer.now) (ap (λ s. (held_of s).ended) c.tell.ensures.frame ∙ ap (λ (h : Held). h.ended) c.flush.ensures.held ∙ c.requires.goes)

pub returns-in_err-take_in-clause-blamed : goal.returns-in_err-take_in-clause-blamed
returns-in_err-take_in-clause-blamed g c = reader_blames _ (g.I.Failing.call_counts c.args.reader.now) (g.I.Failing.call_counts c.take_in.new.reader) (g.O.Failing.call_counts c.args.writer.now) (g.O.Failing.call_counts c.args.writer.now) c.take_in.ensures.blamed

pub returns-then-is_some-clause-blamed : goal.returns-then-is_some-clause-blamed
returns-then-is_some-clause-blamed g c = reader_blames _ (g.I.Failing.call_counts c.args.reader.now) (g.I.Failing.call_counts c.take_in.new.reader) (g.O.Failing.call_counts c.args.writer.now) (g.O.Failing.call_counts c.args.writer.now) c.take_in.ensures.blamed

pub returns-clause-blamed : goal.returns-clause-blamed
returns-clause-blamed g c = writer_blames _ (g.I.Failing.call_counts c.args.reader.now) (g.I.Failing.call_counts c.take_in.new.reader) (g.O.Failing.call_counts c.args.writer.now) (g.O.Failing.call_counts c.run.new.writer) c.run.ensures.blamed

pub returns-in_err-flush-clause-reader : goal.returns-in_err-flush-clause-reader
returns-in_err-flush-clause-reader g c = unasked _ (g.I.Failing.call_counts c.args.reader.now) (g.I.Failing.call_counts c.args.reader.now) (ap (λ (h : Held). h.ended) c.flush.ensures.held ∙ c.requires.goes) refl

pub returns-in_err-tell-clause-reader : goal.returns-in_err-tell-clause-reader
returns-in_err-tell-clause-reader g c = unasked _ (g.I.Failing.call_counts c.args.reader.now) (g.I.Failing.call_counts c.args.reader.now) (ap (λ s. (held_of s).ended) c.tell.ensures.frame ∙ ap (λ (h : Held). h.ended) c.flush.ensures.held ∙ c.requires.goes) refl

pub returns-clause-reader : goal.returns-clause-reader
returns-clause-reader g c =
    let ended : c.take_in.new.self.ended ≡ None = search rules in
    ran_ends _ (g.I.Failing.call_counts c.args.reader.now) (g.I.Failing.call_counts c.take_in.new.reader) (g.O.Failing.call_counts c.args.writer.now) (g.O.Failing.call_counts c.run.new.writer)
    (hears _ (g.I.Failing.call_counts c.args.reader.now) (g.I.Failing.call_counts c.take_in.new.reader) ended c.take_in.ensures.reader) c.run.ensures.blamed
