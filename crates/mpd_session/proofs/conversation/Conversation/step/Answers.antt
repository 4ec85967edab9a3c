use Rattle.std.proofs.Common.{◌≡◌, ◌++◌, [], ◌∙◌, ap, append-nil, refl, rules, sym, None}
use Rattle.mpd_session.specs.Answers.{Answers, caller}
use Rattle.mpd_session.specs.Owing.{owed_bytes}
use Rattle.mpd_text.specs.Lines.Split.{views}
use Rattle.mpd_session.specs.Sessions.{end_by, held_of}
use Rattle.mpd_session.proofs.Outputs.{no_notices}
use Rattle.mpd_session.proofs.Pends.{pend}
use Rattle.mpd_session.proofs.Sending.{none_owed}
use Rattle.mpd_session.proofs.Runs.{step_line, step_answer, tells_nothing, told, untaken, views_some}
use Rattle.mpd_session.proofs.conversation.Conversation.step.Goals as goal

pub returns-in_default-clause-says : goal.returns-in_default-clause-says
returns-in_default-clause-says g c =
    let none : c.in_ok-asked.field-0 ≡ None = search rules in
    step_line (Answers g.S.Shelf.standing g.S.Shelf.failed c.args.self.now.asker) (held_of c.args.self.now) (held_of c.args.self.now) _ _ _ _ c.in_ok-asked.field-0 _ c.requires.goes refl (tells_nothing (held_of c.args.self.now).unsent)
    (views_some c.args.self.now.lines.items c.requires.some) c.in_ok-asked.ensures.ok none refl c.is_over.ensures c.end_in_list-self.ensures.end refl

pub returns-clause-says : goal.returns-clause-says
returns-clause-says g c =
    step_answer (Answers g.S.Shelf.standing g.S.Shelf.failed c.args.self.now.asker) (held_of c.args.self.now) (held_of c.args.self.now) _ _ _ _ _ _ c.in-Some.asked c.in_ok-asked.field-0 c.args.self.now.unsent (owed_bytes c.args.self.now.owed) (owed_bytes c.ask-owed.result) _
    c.flush.ensures.held refl (tells_nothing (held_of c.args.self.now).unsent)
    (views_some c.args.self.now.lines.items c.requires.some) c.in_ok-asked.ensures.ok c.in-Some.is refl c.ask-owed.ensures (c.end_by-self.ensures.end ∙ ap end_by c.next.ensures) refl refl (none_owed c.args.self.now.owed c.requires.nothing)

pub returns-in_err-asked-clause-says : goal.returns-in_err-asked-clause-says
returns-in_err-asked-clause-says g c =
    told (Answers g.S.Shelf.standing g.S.Shelf.failed c.args.self.now.asker) (held_of c.args.self.now)
    (record { pending = pend c.take.new.self (views c.take.new.lines.items) c.args.self.now.splitter c.args.self.now.piece.items; unsent = c.args.self.now.unsent ++ owed_bytes c.args.self.now.owed; ended = c.args.self.now.ended })
    (caller c.args.seat.now c.args.shelf.now) [] c.requires.goes c.requires.goes
    (untaken _ _ _ _ _ _ c.in_err-asked.ensures.err.0 (ap views c.in_err-asked.ensures.err.1)) no_notices (sym (append-nil (c.args.self.now.unsent ++ owed_bytes c.args.self.now.owed)))
