use Rattle.std.proofs.Common.{◌≡◌, ◌≢◌, ◌≤◌, ◌++◌, ◌∙◌, [], List, ℕ, true, is_ok, None, length, ap, sym, subst, append-nil, arith, rules}
use Rattle.std.proofs.lemmas.Grind.{common_steps}
use Rattle.mpd_session.specs.Answers.{Answers}
use Rattle.mpd_session.specs.Owing.{owed_bytes}
use Rattle.mpd_session.specs.Requests.{is_over}
use Rattle.mpd_session.specs.Sessions.{held_of}
use Rattle.mpd_session.proofs.Runs.{turns_sent}
use Rattle.mpd_session.proofs.Sending.{none_owed, owed_or_written}
use Rattle.mpd_session.proofs.Blame.{turn_blames}
use Rattle.mpd_session.proofs.Reading.{sent_ends}
use Rattle.mpd_session.proofs.Telling.{still_closed, tells_closed, tells_open}
use Rattle.mpd_session.proofs.session.Session.turn.Goals as goal
use Rattle.mpd_session.proofs.session.Session.turn.Goals.{then-is_ok, else-is_ok}

pub returns-in-Some-clause-tells : goal.returns-in-Some-clause-tells
returns-in-Some-clause-tells g c =
    rw (← c.self.view_is)
    (tells_closed _ _ c.in-Some.end c.in-Some.is
    (still_closed _ _ (held_of c.flush-flushed.new.self).unsent (held_of c.send.new.self).unsent c.in-Some.end (ap (λ s. s.ended) c.flush-flushed.ensures.frame ∙ c.in-Some.is) c.send.ensures.sends.2))

pub returns-in-Some-clause-writes : goal.returns-in-Some-clause-writes
returns-in-Some-clause-writes g c = λ closed.
    owed_or_written c.send.new.self.owed c.send.new.self.ended c.send.new.self.unsent (g.O.Failing.call_counts c.args.writer.now) (g.O.Failing.call_counts c.send.new.writer) c.send.ensures.writes

pub returns-clause-turns : goal.returns-clause-turns
returns-clause-turns g c =
    rw (← c.self.view_is)
    (λ e. turns_sent (Answers g.S.Shelf.standing g.S.Shelf.failed c.self.inside.conversation.asker) (held_of c.self.inside.conversation) (held_of c.hear-heard.new.self) (held_of c.send-2.new.self) _ _ _ _ _ _ _ c.hear-heard.ensures.turns c.send-2.ensures.sends)

pub returns-clause-tells : goal.returns-clause-tells
returns-clause-tells g c =
    let goes : c.self.inside.conversation.ended ≡ None = search rules in
    rw (← c.self.view_is) (tells_open _ _ c.if-is_ok.all _ goes c.answer_of.ensures.answer)

pub returns-clause-blamed : goal.returns-clause-blamed
returns-clause-blamed g c = λ e.
    turn_blames _ _ (held_of c.hear-heard.new.self).unsent (held_of c.send-2.new.self).unsent (g.I.Failing.call_counts c.args.reader.now) (g.I.Failing.call_counts c.hear-heard.new.reader) (g.O.Failing.call_counts c.args.writer.now) (g.O.Failing.call_counts c.hear-heard.new.writer) (g.O.Failing.call_counts c.send-2.new.writer) c.hear-heard.ensures.blamed c.send-2.ensures.sends.2 c.send-2.ensures.failed c.hear-heard.ensures.calm c.send-2.ensures.calm

pub returns-clause-within : goal.returns-clause-within
returns-clause-within g c = λ on.
    let ended : c.send-2.new.self.ended ≡ None = (c.answer_of.ensures.goes on).0 in
    let was : c.hear-heard.new.self.ended ≡ None = c.send-2.ensures.stays ended in
    let all : c.if-is_ok.all ≡ true = (c.answer_of.ensures.goes on).1 in
    let whole : (is_ok c.hear-heard.result ≡ true) × (c.send-2.new.self.piece.items ≡ []) =
    elim c.if-is_ok.branch [ then-is_ok w ↦ (search rules, grind (arith, common_steps)) | else-is_ok w ↦ search rules ] in
    let piece : c.hear-heard.new.self.piece.items ≡ [] = sym (ap (λ s. s.piece.items) c.send-2.ensures.frame) ∙ whole.1 in
    let heard : (owed_bytes c.hear-heard.new.self.owed ≡ []) × (c.hear-heard.new.self.splitter ≢ None) =
    (none_owed c.hear-heard.new.self.owed (c.hear-heard.ensures.nothing whole.0), c.hear-heard.ensures.long whole.0 was piece) in
    let owed : owed_bytes c.send-2.new.self.owed ≡ [] = ap (λ s. owed_bytes s.owed) c.send-2.ensures.frame ∙ heard.0 in
    let few : length (c.send-2.new.self.unsent ++ []) ≤ 16777216 =
    subst (λ (bytes : List ℕ). length bytes ≤ 16777216) (sym (append-nil c.send-2.new.self.unsent)) (c.send-2.ensures.few ended) in (
      λ none. heard.1 (sym (ap (λ s. s.splitter) c.send-2.ensures.frame) ∙ none),
      ap (λ s. is_over s.gatherer) c.send-2.ensures.frame ∙ c.hear-heard.ensures.open was,
      subst (λ (bytes : List ℕ). length (c.send-2.new.self.unsent ++ bytes) ≤ 16777216) (sym owed) few,
    )

pub returns-clause-reader : goal.returns-clause-reader
returns-clause-reader g c = λ e.
    sent_ends _ _ (held_of c.hear-heard.new.self).unsent (held_of c.send-2.new.self).unsent (g.I.Failing.call_counts c.args.reader.now) (g.I.Failing.call_counts c.hear-heard.new.reader) c.send-2.ensures.sends.2 c.hear-heard.ensures.reader

pub returns-clause-sound : goal.returns-clause-sound
returns-clause-sound g c = λ none. c.send-2.ensures.sound none ∙ c.hear-heard.ensures.sound (c.send-2.ensures.stays none)
