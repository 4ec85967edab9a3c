use Rattle.std.proofs.Common.{◌≡◌, ◌⊎◌, ◌∙◌, ◌≤◌, ℕ, arith, [], None, Some, inl, inr, ap, refl, rules, subst, sym}
use Rattle.mpd_text.specs.Lines.Split.{views}
use Rattle.mpd_session.specs.Answers.{Answers, caller}
use Rattle.mpd_session.specs.Requests.{is_over}
use Rattle.mpd_session.specs.declared.asker.Asker.{Asker}
use Rattle.mpd_session.specs.declared.end.End.TheVariants.{LongLine}
use Rattle.mpd_session.specs.Sessions.{held_of, pending_of, Says}
use Rattle.mpd_session.proofs.Runs.{runs_none, runs_both, says_runs, runs_sent, runs_ended}
use Rattle.mpd_session.proofs.Blame.{ended_blames, none_blames, open_blames, sent_blames}
use Rattle.mpd_session.proofs.conversation.Conversation.run.Goals as goal

grows : {a b c : ℕ} → a ≤ b → b ≤ c → a ≤ c
grows h i = omega (arith, h, i)

pub loop-self-init : goal.loop-self-init
loop-self-init g c = (runs_none (Answers g.S.Shelf.standing g.S.Shelf.failed c.args.self.now.asker) (held_of c.args.self.now) _ _ c.requires.goes, c.requires.nothing, refl, omega arith, open_blames _ _ _ c.requires.goes, λ _. c.requires.open, λ _. refl)

pub returns-in_err-step-clause-runs : goal.returns-in_err-step-clause-runs
returns-in_err-step-clause-runs g c =
    let says : Says (Answers g.S.Shelf.standing g.S.Shelf.failed c.args.self.now.asker) (held_of c.loop-self.self) (caller c.loop-self.seat c.loop-self.shelf) (held_of c.step.new.self) (caller c.step.new.seat c.step.new.shelf) =
    subst (λ (a : Asker). Says (Answers g.S.Shelf.standing g.S.Shelf.failed a) (held_of c.loop-self.self) (caller c.loop-self.seat c.loop-self.shelf) (held_of c.step.new.self) (caller c.step.new.seat c.step.new.shelf)) c.loop-self.invariant.2 c.step.ensures.says in
    runs_both (Answers g.S.Shelf.standing g.S.Shelf.failed c.args.self.now.asker) (held_of c.args.self.now) (held_of c.loop-self.self) (held_of c.step.new.self) _ _ _ _ _ _ (c.has_work.ensures.works c.loop-self-test.true).0 c.loop-self.invariant.0
    (says_runs (Answers g.S.Shelf.standing g.S.Shelf.failed c.args.self.now.asker) (held_of c.loop-self.self) (held_of c.step.new.self) _ _ _ says)

pub loop-self-preserved-then-as_slice-gt-MAX_UNSENT : goal.loop-self-preserved-then-as_slice-gt-MAX_UNSENT
loop-self-preserved-then-as_slice-gt-MAX_UNSENT g c =
    let says : Says (Answers g.S.Shelf.standing g.S.Shelf.failed c.args.self.now.asker) (held_of c.loop-self.self) (caller c.loop-self.seat c.loop-self.shelf) (held_of c.step.new.self) (caller c.step.new.seat c.step.new.shelf) =
    subst (λ (a : Asker). Says (Answers g.S.Shelf.standing g.S.Shelf.failed a) (held_of c.loop-self.self) (caller c.loop-self.seat c.loop-self.shelf) (held_of c.step.new.self) (caller c.step.new.seat c.step.new.shelf)) c.loop-self.invariant.2 c.step.ensures.says in (
      runs_sent (Answers g.S.Shelf.standing g.S.Shelf.failed c.args.self.now.asker) (held_of c.args.self.now) (held_of c.step.new.self) (held_of c.send.new.self) _ _ _ _ _
          (runs_both (Answers g.S.Shelf.standing g.S.Shelf.failed c.args.self.now.asker) (held_of c.args.self.now) (held_of c.loop-self.self) (held_of c.step.new.self) _ _ _ _ _ _ (c.has_work.ensures.works c.loop-self-test.true).0 c.loop-self.invariant.0
          (says_runs (Answers g.S.Shelf.standing g.S.Shelf.failed c.args.self.now.asker) (held_of c.loop-self.self) (held_of c.step.new.self) _ _ (g.O.Write.contents c.loop-self.writer) says))
          c.send.ensures.sends,
      search rules,
      ap (λ s. s.asker) c.send.ensures.frame ∙ c.step.ensures.asker ∙ c.loop-self.invariant.2,
      grows c.loop-self.invariant.3 c.send.ensures.calm,
      sent_blames _ _ (held_of c.step.new.self).unsent (held_of c.send.new.self).unsent (g.O.Failing.call_counts c.args.writer.now) (g.O.Failing.call_counts c.loop-self.writer) (g.O.Failing.call_counts c.send.new.writer) c.step.ensures.blameless c.send.ensures.sends.2 c.send.ensures.failed c.loop-self.invariant.3,
      λ none. ap (λ s. is_over s.gatherer) c.send.ensures.frame ∙ c.step.ensures.open (c.send.ensures.stays none),
      λ none. c.send.ensures.sound none ∙ c.loop-self.invariant.6 (c.has_work.ensures.works c.loop-self-test.true).0,
    )

pub loop-self-preserved : goal.loop-self-preserved
loop-self-preserved g c =
    let says : Says (Answers g.S.Shelf.standing g.S.Shelf.failed c.args.self.now.asker) (held_of c.loop-self.self) (caller c.loop-self.seat c.loop-self.shelf) (held_of c.step.new.self) (caller c.step.new.seat c.step.new.shelf) =
    subst (λ (a : Asker). Says (Answers g.S.Shelf.standing g.S.Shelf.failed a) (held_of c.loop-self.self) (caller c.loop-self.seat c.loop-self.shelf) (held_of c.step.new.self) (caller c.step.new.seat c.step.new.shelf)) c.loop-self.invariant.2 c.step.ensures.says in (
      runs_both (Answers g.S.Shelf.standing g.S.Shelf.failed c.args.self.now.asker) (held_of c.args.self.now) (held_of c.loop-self.self) (held_of c.step.new.self) _ _ _ _ _ _ (c.has_work.ensures.works c.loop-self-test.true).0 c.loop-self.invariant.0
          (says_runs (Answers g.S.Shelf.standing g.S.Shelf.failed c.args.self.now.asker) (held_of c.loop-self.self) (held_of c.step.new.self) _ _ _ says),
      search rules,
      c.step.ensures.asker ∙ c.loop-self.invariant.2,
      c.loop-self.invariant.3,
      none_blames _ _ _ c.step.ensures.blameless,
      c.step.ensures.open,
      λ _. c.loop-self.invariant.6 (c.has_work.ensures.works c.loop-self-test.true).0,
    )

pub returns-clause-runs : goal.returns-clause-runs
returns-clause-runs g c =
    let ends : (c.end_lines.new.self.ended ≡ c.loop-self.self.ended) ⊎ ((c.loop-self.self.ended ≡ None) × (c.end_lines.new.self.ended ≡ Some LongLine) × (views c.loop-self.self.lines.items ≡ []) × (c.loop-self.self.piece.items ≡ []) × (c.loop-self.self.splitter ≡ None)) =
    elim c.end_lines.ensures.ends [ inl e ↦ inl e | inr e ↦ inr (e.0, e.1, ap views e.2, e.3, e.4) ] in
    runs_ended (Answers g.S.Shelf.standing g.S.Shelf.failed c.args.self.now.asker) (held_of c.args.self.now) (held_of c.loop-self.self) (held_of c.end_lines.new.self) _ _ _ _ c.loop-self.invariant.0 (ap pending_of c.end_lines.ensures.frame) (ap (λ s. (held_of s).unsent) c.end_lines.ensures.frame) ends

pub returns-in_err-step-clause-blamed : goal.returns-in_err-step-clause-blamed
returns-in_err-step-clause-blamed g c = none_blames _ _ _ c.step.ensures.blameless

pub returns-clause-blamed : goal.returns-clause-blamed
returns-clause-blamed g c =
    let ends : (c.end_lines.new.self.ended ≡ c.loop-self.self.ended) ⊎ ((c.loop-self.self.ended ≡ None) × (c.end_lines.new.self.ended ≡ Some LongLine)) =
    elim c.end_lines.ensures.ends [ inl e ↦ inl e | inr e ↦ inr (e.0, e.1) ] in
    ended_blames _ _ _ _ c.loop-self.invariant.4 ends

pub returns-in_err-step-clause-sound : goal.returns-in_err-step-clause-sound
returns-in_err-step-clause-sound g c = λ none. c.loop-self.invariant.6 (c.has_work.ensures.works c.loop-self-test.true).0

pub returns-clause-sound : goal.returns-clause-sound
returns-clause-sound g c = λ none.
    let was : c.loop-self.self.ended ≡ None = elim c.end_lines.ensures.ends [ inl e ↦ sym e ∙ none | inr e ↦ e.0 ] in
    c.loop-self.invariant.6 was
