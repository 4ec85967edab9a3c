use Rattle.std.proofs.Common.{◌≡◌, ◌≢◌, ◌⊎◌, ◌<◌, inl, inr, refl, rules, take, List, ℕ, length, Some, None, subst}
use Rattle.std.specs.Io.KnownBytes.{Appends}
use Rattle.mpd_session.specs.Owing.{owed_bytes}
use Rattle.mpd_session.specs.declared.end.End.TheVariants.{Unsent, WriteFault}
use Rattle.mpd_session.proofs.Sending.{only_sent}
use Rattle.mpd_session.proofs.Runs.{sent_as}
use Rattle.mpd_session.proofs.Sending.{all_written, sound_or}
use Rattle.mpd_session.proofs.conversation.Conversation.send.Goals as goal

pub returns-clause-sends : goal.returns-clause-sends
returns-clause-sends g c =
    let written : Appends (g.O.Write.contents c.args.writer.now) (g.O.Write.contents c.send_some-count.new.writer) (take c.send_some-count.result.count c.args.self.now.unsent) = search rules in
    let other : c.args.self.now.ended ≢ Some Unsent = c.is_given_up.ensures.writes c.if-is_given_up.false in
    let ends : (c.end_after-self.result ≡ c.args.self.now.ended) ⊎ ((c.args.self.now.ended ≡ None) × ((c.end_after-self.result ≡ Some WriteFault) ⊎ ((c.end_after-self.result ≡ Some Unsent) × (16777216 < length c.drop_front.new.self)))) = subst (λ (x : List ℕ). (c.end_after-self.result ≡ c.args.self.now.ended) ⊎ ((c.args.self.now.ended ≡ None) × ((c.end_after-self.result ≡ Some WriteFault) ⊎ ((c.end_after-self.result ≡ Some Unsent) × (16777216 < length x))))) c.as_slice-2.ensures c.end_after-self.ensures.end in
    (refl, only_sent _ _ c.args.self.now.unsent c.drop_front.new.self _ _ c.drop_front.ensures written, sent_as _ _ _ c.drop_front.new.self (owed_bytes c.args.self.now.owed) ends other)

pub returns-clause-sound : goal.returns-clause-sound
returns-clause-sound g c = λ none.
    sound_or c.send_some-count.result.failed _ (λ f. c.end_after-self.ensures.fails f (c.end_after-self.ensures.stays none)) c.send_some-count.ensures.sound none

pub returns-clause-writes : goal.returns-clause-writes
returns-clause-writes g c = inr (elim c.send_some-count.ensures.all [
  | inl all ↦ inl (all_written c.as_slice.result.now c.args.self.now.unsent c.drop_front.new.self _ c.as_slice.ensures all c.drop_front.ensures)
  | inr failed ↦ inr failed
])
