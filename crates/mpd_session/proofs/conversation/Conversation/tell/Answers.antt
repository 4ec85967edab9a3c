use Rattle.std.proofs.Common.{ap}
use Rattle.mpd_session.specs.Notices.{notice_bytes}
use Rattle.mpd_session.specs.Owing.{owed_bytes}
use Rattle.mpd_session.specs.Sessions.{Held}
use Rattle.mpd_session.proofs.Outputs.{a_notice}
use Rattle.mpd_session.proofs.Sending.{none_owed, told_eq}
use Rattle.mpd_session.proofs.conversation.Conversation.tell.Goals as goal

pub returns-clause-told : goal.returns-clause-told
returns-clause-told g c = (
  notice_bytes c.outbox-notice.result,
  a_notice c.outbox-notice.result,
  told_eq _ c.args.self.now.unsent (owed_bytes c.args.self.now.owed) (owed_bytes c.of_notice.result) _ (ap (λ (h : Held). h.unsent) c.flush.ensures.held) c.of_notice.ensures (none_owed c.args.self.now.owed c.requires),
)
