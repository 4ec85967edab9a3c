use Rattle.std.proofs.Common.{◌≡◌, rules, subst}
use Rattle.crew_steps.specs.Decoding.{AsksFor, IsGiven}
use Rattle.crew_steps.specs.declared.decoder.Next.TheVariants as next
use Rattle.crew_steps.specs.Causes.{HasCause}
use Rattle.crew_steps.specs.Feeding.{DoesJob, OwesNothingSomewhere}
use Rattle.crew_steps.specs.Shown.{songs_of}
use Rattle.crew_steps.proofs.Eaches.{each_same}
use Rattle.crew_steps.proofs.Pushes.{each_kept}
use Rattle.crew_steps.proofs.decoder.Decoder.decode_once.Goals as goal

pub decode-told-requires : goal.decode-told-requires
decode-told-requires g c = subst (OwesNothingSomewhere c.next_index-index.result) c.push-owes.ensures.owes c.in-Decodes.ensures.asks.1

pub returns-in-Decodes-clause-rings : goal.returns-in-Decodes-clause-rings
returns-in-Decodes-clause-rings g c =
    each_same c.args.feeders.now.items c.push-owes.new.feeders.items c.decode-told.new.feeders.items (each_kept c.args.feeders.now.items c.push-owes.new.feeders.items c.push-owes.ensures.kept) c.decode-told.ensures.rings

pub returns-in-Decodes-clause-decodes : goal.returns-in-Decodes-clause-decodes
returns-in-Decodes-clause-decodes g c =
    let rate : c.ask.new.self.songs.rate ≡ c.args.self.now.songs.rate = search rules in (
      c.next_index-index.result,
      (
        c.push-owes.new.feeders.items,
        c.known_partitions-present_partitions.new.self.seat,
        c.ask.new.self.seat,
        c.push-owes.ensures.kept,
        c.known_partitions-present_partitions.new.self.own,
        subst (λ owing. IsGiven c.known_partitions-present_partitions.new.self.seat c.next_index-index.result owing c.in-Decodes.job) c.push-owes.ensures.owes c.in-Decodes.ensures.asks.0,
        c.ask.new.self.own,
        (
          songs_of c.decode-told.new.self.songs,
          search rules,
          c.ask.new.self.share.amount,
          c.decode-told.new.self.share.amount,
          subst (λ r. DoesJob (HasCause g.S.SongSource.answers g.M.Media.all_bytes g.M.Failing.call_counts r) (songs_of c.decode-told.new.self.songs) c.ask.new.self.seat c.ask.new.self.share.amount c.decode-told.new.self.share.amount
              c.next_index-index.result c.in-Decodes.job c.decode-told.result c.push-owes.new.feeders.items c.decode-told.new.feeders.items) rate c.decode-told.ensures.decodes,
        ),
      ),
    )

pub returns-in-Ends-clause-decodes : goal.returns-in-Ends-clause-decodes
returns-in-Ends-clause-decodes g c = (
  c.push-owes.ensures.kept,
  (c.known_partitions-present_partitions.new.self.seat, c.next_index-index.result, c.known_partitions-present_partitions.new.self.own, subst (λ owing. AsksFor c.known_partitions-present_partitions.new.self.seat c.next_index-index.result owing (next.Ends c.in-Ends.told)) c.push-owes.ensures.owes c.in-Ends.ensures.asks),
)

pub returns-in-Refused-clause-decodes : goal.returns-in-Refused-clause-decodes
returns-in-Refused-clause-decodes g c = (
  c.push-owes.ensures.kept,
  (c.known_partitions-present_partitions.new.self.seat, c.next_index-index.result, c.known_partitions-present_partitions.new.self.own, subst (λ owing. AsksFor c.known_partitions-present_partitions.new.self.seat c.next_index-index.result owing (next.Refused c.in-Refused.fault)) c.push-owes.ensures.owes c.in-Refused.ensures.asks),
)

pub returns-in-Passes-clause-decodes : goal.returns-in-Passes-clause-decodes
returns-in-Passes-clause-decodes g c = (
  c.push-owes.ensures.kept,
  (c.known_partitions-present_partitions.new.self.seat, c.next_index-index.result, c.known_partitions-present_partitions.new.self.own, subst (λ owing. AsksFor c.known_partitions-present_partitions.new.self.seat c.next_index-index.result owing (next.Passes c.in-Passes.told)) c.push-owes.ensures.owes c.in-Passes.ensures.asks),
)
