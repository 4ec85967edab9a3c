use Rattle.std.proofs.Common.{ℕ, ◌≡◌, List, Ok, inr, rules, subst}
use Rattle.crew_steps.specs.Songs.{head_fault}
use Rattle.crew_steps.specs.declared.song_source.SongFault.TheVariants.{Unopened}
use Rattle.crew_steps.proofs.Causes.{bad_head}
use Rattle.crew_steps.proofs.songs.Songs.opened.Goals as goal

pub returns-in-Err-clause-cause : goal.returns-in-Err-clause-cause
returns-in-Err-clause-cause g c = λ is.
    let uri : c.uri.result.now ≡ c.args.song.now.uri = search rules in
    let refused : head_fault c.in-Err.fault ≡ Unopened = cc in inr (
      c.args.self.now.source,
      c.in_ok-file.file,
      c.in-Err.fault,
      subst (λ (u : List ℕ). g.S.SongSource.answers c.args.self.now.source u (Ok c.in_ok-file.file)) uri c.in_ok-file.ensures,
      bad_head g.M.Media.all_bytes g.M.Failing.call_counts c.args.self.now.rate c.in_ok-file.file c.read_head.new.media c.in-Err.fault c.in-Err.ensures.value c.in-Err.ensures.read_fault refused,
    )
