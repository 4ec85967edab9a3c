use Rattle.std.proofs.Common.{◌∙◌, List, ap, subst}
use Rattle.command_lists.specs.declared.word.ListForm.TheVariants.{Plain}
use Rattle.house.specs.Lists.{TellsListSomewhere}
use Rattle.mpd_command.specs.declared.request.Request.{Request}
use Rattle.serving.specs.Keeping.{questions}
use Rattle.serving.proofs.keeper.Keeper.ask.Goals as goal

pub returns-in-Ok-clause-answered : goal.returns-in-Ok-clause-answered
returns-in-Ok-clause-answered g c = (
  c.in-Ok.ensures.made,
  subst
      (λ (requests : List Request). TellsListSomewhere g.S.Shelf.standing g.S.Shelf.failed c.args.self.now.shelf c.list.new.shelf c.args.self.now.seat 65 Plain requests c.in-Ok.answered.tolds)
      (c.in_ok-requests.ensures ∙ ap questions c.deref.ensures.value) c.in-Ok.ensures.somewhere,
)
