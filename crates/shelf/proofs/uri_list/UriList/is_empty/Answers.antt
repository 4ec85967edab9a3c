use Rattle.std.proofs.Common.{◌≡◌, ◌==◌, length, string_bytes, rules, ◌∙◌}
use Rattle.shelf.proofs.LineLemmas.{empty_together}
use Rattle.shelf.proofs.uri_list.UriList.is_empty.Goals as goal

pub returns : goal.returns
returns c = rw (← c.self.view_is) (let bytes : c.is_empty.result ≡ (length (string_bytes c.self.inside.text) == 0) = search rules in bytes ∙ empty_together _ _ c.self.invariant)
