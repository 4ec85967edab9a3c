use Rattle.std.proofs.Common.{arith, None}
use Rattle.std.proofs.lemmas.Str.Pattern.{strip_suffix_char}
use Rattle.command_arguments.proofs.Slashes.{no_slash}
use Rattle.command_arguments.proofs.forms.without_slash.Goals as goal

pub returns-in-None : goal.returns-in-None
returns-in-None c = no_slash c.args.word.now (strip_suffix_char 47 c.args.word.now None c.in-None.ensures.cases (omega arith))
