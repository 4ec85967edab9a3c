use Rattle.clap.specs.Words.{app_of, subcommand_rows_of}
use Rattle.std.proofs.Common.{map, string_bytes}
use Rattle.command_line.proofs.Commands.{asked, known}
use Rattle.command_line.proofs.line.command_line.Goals as goal

pub program_in-requires : goal.program_in-requires
program_in-requires c =
    let met = c.in-Ok-try_get_matches_from in
    known (app_of c.in-Ok.command) (map string_bytes c.args.words.now) (subcommand_rows_of met.matches) _ c.in-Ok.ensures met.ensures.kinds met.ensures.matches

pub returns-in-Ok-try_get_matches_from-clause-asks : goal.returns-in-Ok-try_get_matches_from-clause-asks
returns-in-Ok-try_get_matches_from-clause-asks c =
    let met = c.in-Ok-try_get_matches_from in
    asked (app_of c.in-Ok.command) (map string_bytes c.args.words.now) (subcommand_rows_of met.matches) _ c.in-Ok.ensures met.ensures.kinds met.ensures.matches _ c.program_in.ensures
