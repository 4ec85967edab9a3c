use Rattle.std.proofs.Common.{◌++◌, length, map, sym, ap, ◌∙◌}
use Rattle.std.specs.List.{flat_map}
use Rattle.daemon_script.specs.Kinds.{images}
use Rattle.daemon_script.specs.Script.{commands_run, end_of, ending_of, list_answer, lines_for, notices_by_number, read_of, request_in}
use Rattle.daemon_script.specs.Pieces.{stopped_at}
use Rattle.daemon_script.proofs.ListRuns.{list_ran, list_stopped}
use Rattle.daemon_script.proofs.lists.run_commands.Goals as goal

pub returns-in-Ok-clause-player : goal.returns-in-Ok-clause-player
returns-in-Ok-clause-player c =
    sym (ap (λ r. r.player)
    (list_ran c.args.player.now c.run_list.new.self c.args.number c.args.commands.now.form _ c.read_all-requests.result.0.items _ _ c.in-Ok.outcome
    (c.read_all-requests.ensures.read ∙ ap (λ ls. read_of c.read_all-requests.result.1 (map (request_in c.args.set) ls)) c.items.ensures) c.read_all-requests.ensures.runs c.in-Ok.ensures.ok))

pub returns-in-Ok-clause-text : goal.returns-in-Ok-clause-text
returns-in-Ok-clause-text c =
    let ran = list_ran c.args.player.now c.run_list.new.self c.args.number c.args.commands.now.form (read_of c.read_all-requests.result.1 (map (request_in c.args.set) c.args.commands.now.lines)) c.read_all-requests.result.0.items _ _ c.in-Ok.outcome
    (c.read_all-requests.ensures.read ∙ ap (λ ls. read_of c.read_all-requests.result.1 (map (request_in c.args.set) ls)) c.items.ensures) c.read_all-requests.ensures.runs c.in-Ok.ensures.ok in
    let end = c.as_str.ensures.value ∙ c.in_ok-end.ensures ∙ ap (λ ls. end_of c.read_all-requests.result.1 (length ls)) c.items-2.ensures in
    c.in_ok-push_list_outcome-in-Ok.ensures
    ∙ ap (λ e. c.args.shown.now.items ++ (lines_for c.args.number (flat_map (λ t. t.answer.text) c.in-Ok.outcome ++ ending_of e c.in-Ok.outcome) ++ notices_by_number c.in-Ok.outcome)) end
    ∙ sym (ap (λ r. c.args.shown.now.items ++ (lines_for c.args.number (list_answer r) ++ notices_by_number r.tolds)) ran)

pub returns-clause-player : goal.returns-clause-player
returns-clause-player c =
    let read = c.read_all-requests.ensures.read ∙ ap (λ ls. read_of c.read_all-requests.result.1 (map (request_in c.args.set) ls)) c.items.ensures in
    let found = ap (λ s. stopped_at c.read_all-requests.result.1 s.done s.cause) (sym c.fault.view_is) ∙ sym c.stopped_at.ensures.memory in
    sym (ap (λ r. r.player)
    (list_stopped c.args.player.now c.run_list.new.self c.args.number c.args.commands.now.form (map (request_in c.args.set) c.args.commands.now.lines) c.read_all-requests.result.0.items c.read_all-requests.result.1 (length c.args.commands.now.lines) c.in-Err.fault
    read c.read_all-requests.ensures.runs c.in-Err.ensures.err))
    ∙ ap (λ m. (commands_run images c.args.set c.args.player.now c.args.number c.args.commands.now m).player) found

pub returns-clause-text : goal.returns-clause-text
returns-clause-text c =
    let read = c.read_all-requests.ensures.read ∙ ap (λ ls. read_of c.read_all-requests.result.1 (map (request_in c.args.set) ls)) c.items.ensures in
    let found = ap (λ s. stopped_at c.read_all-requests.result.1 s.done s.cause) (sym c.fault.view_is) ∙ sym c.stopped_at.ensures.memory in
    let stopped = list_stopped c.args.player.now c.run_list.new.self c.args.number c.args.commands.now.form (map (request_in c.args.set) c.args.commands.now.lines) c.read_all-requests.result.0.items c.read_all-requests.result.1 (length c.args.commands.now.lines) c.in-Err.fault
    read c.read_all-requests.ensures.runs c.in-Err.ensures.err in
    c.in_ok-push_list_fault-in-Err.ensures ∙ sym (ap (λ r. c.args.shown.now.items ++ (lines_for c.args.number (list_answer r) ++ notices_by_number r.tolds)) stopped)
    ∙ ap (λ m. c.args.shown.now.items ++ (commands_run images c.args.set c.args.player.now c.args.number c.args.commands.now m).text) found
