-- clap's answer, of the command that it read
use Rattle.command_line.proofs.CommandLemmas.{command_failed, command_found, given}
use Rattle.command_line.proofs.words.read_command.Goals as goal

pub asked_by-requires : goal.asked_by-requires
asked_by-requires c = given c.args.command _ _ c.in_ok-command_of.ensures c.in-Ok.ensures.parsed

pub returns-in-Ok : goal.returns-in-Ok
returns-in-Ok c = command_found c.args.command _ _ _ _ c.requires c.in_ok-command_of.ensures c.in-Ok.ensures.matches c.in-Ok.ensures.kinds c.asked_by.ensures

pub returns-in-Err : goal.returns-in-Err
returns-in-Err c = command_failed c.args.command _ _ _ _ c.requires c.in_ok-command_of.ensures c.in-Err.ensures.kinds (rw c.of.ensures at c.answer_of.ensures)
