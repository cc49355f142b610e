-- clap's answer, of the program where no command is named
use Rattle.command_line.proofs.CommandLemmas.{program_failed, program_refused, program_taken}
use Rattle.command_line.proofs.words.read_program.Goals as goal

pub returns-in-Ok : goal.returns-in-Ok
returns-in-Ok c =
    let taken = program_taken _ _ c.in_ok-program_command.ensures c.in-Ok.ensures.kinds in
    (program_refused _ c.requires taken, (c.requires, taken))

pub returns : goal.returns
returns c = program_failed _ _ _ _ c.requires c.in_ok-program_command.ensures c.in-Err.ensures.kinds c.answer_of.ensures
