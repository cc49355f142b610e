-- Believed. The texts of help and of the version, and which of them words ask for.
use Rattle.std.specs.Prelude.{◌≡◌, ◌⊎◌, List}
use Rattle.clap.specs.Words.{Text, Kinds, IsAmong, fault_of}
use Rattle.clap.specs.declared.error.kind.ErrorKind.TheVariants as kind
use Rattle.command_line.specs.Commands.{app_named, program_app, IsNamed, NamesNone}
use Rattle.command_line.specs.declared.command_name.CommandName.{CommandName}
use Rattle.command_line.specs.declared.command_name.CommandName.TheVariants.{Pipe, Serve, Read, Simulate}
use Rattle.command_line.specs.declared.command_name.Simulation.TheVariants.{World, Crash}
use Rattle.command_line.specs.declared.help.HelpText.{HelpText}
use Rattle.command_line.specs.declared.help.HelpText.TheVariants as help
use Rattle.command_line.specs.declared.help.TheConstants.{PROGRAM_HELP, PIPE_HELP, SERVE_HELP, READ_HELP, WORLD_HELP, CRASH_HELP, VERSION_LINE}

-- the text itself
unfoldable pub text_of_help : HelpText → Text
text_of_help help.Program = PROGRAM_HELP.now
text_of_help help.Pipe = PIPE_HELP.now
text_of_help help.Serve = SERVE_HELP.now
text_of_help help.Read = READ_HELP.now
text_of_help help.World = WORLD_HELP.now
text_of_help help.Crash = CRASH_HELP.now
text_of_help help.Version = VERSION_LINE.now

-- the help of a command
abbrev pub help_of : CommandName → HelpText
help_of Pipe = help.Pipe
help_of Serve = help.Serve
help_of Read = help.Read
help_of (Simulate World) = help.World
help_of (Simulate Crash) = help.Crash

-- clap answers with help, and this is the command's own; or with the version
abbrev pub IsShownFor : (own text : HelpText) → Kinds → Type 0
IsShownFor own text kinds =
    (IsAmong kind.DisplayHelp kinds × (text ≡ own)) ⊎ (IsAmong kind.DisplayVersion kinds × (text ≡ help.Version))

-- the text that the words ask for: the help of the command that they name, that of the program where they name none, or the version
abbrev pub IsHelpOf : List Text → HelpText → Type 0
IsHelpOf words text =
    ((command : CommandName) × IsNamed command words × IsShownFor (help_of command) text (fault_of (app_named command) words))
    ⊎ (NamesNone words × IsShownFor help.Program text (fault_of program_app words))
