-- Believed. The commands as clap reads them: their names, options and flags.
use Rattle.std.specs.Prelude.{◌≡◌, ◌⊎◌, ℕ, true, List, Some, codes, slice_get}
use Rattle.clap.specs.Words.{App, Rule, Text, new_app, new_rule, with_rule, fault_of, Kinds, IsAmong}
use Rattle.clap.specs.declared.builder.action.ArgAction.TheVariants.{Set, SetTrue}
use Rattle.clap.specs.declared.error.kind.ErrorKind.TheVariants as kind
use Rattle.command_line.specs.declared.command_name.CommandName.{CommandName}
use Rattle.command_line.specs.declared.command_name.CommandName.TheVariants.{Pipe, Serve, Read, Simulate}
use Rattle.command_line.specs.declared.command_name.Simulation.{Simulation}
use Rattle.command_line.specs.declared.command_name.Simulation.TheVariants.{World, Crash}
use Rattle.command_line.specs.declared.ranges.TheConstants.{MOST_CRASH_STEPS, MOST_WORLD_STEPS}

-- an option `--NAME VALUE`, which may be given once
abbrev pub option_rule : Text → Rule
option_rule name = record (new_rule name) { long = Some name; action = Some Set; value_names = 1 }

-- an option `--NAME` without a value, which may be given once
abbrev pub flag_rule : Text → Rule
flag_rule name = record (new_rule name) { long = Some name; action = Some SetTrue }

-- a command of this name, with the flag `--version`
abbrev pub versioned : Text → App
versioned name = record (new_app name) { top = record (new_app name).top { has_version = true } }

-- a positional word of this name, which has to be given
abbrev pub word_rule : Text → Rule
word_rule name = record (new_rule name) { action = Some Set; value_names = 1; required = true }

-- the command with the six options of the numbers that every configuration has behind its others
abbrev pub with_number_rules : App → App
with_number_rules app = with_rule (with_rule (with_rule (with_rule (with_rule (with_rule app
    (option_rule (codes "bits"))) (option_rule (codes "hashes"))) (option_rule (codes "ttl-low"))) (option_rule (codes "ttl-high")))
    (option_rule (codes "active"))) (option_rule (codes "bytes"))

-- the command with the nine options of a configuration behind its others
abbrev pub with_setting_rules : App → App
with_setting_rules app = with_rule (with_rule (with_rule (with_number_rules app)
    (option_rule (codes "ttl-absent"))) (option_rule (codes "ttl-shared"))) (option_rule (codes "host"))

-- the command with the two options of a file that keeps the store behind its others
abbrev pub with_data_rules : App → App
with_data_rules app = with_rule (with_rule app (option_rule (codes "data"))) (option_rule (codes "sync"))

-- the command `pipe`
abbrev pub pipe_app : App
pipe_app = with_data_rules (with_rule (with_setting_rules (versioned (codes "pipe"))) (option_rule (codes "clock")))

-- the command with the five options of the limits of time behind its others
abbrev pub with_limit_rules : App → App
with_limit_rules app = with_rule (with_rule (with_rule (with_rule (with_rule app
    (option_rule (codes "idle"))) (option_rule (codes "head-time"))) (option_rule (codes "reply-time"))) (option_rule (codes "least-rate")))
    (option_rule (codes "grace"))

-- the command with the three options of who watches the server behind its others
abbrev pub with_watch_rules : App → App
with_watch_rules app = with_rule (with_rule (with_rule app
    (option_rule (codes "metrics"))) (option_rule (codes "log"))) (flag_rule (codes "log-json"))

-- the command `serve`
abbrev pub serve_app : App
serve_app = with_data_rules (with_watch_rules (with_rule (with_limit_rules (with_rule (with_rule (with_rule (with_rule (with_rule (with_setting_rules (with_rule (versioned (codes "serve")) (word_rule (codes "ADDR"))))
    (option_rule (codes "places"))) (option_rule (codes "workers"))) (option_rule (codes "matchers"))) (option_rule (codes "keep"))) (option_rule (codes "connections"))))
    (option_rule (codes "allow-origin"))))

-- the command `read`
abbrev pub read_app : App
read_app = with_rule (with_rule (with_rule (versioned (codes "read")) (word_rule (codes "ADDR"))) (word_rule (codes "LEVEL"))) (word_rule (codes "KEY"))

-- the names of the commands
abbrev pub name_of : CommandName → Text
name_of Pipe = codes "pipe"
name_of Serve = codes "serve"
name_of Read = codes "read"
name_of (Simulate World) = codes "world"
name_of (Simulate Crash) = codes "crash"

-- the command of a simulation
abbrev pub simulation_app : Simulation → App
simulation_app which = with_rule (with_rule (versioned (name_of (Simulate which))) (word_rule (codes "SEED"))) (word_rule (codes "STEPS"))

-- how many steps a simulation may have
abbrev pub most_steps : Simulation → ℕ
most_steps World = MOST_WORLD_STEPS
most_steps Crash = MOST_CRASH_STEPS

-- the command of this name
abbrev pub app_named : CommandName → App
app_named Pipe = pipe_app
app_named Serve = serve_app
app_named Read = read_app
app_named (Simulate which) = simulation_app which

-- the program where no command is named: it has the flags `--help` and `--version` alone
abbrev pub program_app : App
program_app = record (versioned (codes "quaestor")) { top = record (versioned (codes "quaestor")).top { no_binary_name = true } }

-- the first word names this command
abbrev pub IsNamed : CommandName → List Text → Type 0
IsNamed command words = slice_get words 0 ≡ Some (name_of command)

-- it names none
abbrev pub NamesNone : List Text → Type 0
NamesNone words = (command : CommandName) → IsNamed command words → ⊥

-- the kinds of error that clap has for the words, by the command that they name, are such
abbrev pub FaultsAre : (Kinds → Type 0) → List Text → Type 0
FaultsAre such words =
    ((command : CommandName) × IsNamed command words × such (fault_of (app_named command) words))
    ⊎ (NamesNone words × such (fault_of program_app words))

-- clap answers with a text of help, or with the version
abbrev pub IsAnswered : Kinds → Type 0
IsAnswered kinds = IsAmong kind.DisplayHelp kinds ⊎ IsAmong kind.DisplayVersion kinds

-- the words ask for help or for the version
abbrev pub AskHelp : List Text → Type 0
AskHelp words = FaultsAre IsAnswered words
