-- The commands, as clap reads them, and the answers that clap has for their words.
use Rattle.std.proofs.Common.{◌≡◌, ◌≢◌, ◌⊎◌, ℕ, ◌==◌, true, List, [], ◌∷◌, Option, codes, get_or, if◌then◌else◌, refl, sym, ap, ◌∙◌, subst, ⊎_elim, inl, inr}
use Rattle.std.specs.Prelude.{Result, Ok, Err, IfOk, unwrap_or}
use Rattle.clap.specs.Words.{App, Row, Text, app_of, with_rule, fault_of, kind_of, Kinds, IsAmong, IsParsedFrom, HasMatchesOf, found_of, rows_of, matches_of, is_simple, is_simple_and_free}
use Rattle.clap.specs.declared.builder.command.Command.{Command}
use Rattle.clap.specs.declared.parser.matches.ArgMatches.{ArgMatches}
use Rattle.clap.specs.declared.error.kind.ErrorKind.{ErrorKind}
use Rattle.clap.specs.declared.error.kind.ErrorKind.TheVariants as kind
use Rattle.command_line.specs.Commands.{flag_rule, option_rule, word_rule, with_data_rules, with_limit_rules, with_number_rules, with_setting_rules, with_watch_rules, versioned, app_named, name_of, pipe_app, serve_app, read_app, simulation_app, program_app, IsNamed, NamesNone, FaultsAre, IsAnswered, AskHelp}
use Rattle.command_line.specs.Help.{help_of, IsHelpOf, IsShownFor}
use Rattle.command_line.specs.declared.command_name.CommandName.{CommandName}
use Rattle.command_line.specs.declared.command_name.CommandName.TheVariants as name
use Rattle.command_line.specs.declared.command_name.Simulation.{Simulation}
use Rattle.command_line.specs.declared.command_name.Simulation.TheVariants as simulation
use Rattle.command_line.specs.declared.help.HelpText.{HelpText}
use Rattle.command_line.specs.declared.help.HelpText.TheVariants as texts
use Rattle.command_line.specs.Words.{AreAsked, AreGiven, ArePipeOptions, AreRun, AreReadOptions, AreServeOptions, AreSimulationOptions, AreTaken, Asks, IsAnswerOf, IsCommand, IsFound, IsPipe, IsPipeOf, IsRead, IsServe, IsServeOf, IsSimulation, PipeAsk, ReadAsk, ServeAsk, ask_of, pipe_ask_of, read_ask_of}
use Rattle.command_line.specs.declared.options.Invocation.{Invocation}
use Rattle.command_line.specs.declared.options.Invocation.TheVariants.{Pipe, Serve, Read, Simulate, Help, Invalid}
use Rattle.command_line.specs.declared.refusal.Refusal.TheVariants as why
use Rattle.command_line.proofs.GivenLemmas.{serve_address, read_address, read_level, read_key, seed_given, steps_given}
use Rattle.command_line.proofs.Singles.{Single, fault_single}

-- one option after another makes the command
pub six : (a b c d e f g : App) → b ≡ with_rule a (option_rule (codes "bits")) → c ≡ with_rule b (option_rule (codes "hashes")) → d ≡ with_rule c (option_rule (codes "ttl-low")) → e ≡ with_rule d (option_rule (codes "ttl-high"))
    → f ≡ with_rule e (option_rule (codes "active")) → g ≡ with_rule f (option_rule (codes "bytes")) → g ≡ with_number_rules a
six a b c d e f g pb pc pd pe pf pg =
    pg ∙ ap (λ x. with_rule x (option_rule (codes "bytes"))) (pf ∙ ap (λ x. with_rule x (option_rule (codes "active")))
    (pe ∙ ap (λ x. with_rule x (option_rule (codes "ttl-high"))) (pd ∙ ap (λ x. with_rule x (option_rule (codes "ttl-low"))) (pc ∙ ap (λ x. with_rule x (option_rule (codes "hashes"))) pb))))

pub nine : (a b c d e : App) → b ≡ with_number_rules a → c ≡ with_rule b (option_rule (codes "ttl-absent")) → d ≡ with_rule c (option_rule (codes "ttl-shared")) → e ≡ with_rule d (option_rule (codes "host")) → e ≡ with_setting_rules a
nine a b c d e pb pc pd pe =
    pe ∙ ap (λ x. with_rule x (option_rule (codes "host"))) (pd ∙ ap (λ x. with_rule x (option_rule (codes "ttl-shared"))) (pc ∙ ap (λ x. with_rule x (option_rule (codes "ttl-absent"))) pb))

pub three : (a b c d : App) → b ≡ with_rule a (option_rule (codes "metrics")) → c ≡ with_rule b (option_rule (codes "log")) → d ≡ with_rule c (flag_rule (codes "log-json")) → d ≡ with_watch_rules a
three a b c d pb pc pd =
    pd ∙ ap (λ x. with_rule x (flag_rule (codes "log-json"))) (pc ∙ ap (λ x. with_rule x (option_rule (codes "log"))) pb)

pub two : (a b c : App) → b ≡ with_rule a (option_rule (codes "data")) → c ≡ with_rule b (option_rule (codes "sync")) → c ≡ with_data_rules a
two a b c pb pc = pc ∙ ap (λ x. with_rule x (option_rule (codes "sync"))) pb

pub pipe_is : (a b c d : App) → a ≡ versioned (codes "pipe") → b ≡ with_setting_rules a → c ≡ with_rule b (option_rule (codes "clock")) → d ≡ with_data_rules c → d ≡ pipe_app
pipe_is a b c d pa pb pc pd = pd ∙ ap with_data_rules (pc ∙ ap (λ x. with_rule x (option_rule (codes "clock"))) (pb ∙ ap with_setting_rules pa))

pub five : (a b c d e f : App) → b ≡ with_rule a (option_rule (codes "idle")) → c ≡ with_rule b (option_rule (codes "head-time")) → d ≡ with_rule c (option_rule (codes "reply-time")) → e ≡ with_rule d (option_rule (codes "least-rate"))
    → f ≡ with_rule e (option_rule (codes "grace")) → f ≡ with_limit_rules a
five a b c d e f pb pc pd pe pf =
    pf ∙ ap (λ x. with_rule x (option_rule (codes "grace"))) (pe ∙ ap (λ x. with_rule x (option_rule (codes "least-rate")))
    (pd ∙ ap (λ x. with_rule x (option_rule (codes "reply-time"))) (pc ∙ ap (λ x. with_rule x (option_rule (codes "head-time"))) pb)))

pub serve_is : (a b c d e f k g h i j l : App) → a ≡ versioned (codes "serve") → b ≡ with_rule a (word_rule (codes "ADDR")) → c ≡ with_setting_rules b → d ≡ with_rule c (option_rule (codes "places")) → e ≡ with_rule d (option_rule (codes "workers"))
    → f ≡ with_rule e (option_rule (codes "matchers")) → k ≡ with_rule f (option_rule (codes "keep")) → g ≡ with_rule k (option_rule (codes "connections")) → h ≡ with_limit_rules g → i ≡ with_rule h (option_rule (codes "allow-origin")) → j ≡ with_watch_rules i → l ≡ with_data_rules j → l ≡ serve_app
serve_is a b c d e f k g h i j l pa pb pc pd pe pf pk pg ph pi pj pl =
    pl ∙ ap with_data_rules (pj ∙ ap with_watch_rules (pi ∙ ap (λ x. with_rule x (option_rule (codes "allow-origin"))) (ph ∙ ap with_limit_rules (pg ∙ ap (λ x. with_rule x (option_rule (codes "connections"))) (pk ∙ ap (λ x. with_rule x (option_rule (codes "keep"))) (pf ∙ ap (λ x. with_rule x (option_rule (codes "matchers")))
    (pe ∙ ap (λ x. with_rule x (option_rule (codes "workers"))) (pd ∙ ap (λ x. with_rule x (option_rule (codes "places")))
    (pc ∙ ap with_setting_rules (pb ∙ ap (λ x. with_rule x (word_rule (codes "ADDR"))) pa))))))))))

pub read_is : (a b c d : App) → a ≡ versioned (codes "read") → b ≡ with_rule a (word_rule (codes "ADDR")) → c ≡ with_rule b (word_rule (codes "LEVEL")) → d ≡ with_rule c (word_rule (codes "KEY")) → d ≡ read_app
read_is a b c d pa pb pc pd =
    pd ∙ ap (λ x. with_rule x (word_rule (codes "KEY"))) (pc ∙ ap (λ x. with_rule x (word_rule (codes "LEVEL"))) (pb ∙ ap (λ x. with_rule x (word_rule (codes "ADDR"))) pa))

pub simulation_is : (which : Simulation) (a b c : App) → a ≡ versioned (name_of (name.Simulate which)) → b ≡ with_rule a (word_rule (codes "SEED")) → c ≡ with_rule b (word_rule (codes "STEPS")) → c ≡ simulation_app which
simulation_is which a b c pa pb pc = pc ∙ ap (λ x. with_rule x (word_rule (codes "STEPS"))) (pb ∙ ap (λ x. with_rule x (word_rule (codes "SEED"))) pa)

-- clap has at most one kind of error for the words of a command
single : (command : CommandName) (words : List Text) → Single (fault_of (app_named command) words)
single name.Pipe words = fault_single pipe_app words refl refl refl
single name.Serve words = fault_single serve_app words refl refl refl
single name.Read words = fault_single read_app words refl refl refl
single (name.Simulate simulation.World) words = fault_single (simulation_app simulation.World) words refl refl refl
single (name.Simulate simulation.Crash) words = fault_single (simulation_app simulation.Crash) words refl refl refl

program_single : (words : List Text) → Single (fault_of program_app words)
program_single words = fault_single program_app words refl refl refl

-- each command is simple
simple : (command : CommandName) → is_simple (app_named command) ≡ true
simple name.Pipe = refl
simple name.Serve = refl
simple name.Read = refl
simple (name.Simulate simulation.World) = refl
simple (name.Simulate simulation.Crash) = refl

free : (command : CommandName) → is_simple_and_free (app_named command) ≡ true
free name.Pipe = refl
free name.Serve = refl
free name.Read = refl
free (name.Simulate simulation.World) = refl
free (name.Simulate simulation.Crash) = refl

-- where clap's error is neither help nor the version, neither was asked for
unanswered : (kinds : Kinds) (of : ErrorKind) → Single kinds → (of ≡ kind.OutOfMemory) ⊎ IsAmong of kinds → of ≢ kind.OutOfMemory → of ≢ kind.DisplayHelp → of ≢ kind.DisplayVersion → IsAnswered kinds → ⊥
unanswered kinds of single (inl memory) some help version answered = some memory
unanswered kinds of single (inr among) some help version (inl p) = help (single of kind.DisplayHelp among p)
unanswered kinds of single (inr among) some help version (inr p) = version (single of kind.DisplayVersion among p)

-- where clap's error is help or the version, that text was asked for
answered : (own text : HelpText) (kinds : Kinds) (of : ErrorKind) → (of ≡ kind.OutOfMemory) ⊎ IsAmong of kinds → ((of ≡ kind.DisplayHelp) × (text ≡ own)) ⊎ ((of ≡ kind.DisplayVersion) × (text ≡ texts.Version)) → IsShownFor own text kinds
answered own text kinds of (inl memory) (inl shown) = let bad : kind.OutOfMemory ≡ kind.DisplayHelp = sym memory ∙ shown.0 in absurd cc
answered own text kinds of (inl memory) (inr version) = let bad : kind.OutOfMemory ≡ kind.DisplayVersion = sym memory ∙ version.0 in absurd cc
answered own text kinds of (inr among) (inl shown) = inl (subst (λ k. IsAmong k kinds) shown.0 among, shown.1)
answered own text kinds of (inr among) (inr version) = inr (subst (λ k. IsAmong k kinds) version.0 among, version.1)

-- words that ask for a text ask for help
shown_answered : (own text : HelpText) (kinds : Kinds) → IsShownFor own text kinds → IsAnswered kinds
shown_answered own text kinds (inl shown) = inl shown.0
shown_answered own text kinds (inr version) = inr version.0

pub help_asked : (words : List Text) (text : HelpText) → IsHelpOf words text → AskHelp words
help_asked words text (inl (command, named, shown)) = inl (command, named, shown_answered _ text _ shown)
help_asked words text (inr n) = inr (n.0, shown_answered _ text _ n.1)

-- a list with a kind is not empty
not_taken : (kinds : Kinds) (of : ErrorKind) → (of ≡ kind.OutOfMemory) ⊎ IsAmong of kinds → of ≢ kind.OutOfMemory → kinds ≡ [] → ⊥
not_taken [] of (inl memory) some e = some memory
not_taken [] of (inr among) some e = among
not_taken (k ∷ ks) of among some e = absurd cc

-- what clap found is what it finds for the command of this shape
rows_are : (command : CommandName) (a : App) (words : List Text) (m : ArgMatches) → a ≡ app_named command → HasMatchesOf a words m → rows_of (found_of m) ≡ matches_of (app_named command) words
rows_are command a words m e has = (subst (λ x. HasMatchesOf x words m) e has (simple command)).0

taken_are : (a b : App) (words : List Text) → a ≡ b → is_simple_and_free b ≡ true → (is_simple_and_free a ≡ true → fault_of a words ≡ []) → fault_of b words ≡ []
taken_are a b words e simple none = subst (λ x. is_simple_and_free x ≡ true → fault_of x words ≡ []) e none simple

kinds_are : (a b : App) (words : List Text) (of : ErrorKind) → a ≡ b → is_simple_and_free b ≡ true → (is_simple_and_free a ≡ true → (of ≡ kind.OutOfMemory) ⊎ IsAmong of (fault_of a words)) → (of ≡ kind.OutOfMemory) ⊎ IsAmong of (fault_of b words)
kinds_are a b words of e simple some = subst (λ x. is_simple_and_free x ≡ true → (of ≡ kind.OutOfMemory) ⊎ IsAmong of (fault_of x words)) e some simple

-- it has found each positional word that the command needs
pub given : (command : CommandName) (c : Command) (m : ArgMatches) → app_of c ≡ app_named command → IsParsedFrom c m → AreGiven command (rows_of (found_of m))
given name.Pipe c m is parsed = tt
given name.Serve c m is parsed = serve_address c m is parsed
given name.Read c m is parsed = (read_address c m is parsed, read_level c m is parsed, read_key c m is parsed)
given (name.Simulate which) c m is parsed = (seed_given which c m is parsed, steps_given which c m is parsed)

nothing_answered : (kinds : Kinds) → kinds ≡ [] → IsAnswered kinds → ⊥
nothing_answered [] e (inl q) = q
nothing_answered [] e (inr q) = q
nothing_answered (k ∷ ks) e q = absurd cc

-- the command whose name begins with this letter
abbrev of_letter : ℕ → CommandName
of_letter n = if n == 112 then name.Pipe else if n == 115 then name.Serve else if n == 114 then name.Read else if n == 119 then name.Simulate simulation.World else name.Simulate simulation.Crash

its_letter : (command : CommandName) → of_letter (get_or (name_of command) 0 0) ≡ command
its_letter name.Pipe = refl
its_letter name.Serve = refl
its_letter name.Read = refl
its_letter (name.Simulate simulation.World) = refl
its_letter (name.Simulate simulation.Crash) = refl

-- so the words name one command
pub one_command : (a b : CommandName) (words : List Text) → IsNamed a words → IsNamed b words → a ≡ b
one_command a b words p q =
    sym (its_letter a) ∙ ap (λ (o : Option Text). of_letter (get_or (unwrap_or o []) 0 0)) (sym p ∙ q) ∙ its_letter b

-- which is no other
pub pipe_serve : (words : List Text) → IsNamed name.Pipe words → IsNamed name.Serve words → ⊥
pipe_serve words p q = let bad : name.Pipe ≡ name.Serve = one_command _ _ words p q in absurd cc

pub pipe_read : (words : List Text) → IsNamed name.Pipe words → IsNamed name.Read words → ⊥
pipe_read words p q = let bad : name.Pipe ≡ name.Read = one_command _ _ words p q in absurd cc

pub pipe_simulation : (words : List Text) (which : Simulation) → IsNamed name.Pipe words → IsNamed (name.Simulate which) words → ⊥
pipe_simulation words which p q = let bad : name.Pipe ≡ name.Simulate which = one_command _ _ words p q in absurd cc

pub serve_read : (words : List Text) → IsNamed name.Serve words → IsNamed name.Read words → ⊥
serve_read words p q = let bad : name.Serve ≡ name.Read = one_command _ _ words p q in absurd cc

pub serve_simulation : (words : List Text) (which : Simulation) → IsNamed name.Serve words → IsNamed (name.Simulate which) words → ⊥
serve_simulation words which p q = let bad : name.Serve ≡ name.Simulate which = one_command _ _ words p q in absurd cc

pub read_simulation : (words : List Text) (which : Simulation) → IsNamed name.Read words → IsNamed (name.Simulate which) words → ⊥
read_simulation words which p q = let bad : name.Read ≡ name.Simulate which = one_command _ _ words p q in absurd cc

-- what is said of clap's faults for the words is said of those of the command that they name
faults_are : (such : Kinds → Type 0) (command : CommandName) (words : List Text) → IsNamed command words → FaultsAre such words → such (fault_of (app_named command) words)
faults_are such command words named (inl (other, is, faults)) = subst (λ (c : CommandName). such (fault_of (app_named c) words)) (one_command other command words is named) faults
faults_are such command words named (inr n) = absurd (n.0 command named)

faults_program : (such : Kinds → Type 0) (words : List Text) → NamesNone words → FaultsAre such words → such (fault_of program_app words)
faults_program such words none (inl (other, is, faults)) = absurd (none other is)
faults_program such words none (inr n) = n.1

-- words of a command that clap takes do not ask for help
pub no_help : (command : CommandName) (such : List Row → Type 0) (words : List Text) → IsCommand command such words → AskHelp words → ⊥
no_help command such words is help = nothing_answered _ is.taken (faults_are IsAnswered command words is.named help)

-- words that a command runs are those that it takes
runs : (command : CommandName) (words : List Text) → IsNamed command words → AreRun words → IsCommand command (AreAsked command) words
runs command words named (other, is) = subst (λ (c : CommandName). IsCommand c (AreAsked c) words) (one_command other command words is.named named) is

-- words that ask for something are taken
pub pipe_taken : (words : List Text) (ask : PipeAsk) → IsPipe words ask → AreTaken words
pipe_taken words ask is = inl (name.Pipe, record { named = is.named; taken = is.taken; found = (ask, is.found) })

pub serve_taken : (words : List Text) (ask : ServeAsk) → IsServe words ask → AreTaken words
serve_taken words ask is = inl (name.Serve, record { named = is.named; taken = is.taken; found = (ask, is.found) })

pub read_taken : (words : List Text) (ask : ReadAsk) → IsRead words ask → AreTaken words
read_taken words ask is = inl (name.Read, record { named = is.named; taken = is.taken; found = (ask, is.found) })

pub simulation_taken : (words : List Text) (which : Simulation) (seed steps : ℕ) → IsSimulation words which seed steps → AreTaken words
simulation_taken words which seed steps is = inl (name.Simulate which, record { named = is.named; taken = is.taken; found = (seed, steps, is.found) })

-- an error that is not out of memory has one of the kinds
among_kinds : (kinds : Kinds) (of own : ErrorKind) → (of ≡ kind.OutOfMemory) ⊎ IsAmong of kinds → of ≢ kind.OutOfMemory → own ≡ of → IsAmong own kinds
among_kinds kinds of own (inl memory) some e = absurd (some memory)
among_kinds kinds of own (inr among) some e = subst (λ k. IsAmong k kinds) (sym e) among

-- clap's error says what the words ask for, of the command that reads them: it has these kinds for them, and none where they run a command
asks_error : {E : Type 0} (words : List Text) (own : HelpText) (kinds : Kinds) (of : ErrorKind) (r : Result Invocation E) → Single kinds
    → ((such : Kinds → Type 0) → such kinds → FaultsAre such words) → ((text : HelpText) → IsShownFor own text kinds → IsHelpOf words text) → (AskHelp words → IsAnswered kinds) → (AreRun words → kinds ≡ [])
    → (of ≡ kind.OutOfMemory) ⊎ IsAmong of kinds → IsAnswerOf own of r → IfOk r (Asks words)
asks_error words own kinds of (Ok (Pipe p)) single says shows helps runs k a = absurd a
asks_error words own kinds of (Ok (Serve s)) single says shows helps runs k a = absurd a
asks_error words own kinds of (Ok (Read r)) single says shows helps runs k a = absurd a
asks_error words own kinds of (Ok (Simulate w)) single says shows helps runs k a = absurd a
asks_error words own kinds of (Ok (Help t)) single says shows helps runs k a = shows t (answered own t kinds of k a)
asks_error words own kinds of (Ok (Invalid (why.Words e))) single says shows helps runs k a = (
  (λ taken. ⊎_elim (λ r. not_taken kinds of k a.0 (runs r)) (λ h. unanswered kinds of single k a.0 a.1 a.2 (helps h)) taken),
  says (IsAmong (kind_of e)) (among_kinds kinds of _ k a.0 a.3),
)
asks_error words own kinds of (Ok (Invalid why.NoCommand)) single says shows helps runs k a = absurd a
asks_error words own kinds of (Ok (Invalid (why.Value v))) single says shows helps runs k a = absurd a
asks_error words own kinds of (Err e) single says shows helps runs k a = tt

-- clap's error says what the words of a command ask for
pub command_failed : {E : Type 0} (command : CommandName) (a : App) (words : List Text) (of : ErrorKind) (r : Result Invocation E) → IsNamed command words → a ≡ app_named command
    → (is_simple_and_free a ≡ true → (of ≡ kind.OutOfMemory) ⊎ IsAmong of (fault_of a words)) → IsAnswerOf (help_of command) of r → IfOk r (Asks words)
command_failed command a words of r named e some answer =
    asks_error words (help_of command) (fault_of (app_named command) words) of r (single command words) (λ such s. inl (command, named, s)) (λ text s. inl (command, named, s)) (faults_are IsAnswered command words named) (λ run. (runs command words named run).taken)
    (kinds_are a (app_named command) words of e (free command) some) answer

pub program_failed : {E : Type 0} (a : App) (words : List Text) (of : ErrorKind) (r : Result Invocation E) → NamesNone words → a ≡ program_app
    → (is_simple_and_free a ≡ true → (of ≡ kind.OutOfMemory) ⊎ IsAmong of (fault_of a words)) → IsAnswerOf texts.Program of r → IfOk r (Asks words)
program_failed a words of r none e some answer =
    asks_error words texts.Program (fault_of program_app words) of r (program_single words) (λ such s. inr (none, s)) (λ text s. inr (none, s)) (faults_program IsAnswered words none) (λ run. absurd (none run.0 run.1.named))
    (kinds_are a program_app words of e refl some) answer

-- words that a command takes, though not with these values, are not taken at all
refused : (command : CommandName) (words : List Text) → IsNamed command words → fault_of (app_named command) words ≡ [] → (AreAsked command (matches_of (app_named command) words) → ⊥) → AreTaken words → ⊥
refused command words named taken none (inl run) = none (runs command words named run).found
refused command words named taken none (inr help) = nothing_answered _ taken (faults_are IsAnswered command words named help)

-- what clap found says what the words of a command ask for
asks_found : {E : Type 0} (command : CommandName) (words : List Text) (r : Result Invocation E) → IsNamed command words → fault_of (app_named command) words ≡ [] → IfOk r (IsFound command (matches_of (app_named command) words)) → IfOk r (Asks words)
asks_found command words (Ok (Pipe p)) named taken found = subst (λ (c : CommandName). IsCommand c (λ rows. ArePipeOptions rows (pipe_ask_of p)) words) found.0 (record { named = named; taken = taken; found = found.1 })
asks_found command words (Ok (Serve s)) named taken found = subst (λ (c : CommandName). IsCommand c (λ rows. AreServeOptions rows (ask_of s)) words) found.0 (record { named = named; taken = taken; found = found.1 })
asks_found command words (Ok (Read r)) named taken found = subst (λ (c : CommandName). IsCommand c (λ rows. AreReadOptions rows (read_ask_of r)) words) found.0 (record { named = named; taken = taken; found = found.1 })
asks_found command words (Ok (Simulate s)) named taken found = subst (λ (c : CommandName). IsCommand c (λ rows. AreSimulationOptions s.which rows s.seed s.steps) words) found.0 (record { named = named; taken = taken; found = found.1 })
asks_found command words (Ok (Invalid (why.Value v))) named taken found =
    (refused command words named taken found.0, (command, record { named = named; taken = taken; found = found.1 }))
asks_found command words (Ok (Invalid why.NoCommand)) named taken found = absurd found
asks_found command words (Ok (Invalid (why.Words e))) named taken found = absurd found
asks_found command words (Ok (Help t)) named taken found = absurd found
asks_found command words (Err e) named taken found = tt

pub command_found : {E : Type 0} (command : CommandName) (a : App) (words : List Text) (m : ArgMatches) (r : Result Invocation E) → IsNamed command words → a ≡ app_named command → HasMatchesOf a words m → (is_simple_and_free a ≡ true → fault_of a words ≡ [])
    → IfOk r (IsFound command (rows_of (found_of m))) → IfOk r (Asks words)
command_found command a words m r named e has none found =
    asks_found command words r named (taken_are a (app_named command) words e (free command) none) (subst (λ rows. IfOk r (IsFound command rows)) (rows_are command a words m e has) found)

-- to serve by these options is what was found for them
pub pipe_found : {E : Type 0} (found : List Row) (ask : PipeAsk) (r : Result Invocation E) → ArePipeOptions found ask → IfOk r (IsPipeOf ask) → IfOk r (IsFound name.Pipe found)
pipe_found found ask (Ok (Pipe p)) options is = (refl, subst (ArePipeOptions found) (sym is) options)
pipe_found found ask (Ok (Serve s)) options is = absurd is
pipe_found found ask (Ok (Read r)) options is = absurd is
pipe_found found ask (Ok (Simulate s)) options is = absurd is
pipe_found found ask (Ok (Help t)) options is = absurd is
pipe_found found ask (Ok (Invalid f)) options is = absurd is
pipe_found found ask (Err e) options is = tt

pub serve_found : {E : Type 0} (found : List Row) (ask : ServeAsk) (r : Result Invocation E) → AreServeOptions found ask → IfOk r (IsServeOf ask) → IfOk r (IsFound name.Serve found)
serve_found found ask (Ok (Serve s)) options is = (refl, subst (AreServeOptions found) (sym is) options)
serve_found found ask (Ok (Pipe p)) options is = absurd is
serve_found found ask (Ok (Read r)) options is = absurd is
serve_found found ask (Ok (Simulate s)) options is = absurd is
serve_found found ask (Ok (Help t)) options is = absurd is
serve_found found ask (Ok (Invalid f)) options is = absurd is
serve_found found ask (Err e) options is = tt

-- clap takes the words, and none names a command
pub program_taken : (a : App) (words : List Text) → a ≡ program_app → (is_simple_and_free a ≡ true → fault_of a words ≡ []) → fault_of program_app words ≡ []
program_taken a words e none = taken_are a program_app words e refl none

pub program_refused : (words : List Text) → NamesNone words → fault_of program_app words ≡ [] → AreTaken words → ⊥
program_refused words none taken (inl run) = none run.0 run.1.named
program_refused words none taken (inr help) = nothing_answered _ taken (faults_program IsAnswered words none help)
