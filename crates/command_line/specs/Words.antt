-- Believed. Which words the program takes.
use Rattle.std.specs.Prelude.{◌≡◌, ◌≢◌, ◌⊎◌, ℕ, ◌+◌, ◌<◌, ◌≤◌, ◌^◌, Bool, true, false, not, ◌&&◌, ◌||◌, ◌==◌, nat_eq, nat_le, nat_lt, bytes_eq, length, drop, List, [], Option, Some, None, Result, Ok, Err, MatchOption, codes, decimal, is_some}
use Rattle.std.specs.List.{list_all, slice_split, starts_with}
use Rattle.std.specs.Option.{option_map_or}
use Rattle.clap.specs.Words.{Row, Text, IsAmong, first_of, kind_of, matches_of, fault_of}
use Rattle.clap.specs.declared.error.kind.ErrorKind.{ErrorKind}
use Rattle.clap.specs.declared.error.kind.ErrorKind.TheVariants as kind
use Rattle.client_core.specs.declared.level.Level.{Level}
use Rattle.client_core.specs.declared.level.Level.TheVariants as level
use Rattle.hub_desk.specs.declared.trim.Trim.{Trim}
use Rattle.hub_desk.specs.declared.trim.Trim.TheVariants.{Below, Full}
use Rattle.hub_model.specs.Setting.{Setting, IsWithinLimits, default_setting}
use Rattle.query_lang.specs.KeyTexts.{read_key}
use Rattle.query_lang.specs.declared.key_reader.KeyRefusal.TheVariants.{BadKey}
use Rattle.query_normal.specs.Keys.{key_text, IsKey}
use Rattle.query_normal.specs.declared.key.KeyShape.{KeyShape}
use Rattle.q_outside.specs.declared.limits.Limits.{Limits}
use Rattle.command_line.specs.Data.{DataAsk, AreData, IsSyncText, asked_data}
use Rattle.command_line.specs.Commands.{app_named, most_steps, program_app, IsNamed, NamesNone, AskHelp, FaultsAre}
use Rattle.command_line.specs.Help.{IsHelpOf}
use Rattle.command_line.specs.Watching.{WatchAsk, watch_of}
use Rattle.command_line.specs.declared.command_name.CommandName.{CommandName}
use Rattle.command_line.specs.declared.command_name.CommandName.TheVariants as name
use Rattle.command_line.specs.declared.command_name.Simulation.{Simulation}
use Rattle.command_line.specs.declared.help.HelpText.{HelpText}
use Rattle.command_line.specs.declared.help.HelpText.TheVariants.{Version}
use Rattle.command_line.specs.declared.ranges.TheConstants.{MOST_PLACES, DEFAULT_PLACES, MOST_WORKERS, DEFAULT_WORKERS, MOST_MATCHERS, DEFAULT_MATCHERS, MOST_KEPT, MOST_CONNECTIONS, MOST_SECONDS, DEFAULT_IDLE, DEFAULT_HEAD_TIME, DEFAULT_REPLY_TIME, MOST_RATE, DEFAULT_RATE, DEFAULT_GRACE, MOST_LIFETIME, MOST_SEED}
use Rattle.command_line.specs.declared.refusal.BadValue.{BadValue}
use Rattle.command_line.specs.declared.refusal.BadValue.TheVariants.{Number, Lifetimes, Argument, NoLevel, NoKey, NoOrigins, NoHosts, NoLog, NoSync, NoData}
use Rattle.command_line.specs.declared.refusal.Refusal.{Refusal}
use Rattle.command_line.specs.declared.refusal.Refusal.TheVariants as why
use Rattle.disks.specs.declared.sync_policy.SyncPolicy.{SyncPolicy}
use Rattle.command_line.specs.declared.options.Invocation.{Invocation}
use Rattle.command_line.specs.declared.options.PipeOptions.{PipeOptions}
use Rattle.command_line.specs.declared.options.ServeOptions.{ServeOptions}
use Rattle.command_line.specs.declared.options.ReadOptions.{ReadOptions}
use Rattle.command_line.specs.declared.options.Names.{Names}
use Rattle.command_line.specs.declared.options.Invocation.TheVariants.{Pipe, Serve, Read, Simulate, Help, Invalid}

-- the number that an option shows in decimal digits without a sign and without leading zeros; the default where it is not given
abbrev pub IsNumber : Option Text → ℕ → ℕ → Type 0
IsNumber given default n = MatchOption given (n ≡ default) (λ text. text ≡ decimal n)

-- the moment that the option shows, a number of 64 bits, or none where it is not given
abbrev pub IsClock : Option Text → Option ℕ → Type 0
IsClock given at = MatchOption given (at ≡ None) (λ text. (n : ℕ) × (at ≡ Some n) × (n < 2 ^ 64) × (text ≡ decimal n))

-- The numbers that every configuration has, as options ask for them, by what clap found for each: within the limits of the hub, with its defaults.
pub record IsConfiguration (found : List Row) (g : Setting) : Type 0 where
  pub bits : IsNumber (first_of (codes "bits") found) default_setting.log2_bits g.log2_bits
  pub hashes : IsNumber (first_of (codes "hashes") found) default_setting.hashes g.hashes
  pub low : IsNumber (first_of (codes "ttl-low") found) default_setting.ttl_low g.ttl_low
  pub high : IsNumber (first_of (codes "ttl-high") found) default_setting.ttl_high g.ttl_high
  pub active : IsNumber (first_of (codes "active") found) default_setting.active g.active
  pub bytes : IsNumber (first_of (codes "bytes") found) default_setting.capacity g.capacity
  pub within : IsWithinLimits g

-- a byte of the host and the port of an origin: visible ASCII without quotes, stars, commas and slashes
abbrev pub is_host_byte : ℕ → Bool
is_host_byte b = nat_lt 32 b && (nat_lt b 127 && (not (b == 34) && (not (b == 42) && (not (b == 44) && not (b == 47)))))

-- the text is the scheme and at least one byte of a host
abbrev pub is_of_scheme : Text → Text → Bool
is_of_scheme scheme text = starts_with nat_eq text scheme && (nat_lt (length scheme) (length text) && list_all is_host_byte (drop (length scheme) text))

-- an origin of web pages, of at most 255 bytes
unfoldable pub is_web_origin : Text → Bool
is_web_origin text = nat_le (length text) 255 && (is_of_scheme (codes "http://") text || is_of_scheme (codes "https://") text)

-- each part between two spaces is an origin of web pages
unfoldable pub are_web_origins : Text → Bool
are_web_origins text = list_all is_web_origin (slice_split (λ byte. byte == 32) text)

-- a text of the origins whose pages may read replies: a star for all, or origins with a space between two
abbrev pub are_origins : Text → Bool
are_origins text = bytes_eq text (codes "*") || are_web_origins text

-- the names that an option shows, which are such, or none where it is not given
abbrev pub AreNames : (Text → Bool) → Option Text → Text → Type 0
AreNames such given names = MatchOption given (names ≡ []) (λ text. (names ≡ text) × (such text ≡ true))

-- the name of a host, with or without a port: 1 to 255 bytes
unfoldable pub is_host_name : Text → Bool
is_host_name text = nat_lt 0 (length text) && (nat_le (length text) 255 && list_all is_host_byte text)

-- each part between two spaces is the name of a host
unfoldable pub are_hosts : Text → Bool
are_hosts text = list_all is_host_name (slice_split (λ byte. byte == 32) text)

-- the option shows a lifetime in seconds, or is not given, and there is none
abbrev pub IsLifetime : Option Text → ℕ → Type 0
IsLifetime given n = MatchOption given (n ≡ 0) (λ text. (text ≡ decimal n) × (1 ≤ n) × (n ≤ MOST_LIFETIME))

-- The configuration that options ask for, by what clap found for each, but for the origins of web pages.
pub record IsSetting (found : List Row) (g : Setting) : Type 0 where
  pub numbers : IsConfiguration found g
  pub absent : IsLifetime (first_of (codes "ttl-absent") found) g.ttl_absent
  pub shared : IsLifetime (first_of (codes "ttl-shared") found) g.ttl_shared
  pub hosts : AreNames are_hosts (first_of (codes "host") found) g.hosts
  -- commits are kept where a file is given, and what it has gives the guard once it is read
  pub keeps : g.keeps ≡ is_some (first_of (codes "data") found)
  pub guard : g.guard ≡ 0

-- what `pipe` is asked for
pub record PipeAsk : Type 0 where
  pub setting : Setting
  -- the moment of a fixed clock
  pub at : Option ℕ
  -- where the store is kept
  pub store : DataAsk

-- The options of `pipe`, by what clap found for each: a configuration, which names no origins of pages, a clock and a file.
pub record ArePipeOptions (found : List Row) (ask : PipeAsk) : Type 0 where
  pub setting : IsSetting found ask.setting
  pub origins : ask.setting.origins ≡ []
  pub clock : IsClock (first_of (codes "clock") found) ask.at
  -- the file that keeps the store, and what a sync of it waits for
  pub store : AreData found ask.store

-- what `serve` is asked for
pub record ServeAsk : Type 0 where
  pub address : Text
  pub setting : Setting
  -- how many connections are there at the same time, how many of them are served, and how many threads match
  pub places : ℕ
  pub workers : ℕ
  pub matchers : ℕ
  -- up to where those drop old changes
  pub trim : Trim
  -- how many connections are served in all
  pub connections : ℕ
  -- the limits of time
  pub limits : Limits
  -- how it is watched
  pub watching : WatchAsk
  -- where it is kept
  pub store : DataAsk

-- the option shows a number of its range, or is not given and has its default
abbrev pub IsNumberIn : List Row → Text → (least most default n : ℕ) → Type 0
IsNumberIn found option least most default n = IsNumber (first_of option found) default n × (least ≤ n) × (n ≤ most)

-- the option shows a number of connections, or is not given and has the greatest number of 64 bits
abbrev pub IsCount : Option Text → ℕ → Type 0
IsCount given n = MatchOption given (n + 1 ≡ 2 ^ 64) (λ text. (text ≡ decimal n) × (1 ≤ n) × (n ≤ MOST_CONNECTIONS))

-- the option shows how many commits below the front are kept, or is not given, and old changes are dropped where the store fills
abbrev pub IsTrim : Option Text → Trim → Type 0
IsTrim given trim = MatchOption given (trim ≡ Full) (λ text. (n : ℕ) × (trim ≡ Below n) × (text ≡ decimal n) × (n ≤ MOST_KEPT))

-- The limits of time that options ask for, by what clap found for each.
pub record AreLimits (found : List Row) (l : Limits) : Type 0 where
  pub idle : IsNumberIn found (codes "idle") 0 MOST_SECONDS DEFAULT_IDLE l.idle
  pub head_time : IsNumberIn found (codes "head-time") 1 MOST_SECONDS DEFAULT_HEAD_TIME l.head_time
  pub reply_time : IsNumberIn found (codes "reply-time") 1 MOST_SECONDS DEFAULT_REPLY_TIME l.reply_time
  pub least_rate : IsNumberIn found (codes "least-rate") 1 MOST_RATE DEFAULT_RATE l.least_rate
  pub grace : IsNumberIn found (codes "grace") 0 MOST_SECONDS DEFAULT_GRACE l.grace

-- whether an option without a value is given: clap has `false` for one that is not
abbrev pub is_given : Option Text → Bool
is_given found = option_map_or (λ text. bytes_eq text (codes "true")) found false

-- How options ask for a server to be watched, by what clap found for each: the form of a log is not given without one.
pub record AreWatching (found : List Row) (w : WatchAsk) : Type 0 where
  pub metrics : w.metrics ≡ first_of (codes "metrics") found
  pub log : w.log ≡ first_of (codes "log") found
  pub json : w.json ≡ is_given (first_of (codes "log-json") found)
  pub of_log : w.json ≡ true → w.log ≡ None → ⊥

-- The options of `serve`, by what clap found for each.
pub record AreServeOptions (found : List Row) (ask : ServeAsk) : Type 0 where
  pub address : first_of (codes "ADDR") found ≡ Some ask.address
  pub setting : IsSetting found ask.setting
  pub origins : AreNames are_origins (first_of (codes "allow-origin") found) ask.setting.origins
  pub places : IsNumberIn found (codes "places") 1 MOST_PLACES DEFAULT_PLACES ask.places
  pub workers : IsNumberIn found (codes "workers") 1 MOST_WORKERS DEFAULT_WORKERS ask.workers
  pub matchers : IsNumberIn found (codes "matchers") 1 MOST_MATCHERS DEFAULT_MATCHERS ask.matchers
  pub trim : IsTrim (first_of (codes "keep") found) ask.trim
  pub connections : IsCount (first_of (codes "connections") found) ask.connections
  pub limits : AreLimits found ask.limits
  pub watching : AreWatching found ask.watching
  -- the file that keeps the store, and what a sync of it waits for
  pub store : AreData found ask.store

-- how a level is written
abbrev pub level_word : Level → Text
level_word level.Session = codes "session"
level_word level.Causal = codes "causal"
level_word level.Strong = codes "strong"

-- what `read` is asked for
pub record ReadAsk : Type 0 where
  pub address : Text
  pub level : Level
  pub key : KeyShape

-- The words of `read`, by what clap found for each.
pub record AreReadOptions (found : List Row) (ask : ReadAsk) : Type 0 where
  pub address : first_of (codes "ADDR") found ≡ Some ask.address
  pub level : first_of (codes "LEVEL") found ≡ Some (level_word ask.level)
  pub key : first_of (codes "KEY") found ≡ Some (key_text ask.key)
  pub is_key : IsKey ask.key

-- a positional word shows a number of its range
abbrev pub IsArgument : List Row → Text → (least most n : ℕ) → Type 0
IsArgument found word least most n = (first_of word found ≡ Some (decimal n)) × (least ≤ n) × (n ≤ most)

-- the words of a simulation, by what clap found for each: the seed, and the number of steps
abbrev pub AreSimulationOptions : Simulation → List Row → (seed steps : ℕ) → Type 0
AreSimulationOptions which found seed steps = IsArgument found (codes "SEED") 0 MOST_SEED seed × IsArgument found (codes "STEPS") 1 (most_steps which) steps

-- The words are those of a command which clap takes, and what it finds for each option and word is such.
pub record IsCommand (command : CommandName) (such : List Row → Type 0) (words : List Text) : Type 0 where
  pub named : IsNamed command words
  pub taken : fault_of (app_named command) words ≡ []
  pub found : such (matches_of (app_named command) words)

-- the words are `pipe` and options, which ask for this
abbrev pub IsPipe : List Text → PipeAsk → Type 0
IsPipe words ask = IsCommand name.Pipe (λ found. ArePipeOptions found ask) words

-- the words are `serve`, an address and options, which ask for this
abbrev pub IsServe : List Text → ServeAsk → Type 0
IsServe words ask = IsCommand name.Serve (λ found. AreServeOptions found ask) words

-- the words are `read`, an address, a level and the text of a key, which ask for this
abbrev pub IsRead : List Text → ReadAsk → Type 0
IsRead words ask = IsCommand name.Read (λ found. AreReadOptions found ask) words

-- the words are `world` or `crash` and two numbers, which are these
abbrev pub IsSimulation : List Text → Simulation → (seed steps : ℕ) → Type 0
IsSimulation words which seed steps = IsCommand (name.Simulate which) (λ found. AreSimulationOptions which found seed steps) words

-- what clap found for the options and words of a command asks for something
abbrev pub AreAsked : CommandName → List Row → Type 0
AreAsked name.Pipe found = (ask : PipeAsk) × ArePipeOptions found ask
AreAsked name.Serve found = (ask : ServeAsk) × AreServeOptions found ask
AreAsked name.Read found = (ask : ReadAsk) × AreReadOptions found ask
AreAsked (name.Simulate which) found = (seed : ℕ) × (steps : ℕ) × AreSimulationOptions which found seed steps

-- the words run a command
abbrev pub AreRun : List Text → Type 0
AreRun words = (command : CommandName) × IsCommand command (AreAsked command) words

-- the words run a command, or ask for a help or for the version
abbrev pub AreTaken : List Text → Type 0
AreTaken words = AreRun words ⊎ AskHelp words

-- the least and the greatest number of an option
abbrev pub IsRange : Text → ℕ → ℕ → Type 0
IsRange option least most =
    ((option ≡ codes "bits") × (least ≡ 10) × (most ≡ 22))
    ⊎ ((option ≡ codes "hashes") × (least ≡ 1) × (most ≡ 16))
    ⊎ ((option ≡ codes "ttl-low") × (least ≡ 1) × (most ≡ 31536000))
    ⊎ ((option ≡ codes "ttl-high") × (least ≡ 1) × (most ≡ 31536000))
    ⊎ ((option ≡ codes "active") × (least ≡ 0) × (most ≡ 1000000))
    ⊎ ((option ≡ codes "bytes") × (least ≡ 65792) × (most ≡ 134217728))
    ⊎ ((option ≡ codes "clock") × (least ≡ 0) × (most + 1 ≡ 2 ^ 64))
    ⊎ ((option ≡ codes "places") × (least ≡ 1) × (most ≡ MOST_PLACES))
    ⊎ ((option ≡ codes "workers") × (least ≡ 1) × (most ≡ MOST_WORKERS))
    ⊎ ((option ≡ codes "matchers") × (least ≡ 1) × (most ≡ MOST_MATCHERS))
    ⊎ ((option ≡ codes "keep") × (least ≡ 0) × (most ≡ MOST_KEPT))
    ⊎ ((option ≡ codes "connections") × (least ≡ 1) × (most ≡ MOST_CONNECTIONS))
    ⊎ ((option ≡ codes "idle") × (least ≡ 0) × (most ≡ MOST_SECONDS))
    ⊎ ((option ≡ codes "head-time") × (least ≡ 1) × (most ≡ MOST_SECONDS))
    ⊎ ((option ≡ codes "reply-time") × (least ≡ 1) × (most ≡ MOST_SECONDS))
    ⊎ ((option ≡ codes "least-rate") × (least ≡ 1) × (most ≡ MOST_RATE))
    ⊎ ((option ≡ codes "grace") × (least ≡ 0) × (most ≡ MOST_SECONDS))
    ⊎ ((option ≡ codes "ttl-absent") × (least ≡ 1) × (most ≡ MOST_LIFETIME))
    ⊎ ((option ≡ codes "ttl-shared") × (least ≡ 1) × (most ≡ MOST_LIFETIME))

-- the least and the greatest number of a positional word
abbrev pub IsArgumentRange : Text → ℕ → ℕ → Type 0
IsArgumentRange word least most =
    ((word ≡ codes "SEED") × (least ≡ 0) × (most ≡ MOST_SEED))
    ⊎ ((which : Simulation) × (word ≡ codes "STEPS") × (least ≡ 1) × (most ≡ most_steps which))

-- what is refused of the values: an option or a word shows no number of its range, the least lifetime is above the greatest, a word is that of no level or of no key, a text is not that of origins, of hosts or of what a sync waits for, or the form of a log is given without one, or what a sync waits for without a file
abbrev pub IsBadValue : List Row → BadValue → Type 0
IsBadValue found (Number option text least most) =
    IsRange option.now least most × (first_of option.now found ≡ Some text.now) × ((n : ℕ) → text.now ≡ decimal n → least ≤ n → n ≤ most → ⊥)
IsBadValue found (Lifetimes low high) =
    IsNumber (first_of (codes "ttl-low") found) default_setting.ttl_low low × IsNumber (first_of (codes "ttl-high") found) default_setting.ttl_high high × (high < low)
IsBadValue found (Argument word text least most) =
    IsArgumentRange word.now least most × (first_of word.now found ≡ Some text.now) × ((n : ℕ) → text.now ≡ decimal n → least ≤ n → n ≤ most → ⊥)
IsBadValue found (NoLevel text) = (first_of (codes "LEVEL") found ≡ Some text.now) × ((l : Level) → text.now ≡ level_word l → ⊥)
IsBadValue found (NoKey text place) = (first_of (codes "KEY") found ≡ Some text.now) × (read_key text.now ≡ Err (BadKey place))
IsBadValue found (NoOrigins text) = (first_of (codes "allow-origin") found ≡ Some text.now) × (are_origins text.now ≡ false)
IsBadValue found (NoHosts text) = (first_of (codes "host") found ≡ Some text.now) × (are_hosts text.now ≡ false)
IsBadValue found NoLog = (is_given (first_of (codes "log-json") found) ≡ true) × (first_of (codes "log") found ≡ None)
IsBadValue found (NoSync text) = (first_of (codes "sync") found ≡ Some text.now) × ((s : SyncPolicy) → IsSyncText text.now s → ⊥)
IsBadValue found NoData = (is_some (first_of (codes "sync") found) ≡ true) × (first_of (codes "data") found ≡ None)

-- why the words are refused: they name no command and clap finds no fault; clap's fault; or a value, where clap finds none
abbrev pub IsReason : List Text → Refusal → Type 0
IsReason words why.NoCommand = NamesNone words × (fault_of program_app words ≡ [])
IsReason words (why.Words error) = FaultsAre (IsAmong (kind_of error)) words
IsReason words (why.Value value) = (command : CommandName) × IsCommand command (λ found. IsBadValue found value) words

-- what options ask for
abbrev pub pipe_ask_of : PipeOptions → PipeAsk
pipe_ask_of p = record { setting = p.config; at = p.clock; store = asked_data p.store }

-- the same, with these hosts in its configuration
abbrev pub piped_with : PipeOptions → (hosts : Text) → PipeAsk
piped_with p hosts = record (pipe_ask_of p) { setting = record p.config { hosts = hosts } }

-- the same of `serve`
abbrev pub ask_of : ServeOptions → ServeAsk
ask_of s = record {
  address = s.address.now;
  setting = s.config;
  places = s.places;
  workers = s.workers;
  matchers = s.matchers;
  trim = s.trim;
  connections = s.connections;
  limits = s.limits;
  watching = watch_of s.watching;
  store = asked_data s.store;
}

-- the configuration with these names
abbrev pub setting_with : Setting → Names → Setting
setting_with g names = record g { origins = names.origins.now; hosts = names.hosts.now }

-- the same as what is asked for, with these names in its configuration
abbrev pub asked_with : ServeOptions → Names → ServeAsk
asked_with s names = record (ask_of s) { setting = setting_with s.config names }

-- the same of `read`
abbrev pub read_ask_of : ReadOptions → ReadAsk
read_ask_of r = record { address = r.address.now; level = r.level; key = r.key }

-- to serve what is asked for
abbrev pub IsServeOf : ServeAsk → Invocation → Type 0
IsServeOf ask (Serve s) = ask_of s ≡ ask
IsServeOf ask other = ⊥

-- to serve one connection as is asked for
abbrev pub IsPipeOf : PipeAsk → Invocation → Type 0
IsPipeOf ask (Pipe p) = pipe_ask_of p ≡ ask
IsPipeOf ask other = ⊥

-- what the words ask for
abbrev pub Asks : List Text → Invocation → Type 0
Asks words (Pipe p) = IsPipe words (pipe_ask_of p)
Asks words (Serve s) = IsServe words (ask_of s)
Asks words (Read r) = IsRead words (read_ask_of r)
Asks words (Simulate s) = IsSimulation words s.which s.seed s.steps
Asks words (Help text) = IsHelpOf words text
Asks words (Invalid refusal) = (AreTaken words → ⊥) × IsReason words refusal

-- what an answer of clap of this kind comes to, for a command of which this is the help
abbrev pub IsAnswerOf : {E : Type 0} → HelpText → ErrorKind → Result Invocation E → Type 0
IsAnswerOf own of (Ok (Pipe p)) = ⊥
IsAnswerOf own of (Ok (Serve s)) = ⊥
IsAnswerOf own of (Ok (Read r)) = ⊥
IsAnswerOf own of (Ok (Simulate s)) = ⊥
IsAnswerOf own of (Ok (Help text)) = ((of ≡ kind.DisplayHelp) × (text ≡ own)) ⊎ ((of ≡ kind.DisplayVersion) × (text ≡ Version))
IsAnswerOf own of (Ok (Invalid (why.Words error))) = (of ≢ kind.OutOfMemory) × (of ≢ kind.DisplayHelp) × (of ≢ kind.DisplayVersion) × (kind_of error ≡ of)
IsAnswerOf own of (Ok (Invalid refusal)) = ⊥
IsAnswerOf own of (Err e) = of ≡ kind.OutOfMemory

-- the positional words that a command needs were given
abbrev pub AreGiven : CommandName → List Row → Type 0
AreGiven name.Pipe found = Unit {0}
AreGiven name.Serve found = is_some (first_of (codes "ADDR") found) ≡ true
AreGiven name.Read found = (is_some (first_of (codes "ADDR") found) ≡ true) × (is_some (first_of (codes "LEVEL") found) ≡ true) × (is_some (first_of (codes "KEY") found) ≡ true)
AreGiven (name.Simulate which) found = (is_some (first_of (codes "SEED") found) ≡ true) × (is_some (first_of (codes "STEPS") found) ≡ true)

-- what clap found for a command asks for this, or a value is refused, with which it asks for nothing
abbrev pub IsFound : CommandName → List Row → Invocation → Type 0
IsFound command found (Pipe p) = (command ≡ name.Pipe) × ArePipeOptions found (pipe_ask_of p)
IsFound command found (Serve s) = (command ≡ name.Serve) × AreServeOptions found (ask_of s)
IsFound command found (Read r) = (command ≡ name.Read) × AreReadOptions found (read_ask_of r)
IsFound command found (Simulate s) = (command ≡ name.Simulate s.which) × AreSimulationOptions s.which found s.seed s.steps
IsFound command found (Help text) = ⊥
IsFound command found (Invalid (why.Value value)) = (AreAsked command found → ⊥) × IsBadValue found value
IsFound command found (Invalid refusal) = ⊥
