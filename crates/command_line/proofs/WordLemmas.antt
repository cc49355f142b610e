-- What options show is one configuration and one clock, and what `serve` is asked for is one thing.
use Rattle.std.proofs.Common.{◌≡◌, ◌||◌, ◌<◌, ◌≤◌, ◌^◌, ℕ, Bool, true, false, List, Option, Some, None, Result, Ok, Err, nat_lt, if◌then◌else◌, refl, sym, ap, ◌∙◌, subst, arith, decimal, get_or}
use Rattle.std.proofs.lemmas.Fmt.{decimal_injective}
use Rattle.std.proofs.lemmas.List.{append_cancel_left}
use Rattle.std.specs.Prelude.{option_map, unwrap_or, IfErr, codes, is_some, decimal}
use Rattle.std.specs.Borrow.{Bor}
use Rattle.clap.specs.Words.{Row, Text, first_of, matches_of}
use Rattle.client_core.specs.declared.level.Level.{Level}
use Rattle.client_core.specs.declared.level.Level.TheVariants as level
use Rattle.query_lang.proofs.KeyReading.{texts_tell}
use Rattle.hub_core.specs.Config.{with_ttls}
use Rattle.hub_core.specs.declared.config.ConfigRefusal.{ConfigRefusal}
use Rattle.hub_desk.specs.declared.trim.Trim.{Trim}
use Rattle.hub_desk.specs.declared.trim.Trim.TheVariants.{Below, Full}
use Rattle.hub_model.specs.Setting.{Setting}
use Rattle.q_outside.specs.declared.limits.Limits.{Limits}
use Rattle.command_line.specs.declared.ranges.TheConstants.{MOST_PLACES, DEFAULT_PLACES, MOST_WORKERS, DEFAULT_WORKERS, MOST_MATCHERS, DEFAULT_MATCHERS, MOST_KEPT, MOST_CONNECTIONS, MOST_SECONDS, DEFAULT_IDLE, DEFAULT_HEAD_TIME, DEFAULT_REPLY_TIME, MOST_RATE, DEFAULT_RATE, DEFAULT_GRACE, MOST_LIFETIME, MOST_SEED}
use Rattle.command_line.specs.Commands.{app_named, most_steps}
use Rattle.command_line.specs.declared.command_name.CommandName.{CommandName}
use Rattle.command_line.specs.declared.command_name.CommandName.TheVariants.{Simulate}
use Rattle.command_line.specs.declared.command_name.Simulation.{Simulation}
use Rattle.command_line.specs.declared.command_name.Simulation.TheVariants.{World, Crash}
use Rattle.command_line.proofs.CommandLemmas.{one_command}
use Rattle.command_line.specs.Words.{IsArgument, IsCount, IsNumber, IsNumberIn, IsClock, IsConfiguration, IsLifetime, ArePipeOptions, IsPipe, IsSetting, IsServe, IsRead, IsTrim, IsSimulation, AreLimits, AreNames, AreServeOptions, AreWatching, PipeAsk, ReadAsk, ServeAsk, are_hosts, are_origins, is_given, level_word}
use Rattle.command_line.specs.Watching.{WatchAsk}
use Rattle.command_line.specs.Data.{DataAsk, AreData, IsSync, IsSyncText, asked_data}
use Rattle.command_line.specs.declared.store.Data.{Data}
use Rattle.disks.specs.declared.sync_policy.SyncPolicy.{SyncPolicy}
use Rattle.disks.specs.declared.sync_policy.SyncPolicy.TheVariants.{Always, Batch}

-- a text shows one number
pub same_number : (t : Text) (m n : ℕ) → t ≡ decimal m → t ≡ decimal n → m < 2 ^ 64 → n < 2 ^ 64 → m ≡ n
same_number t m n p q a b = decimal_injective m n a b (sym p ∙ q)

pub one_number : (given : Option Text) (d m n : ℕ) → IsNumber given d m → IsNumber given d n → m < 2 ^ 64 → n < 2 ^ 64 → m ≡ n
one_number None d m n p q a b = p ∙ sym q
one_number (Some text) d m n p q a b = decimal_injective m n a b (sym p ∙ q)

pub one_clock : (given : Option Text) (a b : Option ℕ) → IsClock given a → IsClock given b → a ≡ b
one_clock None a b p q = p ∙ sym q
one_clock (Some text) a b p q = p.1 ∙ (ap Some (decimal_injective p.0 q.0 p.2 q.2 (sym p.3 ∙ q.3)) ∙ sym q.1)

-- what was given, of the reference to it
pub shown : (r : Option (Bor Text)) (f : Bor Text) (given : Option Text) → option_map (λ s. s.now) r ≡ given → r ≡ Some f → given ≡ Some f.now
shown r f given p e = sym p ∙ ap (option_map (λ s. s.now)) e

pub not_shown : (r : Option (Bor Text)) (given : Option Text) → option_map (λ s. s.now) r ≡ given → r ≡ None → given ≡ None
not_shown r given p e = sym p ∙ ap (option_map (λ s. s.now)) e

-- the number or the clock of a text, and none of another
pub number_some : (given : Option Text) (t : Text) (d n : ℕ) → given ≡ Some t → t ≡ decimal n → IsNumber given d n
number_some given t d n e p = subst (λ o. IsNumber o d n) (sym e) p

pub number_none : (given : Option Text) (d : ℕ) → given ≡ None → IsNumber given d d
number_none given d e = subst (λ o. IsNumber o d d) (sym e) refl

pub number_is : (given : Option Text) (t : Text) (d n : ℕ) → given ≡ Some t → IsNumber given d n → t ≡ decimal n
number_is given t d n e p = subst (λ o. IsNumber o d n) e p

pub clock_some : (given : Option Text) (t : Text) (n : ℕ) → given ≡ Some t → t ≡ decimal n → n < 2 ^ 64 → IsClock given (Some n)
clock_some given t n e p small = subst (λ o. IsClock o (Some n)) (sym e) (n, refl, small, p)

pub clock_none : (given : Option Text) → given ≡ None → IsClock given None
clock_none given e = subst (λ o. IsClock o None) (sym e) refl

pub clock_is : (given : Option Text) (t : Text) (at : Option ℕ) → given ≡ Some t → IsClock given at → (n : ℕ) × (at ≡ Some n) × (n < 2 ^ 64) × (t ≡ decimal n)
clock_is given t at e p = subst (λ o. IsClock o at) e p

small : (n most : ℕ) → most < 2 ^ 64 → n ≤ most → n < 2 ^ 64
small n most fits within = omega (arith, fits, within)

-- the least lifetime is not above the greatest
pub crossed : (found : List Row) (g : Setting) (l h : ℕ) → IsNumber (first_of (codes "ttl-low") found) 1 l → IsNumber (first_of (codes "ttl-high") found) 3600 h → l ≤ 31536000 → h ≤ 31536000 → h < l → IsConfiguration found g → ⊥
crossed found g l h low high lsmall hsmall above p =
    let order : g.ttl_low ≤ g.ttl_high = p.within.ttl_order in
    let most : g.ttl_high ≤ 31536000 = p.within.ttl_most in
    let a : g.ttl_low ≡ l = one_number _ 1 _ _ p.low low (omega (arith, order, most)) (omega (arith, lsmall)) in
    let b : g.ttl_high ≡ h = one_number _ 3600 _ _ p.high high (omega (arith, most)) (omega (arith, hsmall)) in
    absurd (omega (arith, a, b, order, above))

same_setting : (g h : Setting) → g.log2_bits ≡ h.log2_bits → g.hashes ≡ h.hashes → g.ttl_low ≡ h.ttl_low → g.ttl_high ≡ h.ttl_high → g.active ≡ h.active → g.capacity ≡ h.capacity → g.origins ≡ h.origins → g.hosts ≡ h.hosts → g.ttl_absent ≡ h.ttl_absent → g.ttl_shared ≡ h.ttl_shared → g.keeps ≡ h.keeps → g.guard ≡ h.guard → g ≡ h
same_setting g h a b c d e f o n m s k u = λ i. record { log2_bits = a i; hashes = b i; ttl_low = c i; ttl_high = d i; active = e i; capacity = f i; origins = o i; hosts = n i; ttl_absent = m i; ttl_shared = s i; keeps = k i; guard = u i }

one_configuration : (found : List Row) (g h : Setting) → IsConfiguration found g → IsConfiguration found h → g.origins ≡ h.origins → g.hosts ≡ h.hosts → g.ttl_absent ≡ h.ttl_absent → g.ttl_shared ≡ h.ttl_shared → g.keeps ≡ h.keeps → g.guard ≡ h.guard → g ≡ h
one_configuration found g h p q origins hosts absent shared keeps guard =
    let v = p.within in
    let w = q.within in
    let order : g.ttl_low ≤ g.ttl_high = v.ttl_order in
    let other : h.ttl_low ≤ h.ttl_high = w.ttl_order in
    let most : g.ttl_high ≤ 31536000 = v.ttl_most in
    let least : h.ttl_high ≤ 31536000 = w.ttl_most in
    same_setting g h
    (one_number _ _ _ _ p.bits q.bits (omega (arith, v.bits_high)) (omega (arith, w.bits_high)))
    (one_number _ _ _ _ p.hashes q.hashes (omega (arith, v.hashes_high)) (omega (arith, w.hashes_high)))
    (one_number _ _ _ _ p.low q.low (omega (arith, order, most)) (omega (arith, other, least)))
    (one_number _ _ _ _ p.high q.high (omega (arith, most)) (omega (arith, least)))
    (one_number _ _ _ _ p.active q.active (omega (arith, v.active_most)) (omega (arith, w.active_most)))
    (one_number _ _ _ _ p.bytes q.bytes (omega (arith, v.capacity_high)) (omega (arith, w.capacity_high)))
    origins
    hosts
    absent
    shared
    keeps
    guard

one_lifetime : (given : Option Text) (m n : ℕ) → IsLifetime given m → IsLifetime given n → m ≡ n
one_lifetime None m n p q = p ∙ sym q
one_lifetime (Some text) m n p q = decimal_injective m n (small _ MOST_LIFETIME (omega arith) p.2) (small _ MOST_LIFETIME (omega arith) q.2) (sym p.0 ∙ q.0)

-- an option shows one text of names
one_names : (such : Text → Bool) (given : Option Text) (a b : Text) → AreNames such given a → AreNames such given b → a ≡ b
one_names such None a b p q = p ∙ sym q
one_names such (Some text) a b p q = p.0 ∙ sym q.0

pub one_setting : (found : List Row) (g h : Setting) → IsSetting found g → IsSetting found h → g.origins ≡ h.origins → g ≡ h
one_setting found g h p q origins = one_configuration found g h p.numbers q.numbers origins
    (one_names are_hosts _ _ _ p.hosts q.hosts)
    (one_lifetime _ _ _ p.absent q.absent)
    (one_lifetime _ _ _ p.shared q.shared)
    (p.keeps ∙ sym q.keeps)
    (p.guard ∙ sym q.guard)

-- the number of connections of a text, and where none is given
pub count_some : (given : Option Text) (t : Text) (n : ℕ) → given ≡ Some t → (t ≡ decimal n) × (1 ≤ n) × (n ≤ MOST_CONNECTIONS) → IsCount given n
count_some given t n e p = subst (λ o. IsCount o n) (sym e) p

pub count_none : (given : Option Text) → given ≡ None → IsCount given 18446744073709551615
count_none given e = subst (λ o. IsCount o 18446744073709551615) (sym e) refl

pub count_is : (given : Option Text) (t : Text) (n : ℕ) → given ≡ Some t → IsCount given n → (t ≡ decimal n) × (1 ≤ n) × (n ≤ MOST_CONNECTIONS)
count_is given t n e p = subst (λ o. IsCount o n) e p

one_count : (given : Option Text) (m n : ℕ) → IsCount given m → IsCount given n → m ≡ n
one_count None m n p q = omega (arith, p, q)
one_count (Some text) m n p q = decimal_injective m n (small _ MOST_CONNECTIONS (omega arith) p.2) (small _ MOST_CONNECTIONS (omega arith) q.2) (sym p.0 ∙ q.0)

-- how far old changes are dropped by a text, and where none is given
pub trim_some : (given : Option Text) (t : Text) (n : ℕ) → given ≡ Some t → (t ≡ decimal n) × (0 ≤ n) × (n ≤ MOST_KEPT) → IsTrim given (Below n)
trim_some given t n e p = subst (λ o. IsTrim o (Below n)) (sym e) (n, refl, p.0, p.2)

pub trim_none : (given : Option Text) → given ≡ None → IsTrim given Full
trim_none given e = subst (λ o. IsTrim o Full) (sym e) refl

pub trim_is : (given : Option Text) (t : Text) (trim : Trim) → given ≡ Some t → IsTrim given trim → (n : ℕ) × (trim ≡ Below n) × (t ≡ decimal n) × (n ≤ MOST_KEPT)
trim_is given t trim e p = subst (λ o. IsTrim o trim) e p

one_trim : (given : Option Text) (a b : Trim) → IsTrim given a → IsTrim given b → a ≡ b
one_trim None a b p q = p ∙ sym q
one_trim (Some text) a b p q = p.1 ∙ (ap Below (decimal_injective p.0 q.0 (small _ MOST_KEPT (omega arith) p.3) (small _ MOST_KEPT (omega arith) q.3) (sym p.2 ∙ q.2)) ∙ sym q.1)

same_ask : (a b : ServeAsk) → a.address ≡ b.address → a.setting ≡ b.setting → a.places ≡ b.places → a.workers ≡ b.workers → a.matchers ≡ b.matchers → a.trim ≡ b.trim → a.connections ≡ b.connections → a.limits ≡ b.limits → a.watching ≡ b.watching → a.store ≡ b.store → a ≡ b
same_ask a b p q o r s d t u w k = λ i. record { address = p i; setting = q i; places = o i; workers = r i; matchers = s i; trim = d i; connections = t i; limits = u i; watching = w i; store = k i }

same_limits : (a b : Limits) → a.idle ≡ b.idle → a.head_time ≡ b.head_time → a.reply_time ≡ b.reply_time → a.least_rate ≡ b.least_rate → a.grace ≡ b.grace → a ≡ b
same_limits a b p q r s t = λ i. record { idle = p i; head_time = q i; reply_time = r i; least_rate = s i; grace = t i }

-- an option shows one number of a range
one_number_in : (found : List Row) (option : Text) (least most default m n : ℕ) → most < 2 ^ 64 → IsNumberIn found option least most default m → IsNumberIn found option least most default n → m ≡ n
one_number_in found option least most default m n fits p q = one_number _ _ _ _ p.0 q.0 (small _ most fits p.2) (small _ most fits q.2)

one_limits : (found : List Row) (a b : Limits) → AreLimits found a → AreLimits found b → a ≡ b
one_limits found a b p q = same_limits a b
    (one_number_in found (codes "idle") 0 MOST_SECONDS DEFAULT_IDLE a.idle b.idle (omega arith) p.idle q.idle)
    (one_number_in found (codes "head-time") 1 MOST_SECONDS DEFAULT_HEAD_TIME a.head_time b.head_time (omega arith) p.head_time q.head_time)
    (one_number_in found (codes "reply-time") 1 MOST_SECONDS DEFAULT_REPLY_TIME a.reply_time b.reply_time (omega arith) p.reply_time q.reply_time)
    (one_number_in found (codes "least-rate") 1 MOST_RATE DEFAULT_RATE a.least_rate b.least_rate (omega arith) p.least_rate q.least_rate)
    (one_number_in found (codes "grace") 0 MOST_SECONDS DEFAULT_GRACE a.grace b.grace (omega arith) p.grace q.grace)

one_text : (given : Option Text) (s t : Text) → given ≡ Some s → given ≡ Some t → s ≡ t
one_text given s t p q = ap (λ o. unwrap_or o s) (sym p ∙ q)

-- the lifetime of a text, and where none is given
pub lifetime_some : (given : Option Text) (t : Text) (n : ℕ) → given ≡ Some t → (t ≡ decimal n) × (1 ≤ n) × (n ≤ MOST_LIFETIME) → IsLifetime given n
lifetime_some given t n e p = subst (λ o. IsLifetime o n) (sym e) p

pub lifetime_none : (given : Option Text) → given ≡ None → IsLifetime given 0
lifetime_none given e = subst (λ o. IsLifetime o 0) (sym e) refl

pub lifetime_is : (given : Option Text) (t : Text) (n : ℕ) → given ≡ Some t → IsLifetime given n → (t ≡ decimal n) × (1 ≤ n) × (n ≤ MOST_LIFETIME)
lifetime_is given t n e p = subst (λ o. IsLifetime o n) e p

-- the form of a log is not given without one
pub not_alone : (found : List Row) (w : WatchAsk) → is_given (first_of (codes "log-json") found) ≡ true → first_of (codes "log") found ≡ None → AreWatching found w → ⊥
not_alone found w given none p = p.of_log (p.json ∙ given) (p.log ∙ none)

same_watch : (a b : WatchAsk) → a.metrics ≡ b.metrics → a.log ≡ b.log → a.json ≡ b.json → a ≡ b
same_watch a b p q r = λ i. record { metrics = p i; log = q i; json = r i }

one_watch : (found : List Row) (a b : WatchAsk) → AreWatching found a → AreWatching found b → a ≡ b
one_watch found a b p q = same_watch a b (p.metrics ∙ sym q.metrics) (p.log ∙ sym q.log) (p.json ∙ sym q.json)

-- the numbers of a configuration do not depend on its names, nor on its lifetimes of absent records and in shared caches, nor on whether it keeps commits
any_rest : (found : List Row) (g : Setting) (o h : Text) (m n : ℕ) (k : Bool) → m ≤ MOST_LIFETIME → n ≤ MOST_LIFETIME → IsConfiguration found g → IsConfiguration found (record g { origins = o; hosts = h; ttl_absent = m; ttl_shared = n; keeps = k })
any_rest found g o h m n k absent shared p =
    let w = p.within in
    record {
      bits = p.bits;
      hashes = p.hashes;
      low = p.low;
      high = p.high;
      active = p.active;
      bytes = p.bytes;
      within = record {
        bits_low = w.bits_low;
        bits_high = w.bits_high;
        hashes_low = w.hashes_low;
        hashes_high = w.hashes_high;
        ttl_some = w.ttl_some;
        ttl_order = w.ttl_order;
        ttl_most = w.ttl_most;
        absent_most = absent;
        shared_most = shared;
        active_most = w.active_most;
        capacity_low = w.capacity_low;
        capacity_high = w.capacity_high;
      };
    }

-- what options ask for, of what they show
pub setting_is : (found : List Row) (g k : Setting) (h : Text) (m n : ℕ) → k ≡ record g { ttl_absent = m; ttl_shared = n } → m ≤ MOST_LIFETIME → n ≤ MOST_LIFETIME → IsConfiguration found g → g.guard ≡ 0
    → IsLifetime (first_of (codes "ttl-absent") found) m → IsLifetime (first_of (codes "ttl-shared") found) n → AreNames are_hosts (first_of (codes "host") found) h → IsSetting found (record k { hosts = h; keeps = is_some (first_of (codes "data") found) })
setting_is found g k h m n e absent_most shared_most numbers guard absent shared hosts =
    subst (λ (x : Setting). IsSetting found (record x { hosts = h; keeps = is_some (first_of (codes "data") found) })) (sym e) (record {
      numbers = any_rest found g g.origins h m n (is_some (first_of (codes "data") found)) absent_most shared_most numbers;
      absent = absent;
      shared = shared;
      hosts = hosts;
      keeps = refl;
      guard = guard;
    })

-- it does not depend on the origins
pub any_origins : (found : List Row) (g : Setting) (o : Text) → IsSetting found g → IsSetting found (record g { origins = o })
any_origins found g o p = record {
  numbers = any_rest found g o g.hosts g.ttl_absent g.ttl_shared g.keeps p.numbers.within.absent_most p.numbers.within.shared_most p.numbers;
  absent = p.absent;
  shared = p.shared;
  hosts = p.hosts;
  keeps = p.keeps;
  guard = p.guard;
}

pub is_data : (d : Option Data) → is_some d ≡ is_some (asked_data d).file
is_data None = refl
is_data (Some d) = refl

-- the configuration of a store that a file keeps, where one is given
pub kept_is : (found : List Row) (s c : Setting) (h : Text) (d : Option Data) → IsSetting found (record s { hosts = h; keeps = is_some (first_of (codes "data") found) }) → s.keeps ≡ false → AreData found (asked_data d) → c ≡ record s { keeps = s.keeps || is_some d } → IsSetting found (record c { hosts = h })
kept_is found s c h d is not store c_is =
    let given : (s.keeps || is_some d) ≡ is_some (first_of (codes "data") found) =
    ap (λ (b : Bool). b || is_some d) not ∙ is_data d ∙ ap (λ (o : Option Text). is_some o) store.0 in
    subst (λ (x : Setting). IsSetting found (record x { hosts = h })) (sym c_is)
    (subst (λ (b : Bool). IsSetting found (record s { hosts = h; keeps = b })) (sym given) is)

-- a text is that of one thing that a sync waits for
one_sync_text : (text : Text) (s t : SyncPolicy) → IsSyncText text s → IsSyncText text t → s ≡ t
one_sync_text text Always Always p q = refl
one_sync_text text Always (Batch n) p q = absurd (let bad : 97 ≡ 98 = ap (λ t. get_or t 0 0) (sym p ∙ q.0) in omega (arith, bad))
one_sync_text text (Batch m) Always p q = absurd (let bad : 98 ≡ 97 = ap (λ t. get_or t 0 0) (sym p.0 ∙ q) in omega (arith, bad))
one_sync_text text (Batch m) (Batch n) p q =
    ap Batch (decimal_injective m n (small _ 1000 (omega arith) p.2) (small _ 1000 (omega arith) q.2) (append_cancel_left (codes "batch ") (decimal m) (decimal n) (sym p.0 ∙ q.0)))

one_sync : (given : Option Text) (s t : SyncPolicy) → IsSync given s → IsSync given t → s ≡ t
one_sync None s t p q = p ∙ sym q
one_sync (Some text) s t p q = one_sync_text text s t p q

-- where a store is to be kept is one place
one_data : (found : List Row) (a b : DataAsk) → AreData found a → AreData found b → a ≡ b
one_data found a b p q =
    let file = p.0 ∙ sym q.0 in
    let sync = one_sync (first_of (codes "sync") found) a.sync b.sync p.1 q.1 in
    λ i. record { file = file i; sync = sync i }

one_options : (found : List Row) (a b : ServeAsk) → AreServeOptions found a → AreServeOptions found b → a ≡ b
one_options found a b p q = same_ask a b
    (one_text _ a.address b.address p.address q.address)
    (one_setting found a.setting b.setting p.setting q.setting (one_names are_origins _ _ _ p.origins q.origins))
    (one_number_in found (codes "places") 1 MOST_PLACES DEFAULT_PLACES a.places b.places (omega arith) p.places q.places)
    (one_number_in found (codes "workers") 1 MOST_WORKERS DEFAULT_WORKERS a.workers b.workers (omega arith) p.workers q.workers)
    (one_number_in found (codes "matchers") 1 MOST_MATCHERS DEFAULT_MATCHERS a.matchers b.matchers (omega arith) p.matchers q.matchers)
    (one_trim (first_of (codes "keep") found) a.trim b.trim p.trim q.trim)
    (one_count (first_of (codes "connections") found) a.connections b.connections p.connections q.connections)
    (one_limits found a.limits b.limits p.limits q.limits)
    (one_watch found a.watching b.watching p.watching q.watching)
    (one_data found a.store b.store p.store q.store)

-- words ask `pipe` for one thing
same_pipe : (a b : PipeAsk) → a.setting ≡ b.setting → a.at ≡ b.at → a.store ≡ b.store → a ≡ b
same_pipe a b p q r = λ i. record { setting = p i; at = q i; store = r i }

one_pipe_options : (found : List Row) (a b : PipeAsk) → ArePipeOptions found a → ArePipeOptions found b → a ≡ b
one_pipe_options found a b p q = same_pipe a b
    (one_setting found a.setting b.setting p.setting q.setting (p.origins ∙ sym q.origins))
    (one_clock (first_of (codes "clock") found) a.at b.at p.clock q.clock)
    (one_data found a.store b.store p.store q.store)

pub one_pipe : (words : List Text) (a b : PipeAsk) → IsPipe words a → IsPipe words b → a ≡ b
one_pipe words a b p q = one_pipe_options _ a b p.found q.found

-- what holds anyway holds of an error
pub of_error : {T E : Type 0} (Q : Type 0) (r : Result T E) → Q → IfErr r (λ _. Q)
of_error Q (Ok x) q = tt
of_error Q (Err e) q = q

-- words ask `serve` for one thing
pub one_ask : (words : List Text) (a b : ServeAsk) → IsServe words a → IsServe words b → a ≡ b
one_ask words a b p q = one_options _ a b p.found q.found

-- a word is that of one level
one_level : (a b : Level) → level_word a ≡ level_word b → a ≡ b
one_level level.Session level.Session e = refl
one_level level.Session level.Causal e = absurd (let bad : 115 ≡ 99 = ap (λ t. get_or t 0 0) e in omega (arith, bad))
one_level level.Session level.Strong e = absurd (let bad : 101 ≡ 116 = ap (λ t. get_or t 1 0) e in omega (arith, bad))
one_level level.Causal level.Session e = absurd (let bad : 99 ≡ 115 = ap (λ t. get_or t 0 0) e in omega (arith, bad))
one_level level.Causal level.Causal e = refl
one_level level.Causal level.Strong e = absurd (let bad : 99 ≡ 115 = ap (λ t. get_or t 0 0) e in omega (arith, bad))
one_level level.Strong level.Session e = absurd (let bad : 116 ≡ 101 = ap (λ t. get_or t 1 0) e in omega (arith, bad))
one_level level.Strong level.Causal e = absurd (let bad : 115 ≡ 99 = ap (λ t. get_or t 0 0) e in omega (arith, bad))
one_level level.Strong level.Strong e = refl

same_read : (a b : ReadAsk) → a.address ≡ b.address → a.level ≡ b.level → a.key ≡ b.key → a ≡ b
same_read a b p q r = λ i. record { address = p i; level = q i; key = r i }

-- words ask `read` for one thing
pub one_read : (words : List Text) (a b : ReadAsk) → IsRead words a → IsRead words b → a ≡ b
one_read words a b p q = same_read a b
    (one_text _ a.address b.address p.found.address q.found.address)
    (one_level a.level b.level (one_text _ _ _ p.found.level q.found.level))
    (texts_tell a.key b.key p.found.is_key q.found.is_key (one_text _ _ _ p.found.key q.found.key))

-- words ask for one simulation, one seed and one number of steps
most_fits : (which : Simulation) → most_steps which < 2 ^ 64
most_fits World = omega arith
most_fits Crash = omega arith

abbrev which_of : CommandName → Simulation
which_of (Simulate which) = which
which_of other = World

one_number_of : (found : List Row) (word : Text) (least most m n : ℕ) → most < 2 ^ 64 → IsArgument found word least most m → IsArgument found word least most n → m ≡ n
one_number_of found word least most m n fits p q = decimal_injective m n (small m most fits p.2) (small n most fits q.2) (one_text _ _ _ p.0 q.0)

pub one_simulation : (words : List Text) (a b : Simulation) (m n s t : ℕ) → IsSimulation words a m s → IsSimulation words b n t → (a ≡ b) × (m ≡ n) × (s ≡ t)
one_simulation words a b m n s t p q =
    let which : a ≡ b = ap which_of (one_command (Simulate a) (Simulate b) words p.named q.named) in
    let rows = matches_of (app_named (Simulate b)) words in
    let same : IsSimulation words b m s = subst (λ (w : Simulation). IsSimulation words w m s) which p in (
      which,
      one_number_of rows (codes "SEED") 0 MOST_SEED m n (omega arith) same.found.0 q.found.0,
      one_number_of rows (codes "STEPS") 1 (most_steps b) s t (most_fits b) same.found.1 q.found.1,
    )

skip : (b : Bool) (e r : Result Setting ConfigRefusal) → b ≡ false → (if b then e else r) ≡ r
skip true e r is = absurd cc
skip false e r is = refl

not_less : (m n : ℕ) → n ≤ m → nat_lt m n ≡ false
not_less m n le = grind (arith, le)

neither : (a b : Bool) → a ≡ false → b ≡ false → (a || b) ≡ false
neither false false p q = refl
neither true b p q = absurd cc
neither false true p q = absurd cc

-- lifetimes within their limits are taken
pub lasting_is : (g : Setting) (m n : ℕ) → m ≤ MOST_LIFETIME → n ≤ MOST_LIFETIME → with_ttls g m n ≡ Ok (record g { ttl_absent = m; ttl_shared = n })
lasting_is g m n a b = skip _ _ _ (neither _ _ (not_less _ _ a) (not_less _ _ b))
