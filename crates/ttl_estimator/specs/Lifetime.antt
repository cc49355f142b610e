-- Believed. How long a reply may be kept (Quaestor, Gessert et al., VLDB 2017: estimation of the time to live).
use Rattle.std.specs.Prelude.{ℕ, ◌/◌, ◌==◌, max, min, Bool, not, ◌&&◌, if◌then◌else◌, nat_le}
use Rattle.ttl_estimator.specs.declared.limits.Limits.{Limits}

-- a number of seconds between the least and the greatest lifetime
abbrev pub within : Limits → ℕ → ℕ
within g seconds = max (min seconds g.high) g.low

-- the time in which one of these writes comes with probability one half, if the writes of a million seconds are a Poisson process: ln 2 divided by the rate, rounded down; the greatest lifetime without a write
abbrev pub poisson : Limits → ℕ → ℕ
poisson g rates = within g (if rates == 0 then g.high else 693147 / rates)

-- no further key may be active, and this one is not
abbrev pub is_refused : Limits → Bool → ℕ → Bool
is_refused g active count = not active && nat_le g.active count

-- the lifetime of a reply for the key of a record, by the rate of the record
abbrev pub record_lifetime : Limits → Bool → ℕ → ℕ → ℕ
record_lifetime g active count rate = if is_refused g active count then 0 else poisson g rate

-- the lifetime of a reply for the key of a query: its estimate while it is active, and else by the sum of the rates of the records that it finds
abbrev pub query_lifetime : Limits → Bool → ℕ → ℕ → ℕ → ℕ
query_lifetime g active count estimate rates =
    if is_refused g active count then 0 else (if active then estimate else poisson g rates)
