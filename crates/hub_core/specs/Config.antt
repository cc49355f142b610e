-- Internal. Which numbers are a configuration.
use Rattle.std.specs.Prelude.{ℕ, Bool, ◌||◌, nat_lt, if◌then◌else◌, Result, Ok, Err}
use Rattle.hub_model.specs.Setting.{Setting}
use Rattle.query_normal.specs.Pages.{least_log2_bits, most_log2_bits, fewest_hashes, most_hashes}
use Rattle.hub_core.specs.declared.config.ConfigRefusal.{ConfigRefusal}
use Rattle.hub_core.specs.declared.config.ConfigRefusal.TheVariants.{BadBits, BadHashes, BadTtl, BadActive, BadCapacity, BadTtls}

-- the least lifetime, in seconds; the limits of a page's numbers are the pages' own
abbrev pub least_ttl : ℕ
least_ttl = 1

-- the greatest lifetime, in seconds
abbrev pub most_ttl : ℕ
most_ttl = 31536000

-- the greatest number of keys that may be active
abbrev pub most_active : ℕ
most_active = 1000000

-- the least capacity, in bytes
abbrev pub least_capacity : ℕ
least_capacity = 65792

-- the greatest capacity, in bytes
abbrev pub most_capacity : ℕ
most_capacity = 134217728

-- the number is below the one or above the other
abbrev pub is_beyond : ℕ → ℕ → ℕ → Bool
is_beyond low high n = nat_lt n low || nat_lt high n

-- the configuration of these numbers, or the first that is not within its limits
abbrev pub configured : Setting → Result Setting ConfigRefusal
configured g =
    if is_beyond least_log2_bits most_log2_bits g.log2_bits then Err (BadBits g.log2_bits)
    else (if is_beyond fewest_hashes most_hashes g.hashes then Err (BadHashes g.hashes)
    else (if nat_lt g.ttl_low least_ttl || nat_lt g.ttl_high g.ttl_low || nat_lt most_ttl g.ttl_high
    then Err (BadTtl g.ttl_low g.ttl_high)
    else (if nat_lt most_active g.active then Err (BadActive g.active)
    else (if is_beyond least_capacity most_capacity g.capacity then Err (BadCapacity g.capacity)
    else Ok g))))

-- the configuration with these lifetimes of absent records and for shared caches, or that one is above the greatest
abbrev pub with_ttls : Setting → ℕ → ℕ → Result Setting ConfigRefusal
with_ttls g absent shared = if nat_lt most_ttl absent || nat_lt most_ttl shared then Err (BadTtls absent shared) else Ok (record g { ttl_absent = absent; ttl_shared = shared })
