-- Believed. The configuration of a hub, and its limits.
use Rattle.std.specs.Prelude.{ℕ, ◌≤◌, Bool, false, List, []}

-- What a hub is configured with.
pub record Setting : Type 0 where
  -- the logarithm of the number of the page's bits
  pub log2_bits : ℕ
  -- the number of positions of a key
  pub hashes : ℕ
  -- the least and the greatest lifetime in seconds
  pub ttl_low : ℕ
  pub ttl_high : ℕ
  -- the number of keys that may be active at once
  pub active : ℕ
  -- the greatest number of kept bytes
  pub capacity : ℕ
  -- the origins of web pages that may read replies, with a space between two; no entry depends on them
  pub origins : List ℕ
  -- the names of hosts whose requests are served, with a space between two, or none where all are; no entry depends on them
  pub hosts : List ℕ
  -- the greatest lifetime in seconds of a reply that tells that a record is absent; 0 where nothing is said of those
  pub ttl_absent : ℕ
  -- for how many seconds shared caches, which are purged, may keep replies; 0 where nothing is said of those
  pub ttl_shared : ℕ
  -- whether commits are kept on a disk, so that a reply may say that they cannot be; no entry depends on it
  pub keeps : Bool
  -- the clock from which on no copy is unexpired that was issued before the store was opened; 0 where there was none
  pub guard : ℕ

-- each number is within its limits
pub record IsWithinLimits (g : Setting) : Type 0 where
  pub bits_low : 10 ≤ g.log2_bits
  pub bits_high : g.log2_bits ≤ 22
  pub hashes_low : 1 ≤ g.hashes
  pub hashes_high : g.hashes ≤ 16
  pub ttl_some : 1 ≤ g.ttl_low
  pub ttl_order : g.ttl_low ≤ g.ttl_high
  pub ttl_most : g.ttl_high ≤ 31536000
  pub active_most : g.active ≤ 1000000
  pub capacity_low : 65792 ≤ g.capacity
  pub capacity_high : g.capacity ≤ 134217728
  pub absent_most : g.ttl_absent ≤ 31536000
  pub shared_most : g.ttl_shared ≤ 31536000

-- the configuration where none is asked for
abbrev pub default_setting : Setting
default_setting = record {
  log2_bits = 17;
  hashes = 6;
  ttl_low = 1;
  ttl_high = 3600;
  active = 10000;
  capacity = 134217728;
  origins = [];
  hosts = [];
  ttl_absent = 0;
  ttl_shared = 0;
  keeps = false;
  guard = 0;
}
