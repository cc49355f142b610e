-- Internal. What is asked of the lifetimes of a store and of a later one on the same disk.
use Rattle.std.specs.Prelude.{◌+◌, ◌^◌, ◌≤◌}
use Rattle.durable_book.specs.KeptHub.{KeptView}
use Rattle.durable_book.specs.Moments.{longest_of}
use Rattle.hub_model.specs.Setting.{Setting}

-- The guard of a later store of this configuration outlasts the copies of the store: the limits of their lifetimes are in order, none is longer than the longest of the later store, and none is kept beyond 64 bits.
pub record Outlasts (k : KeptView) (later_g : Setting) : Type 0 where
  pub order : k.hub.setting.ttl_low ≤ k.hub.setting.ttl_high
  pub longest : longest_of k.hub.setting ≤ longest_of later_g
  pub within : k.kept + longest_of k.hub.setting ≤ 2 ^ 64
