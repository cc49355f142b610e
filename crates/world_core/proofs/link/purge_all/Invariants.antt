-- the first keys are dropped
use Rattle.std.proofs.Common.{◌≡◌, fold, take}
use Rattle.cache_model.specs.Cache.{purged}
use Rattle.world_core.proofs.link.purge_all.Given as goal

abbrev pub invariant-loop-key : goal.invariant-loop-key
invariant-loop-key l = l.cache ≡ fold purged l.initial.cache (take l.key-index l.keys)
