-- what is not dropped is the cache that was made
use Rattle.std.proofs.Common.{◌∙◌}
use Rattle.world_core.proofs.link.new_cache.Goals as goal

pub returns : goal.returns
returns c = c.new-2.ensures ∙ c.in_ok-cache.ensures
