use Rattle.std.proofs.Common.{◌∙◌, ap₂}
use Rattle.cache_model.specs.Cache.{held_by, told_again}
use Rattle.cache_model.proofs.CacheLemmas.{told_twice}
use Rattle.cache_model.proofs.cache.Cache.lookup.Goals as goal

-- the answer speaks of the reply that is held after it, which is the one before
pub returns : goal.returns
returns c =
    c.found.ensures
    ∙ ap₂ told_again c.touch-answer.ensures.answer (c.reply.ensures ∙ c.touch-answer.ensures.held)
    ∙ told_twice c.args.self.now.manner c.args.moment c.args.no_cache (held_by c.args.self.now c.args.key.now)
