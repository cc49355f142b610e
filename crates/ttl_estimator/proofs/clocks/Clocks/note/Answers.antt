use Rattle.std.proofs.Common.{◌∙◌}
use Rattle.ttl_estimator.proofs.RateLemmas.{one_more}
use Rattle.ttl_estimator.proofs.clocks.Clocks.note.Goals as goal

-- the last seven and the new one
pub returns : goal.returns
returns c = rw (← c.self.view_is) (c.push.ensures.items ∙ one_more c.self.inside.last.items _ c.args.clock c.keep_seven.ensures.items)
