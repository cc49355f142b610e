use Rattle.std.proofs.Common.{true, ◌∙◌, arith}
use Rattle.active_queries.proofs.ListedLemmas.{above-more}
use Rattle.active_queries.proofs.followers.forget_each.Goals as goal

-- one query more has forgotten
pub loop-index-preserved : goal.loop-index-preserved
loop-index-preserved c = record {
  same = c.forget_at.ensures.same ∙ c.loop-index.invariant.same;
  fewer = λ key none. c.forget_at.ensures.fewer key (c.loop-index.invariant.fewer key none);
  above = above-more c.args.to c.args.keys.now c.loop-index.index c.index-keys-index.result c.loop-index.held.entries c.forget_at.new.held.entries (omega (arith, c.loop-index-test.true, c.loop-index.invariant.end)) c.index-keys-index.is c.loop-index.invariant.above c.forget_at.ensures.still c.forget_at.ensures.above;
  end = c.loop-index.invariant.end;
  spare = omega (arith, c.forget_at.ensures.spare, c.loop-index.invariant.spare);
}
