-- the loop goes key by key
use Rattle.std.proofs.Common.{rules, arith}
use Rattle.std.specs.List.{list_any}
use Rattle.hub_core.specs.Invalidations.{is_invalidation, invalidates, lists_after}
use Rattle.hub_core.proofs.MatchLemmas.{listed-next, listed-whole, none-listed}
use Rattle.hub_core.proofs.invalidations.push_query_invalidations.Goals as goal

pub loop-index-preserved : goal.loop-index-preserved
loop-index-preserved c = record {
  invalidations = λ key n.
      listed-next (lists_after c.args.front c.args.to n) c.args.queries.now.entries key c.index-listed-index.result c.listed-listed.result.now c.loop-index.index (list_any (is_invalidation key n) c.args.invalidations.now.items)
      (list_any (is_invalidation key n) c.loop-index.invalidations.items) _ (omega (arith, c.loop-index-test.true, c.loop-index.invariant.end)) c.index-listed-index.is (c.loop-index.invariant.invalidations key n)
      (c.in_ok-push_changes_of.ensures.invalidations key n);
  reserved = λ was. c.in_ok-push_changes_of.ensures.reserved (c.loop-index.invariant.reserved was);
  within = λ was. c.in_ok-push_changes_of.ensures.within (c.loop-index.invariant.within was);
  rest = search rules;
  end = c.loop-index.invariant.end;
}

pub returns-clause-invalidations : goal.returns-clause-invalidations
returns-clause-invalidations c = λ key n.
    listed-whole c.args.front c.args.to key n c.args.queries.now.entries c.listed-listed.result.now c.loop-index.index (list_any (is_invalidation key n) c.args.invalidations.now.items) _ c.listed-listed.ensures.listed c.len.ensures.once
    (omega (arith, c.loop-index-test.false, c.loop-index.invariant.end)) (c.loop-index.invariant.invalidations key n)

pub returns-then-len-eq0-clause-invalidations : goal.returns-then-len-eq0-clause-invalidations
returns-then-len-eq0-clause-invalidations c = λ key n.
    none-listed (invalidates c.args.front c.args.to key n) c.args.queries.now.entries (list_any (is_invalidation key n) c.args.invalidations.now.items) (omega (arith, c.len.ensures.len, c.if-len-eq0.true))
