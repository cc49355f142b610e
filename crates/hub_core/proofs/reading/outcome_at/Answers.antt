-- the query at hand is that of the key
use Rattle.std.proofs.Common.{◌≡◌, ap, sym, ◌∙◌}
use Rattle.query_normal.specs.declared.key.KeyShape.TheVariants.{Query}
use Rattle.hub_core.proofs.ReadLemmas.{hand-follows}
use Rattle.hub_core.proofs.reading.outcome_at.Goals as goal

-- the key is that of the query
key_is : (c : goal.After-query) → c.args.key.now ≡ Query c.in-Query.kind c.query.result.now
key_is c = sym c.shape.ensures ∙ c.in-Query.is ∙ ap (Query c.in-Query.kind) (sym c.query.ensures.query)

pub active_outcome-requires-clause-follows : goal.active_outcome-requires-clause-follows
active_outcome-requires-clause-follows c =
    (hand-follows c.args.book.now.journal c.args.key.now c.in-Query.kind c.query.result.now (key_is c) c.args.queries.now c.args.started.now c.in-Some.query c.requires.at_hand c.requires.following c.in-Some.ensures).0

pub active_outcome-requires-clause-seen : goal.active_outcome-requires-clause-seen
active_outcome-requires-clause-seen c =
    (hand-follows c.args.book.now.journal c.args.key.now c.in-Query.kind c.query.result.now (key_is c) c.args.queries.now c.args.started.now c.in-Some.query c.requires.at_hand c.requires.following c.in-Some.ensures).1
