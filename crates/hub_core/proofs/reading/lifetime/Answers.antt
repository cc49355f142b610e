-- the query at hand is that of the key, and its rows are those of the last commit
use Rattle.std.proofs.Common.{◌≡◌, map, ap, sym, ◌∙◌}
use Rattle.query_core.specs.Window.{Row}
use Rattle.query_normal.specs.declared.key.KeyShape.{KeyShape}
use Rattle.query_normal.specs.declared.key.KeyShape.TheVariants.{Query}
use Rattle.issued_expiries.specs.Copies.{active_keys}
use Rattle.ttl_estimator.specs.Estimator.{lifetime}
use Rattle.hub_core.specs.Lifetimes.{ids_at}
use Rattle.hub_core.proofs.ReadLemmas.{hand-follows}
use Rattle.hub_core.proofs.reading.lifetime.Goals as goal

-- the key is that of the query
key_is : (c : goal.After-query) → c.args.key.now ≡ Query c.in-Query.kind c.query.result.now
key_is c = sym c.shape.ensures ∙ c.in-Query.is ∙ ap (Query c.in-Query.kind) (sym c.query.ensures.query)

pub last_rows-rows-requires-clause-follows : goal.last_rows-rows-requires-clause-follows
last_rows-rows-requires-clause-follows c =
    (hand-follows c.args.book.now.journal c.args.key.now c.in-Query.kind c.query.result.now (key_is c) c.args.queries.now c.args.started.now c.in-Some.query c.requires.at_hand c.requires.following c.in-Some.ensures).0

pub last_rows-rows-requires-clause-seen : goal.last_rows-rows-requires-clause-seen
last_rows-rows-requires-clause-seen c =
    (hand-follows c.args.book.now.journal c.args.key.now c.in-Query.kind c.query.result.now (key_is c) c.args.queries.now c.args.started.now c.in-Some.query c.requires.at_hand c.requires.following c.in-Some.ensures).1

pub returns-in-Some : goal.returns-in-Some
returns-in-Some c =
    let rows = ap (map (λ (row : Row). row.0)) c.last_rows-rows.ensures in
    c.ttl-in-Some.ensures
    ∙ (let count = c.active_count-count.ensures in let clock = c.clock-clock.ensures in (λ i. lifetime c.args.estimator.now c.args.key.now (rows i) (clock i) c.args.active (count i)))
    ∙ ap (λ (k : KeyShape). lifetime c.args.estimator.now c.args.key.now (ids_at k c.args.book.now.journal) c.args.copies.now.clock c.args.active (active_keys c.args.copies.now.copies)) (sym (sym c.shape.ensures ∙ c.in-Query.is ∙ ap (Query c.in-Query.kind) (sym c.query.ensures.query)))
