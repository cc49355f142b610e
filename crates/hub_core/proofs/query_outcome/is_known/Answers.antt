-- no commit after the tag changed the result, and the tag is not below the horizon
use Rattle.std.proofs.Common.{sym, ◌∙◌, arith}
use Rattle.query_normal.specs.declared.key.KeyShape.TheVariants.{Query}
use Rattle.hub_core.proofs.QueryLemmas.{known-unchanged}
use Rattle.hub_core.proofs.query_outcome.is_known.Goals as goal

pub returns-then-not-has_after : goal.returns-then-not-has_after
returns-then-not-has_after c =
    sym (known-unchanged (Query c.args.kind c.args.query.now) c.args.book.now.journal c.args.book.now.horizon c.args.from c.args.commit c.args.changed.now c.args.tag
    c.requires.changed (let horizon = c.horizon-horizon.ensures.horizon in omega (arith, horizon, c.if-tag-horizon.false)) c.if-from-tag.true c.if-tag-commit.false (sym c.has_after.ensures ∙ c.if-not-has_after.true))
