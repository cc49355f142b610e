-- what is read is a query, and the key is that of its normal form
use Rattle.std.proofs.Common.{ℕ, List, sym, ap, ◌∙◌}
use Rattle.std.proofs.lemmas.Result.{IfOk-weaker}
use Rattle.query_core.specs.declared.query.Query.{Query}
use Rattle.query_normal.specs.declared.key.KeyShape.TheVariants as key
use Rattle.query_lang.specs.Queries.{read_query}
use Rattle.world_core.specs.Products.{collection}
use Rattle.world_core.proofs.QueryLemmas.{key_read}
use Rattle.world_core.proofs.queries.key_of_fields.Goals as goal

pub returns-in_ok-normal-in-Ok : goal.returns-in_ok-normal-in-Ok
returns-in_ok-normal-in-Ok c =
    IfOk-weaker c.query.result _ _
    (λ k e. e ∙ ap (λ (q : Query). key.Query c.in-Ok.kind q) c.in_ok-normal-in-Ok.ensures
    ∙ key_read (read_query collection c.args.fields.now) c.in-Ok.query c.in-Ok.kind
    (sym (ap (λ (name : List ℕ). read_query name c.args.fields.now) c.in_ok-collection.ensures) ∙ c.in-Ok.ensures.exact)) c.query.ensures
