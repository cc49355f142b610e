-- the fields are those of the query
use Rattle.std.proofs.Common.{sym, ◌∙◌}
use Rattle.std.specs.Prelude.{Some}
use Rattle.std.proofs.lemmas.Result.{IfOk-weaker}
use Rattle.world_core.proofs.QueryLemmas.{fields_key}
use Rattle.world_core.proofs.queries.query_key.Goals as goal

pub returns : goal.returns
returns c =
    IfOk-weaker c.key_of_fields.result _ _
    (λ k e. e ∙ fields_key c.args.query c.args.is_ids
    (record { f = Some c.in-Ok.filter; o = Some c.order_text.result; s = Some c.skip_text.result; n = Some c.take_text.result; k = Some c.kind_word.result })
    (c.in-Ok.ensures.cases.0 ∙ c.as_slice.ensures.value ∙ c.in_ok-text.ensures) c.order_text.ensures c.skip_text.ensures c.take_text.ensures c.kind_word.ensures) c.key_of_fields.ensures
