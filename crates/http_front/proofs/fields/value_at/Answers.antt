use Rattle.std.proofs.Common.{sym, ◌∙◌}
use Rattle.http_front.proofs.FieldLemmas.{values_more, values_same}
use Rattle.http_front.proofs.fields.value_at.Goals as goal

pub returns-then-is_same_word : goal.returns-then-is_same_word
returns-then-is_same_word c =
    values_more c.args.name.now c.args.request.now.fields c.args.index c.name.result.now c.value.result.now c.requires
    c.name.ensures c.value.ensures (sym c.is_same_word.ensures ∙ c.if-is_same_word.true)

pub returns : goal.returns
returns c =
    values_same c.args.name.now c.args.request.now.fields c.args.index c.name.result.now c.requires
    c.name.ensures (sym c.is_same_word.ensures ∙ c.if-is_same_word.false)
