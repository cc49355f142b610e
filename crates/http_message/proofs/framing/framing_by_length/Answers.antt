use Rattle.std.proofs.Common.{sym, ◌∙◌, arith}
use Rattle.http_message.proofs.FramingLemmas.{stated_none, stated_above, stated_within}
use Rattle.http_message.proofs.framing.framing_by_length.Goals as goal

pub returns-then-not-is_length : goal.returns-then-not-is_length
returns-then-not-is_length c =
    sym (stated_none c.args.text.now (sym c.is_length.ensures.value ∙ c.if-not-is_length.true))

pub returns-then-size-gt-BODY_LIMIT : goal.returns-then-size-gt-BODY_LIMIT
returns-then-size-gt-BODY_LIMIT c =
    sym (stated_above c.args.text.now c.number-size.result (sym c.is_length.ensures.value ∙ c.if-not-is_length.false)
    c.number-size.ensures (omega arith))

pub returns : goal.returns
returns c =
    sym (stated_within c.args.text.now c.number-size.result (sym c.is_length.ensures.value ∙ c.if-not-is_length.false)
    c.number-size.ensures (omega arith))
