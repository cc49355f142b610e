use Rattle.std.proofs.Common.{◌∙◌, lit<}
use Rattle.http_message.proofs.FramingLemmas.{number_more, digit_at}
use Rattle.http_message.proofs.framing.number.Goals as goal

pub loop-byte-preserved : goal.loop-byte-preserved
loop-byte-preserved c =
    let digits = c.args.digits.now in
    let i = c.loop-byte.byte-index in
    let value = c.digit.ensures.value (digit_at digits i c.requires c.loop-byte-test.true) in
    c.min-number.ensures
    ∙ number_more digits i c.loop-byte.number c.digit.result 65537 c.loop-byte-test.true (lit< tt)
    c.loop-byte.invariant value
