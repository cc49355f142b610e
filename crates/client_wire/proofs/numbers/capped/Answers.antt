use Rattle.std.proofs.Common.{◌≡◌, ◌∙◌, arith}
use Rattle.http_message.proofs.FramingLemmas.{number_more, digit_at}
use Rattle.client_wire.proofs.numbers.capped.Goals as goal

pub loop-byte-preserved : goal.loop-byte-preserved
loop-byte-preserved c =
    let digits = c.args.digits.now in
    let i = c.loop-byte.byte-index in
    let value = c.digit.ensures.value (digit_at digits i c.requires.digits c.loop-byte-test.true) in
    let same : c.from.result ≡ c.digit.result = omega (arith, c.from.ensures) in
    c.min-number.ensures
    ∙ number_more digits i c.loop-byte.number c.from.result c.args.most c.loop-byte-test.true c.requires.some
    c.loop-byte.invariant (same ∙ value)
