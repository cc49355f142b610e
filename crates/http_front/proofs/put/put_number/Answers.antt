-- the digits are written just from the place on
use Rattle.std.proofs.Common.{arith}
use Rattle.http_front.proofs.DigitLemmas.{number_put}
use Rattle.http_front.proofs.put.put_number.Goals as goal

pub returns-clause-text : goal.returns-clause-text
returns-clause-text c =
    number_put c.args.at c.write_digits.result _ c.args.buffer.now c.write_digits.new.buf _ c.write_digits.ensures.start
    (omega (arith, c.digit_count.ensures.digits)) c.write_digits.ensures.written c.write_digits.ensures.before
